use Rattle.std.proofs.Common.{refl}
use Rattle.bus_names.specs.Grammar.{fault_from}
use Rattle.bus_names.specs.Reading.{interface_fault, path_fault}
use Rattle.wire_out.proofs.signals.manager_signal.Goals as goal

pub made_path-requires : goal.made_path-requires
unfolding path_fault fault_from
made_path-requires c = refl

pub signal_message-requires-clause-interface : goal.signal_message-requires-clause-interface
unfolding interface_fault fault_from
signal_message-requires-clause-interface c = refl
