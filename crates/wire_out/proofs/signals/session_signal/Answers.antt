use Rattle.std.proofs.Common.{refl}
use Rattle.bus_names.specs.Grammar.{fault_from}
use Rattle.bus_names.specs.Reading.{interface_fault}
use Rattle.wire_out.proofs.signals.session_signal.Goals as goal

pub signal_message-requires-clause-interface : goal.signal_message-requires-clause-interface
unfolding interface_fault fault_from
signal_message-requires-clause-interface c = refl
