use Rattle.std.proofs.Common.{refl}
use Rattle.bus_names.specs.Grammar.{fault_from}
use Rattle.bus_names.specs.Reading.{bus_name_fault}
use Rattle.wire_out.proofs.messages.sender.Goals as goal

pub made_bus_name-requires : goal.made_bus_name-requires
unfolding bus_name_fault fault_from
made_bus_name-requires c = refl
