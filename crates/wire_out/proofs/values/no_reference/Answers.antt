use Rattle.std.proofs.Common.{refl}
use Rattle.bus_names.specs.Grammar.{fault_from}
use Rattle.bus_names.specs.Reading.{path_fault}
use Rattle.wire_out.proofs.values.no_reference.Goals as goal

pub made_path-requires : goal.made_path-requires
unfolding path_fault fault_from
made_path-requires c = refl
