use Rattle.std.proofs.Common.{◌≡◌, ◌++◌, take}
use Rattle.bus_names.specs.Types.{signature_text}
use Rattle.bus_value.specs.Values.{vals, shapes}
use Rattle.bus_value.proofs.value.Value.+push_type.Given as goal

abbrev pub invariant-loop-field : goal.invariant-loop-field
invariant-loop-field l = l.out.items ≡ l.initial.out.items ++ signature_text (shapes (vals (take l.field-index l.field-items)))
