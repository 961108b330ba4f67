use Rattle.std.proofs.Common.{◌≡◌, ◌++◌, take}
use Rattle.bus_names.specs.Types.{signature_text}
use Rattle.bus_names.proofs.types.Type.+push_text.Given as goal

abbrev pub invariant-loop-field : goal.invariant-loop-field
invariant-loop-field l = l.out.items ≡ l.initial.out.items ++ signature_text (take l.field-index l.field-items)
