use Rattle.std.proofs.Common.{◌≡◌, map, take}
use Rattle.bus_names.specs.Types.{basic}
use Rattle.wire_out.proofs.replies.struct_type.Given as goal

abbrev pub invariant-loop-kind : goal.invariant-loop-kind
invariant-loop-kind l = l.fields.items ≡ map basic (take l.kind-index l.kinds)
