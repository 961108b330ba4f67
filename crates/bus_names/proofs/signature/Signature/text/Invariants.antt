use Rattle.std.proofs.Common.{◌≡◌, take}
use Rattle.bus_names.specs.Types.{signature_text}
use Rattle.bus_names.proofs.signature.Signature.text.Given as goal

abbrev pub invariant-loop-kind : goal.invariant-loop-kind
invariant-loop-kind l = l.out.items ≡ signature_text (take l.kind-index l.kind-items)
