use Rattle.std.proofs.Common.{◌≡◌, take}
use Rattle.bus_names.proofs.signature.Signature.copied.Given as goal

abbrev pub invariant-loop-kind : goal.invariant-loop-kind
invariant-loop-kind l = l.types ≡ take l.kind-index l.kind-items
