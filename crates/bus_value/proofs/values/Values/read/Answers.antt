use Rattle.std.proofs.Common.{◌∙◌, arith}
use Rattle.bus_value.proofs.HeldLaws.{kept_so}
use Rattle.bus_value.proofs.values.Values.read.Goals as goal

pub invariant_of-result : goal.invariant_of-result
invariant_of-result c =
    kept_so c.args.order c.args.start c.args.types.now c.in_ok-types.types c.args.bytes.now c.from_vec-bytes.result c.in_ok-types.ensures (c.from_vec-bytes.ensures ∙ c.in_ok-from_slice.ensures.items) c.requires
    (λ i. let k = c.type_inv.bytes i in omega (arith, k))
