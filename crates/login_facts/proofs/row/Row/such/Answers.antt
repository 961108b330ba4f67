use Rattle.std.proofs.Common.{◌∙◌, List, ap, filter, subst, sym}
use Rattle.login_facts.specs.declared.holding.Holding.{Holding}
use Rattle.login_facts.specs.Holding.{AreTold, HeldRow, is_such}
use Rattle.login_facts.proofs.HeldOrder.{ascend-opened}
use Rattle.login_facts.proofs.HeldRows.{are-those}
use Rattle.login_facts.proofs.row.Row.such.Goals as goal

pub returns : goal.returns
returns c = λ r t h.
    let xs = c.self.inside.row.items in
    let q = is_such c.args.whose c.args.rank c.args.above in
    let P : List Holding → Type 0 = λ ys. AreTold r ys t in
    are-those r q t xs c.such.result.now (ascend-opened xs c.self.invariant) (c.such.ensures ∙ ap (filter q) c.as_slice.ensures.value)
    (subst P (sym (ap (λ (v : HeldRow). v.list) c.self.view_is)) h)
