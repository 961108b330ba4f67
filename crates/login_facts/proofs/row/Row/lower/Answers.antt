use Rattle.std.proofs.Common.{◌∙◌, List, None, Some, ap, filter, subst, sym}
use Rattle.login_facts.specs.declared.holding.Holding.{Holding}
use Rattle.login_facts.specs.Holding.{AreTold, HeldRow, is_lower}
use Rattle.login_facts.proofs.HeldOrder.{ascend-opened}
use Rattle.login_facts.proofs.HeldRows.{are-those}
use Rattle.login_facts.proofs.row.Row.lower.Goals as goal

pub returns-in-None : goal.returns-in-None
returns-in-None c = λ r t h.
    let xs = c.self.inside.row.items in
    let q = is_lower c.args.whose c.args.rank None in
    let P : List Holding → Type 0 = λ ys. AreTold r ys t in
    rw c.in-None.is (are-those r q t xs c.such.result.now (ascend-opened xs c.self.invariant) (c.such.ensures ∙ ap (filter q) c.as_slice.ensures.value)
    (subst P (sym (ap (λ (v : HeldRow). v.list) c.self.view_is)) h))

pub returns-in-Some : goal.returns-in-Some
returns-in-Some c = λ r t h.
    let xs = c.self.inside.row.items in
    let q = is_lower c.args.whose c.args.rank (Some c.in-Some.below) in
    let P : List Holding → Type 0 = λ ys. AreTold r ys t in
    rw c.in-Some.is (are-those r q t xs c.lower.result.now (ascend-opened xs c.self.invariant) (c.lower.ensures ∙ ap (filter q) c.as_slice-in-Some.ensures.value)
    (subst P (sym (ap (λ (v : HeldRow). v.list) c.self.view_is)) h))
