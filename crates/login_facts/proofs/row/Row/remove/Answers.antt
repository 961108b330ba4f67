use Rattle.std.proofs.Common.{◌≡◌, ◌<◌, ◌∙◌, sym, ap, subst, arith, filter, length, List, vec_len}
use Rattle.login_model.proofs.InOrder.{filter-ascending}
use Rattle.login_facts.specs.declared.holding.Holding.{Holding}
use Rattle.login_facts.specs.Holding.{HeldRow, HoldingsAscend, holding_lt, is_other}
use Rattle.login_facts.proofs.HeldOrder.{Point, ascend-opened, ascend-closed, above-at, filter-stays, level-at, removed}
use Rattle.login_facts.proofs.row.Row.remove.Goals.{else-at-len-via-then-at-len+else-not-is_below, else-at-len-via-else-at-len}
use Rattle.login_facts.proofs.row.Row.remove.Goals as goal

pub invariant_of-self : goal.invariant_of-self
invariant_of-self c =
    let x = c.args.holding in
    let xs = c.self.inside.row.items in
    let i = c.place_of-at.result in
    let y = c.index.result.now in
    let F : List Holding → Type 0 = λ ys. Point (λ y. holding_lt y x) ys i in
    let point : F xs = subst F c.as_slice.ensures.value c.place_of-at.ensures.point in
    let long : length xs ≡ vec_len c.self.inside.row = ap length (sym c.as_slice.ensures.value) ∙ c.as_slice.ensures.len in
    let within : i < length xs = omega (arith, c.if-at-len.true, c.len.ensures) in
    let up = ascend-opened xs c.self.invariant in
    let left = c.remove.ensures.items
    ∙ removed x xs i y up within point (level-at x xs i y c.index.ensures (sym c.is_below.ensures ∙ c.if-not-is_below.true)) in
    let P : List Holding → Type 0 = λ ys. HoldingsAscend ys in
    subst P (sym left) (ascend-closed _ (filter-ascending holding_lt (is_other x) xs up))

pub returns-then-not-is_below-clause-list : goal.returns-then-not-is_below-clause-list
returns-then-not-is_below-clause-list c =
    let x = c.args.holding in
    let xs = c.self.inside.row.items in
    let i = c.place_of-at.result in
    let y = c.index.result.now in
    let F : List Holding → Type 0 = λ ys. Point (λ y. holding_lt y x) ys i in
    let point : F xs = subst F c.as_slice.ensures.value c.place_of-at.ensures.point in
    let long : length xs ≡ vec_len c.self.inside.row = ap length (sym c.as_slice.ensures.value) ∙ c.as_slice.ensures.len in
    let within : i < length xs = omega (arith, c.if-at-len.true, c.len.ensures) in
    let up = ascend-opened xs c.self.invariant in
    let left = c.remove.ensures.items
    ∙ removed x xs i y up within point (level-at x xs i y c.index.ensures (sym c.is_below.ensures ∙ c.if-not-is_below.true)) in
    left ∙ ap (λ (v : HeldRow). filter (is_other x) v.list) c.self.view_is

pub returns-else-at-len-clause-list : goal.returns-else-at-len-clause-list
returns-else-at-len-clause-list c =
    let x = c.args.holding in
    let xs = c.self.inside.row.items in
    let i = c.place_of-at.result in
    let F : List Holding → Type 0 = λ ys. Point (λ y. holding_lt y x) ys i in
    let point : F xs = subst F c.as_slice.ensures.value c.place_of-at.ensures.point in
    let long : length xs ≡ vec_len c.self.inside.row = ap length (sym c.as_slice.ensures.value) ∙ c.as_slice.ensures.len in
    let up = ascend-opened xs c.self.invariant in
    let stays : xs ≡ filter (is_other x) xs = elim c.else-at-len.branch [
      | else-at-len-via-then-at-len+else-not-is_below w ↦
          filter-stays x xs i w.index.result.now up point (above-at x xs i w.index.result.now w.index.ensures (sym w.is_below.ensures ∙ w.if-not-is_below.false))
      | else-at-len-via-else-at-len w ↦ filter-stays x xs i x up point (λ h. absurd (omega (arith, w.if-at-len.false, c.len.ensures)))
    ] in
    sym (ap (λ (v : HeldRow). v.list) c.self.view_is) ∙ stays ∙ ap (λ (v : HeldRow). filter (is_other x) v.list) c.self.view_is
