use Rattle.std.proofs.Common.{◌≡◌, ◌<◌, ◌≤◌, ◌∙◌, sym, ap, subst, arith, length, List, vec_len}
use Rattle.login_model.specs.Names.{insert}
use Rattle.login_model.proofs.InOrder.{insert-ascending}
use Rattle.login_facts.specs.declared.holding.Holding.{Holding}
use Rattle.login_facts.specs.Holding.{HeldRow, HoldingsAscend, holding_lt}
use Rattle.login_facts.proofs.HeldOrder.{Point, ascend-opened, ascend-closed, above-at, holding_order, insert-stays, inserted, level-at}
use Rattle.login_facts.proofs.row.Row.insert.Goals.{else-at-len-via-then-at-len+else-not-is_below, else-at-len-via-else-at-len}
use Rattle.login_facts.proofs.row.Row.insert.Goals as goal

pub returns-then-not-is_below-clause-list : goal.returns-then-not-is_below-clause-list
returns-then-not-is_below-clause-list c =
    let x = c.args.holding in
    let xs = c.self.inside.row.items in
    let i = c.place_of-at.result in
    let y = c.index.result.now in
    let F : List Holding → Type 0 = λ ys. Point (λ y. holding_lt y x) ys i in
    let point : F xs = subst F c.as_slice.ensures.value c.place_of-at.ensures.point in
    let long : length xs ≡ vec_len c.self.inside.row = ap length (sym c.as_slice.ensures.value) ∙ c.as_slice.ensures.len in
    let within : i < length xs = omega (arith, c.if-at-len.true, c.len.ensures) in
    let here = insert-stays x xs i y within point (level-at x xs i y c.index.ensures (sym c.is_below.ensures ∙ c.if-not-is_below.true)) in
    sym (ap (λ (v : HeldRow). v.list) c.self.view_is) ∙ here ∙ ap (λ (v : HeldRow). insert holding_lt x v.list) c.self.view_is

-- the row with one more
made : (c : goal.In-Ok) → c.insert.new.self.items ≡ insert holding_lt c.args.holding c.self.inside.row.items
made c =
    let x = c.args.holding in
    let xs = c.self.inside.row.items in
    let i = c.place_of-at.result in
    let F : List Holding → Type 0 = λ ys. Point (λ y. holding_lt y x) ys i in
    let point : F xs = subst F c.as_slice.ensures.value c.place_of-at.ensures.point in
    let long : length xs ≡ vec_len c.self.inside.row = ap length (sym c.as_slice.ensures.value) ∙ c.as_slice.ensures.len in
    let at : length c.as_slice.result.now ≡ length xs = ap length c.as_slice.ensures.value in
    let bound : i ≤ length xs = omega (arith, c.place_of-at.ensures.bound) in
    c.in-Ok.ensures.items
    ∙ elim c.else-at-len.branch [
      | else-at-len-via-then-at-len+else-not-is_below w ↦
          inserted x xs i w.index.result.now bound point (above-at x xs i w.index.result.now w.index.ensures (sym w.is_below.ensures ∙ w.if-not-is_below.false))
      | else-at-len-via-else-at-len w ↦ inserted x xs i x bound point (λ h. absurd (omega (arith, w.if-at-len.false, c.len.ensures)))
    ]

pub invariant_of-self : goal.invariant_of-self
invariant_of-self c =
    let P : List Holding → Type 0 = λ ys. HoldingsAscend ys in
    subst P (sym (made c)) (ascend-closed _ (insert-ascending holding_lt holding_order c.args.holding c.self.inside.row.items (ascend-opened c.self.inside.row.items c.self.invariant)))

pub returns-clause-list : goal.returns-clause-list
returns-clause-list c = made c ∙ ap (λ (v : HeldRow). insert holding_lt c.args.holding v.list) c.self.view_is
