use Rattle.std.proofs.Common.{◌≡◌, ◌<◌, ◌≤◌, ◌∙◌, ℕ, List, Option, Bor, MatchOption, ap, arith, get_or, length, subst, sym}
use Rattle.login_table.specs.inner.Ordered.{RowOrder}
use Rattle.login_table.specs.declared.rows.Row.{Row}
use Rattle.login_table.proofs.RowOrder.{got, length-order, place-within}
use Rattle.login_table.proofs.ordered.Ordered.get.Goals as goal

pub index-requires : goal.index-requires
index-requires c =
    let xs = c.self.inside.rows.items in
    let ps = c.self.inside.order.items in
    let there = c.in_ok-place.ensures.lookup.3 in
    let within : c.args.at < length ps = omega (arith, ap length c.deref.ensures.value, there.0) in
    omega (arith, c.self.inside.rows.ok.0, there.1 0, ap (λ (qs : List ℕ). get_or qs c.args.at 0) c.deref.ensures.value, place-within (length xs) ps c.args.at 0 c.self.invariant.1 within)

pub returns-in_err-place : goal.returns-in_err-place
returns-in_err-place c =
    let P : Option (Bor Row) → Type 0 = λ r. MatchOption r (length c.args.self.now.items ≤ c.args.at) (λ row. (c.args.at < length c.args.self.now.items) × ((d : Row) → get_or c.args.self.now.items c.args.at d ≡ row.now)) in
    subst P (sym c.from_residual.ensures)
    (omega (arith, ap length c.deref.ensures.value, ap (λ (v : RowOrder). length v.items) c.self.view_is, length-order c.self.inside.rows.items c.self.inside.order.items, c.in_err-place.ensures.lookup.3))

pub returns : goal.returns
returns c =
    let xs = c.self.inside.rows.items in
    let ps = c.self.inside.order.items in
    let i = c.args.at in
    let there = c.in_ok-place.ensures.lookup.3 in
    let P : List Row → Type 0 = λ zs. (i < length zs) × ((d : Row) → get_or zs i d ≡ c.index.result.now) in
    subst P (ap (λ (v : RowOrder). v.items) c.self.view_is)
    (got xs ps i c.in_ok-place.place.now c.index.result.now c.self.invariant.1 (omega (arith, ap length c.deref.ensures.value, there.0)) (λ d. there.1 d ∙ ap (λ (qs : List ℕ). get_or qs i d) c.deref.ensures.value) c.index.ensures)
