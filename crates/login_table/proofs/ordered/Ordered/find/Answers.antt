use Rattle.std.proofs.Common.{◌≡◌, ◌∙◌, ℕ, List, None, Option, Some, Bor, MatchOption, ap, false, get_or, subst, sym, true}
use Rattle.login_model.specs.declared.fact.Key.{Key}
use Rattle.login_model.specs.Start.{start_fact}
use Rattle.login_model.specs.Trail.{value}
use Rattle.login_table.specs.KeyOrder.{key_lt}
use Rattle.login_table.specs.Rows.{Ascend, as_trail}
use Rattle.login_table.specs.inner.Fronts.{IsFront}
use Rattle.login_table.specs.inner.Ordered.{in_order, is_row_of, RowOrder}
use Rattle.login_table.specs.declared.rows.Row.{Row}
use Rattle.login_table.proofs.Ascending.{found, met-front, missed, opened}
use Rattle.login_table.proofs.Standing.{value_tells}
use Rattle.login_table.proofs.ordered.Ordered.find.Goals as goal

-- what the place of a key tells of its fact
told : (k : Key) (xs : List Row) (i : ℕ) (r : Option (Bor Row)) → Ascend xs → IsFront (λ (x : Row). key_lt x.key k) i xs → MatchOption r (is_row_of k i xs ≡ false) (λ row. (is_row_of k i xs ≡ true) × ((d : Row) → get_or xs i d ≡ row.now))
    → MatchOption r (value (as_trail xs) k ≡ start_fact k) (λ row. value (as_trail xs) k ≡ row.now.fact)
told k xs i None a f m = missed value_tells k None xs i (opened xs a) f m
told k xs i (Some x) a f m = sym (found value_tells k xs i x.now f m.0) ∙ ap (λ (z : Row). z.fact) (m.1 x.now)

pub returns-in-Some : goal.returns-in-Some
returns-in-Some c =
    let k = c.args.key.now in
    let xs = c.args.self.now.items in
    let there = c.in-Some.ensures in
    told k xs c.guess.result (Some c.in-Some.row) c.requires (met-front k None xs c.guess.result (opened xs c.requires) there.0) (there.0, there.1)

pub returns-in-None : goal.returns-in-None
returns-in-None c =
    let k = c.args.key.now in
    let i = c.count_below.result in
    let P : List Row → Type 0 = λ zs. IsFront (λ (x : Row). key_lt x.key k) i zs in
    let same = ap (λ (zs : List Row). in_order zs c.as_slice-in-None.result.now) c.as_slice.ensures.value ∙ ap (in_order c.self.inside.rows.items) c.as_slice-in-None.ensures.value ∙ ap (λ (v : RowOrder). v.items) c.self.view_is in
    told k c.args.self.now.items i c.row_of-in-None.result c.requires (subst P same c.count_below.ensures.front) c.row_of-in-None.ensures
