use Rattle.std.proofs.Common.{◌≡◌, ◌∙◌, Option, Bor, MatchOption, false, get_or, subst, sym, true}
use Rattle.login_table.specs.inner.Ordered.{is_row_of}
use Rattle.login_table.specs.declared.rows.Row.{Row}
use Rattle.login_table.proofs.Ascending.{row-past, row-read}
use Rattle.login_table.proofs.ordered.Ordered.row_of.Goals as goal

pub returns-in_err-row : goal.returns-in_err-row
returns-in_err-row c =
    let k = c.args.key.now in
    let xs = c.args.self.now.items in
    let i = c.args.at in
    let P : Option (Bor Row) → Type 0 = λ r. MatchOption r (is_row_of k i xs ≡ false) (λ row. (is_row_of k i xs ≡ true) × ((d : Row) → get_or xs i d ≡ row.now)) in
    subst P (sym c.from_residual.ensures) (row-past k xs i c.in_err-row.ensures)

pub returns-then-is_same_key : goal.returns-then-is_same_key
returns-then-is_same_key c =
    let there = c.in_ok-row.ensures in
    (row-read c.args.key.now c.args.self.now.items c.args.at c.in_ok-row.row.now there.0 there.1 ∙ sym c.is_same_key.ensures ∙ c.if-is_same_key.true, there.1)

pub returns-else-is_same_key : goal.returns-else-is_same_key
returns-else-is_same_key c =
    let there = c.in_ok-row.ensures in
    row-read c.args.key.now c.args.self.now.items c.args.at c.in_ok-row.row.now there.0 there.1 ∙ sym c.is_same_key.ensures ∙ c.if-is_same_key.false
