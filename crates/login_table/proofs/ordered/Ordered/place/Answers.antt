use Rattle.std.proofs.Common.{◌∙◌, None, ap, arith, length, sym}
use Rattle.login_table.specs.inner.Ordered.{RowOrder}
use Rattle.login_table.proofs.Ascending.{met-front, opened, row-within}
use Rattle.login_table.proofs.RowOrder.{length-order}
use Rattle.login_table.proofs.ordered.Ordered.place.Goals as goal

pub returns-then-is_row_of-clause-front : goal.returns-then-is_row_of-clause-front
returns-then-is_row_of-clause-front c =
    met-front c.args.key.now None c.args.self.now.items c.guess-guess.result (opened c.args.self.now.items c.requires) (sym c.is_row_of.ensures ∙ c.if-is_row_of.true)

pub returns-then-is_row_of-clause-bound : goal.returns-then-is_row_of-clause-bound
returns-then-is_row_of-clause-bound c =
    let h = row-within c.args.key.now c.args.self.now.items c.guess-guess.result (sym c.is_row_of.ensures ∙ c.if-is_row_of.true) in
    omega arith

pub returns-then-is_row_of-clause-few : goal.returns-then-is_row_of-clause-few
returns-then-is_row_of-clause-few c =
    omega (arith, c.as_slice-order.type_inv.1, ap length c.as_slice-order.ensures.value, ap (λ (v : RowOrder). length v.items) c.self.view_is, length-order c.self.inside.rows.items c.self.inside.order.items)

pub returns-clause-bound : goal.returns-clause-bound
returns-clause-bound c =
    omega (arith, c.count_below.ensures.bound, ap length c.as_slice-order.ensures.value, ap (λ (v : RowOrder). length v.items) c.self.view_is, length-order c.self.inside.rows.items c.self.inside.order.items)

pub returns-clause-few : goal.returns-clause-few
returns-clause-few c =
    omega (arith, c.as_slice-order.type_inv.1, ap length c.as_slice-order.ensures.value, ap (λ (v : RowOrder). length v.items) c.self.view_is, length-order c.self.inside.rows.items c.self.inside.order.items)
