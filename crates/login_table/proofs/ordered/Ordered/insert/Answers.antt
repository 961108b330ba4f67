use Rattle.std.proofs.Common.{◌∙◌, ap, arith, drop, length, take, ◌∷◌, ◌++◌}
use Rattle.login_table.specs.inner.Ordered.{RowOrder}
use Rattle.login_table.proofs.RowOrder.{inserted-holds, inserted-is, length-order}
use Rattle.login_table.proofs.ordered.Ordered.insert.Goals as goal

pub overflow_cast-place : goal.overflow_cast-place
overflow_cast-place c =
    omega (arith, c.self.inside.rows.ok.0, c.self.invariant.0, c.requires.room, ap (λ (v : RowOrder). length v.items) c.self.view_is, ap (λ (v : RowOrder). v.room) c.self.view_is, length-order c.self.inside.rows.items c.self.inside.order.items, c.len-place.ensures)

pub insert-requires : goal.insert-requires
insert-requires c =
    omega (arith, c.self.inside.order.ok.0, c.requires.place, ap (λ (v : RowOrder). length v.items) c.self.view_is, length-order c.self.inside.rows.items c.self.inside.order.items)

pub unreachable-requires : goal.unreachable-requires
unreachable-requires c =
    omega (arith, c.self.inside.order.ok.0, c.requires.room, ap (λ (v : RowOrder). length v.items) c.self.view_is, ap (λ (v : RowOrder). v.room) c.self.view_is, length-order c.self.inside.rows.items c.self.inside.order.items, c.in-Err.ensures.full)

pub unreachable-requires-in-Err-push : goal.unreachable-requires-in-Err-push
unreachable-requires-in-Err-push c =
    omega (arith, c.self.inside.rows.ok.0, c.self.invariant.0, c.requires.room, ap (λ (v : RowOrder). length v.items) c.self.view_is, ap (λ (v : RowOrder). v.room) c.self.view_is, length-order c.self.inside.rows.items c.self.inside.order.items, c.in-Err-push.ensures.full)

pub invariant_of-self : goal.invariant_of-self
invariant_of-self c =
    inserted-holds c.args.row c.self.inside.rows.items c.push.new.self.items c.args.at c.len-place.result c.self.inside.order.items c.insert.new.self.items c.self.invariant.0 c.self.invariant.1 (omega (arith, c.self.inside.rows.ok.0, c.len-place.ensures)) c.in-Ok.ensures.items c.in-Ok-push.ensures.items

pub returns-clause-items : goal.returns-clause-items
returns-clause-items c =
    inserted-is c.args.row c.self.inside.rows.items c.push.new.self.items c.args.at c.len-place.result c.self.inside.order.items c.insert.new.self.items c.self.invariant.1 (omega (arith, c.self.inside.rows.ok.0, c.len-place.ensures)) c.in-Ok.ensures.items c.in-Ok-push.ensures.items
    ∙ ap (λ (v : RowOrder). take c.args.at v.items ++ c.args.row ∷ drop c.args.at v.items) c.self.view_is
