use Rattle.std.proofs.Common.{◌<◌, ◌∙◌, ap, arith, length}
use Rattle.login_table.specs.inner.Ordered.{RowOrder, with_fact}
use Rattle.login_table.proofs.RowOrder.{exchanged-order, length-order, place-within}
use Rattle.login_table.proofs.ordered.Ordered.exchange.Goals as goal

pub index-requires : goal.index-requires
index-requires c =
    omega (arith, c.self.inside.order.ok.0, c.requires, ap (λ (v : RowOrder). length v.items) c.self.view_is, length-order c.self.inside.rows.items c.self.inside.order.items)

pub index_mut-requires : goal.index_mut-requires
index_mut-requires c =
    let xs = c.self.inside.rows.items in
    let ps = c.self.inside.order.items in
    let q = c.index.result.now in
    let within : c.args.at < length ps = omega (arith, c.requires, ap (λ (v : RowOrder). length v.items) c.self.view_is, length-order xs ps) in
    omega (arith, c.self.inside.rows.ok.0, c.index.ensures, place-within (length xs) ps c.args.at q c.self.invariant.1 within)

pub returns-clause-items : goal.returns-clause-items
returns-clause-items c =
    let xs = c.self.inside.rows.items in
    let ps = c.self.inside.order.items in
    let within : c.args.at < length ps = omega (arith, c.requires, ap (λ (v : RowOrder). length v.items) c.self.view_is, length-order xs ps) in
    exchanged-order c.args.fact xs ps c.args.at c.index.result.now c.index_mut.result.now c.self.invariant.1 within c.index.ensures c.index_mut.ensures.value
    ∙ ap (λ (v : RowOrder). with_fact c.args.at c.args.fact v.items) c.self.view_is
