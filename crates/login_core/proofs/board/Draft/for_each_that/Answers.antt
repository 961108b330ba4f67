use Rattle.std.proofs.Common.{◌∙◌, ap, arith}
use Rattle.login_model.specs.Names.{names, insert_some}
use Rattle.login_model.specs.Procedure.{each}
use Rattle.login_table.specs.Listed.{is_there}
use Rattle.login_laws.specs.Amounts.{amount}
use Rattle.login_core.specs.inner.Draft.{marked_by}
use Rattle.login_core.proofs.Chosen.{filter-chosen}
use Rattle.login_core.proofs.board.Draft.for_each_that.Goals as goal

pub for_each-requires-clause-spares : goal.for_each-requires-clause-spares
for_each-requires-clause-spares g c = c.requires.spares

pub for_each-requires-clause-room : goal.for_each-requires-clause-room
for_each-requires-clause-room g c =
    let t = c.args.self.now.trail in
    let n = g.N.Name in
    let e = filter-chosen (is_there n.key_of n.is_fact t) (g.T.Test.meets c.args.test t) (insert_some g.N.Order.lt n.first (names g.N.Order.lt n.name_in t)) in
    λ r. (let l = ap (λ xs. amount r (each (g.X.Task.does c.args.task.now) xs t)) e in
    let h = c.requires.room r in
    omega arith)

pub returns-clause-marked : goal.returns-clause-marked
returns-clause-marked g c =
    let t = c.args.self.now.trail in
    let n = g.N.Name in
    c.for_each.ensures.marked
    ∙ ap (λ xs. marked_by (each (g.X.Task.does c.args.task.now) xs) c.args.self.now) (filter-chosen (is_there n.key_of n.is_fact t) (g.T.Test.meets c.args.test t) (insert_some g.N.Order.lt n.first (names g.N.Order.lt n.name_in t)))
