use Rattle.std.proofs.Common.{◌∙◌, ap, arith}
use Rattle.login_model.specs.Procedure.{each, shut}
use Rattle.login_laws.specs.Amounts.{amount}
use Rattle.login_core.specs.inner.Draft.{marked_by}
use Rattle.login_core.proofs.ShutLaws.{fifo-above, fifos-shut, kept-chosen}
use Rattle.login_core.proofs.board.Draft.end_sessions.Goals as goal

pub for_each-requires-clause-spares : goal.for_each-requires-clause-spares
for_each-requires-clause-spares c = fifo-above c.args.who

pub for_each-requires-clause-stays : goal.for_each-requires-clause-stays
for_each-requires-clause-stays c = fifos-shut

pub for_each-requires-clause-room : goal.for_each-requires-clause-room
for_each-requires-clause-room c =
    let t = c.args.self.now.trail in
    λ r. (let l = ap (λ xs. amount r (each shut xs t)) (kept-chosen t c.args.who) in
    let h = c.requires.room r in
    omega arith)

pub returns-clause-marked : goal.returns-clause-marked
returns-clause-marked c = c.for_each.ensures.marked ∙ ap (λ xs. marked_by (each shut xs) c.args.self.now) (kept-chosen c.args.self.now.trail c.args.who)
