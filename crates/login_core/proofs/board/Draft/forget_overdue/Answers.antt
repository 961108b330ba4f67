use Rattle.std.proofs.Common.{ap}
use Rattle.login_model.specs.Trail.{Trail}
use Rattle.login_core.specs.inner.Draft.{with_trail}
use Rattle.login_core.proofs.Departing.{forget-above, nobody-forgotten}
use Rattle.login_core.proofs.board.Draft.forget_overdue.Goals as goal

pub for_each_that-requires-clause-spares : goal.for_each_that-requires-clause-spares
for_each_that-requires-clause-spares c = forget-above c.args.setup.now c.args.moment

pub returns-else-has_leavers : goal.returns-else-has_leavers
returns-else-has_leavers c =
    let d = c.args.self.now in
    record { marked = ap (λ (t : Trail). with_trail d t) (nobody-forgotten c.args.setup.now d.trail c.args.moment (c.has_leavers.ensures c.if-has_leavers.false)) }
