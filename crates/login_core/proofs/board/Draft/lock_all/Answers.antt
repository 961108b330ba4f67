use Rattle.login_core.proofs.Sessions.{lock-above}
use Rattle.login_core.proofs.board.Draft.lock_all.Goals as goal

pub for_each_that-requires-clause-spares : goal.for_each_that-requires-clause-spares
for_each_that-requires-clause-spares c = lock-above
