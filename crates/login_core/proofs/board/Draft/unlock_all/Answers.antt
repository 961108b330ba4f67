use Rattle.login_core.proofs.Sessions.{unlock-above}
use Rattle.login_core.proofs.board.Draft.unlock_all.Goals as goal

pub for_each_that-requires-clause-spares : goal.for_each_that-requires-clause-spares
for_each_that-requires-clause-spares c = unlock-above
