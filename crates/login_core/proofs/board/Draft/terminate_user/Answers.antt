use Rattle.login_core.proofs.ShutLaws.{user-above}
use Rattle.login_core.proofs.board.Draft.terminate_user.Goals as goal

pub for_each_that-requires-clause-spares : goal.for_each_that-requires-clause-spares
for_each_that-requires-clause-spares c = user-above c.args.user.0
