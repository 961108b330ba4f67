use Rattle.login_core.proofs.ShutLaws.{seat-above}
use Rattle.login_core.proofs.board.Draft.terminate_seat.Goals as goal

pub for_each_that-requires-clause-spares : goal.for_each_that-requires-clause-spares
for_each_that-requires-clause-spares c = seat-above c.args.seat
