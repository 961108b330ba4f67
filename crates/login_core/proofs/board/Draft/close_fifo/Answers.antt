use Rattle.login_core.proofs.ClosedHandles.{closed-copies}
use Rattle.login_core.proofs.Growing.{trails}
use Rattle.login_core.proofs.board.Draft.close_fifo.Goals as goal

pub shut-requires-clause-copies : goal.shut-requires-clause-copies
shut-requires-clause-copies c =
    closed-copies c.args.handle c.args.session c.args.self.now.trail c.close_handle.new.self.trail c.args.closing (trails c.close_handle.ensures.marked) c.requires.closing
