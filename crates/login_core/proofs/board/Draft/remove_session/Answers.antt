use Rattle.login_core.proofs.Closed.{closed-copies}
use Rattle.login_core.proofs.Growing.{trails}
use Rattle.login_core.proofs.board.Draft.remove_session.Goals as goal

pub set_phase-requires-clause-copies : goal.set_phase-requires-clause-copies
set_phase-requires-clause-copies c =
    closed-copies c.args.session c.args.self.now.trail c.shut.new.self.trail c.args.gone (trails c.shut.ensures.marked) c.requires.gone
