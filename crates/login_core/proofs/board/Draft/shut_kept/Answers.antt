use Rattle.login_core.proofs.ShutLaws.{copies-shut}
use Rattle.login_core.proofs.Growing.{trails}
use Rattle.login_core.proofs.board.Draft.shut_kept.Goals as goal

pub returns-clause-copies : goal.returns-clause-copies
returns-clause-copies c =
    copies-shut c.args.session c.args.self.now.trail c.shut.new.self.trail c.args.closing.now.items c.take-copies.new.self.items (trails c.shut.ensures.marked) c.take-copies.ensures.others c.requires.copies
