use Rattle.login_core.proofs.EndRooms.{still-have}
use Rattle.login_core.proofs.board.Board.make_ends.Goals as goal

pub returns-in-Granted-clause-have : goal.returns-in-Granted-clause-have
returns-in-Granted-clause-have c = still-have c.args.self.now c.make_ends_behind.new.self c.requires.no_marks c.make_ends_behind.ensures.same
