use Rattle.std.proofs.Common.{◌∙◌}
use Rattle.login_core.proofs.HeldSessions.{seat-found}
use Rattle.login_core.proofs.board.so_far.SoFar.has_seat.Goals as goal

pub returns : goal.returns
returns c = c.is_some.ensures ∙ seat-found c.args.self.now c.args.uid c.next_seated.result c.next_seated.ensures
