use Rattle.std.proofs.Common.{length}
use Rattle.login_model.proofs.InOrder.{rest}
use Rattle.login_core.proofs.Chosen.{Passed}
use Rattle.login_core.proofs.board.choosing.least_that.Given as goal

-- none that meets the test was passed over
abbrev pub invariant-loop-name : goal.invariant-loop-name
invariant-loop-name g l = Passed g.S.Tells.lt (g.S.Tells.is_told l.teller) (goal.F-post g l.is_met) l.fn.above l.from

abbrev pub decreases-loop-name : goal.decreases-loop-name
decreases-loop-name g l = length (rest g.S.Tells.lt (g.S.Tells.is_told l.teller) (g.S.Tells.among l.teller) l.from)
