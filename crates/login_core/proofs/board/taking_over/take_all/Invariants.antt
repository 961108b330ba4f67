use Rattle.std.proofs.Common.{take}
use Rattle.login_core.specs.inner.TakingOver.{TakesOver}
use Rattle.login_core.proofs.board.taking_over.take_all.Given as goal

-- the marks so far are put in
abbrev pub invariant-loop-mark : goal.invariant-loop-mark
invariant-loop-mark l = TakesOver l.fn.facts (take l.mark-index l.marks) l.facts
