use Rattle.std.proofs.Common.{length}
use Rattle.switch_core.proofs.Going.{Going, left}
use Rattle.switch_core.proofs.ahead.Ahead.for_each.Given as goal

-- each device so far is done, and the others are left
abbrev pub invariant-loop-device : goal.invariant-loop-device
invariant-loop-device g l = Going l.session (g.X.Task.does l.task) l.above l.fn.self l.self

abbrev pub decreases-loop-device : goal.decreases-loop-device
decreases-loop-device g l = length (left l.fn.self.before l.session l.above)
