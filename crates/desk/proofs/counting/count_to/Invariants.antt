use Rattle.std.proofs.Common.{◌≡◌}
use Rattle.desk.proofs.CountingUp.{CountsSoFar}
use Rattle.desk.proofs.counting.count_to.Given as goal

abbrev pub invariant-loop-number : goal.invariant-loop-number
invariant-loop-number g l = (l.pass.desk ≡ l.desk) × CountsSoFar l.number l.fn.pass.view l.pass.view
