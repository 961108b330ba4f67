use Rattle.std.proofs.Common.{◌≡◌, take}
use Rattle.login_model.specs.Answers.{lock_rows}
use Rattle.login_core.proofs.answering.copied_locks.Given as goal

-- the rows of those so far
abbrev pub invariant-loop-number : goal.invariant-loop-number
invariant-loop-number g l = l.rows ≡ lock_rows (g.F.Look.trail l.facts) (take l.number-index l.locks)
