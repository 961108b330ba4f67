use Rattle.std.proofs.Common.{◌≡◌, ◌+◌, ◌≤◌, length, drop}
use Rattle.login_model.specs.Fresh.{fresh_handle}
use Rattle.switch_core.specs.inner.Ahead.{given_by}
use Rattle.switch_core.proofs.ahead.handle_behind.Given as goal

-- the handles of the marks from here on are counted
abbrev pub invariant-loop-left : goal.invariant-loop-left
invariant-loop-left g l =
    record {
      within : l.left ≤ length l.marks;
      counted : l.number ≡ fresh_handle (g.F.Look.trail l.facts) + given_by (drop l.left l.marks);
    }

abbrev pub decreases-loop-left : goal.decreases-loop-left
decreases-loop-left g l = l.left
