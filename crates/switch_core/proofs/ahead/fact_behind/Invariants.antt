use Rattle.std.proofs.Common.{◌≡◌, ◌≤◌, length, take}
use Rattle.login_model.specs.Trail.{after, value}
use Rattle.switch_core.proofs.ahead.fact_behind.Given as goal

-- no mark from here on sets the key
abbrev pub invariant-loop-left : goal.invariant-loop-left
invariant-loop-left g l =
    let t = g.F.Look.trail l.facts in
    record {
      within : l.left ≤ length l.marks;
      same : value (after t (take l.left l.marks)) l.key ≡ value (after t l.marks) l.key;
    }

abbrev pub decreases-loop-left : goal.decreases-loop-left
decreases-loop-left g l = l.left
