use Rattle.std.proofs.Common.{◌≡◌}
use Rattle.part_rows.proofs.crowd.take_turns.Given as goal

abbrev pub invariant-loop-number : goal.invariant-loop-number
invariant-loop-number g l = l.pass.desk ≡ l.desk
