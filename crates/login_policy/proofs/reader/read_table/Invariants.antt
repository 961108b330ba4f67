use Rattle.std.proofs.Common.{◌+◌, ◌≤◌, length}
use Rattle.login_policy.specs.inner.UnderWay.{IsReadTo}
use Rattle.login_policy.proofs.reader.read_table.Given as goal

abbrev pub invariant-loop-line : goal.invariant-loop-line
invariant-loop-line l = IsReadTo l.reader l.rest l.bytes × (l.reader.number + length l.rest ≤ length l.bytes + 1)

abbrev pub decreases-loop-line : goal.decreases-loop-line
decreases-loop-line l = length l.rest
