use Rattle.std.proofs.Common.{◌-◌, length}
use Rattle.bus_auth.proofs.Turns.{IsUnderWay}
use Rattle.bus_auth.proofs.hearing.hear_lines.Given as goal

abbrev pub invariant-loop-end : goal.invariant-loop-end
invariant-loop-end l = IsUnderWay l.uid l.guid l.initial.talk l.text l.replies.items l.talk l.taken l.seen

abbrev pub decreases-loop-end : goal.decreases-loop-end
decreases-loop-end l = length l.text - l.taken
