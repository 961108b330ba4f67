use Rattle.std.proofs.Common.{◌≡◌, ◌≤◌, ◌++◌, length, take}
use Rattle.login_base.specs.Limits.{most_seat_name}
use Rattle.login_base.specs.Labels.{decoded}
use Rattle.login_model.proofs.object.decode.Given as goal

-- the bytes so far, and those of what is left
abbrev pub invariant-loop-byte : goal.invariant-loop-byte
invariant-loop-byte l = (l.size ≤ most_seat_name) × (length l.text ≡ most_seat_name) × (take l.size l.text ++ decoded l.rest ≡ decoded l.element)

abbrev pub decreases-loop-byte : goal.decreases-loop-byte
decreases-loop-byte l = length l.rest
