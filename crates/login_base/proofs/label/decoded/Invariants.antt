use Rattle.std.proofs.Common.{◌≡◌, ◌++◌, length}
use Rattle.login_base.specs.Labels.{decoded}
use Rattle.login_base.proofs.label.decoded.Given as goal

-- the bytes so far, and those of what is left
abbrev pub invariant-loop-byte : goal.invariant-loop-byte
invariant-loop-byte l = l.text.items ++ decoded l.rest ≡ decoded l.element

abbrev pub decreases-loop-byte : goal.decreases-loop-byte
decreases-loop-byte l = length l.rest
