use Rattle.std.proofs.Common.{◌≡◌, ◌≤◌, ◌-◌}
use Rattle.device_model.proofs.ears.Ears.make.Given as goal

-- no ear changes, and rings do not go
abbrev pub invariant-loop-self : goal.invariant-loop-self
invariant-loop-self l = (l.self.ears ≡ l.fn.self.ears) × (l.fn.self.rings ≤ l.self.rings)

abbrev pub decreases-loop-self : goal.decreases-loop-self
decreases-loop-self l = l.rings - l.self.rings
