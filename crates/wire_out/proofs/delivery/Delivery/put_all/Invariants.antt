use Rattle.wire_out.specs.inner.Delivered.{Adds}
use Rattle.wire_out.proofs.delivery.Delivery.put_all.Given as goal

-- the messages so far are added
abbrev pub invariant-loop-message : goal.invariant-loop-message
invariant-loop-message l = Adds l.initial.self l.self l.yielded
