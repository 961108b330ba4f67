use Rattle.std.proofs.Common.{◌≡◌}
use Rattle.device_model.specs.inner.Ears.{hear_ear}
use Rattle.device_model.proofs.Listening.{made}
use Rattle.device_model.proofs.ears.hear_all.Given as goal

-- those so far have heard it
abbrev pub invariant-loop-ear : goal.invariant-loop-ear
invariant-loop-ear l = l.ears ≡ made (hear_ear l.device l.input) l.ear-index l.fn.ears
