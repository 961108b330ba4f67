use Rattle.std.proofs.Common.{sym, subst, rules}
use Rattle.device_model.specs.Ears.{AreOnce}
use Rattle.device_model.proofs.Listening.{once-none}
use Rattle.device_model.proofs.ears.Ears.new.Goals as goal

pub invariant_of-result : goal.invariant_of-result
invariant_of-result c = (subst AreOnce (sym c.new.ensures.items) once-none, search rules, search rules)
