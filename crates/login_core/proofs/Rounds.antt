-- Going over the names of a choice.
use Rattle.std.proofs.Common.{Bool, List}
use Rattle.login_model.specs.Trail.{Trail}
use Rattle.login_model.proofs.InOrder.{Enumerates}
use Rattle.login_core.proofs.Going.{Tour}

abbrev pub tour : {A : Type 0} (lt : A → A → Bool) (there : Trail → A → Bool) (list : Trail → List A) → ((t : Trail) → Enumerates lt (there t) (list t)) → Tour A
tour lt there list whole = record { lt = lt; there = there; list = list; whole = whole }
