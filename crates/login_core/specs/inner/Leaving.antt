-- Which users are known, and which have left.
use Rattle.std.specs.Prelude.{ℕ, Bool}
use Rattle.login_base.specs.declared.ids.Uid.{Uid}
use Rattle.login_model.specs.declared.fact.Key.TheVariants.{User}
use Rattle.login_model.specs.declared.setup.Setup.{Setup}
use Rattle.login_model.specs.Trail.{Trail, value}
use Rattle.login_model.specs.Direct.{is_overdue_fact}

-- whether a user's delay is over at a moment
abbrev pub is_overdue : Setup → ℕ → Trail → Uid → Bool
is_overdue U m t u = is_overdue_fact U m (value t (User u))
