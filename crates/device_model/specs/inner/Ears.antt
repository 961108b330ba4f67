-- What the handles that listen are seen as, and how one hears.
use Rattle.std.specs.Prelude.{ℕ, ◌++◌, if◌then◌else◌, List, [], ◌∷◌}
use Rattle.login_base.specs.declared.ids.DevNo.{DevNo}
use Rattle.login_model.specs.declared.answer.Input.{Input}
use Rattle.login_model.specs.Reading.{last_few}
use Rattle.login_model.specs.Same.{same_device}
use Rattle.device_model.specs.declared.ears.Ear.{Ear}

-- what the handles that listen are seen as
pub record EarList : Type 0 where
  pub ears : List Ear
  pub rings : ℕ

abbrev pub hear_ear : DevNo → Input → Ear → Ear
hear_ear d x e = if same_device d e.device then record { handle = e.handle; device = e.device; inputs = last_few (e.inputs ++ x ∷ []) } else e
