-- What handles hear of their devices.
use Rattle.std.specs.Prelude.{ℕ, ◌≡◌, ◌==◌, ◌++◌, Bool, if◌then◌else◌, Option, Some, None, List, [], ◌∷◌}
use Rattle.login_base.specs.declared.ids.DevNo.{DevNo}
use Rattle.login_base.specs.declared.ids.HandleNo.{HandleNo}
use Rattle.login_model.specs.declared.answer.Input.{Input}
use Rattle.login_model.specs.Reading.{last_few}
use Rattle.login_model.specs.Same.{same_device}
use Rattle.login_model.specs.Trail.{Trail}
use Rattle.device_model.specs.declared.ears.Ear.{Ear}

-- what the table is seen as: its facts as settings, and how many more keys can be set for the first time without
-- memory; the handles that listen, and how many more can without memory
pub record DeviceList : Type 0 where
  pub trail : Trail
  pub spare : ℕ
  pub ears : List Ear
  pub rings : ℕ

abbrev pub is_ear_of : HandleNo → Ear → Bool
is_ear_of h e = e.handle.0 == h.0

-- the device that a handle listens to, and what it has heard since it began to or was last read
unfoldable pub heard_of : List Ear → HandleNo → Option (DevNo × List Input)
heard_of [] h = None
heard_of (e ∷ es) h = if is_ear_of h e then Some (e.device, e.inputs) else heard_of es h

-- what is heard with one more input of a device
abbrev pub hears : DevNo → Input → DevNo × List Input → DevNo × List Input
hears d x p = if same_device d p.0 then (p.0, last_few (p.1 ++ x ∷ [])) else p

-- each handle has one ear
unfoldable pub AreOnce : List Ear → Type 0
AreOnce [] = Unit {0}
AreOnce (e ∷ es) = (heard_of es e.handle ≡ None) × AreOnce es
