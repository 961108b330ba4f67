-- Which devices a session has taken, and how.
use Rattle.std.specs.Prelude.{◌==◌, ◌||◌, Bool, false, if◌then◌else◌, Option, Some, None, List, [], ◌∷◌, filter}
use Rattle.login_base.specs.declared.ids.SessId.{SessId}
use Rattle.login_base.specs.declared.ids.DevNo.{DevNo}
use Rattle.login_base.specs.declared.ids.HandleNo.{HandleNo}
use Rattle.login_model.specs.declared.fact.Key.{Key}
use Rattle.login_model.specs.declared.fact.Key.TheVariants as key
use Rattle.login_model.specs.declared.mark.Mark.TheVariants.{Set}
use Rattle.login_model.specs.Trail.{Trail, value}
use Rattle.login_model.specs.Names.{names, device_lt}
use Rattle.login_model.specs.Where.{is_set}
pub use Rattle.login_model.specs.Facts.{is_handle_fact}

-- the device of a key about what a session has taken
abbrev pub taken_in : SessId → Key → Option DevNo
taken_in s (key.Taken r d) = if r.0 == s.0 then Some d else None
taken_in s _ = None

-- whether a session has a device taken
abbrev pub is_taken : Trail → SessId → DevNo → Bool
is_taken t s d = is_handle_fact (value t (key.Taken s d))

-- the devices that a session has taken, in order
unfoldable pub taken_devices : Trail → SessId → List DevNo
taken_devices t s = filter (is_taken t s) (names device_lt (taken_in s) t)

-- whether a handle gives access to its device
abbrev pub is_live : Trail → HandleNo → Bool
is_live t h = is_set (value t (key.Live h))

-- whether a pause that these settings are about has still to be acknowledged
unfoldable pub is_awaited_among : Trail → Trail → Bool
is_awaited_among t [] = false
is_awaited_among t (Set (key.Awaited s d) x ∷ rest) = is_set (value t (key.Awaited s d)) || is_awaited_among t rest
is_awaited_among t (m ∷ rest) = is_awaited_among t rest

-- whether the pause of some device has still to be acknowledged
abbrev pub is_awaiting : Trail → Bool
is_awaiting t = is_awaited_among t t
