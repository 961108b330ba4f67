-- How many handles can be live, and how many devices one session can have taken.
use Rattle.std.specs.Prelude.{ℕ, ◌≡◌, ◌≤◌, ◌==◌, Bool, true, List, length, min}
use Rattle.std.specs.List.{AllByRecursion, IsDistinct}
use Rattle.login_base.specs.declared.ids.HandleNo.{HandleNo}
use Rattle.login_base.specs.declared.ids.SessId.{SessId}
use Rattle.login_model.specs.Devices.{is_live, taken_devices}
use Rattle.login_model.specs.Full.{taken_count}
use Rattle.login_model.specs.Legal.{IsLegal, trail_of}
use Rattle.login_model.specs.Limits.{taken_limit}
use Rattle.login_model.specs.Trail.{Trail}
use Rattle.login_model.specs.declared.mark.Entry.{Entry}
use Rattle.login_model.specs.declared.setup.Setup.{Setup}
use Rattle.login_laws.specs.Sound.{IsSoundBetween}

-- whether two handles are one
abbrev pub same_handle : HandleNo → HandleNo → Bool
same_handle a b = a.0 == b.0

-- the law: of live handles no two of which are one there are at most as many as pairs of a session and a
-- device that it has taken
abbrev pub LivesAreFew : Type 0
LivesAreFew = (U : Setup) (t : Trail) (handles : List HandleNo) → IsSoundBetween U t → IsDistinct same_handle handles
    → AllByRecursion (λ h. is_live t h ≡ true) handles → length handles ≤ taken_count t

-- no session has taken more devices than this
abbrev pub TakeAtMost : ℕ → Trail → Type 0
TakeAtMost n t = (s : SessId) → length (taken_devices t s) ≤ n

-- the most devices that one session may have taken: no more than all have, nor than the limit
abbrev pub most_taken : Trail → ℕ
most_taken t = min (taken_count t) taken_limit

-- the law: in every legal journal no session has taken more than it may
abbrev pub EachTakesFew : Type 0
EachTakesFew = (U : Setup) (es : List Entry) → IsLegal U es → TakeAtMost (most_taken (trail_of es)) (trail_of es)
