-- What handles hear: how it is settled behind the marks of an entry, and what a core keeps of it.
use Rattle.std.specs.Prelude.{ℕ, ◌≡◌, ◌≤◌, true, false, if◌then◌else◌, Option, Some, None, IsSome, List, length, option_and_then}
use Rattle.std.specs.List.{AllByRecursion, IsDistinct}
use Rattle.login_base.specs.declared.ids.DevNo.{DevNo}
use Rattle.login_base.specs.declared.ids.HandleNo.{HandleNo}
use Rattle.login_model.specs.Devices.{is_live}
use Rattle.login_model.specs.Facts.{handle_device, is_evdev}
use Rattle.login_model.specs.Full.{taken_count}
use Rattle.login_model.specs.Marks.{trail_of}
use Rattle.login_model.specs.Reading.{is_granted}
use Rattle.login_model.specs.Trail.{Trail, value}
use Rattle.login_model.specs.declared.event.Event.{Event}
use Rattle.login_model.specs.declared.fact.Fact.{Fact}
use Rattle.login_model.specs.declared.fact.Key.TheVariants.{Dev, Live}
use Rattle.login_model.specs.declared.mark.Entry.{Entry}
use Rattle.login_model.specs.declared.mark.Mark.{Mark}
use Rattle.login_model.specs.declared.mark.Mark.TheVariants.{Set}
use Rattle.login_model.specs.declared.rule.Verdict.{Verdict}
use Rattle.device_model.specs.Ears.{DeviceList, heard_of}
use Rattle.device_model.specs.declared.ears.Ear.{Ear}
use Rattle.login_laws.specs.Few.{same_handle}
use Rattle.login_laws.specs.Hearing.{Heard, begins, heard_event, heard_in, is_turned}
use Rattle.login_facts.specs.Rings.{ring_count}

-- the handle that a mark makes live or dead
abbrev pub turned_by : Mark → Option HandleNo
turned_by (Set (Live h) x) = Some h
turned_by _ = None

-- the device to which a handle with this owner listens, if by these facts it is an input device
abbrev pub listened_to : Trail → Fact → Option DevNo
listened_to t x = option_and_then (λ d. if is_evdev (value t (Dev d)) then Some d else None) (handle_device x)

-- what is heard of an input device, and nothing of another
abbrev pub of_evdev : Trail → Option Heard → Option Heard
of_evdev t (Some p) = if is_evdev (value t (Dev p.0)) then Some p else None
of_evdev t None = None

-- behind these entries, the device of a live handle of an input device, and what the handle reads of it
abbrev pub heard_evdev : List Entry → HandleNo → Option Heard
heard_evdev before h = of_evdev (trail_of before) (heard_in before h)

-- ---- how it is settled, by who is live and whose by some facts, and by the kinds of devices by others

-- a handle hears what a granted event brings
abbrev pub heard_with : HandleNo → Event → Verdict → Option Heard → Option Heard
heard_with h e v o = if is_granted v then heard_event h e o else o

-- a handle that some marks make live or dead listens no more
abbrev pub deafened : HandleNo → List Mark → Option Heard → Option Heard
deafened h ms o = if is_turned h ms then None else o

-- and where it is live after them, and of an input device, it begins anew
abbrev pub begun_anew : HandleNo → List Mark → Trail → Trail → Option Heard → Option Heard
begun_anew h ms takes devices o = if is_turned h ms then of_evdev devices (begins takes h) else o

-- what a handle has heard behind an event with its verdict and its marks
abbrev pub settled : HandleNo → Event → Verdict → List Mark → Trail → Trail → Option Heard → Option Heard
settled h e v ms takes devices o = begun_anew h ms takes devices (heard_with h e v o)

-- ---- who listens, and rings for them

-- only live handles listen
abbrev pub ListenLive : List Ear → Trail → Type 0
ListenLive ears t = (h : HandleNo) → IsSome (heard_of ears h) → is_live t h ≡ true

-- those that listen and that marks do not make live or dead are live after them
abbrev pub ListenOn : List Ear → List Mark → Trail → Type 0
ListenOn ears ms t = (h : HandleNo) → is_turned h ms ≡ false → IsSome (heard_of ears h) → is_live t h ≡ true

-- so many rings are enough for all handles that can be live
abbrev pub AreEnough : ℕ → Trail → Type 0
AreEnough rings t = (handles : List HandleNo) → IsDistinct same_handle handles → AllByRecursion (λ h. is_live t h ≡ true) handles → length handles ≤ rings

-- no fact changes, and no ring comes or goes
pub record KeepsRings (old new : DeviceList) : Type 0 where
  pub trail : new.trail ≡ old.trail
  pub spare : new.spare ≡ old.spare
  pub rings : ring_count new.ears new.rings ≡ ring_count old.ears old.rings

-- behind these entries each live handle of an input device has heard what it reads, and no other handle listens;
-- there is a ring for each device that is taken
pub record AreEars (journal : List Entry) (ears : List Ear) (rings : ℕ) : Type 0 where
  pub heard : (h : HandleNo) → heard_of ears h ≡ heard_evdev journal h
  pub enough : taken_count (trail_of journal) ≤ ring_count ears rings
