-- What live handles have heard of their devices, and how that goes on from entry to entry.
use Rattle.std.specs.Prelude.{◌≡◌, ◌==◌, ◌||◌, ◌++◌, Bool, false, if◌then◌else◌, Option, Some, None, List, [], ◌∷◌, option_map}
use Rattle.login_base.specs.declared.ids.DevNo.{DevNo}
use Rattle.login_base.specs.declared.ids.HandleNo.{HandleNo}
use Rattle.login_model.specs.Answers.{answer}
use Rattle.login_model.specs.Devices.{is_live}
use Rattle.login_model.specs.Facts.{handle_device}
use Rattle.login_model.specs.Legal.{IsLegal, IsLegalEntry}
use Rattle.login_model.specs.Marks.{trail_of}
use Rattle.login_model.specs.Policy.{verdict}
use Rattle.login_model.specs.Reading.{is_granted, last_few, reads}
use Rattle.login_model.specs.Same.{same_device}
use Rattle.login_model.specs.Trail.{Trail, after, value}
use Rattle.login_model.specs.declared.answer.Answer.TheVariants.{Inputs}
use Rattle.login_model.specs.declared.answer.Input.{Input}
use Rattle.login_model.specs.declared.call.Call.{Call}
use Rattle.login_model.specs.declared.call.Call.TheVariants as call
use Rattle.login_model.specs.declared.event.Event.{Event}
use Rattle.login_model.specs.declared.event.Event.TheVariants.{Call as Calls, Hardware as Happens}
use Rattle.login_model.specs.declared.event.Request.{Request}
use Rattle.login_model.specs.declared.fact.Fact.{Fact}
use Rattle.login_model.specs.declared.fact.Key.TheVariants as key
use Rattle.login_model.specs.declared.hardware.Hardware.TheVariants as hardware
use Rattle.login_model.specs.declared.mark.Entry.{Entry}
use Rattle.login_model.specs.declared.mark.Mark.{Mark}
use Rattle.login_model.specs.declared.mark.Mark.TheVariants.{Set}
use Rattle.login_model.specs.declared.rule.Verdict.{Verdict}
use Rattle.login_model.specs.declared.rule.Verdict.TheVariants.{Granted}
use Rattle.login_model.specs.declared.setup.Setup.{Setup}

-- a device, and what was heard of it
abbrev pub Heard : Type 0
Heard = DevNo × List Input

-- what a handle with this owner reads of its device behind these entries
abbrev pub read_of : Fact → HandleNo → List Entry → Option Heard
read_of x h before = option_map (λ d. (d, reads h d before)) (handle_device x)

-- behind these entries, the device of a live handle, and what the handle reads of it
abbrev pub heard_in : List Entry → HandleNo → Option Heard
heard_in before h = if is_live (trail_of before) h then read_of (value (trail_of before) (key.Owner h)) h before else None

-- ---- one more entry

-- whether one of these marks makes a handle live or dead
abbrev pub is_turned : HandleNo → List Mark → Bool
is_turned h [] = false
is_turned h (Set (key.Live g) x ∷ ms) = (g.0 == h.0) || is_turned h ms
is_turned h (m ∷ ms) = is_turned h ms

-- the device of this owner's handle, of which nothing was heard yet
abbrev pub unheard : Fact → Option Heard
unheard x = option_map (λ d. (d, [])) (handle_device x)

-- after some marks, the device of a handle that is live, of which nothing was heard yet
abbrev pub begins : Trail → HandleNo → Option Heard
begins t h = if is_live t h then unheard (value t (key.Owner h)) else None

-- an input of a device is heard by those that listen to that device, who keep the last 64
abbrev pub hears : DevNo → Input → Heard → Heard
hears d x p = if same_device d p.0 then (p.0, last_few (p.1 ++ x ∷ [])) else p

-- what was heard is read, and so is heard no more
abbrev pub drained : Heard → Heard
drained p = (p.0, [])

abbrev pub heard_call : HandleNo → Call → Option Heard → Option Heard
heard_call h (call.ReadInput g) o = if g.0 == h.0 then option_map drained o else o
heard_call h _ o = o

-- what an event by itself lets a handle hear, or lets it forget
abbrev pub heard_event : HandleNo → Event → Option Heard → Option Heard
heard_event h (Calls r) o = heard_call h r.call o
heard_event h (Happens (hardware.Input d kind code value)) o = option_map (hears d (record { kind = kind; code = code; value = value })) o
heard_event h _ o = o

-- what it has heard behind an event with its verdict and its marks, after which these are all: a handle that was
-- made live or dead begins anew, another hears what a granted event brings
abbrev pub heard_behind : HandleNo → Event → Verdict → List Mark → Trail → Option Heard → Option Heard
heard_behind h e v ms t o = if is_turned h ms then begins t h else (if is_granted v then heard_event h e o else o)

-- the law
abbrev pub HearingGoesOn : Type 0
HearingGoesOn = (U : Setup) (before : List Entry) (e : Entry) (h : HandleNo) → IsLegal U before → IsLegalEntry U before e
    → heard_in (before ++ e ∷ []) h ≡ heard_behind h e.event e.verdict e.marks (after (trail_of before) e.marks) (heard_in before h)

-- ---- a read that is granted

-- the handle of a read listens to a device, and the answer is what it has heard
pub record IsHeard (U : Setup) (before : List Entry) (r : Request) (h : HandleNo) : Type 0 where
  pub device : DevNo
  pub inputs : List Input
  pub heard : heard_in before h ≡ Some (device, inputs)
  pub answered : answer U before (Calls r) ≡ Inputs inputs

-- the law
abbrev pub ReadsAreHeard : Type 0
ReadsAreHeard = (U : Setup) (before : List Entry) (r : Request) (h : HandleNo) → r.call ≡ call.ReadInput h → verdict U (trail_of before) (Calls r) ≡ Granted → IsHeard U before r h
