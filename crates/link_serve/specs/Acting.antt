-- Which events may be stepped for a link, and what a step makes.
use Rattle.std.specs.Prelude.{◌≡◌, ◌<◌, true, List, [], ◌∷◌, ◌++◌, Some, None, Result, Ok, Err}
use Rattle.std.specs.List.{AllByRecursion}
use Rattle.login_base.specs.declared.memory.NoMemory.{NoMemory}
use Rattle.login_core.specs.Fullness.{always_fits}
use Rattle.login_core.specs.State.{refusal}
use Rattle.login_core.specs.declared.state.Refused.{Refused}
use Rattle.login_core.specs.declared.state.Refused.TheVariants as refused
use Rattle.login_model.specs.Full.{full}
use Rattle.login_model.specs.Legal.{IsLegalEntry}
use Rattle.login_model.specs.Limits.{text_limit}
use Rattle.login_model.specs.Reading.{is_granted}
use Rattle.login_model.specs.Stopping.{stopped}
use Rattle.login_model.specs.Texts.{IsText, hardware_texts, has_seat_name}
use Rattle.login_model.specs.declared.event.Event.{Event}
use Rattle.login_model.specs.declared.event.Event.TheVariants.{Connect, Disconnect, Call as Calls, Hardware, Tick, Stop}
use Rattle.login_model.specs.declared.mark.Entry.{Entry}
use Rattle.login_model.specs.declared.setup.Setup.{Setup}
use Rattle.wire_calls.specs.Laws.{MayStand}
use Rattle.link_serve.specs.Owners.{is_open}
use Rattle.link_serve.specs.declared.acts.Made.{Made}

-- ---- which events may be stepped

-- what an event has to be by itself, whatever the journal: one of a connection has a number above 0
abbrev pub FitsAlone : Event → Type 0
FitsAlone (Connect c u) = 0 < c.0
FitsAlone (Disconnect c) = 0 < c.0
FitsAlone (Calls r) = (0 < r.who.0) × MayStand r
FitsAlone (Hardware x) = AllByRecursion (IsText text_limit) (hardware_texts x) × (has_seat_name x ≡ true)
FitsAlone (Tick m) = Unit {0}
FitsAlone Stop = Unit {0}

-- an event may be stepped for a connection that has these entries
abbrev pub FitsBehind : Event → List Entry → Type 0
FitsBehind (Connect c u) mine = mine ≡ []
FitsBehind (Disconnect c) mine = is_open c mine ≡ true
FitsBehind (Calls r) mine = is_open r.who mine ≡ true
FitsBehind _ mine = Unit {0}

-- ---- what they make

-- one entry of the event, with this verdict
pub record MakesOne (U : Setup) (e : Event) (old new : List Entry) (made : Made) : Type 0 where
  pub entry : Entry
  pub appended : new ≡ old ++ entry ∷ []
  pub event_is : entry.event ≡ e
  pub legal : IsLegalEntry U old entry
  pub verdict_is : made.granted ≡ is_granted entry.verdict
  pub room : refusal (stopped old e) (full U old e) ≡ None

-- an event was stepped, or refused: for the stop, then for a full journal, then for want of memory, which a disconnect
-- and the stop never meet
abbrev pub StepGives : Setup → Event → List Entry → List Entry → Result Made Refused → Type 0
StepGives U e old new (Ok made) = MakesOne U e old new made
StepGives U e old new (Err refused.NoMemory) = (new ≡ old) × (refusal (stopped old e) (full U old e) ≡ None) × (always_fits e ≡ true → ⊥)
StepGives U e old new (Err why) = (new ≡ old) × (refusal (stopped old e) (full U old e) ≡ Some why)
