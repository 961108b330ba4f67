-- When a journal is legal.
use Rattle.std.specs.Prelude.{◌≡◌, ◌<◌, ◌⊎◌, true, None, IsSome, List, [], ◌∷◌, ◌++◌}
use Rattle.std.specs.List.{AllByRecursion}
use Rattle.login_base.specs.declared.ids.ConnId.{ConnId}
use Rattle.login_model.specs.declared.setup.Setup.{Setup}
use Rattle.login_model.specs.declared.event.Event.{Event}
use Rattle.login_model.specs.declared.event.Event.TheVariants.{Connect, Disconnect, Call as Calls, Hardware, Tick, Stop}
use Rattle.login_model.specs.declared.rule.Verdict.{Verdict}
use Rattle.login_model.specs.declared.rule.Verdict.TheVariants.{Granted, Denied}
use Rattle.login_model.specs.declared.answer.Answer.{Answer}
use Rattle.login_model.specs.declared.answer.Answer.TheVariants.{Nothing}
use Rattle.login_model.specs.declared.mark.Entry.{Entry}
use Rattle.login_model.specs.Trail.{Trail, after}
pub use Rattle.login_model.specs.Marks.{after_all, trail_of}
use Rattle.login_model.specs.Texts.{IsText, texts, has_object, hardware_texts, has_seat_name}
use Rattle.login_model.specs.Where.{is_connected}
use Rattle.login_model.specs.Policy.{verdict}
use Rattle.login_model.specs.Direct.{direct}
use Rattle.login_model.specs.Answers.{answer}
use Rattle.login_model.specs.Settle.{settle}
use Rattle.login_model.specs.Stopping.{stopped}
use Rattle.login_model.specs.Limits.{text_limit}

-- whether an event connects this connection
abbrev pub connects : ConnId → Event → Type 0
connects c (Connect b u) = b.0 ≡ c.0
connects c _ = ⊥

-- no entry's event connects this connection
abbrev pub IsUnused : ConnId → List Entry → Type 0
IsUnused c before = AllByRecursion (λ (e : Entry). connects c e.event → ⊥) before

-- what an event names is as it must be: a connect of a number above 0 that no earlier connect had; a disconnect or
-- a call, numbered from 1, of a connected client; each text of a call or an exit is UTF-8 without NUL of at
-- most 512 bytes, the path of a property's call is that of an object with properties, and the seat of a device that
-- is added has a seat's name
abbrev pub Fits : List Entry → Event → Type 0
Fits before (Connect c u) = (0 < c.0) × IsUnused c before
Fits before (Disconnect c) = is_connected (trail_of before) c ≡ true
Fits before (Calls r) = (is_connected (trail_of before) r.who ≡ true) × (0 < r.serial) × AllByRecursion (IsText text_limit) (texts r.call) × (has_object r.call ≡ true)
Fits before (Hardware x) = AllByRecursion (IsText text_limit) (hardware_texts x) × (has_seat_name x ≡ true)
Fits before (Tick m) = Unit {0}
Fits before Stop = Unit {0}

-- the event may come after these entries: after the stop nothing comes but disconnects
abbrev pub IsPlaced : List Entry → Event → Type 0
IsPlaced before e = Fits before e × (stopped before e ≡ None)

-- an event that room may be asked for: one that may come next, or any that the stop refuses
abbrev pub IsAsked : List Entry → Event → Type 0
IsAsked before e = IsPlaced before e ⊎ IsSome (stopped before e)

-- the marks after an event with its verdict
abbrev pub stepped : Setup → Verdict → Event → Trail → Trail
stepped U Granted e t = settle U (direct U e t)
stepped U (Denied r) e t = t

abbrev pub answered : Setup → Verdict → Event → List Entry → Answer
answered U Granted e before = answer U before e
answered U (Denied r) e before = Nothing

-- the entry is the one that its event makes after these entries
pub record IsLegalEntry (U : Setup) (before : List Entry) (e : Entry) : Type 0 where
  pub placed : IsPlaced before e.event
  pub verdict_is : e.verdict ≡ verdict U (trail_of before) e.event
  pub answer_is : e.answer ≡ answered U e.verdict e.event before
  pub marks_are : after (trail_of before) e.marks ≡ stepped U e.verdict e.event (trail_of before)

abbrev pub IsLegalAfter : Setup → List Entry → List Entry → Type 0
IsLegalAfter U before [] = Unit {0}
IsLegalAfter U before (e ∷ es) = IsLegalEntry U before e × IsLegalAfter U (before ++ e ∷ []) es

-- each entry is the one that its event makes after the entries before it
abbrev pub IsLegal : Setup → List Entry → Type 0
IsLegal U journal = IsLegalAfter U [] journal

-- the events of a journal, in order
abbrev pub events_of : List Entry → List Event
events_of [] = []
events_of (e ∷ es) = e.event ∷ events_of es

-- these events come in place, one after the other, behind these entries: each behind the legal entries of
-- those before it
abbrev pub AreInPlace : Setup → List Entry → List Event → Type 0
AreInPlace U before [] = Unit {0}
AreInPlace U before (e ∷ es) =
    IsPlaced before e × ((entry : Entry) → entry.event ≡ e → IsLegalEntry U before entry → AreInPlace U (before ++ entry ∷ []) es)
