-- What it is to make the entries of events.
use Rattle.std.specs.Prelude.{ℕ, ◌≡◌, ◌+◌, ◌&&◌, not, if◌then◌else◌, Bool, List, [], ◌∷◌, ◌++◌, length, map, Option, Some, None, Result, Ok, Err}
use Rattle.login_base.specs.declared.ids.ConnId.{ConnId}
use Rattle.login_base.specs.declared.ids.Uid.{Uid}
use Rattle.login_core.specs.State.{CoreState, IsReady}
use Rattle.login_edge.specs.Texts.{Gains, GainsFront}
use Rattle.login_model.specs.declared.fullness.Fullness.{Fullness}
use Rattle.login_model.specs.declared.event.Event.{Event}
use Rattle.login_model.specs.declared.event.Event.TheVariants as event
use Rattle.login_model.specs.declared.event.Request.{Request}
use Rattle.login_model.specs.declared.mark.Entry.{Entry}
use Rattle.login_model.specs.declared.setup.Setup.{Setup}
use Rattle.login_model.specs.Full.{full}
use Rattle.login_model.specs.Legal.{IsLegalAfter, events_of, trail_of}
use Rattle.login_model.specs.Policy.{verdict}
use Rattle.login_model.specs.Reading.{is_granted}
use Rattle.login_model.specs.Where.{is_connected}
use Rattle.login_office.specs.Offices.{OfficeState}
use Rattle.login_office.specs.declared.end.LinkEnd.{LinkEnd}
use Rattle.login_office.specs.declared.end.LinkEnd.TheVariants.{TooMany}
use Rattle.recording.specs.Print.{blocks}
use Rattle.replay.specs.Recording.{IsNeverFullAfter}
use Rattle.replay.specs.declared.early.Early.{Early}
use Rattle.replay.specs.declared.early.Early.TheVariants.{Full, WriteFault, NoMemory}

-- room was made, where the journal was not full; or it is full by this count
abbrev pub MakesRoom : CoreState → CoreState → Event → Result (Unit {0}) Early → Type 0
MakesRoom old new e (Ok u) = (full old.setup old.journal e ≡ None) × IsReady new e
MakesRoom old new e (Err (Full count)) = full old.setup old.journal e ≡ Some count
MakesRoom old new e (Err NoMemory) = Unit {0}
MakesRoom old new e (Err _) = ⊥

-- some of these events were made as these entries, each with room, and these follow
pub record AreMade (U : Setup) (before : List Entry) (events : List Event) (made : List Entry) (more : List Event) : Type 0 where
  pub are : events ≡ events_of made ++ more
  pub legal : IsLegalAfter U before made
  pub room : IsNeverFullAfter U before made

-- the blocks of entries behind a journal
abbrev pub blocks_behind : List Entry → List Entry → List ℕ
blocks_behind before made = blocks (length before + 1) made

-- all were made and written
pub record AllMade (old : OfficeState) (events : List Event) (new : OfficeState) (held now : Option (List ℕ)) : Type 0 where
  pub made : List Entry
  pub are_made : AreMade old.core.setup old.core.journal events made []
  pub setup : new.core.setup ≡ old.core.setup
  pub journal : new.core.journal ≡ old.core.journal ++ made
  pub tellers : new.tellers ≡ old.tellers
  pub wrote : Gains held now (blocks_behind old.core.journal made)

-- one of them finds the journal full by this count, and those before it were made and written
pub record FullFor (count : Fullness) (old : OfficeState) (events : List Event) (held now : Option (List ℕ)) : Type 0 where
  pub made : List Entry
  pub event : Event
  pub more : List Event
  pub are_made : AreMade old.core.setup old.core.journal events made (event ∷ more)
  pub full : full old.core.setup (old.core.journal ++ made) event ≡ Some count
  pub wrote : Gains held now (blocks_behind old.core.journal made)

-- a front of those that were made was written
pub record CutOff (old : OfficeState) (events : List Event) (held now : Option (List ℕ)) : Type 0 where
  pub made : List Entry
  pub more : List Event
  pub are_made : AreMade old.core.setup old.core.journal events made more
  pub wrote : GainsFront held now (blocks_behind old.core.journal made)

-- the entries of these events were made and written; or the journal is full for one, or the sink failed, or there was
-- no memory
abbrev pub Makes : OfficeState → List Event → OfficeState → Option (List ℕ) → Option (List ℕ) → Result (Unit {0}) Early → Type 0
Makes old events new held now (Ok u) = AllMade old events new held now
Makes old events new held now (Err (Full count)) = FullFor count old events held now
Makes old events new held now (Err WriteFault) = CutOff old events held now
Makes old events new held now (Err NoMemory) = CutOff old events held now
Makes old events new held now (Err _) = ⊥

-- the same of a call that answers something beside
abbrev pub done : {T : Type 0} → Result T Early → Result (Unit {0}) Early
done (Ok x) = Ok tt
done (Err e) = Err e

-- ---- the events of a piece that is heard on a link

-- the connect of a link that begins, as this user
abbrev pub connect_of : ConnId → Option Uid → List Event
connect_of c (Some u) = event.Connect c u ∷ []
connect_of c None = []

-- its calls, and its disconnect where it has ended
abbrev pub turns_of : ConnId → List Request → Bool → List Event
turns_of c calls ends = map event.Call calls ++ (if ends then event.Disconnect c ∷ [] else [])

-- whether it is connected when its calls come
abbrev pub is_in_then : Setup → List Entry → ConnId → Option Uid → Bool
is_in_then U before c (Some u) = is_granted (verdict U (trail_of before) (event.Connect c u))
is_in_then U before c None = is_connected (trail_of before) c

abbrev pub heard_events : Setup → List Entry → ConnId → Option Uid → List Request → Bool → List Event
heard_events U before c begins calls ends = connect_of c begins ++ (if is_in_then U before c begins then turns_of c calls ends else [])

-- how it ends: since it is not let in, or as its bytes show
abbrev pub end_then : Bool → Bool → Option LinkEnd → Option LinkEnd
end_then begins is_in shown = if begins && not is_in then Some TooMany else shown
