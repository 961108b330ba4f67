-- A list of events in place has exactly one legal journal.
use Rattle.std.specs.Prelude.{◌≡◌, List, []}
use Rattle.login_model.specs.Legal.{AreInPlace, IsLegal, events_of}
use Rattle.login_model.specs.declared.event.Event.{Event}
use Rattle.login_model.specs.declared.mark.Entry.{Entry}
use Rattle.login_model.specs.declared.setup.Setup.{Setup}

-- a legal journal of these events
pub record HasJournal (U : Setup) (events : List Event) : Type 0 where
  pub journal : List Entry
  pub legal : IsLegal U journal
  pub events_are : events_of journal ≡ events

-- the law: a list of events in place has exactly one legal journal
pub record OneJournal : Type 0 where
  pub one : (U : Setup) (a b : List Entry) → IsLegal U a → IsLegal U b → events_of a ≡ events_of b → a ≡ b
  pub some : (U : Setup) (events : List Event) → AreInPlace U [] events → HasJournal U events
