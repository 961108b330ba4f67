-- A list of events in place has a legal journal.
use Rattle.std.proofs.Common.{◌≡◌, List, [], ◌∷◌, ◌++◌, refl, sym}
use Rattle.login_model.specs.Legal.{AreInPlace, IsLegalAfter, IsLegalEntry, IsPlaced, answered, events_of, stepped, trail_of}
use Rattle.login_laws.specs.OneJournal.{HasJournal, OneJournal}
use Rattle.login_model.specs.Policy.{verdict}
use Rattle.login_model.specs.Trail.{Trail, after}
use Rattle.login_model.specs.declared.event.Event.{Event}
use Rattle.login_model.specs.declared.mark.Entry.{Entry}
use Rattle.login_model.specs.declared.mark.Mark.{Mark}
use Rattle.login_model.specs.declared.rule.Verdict.{Verdict}
use Rattle.login_model.specs.declared.rule.Verdict.TheVariants.{Granted, Denied}
use Rattle.login_model.specs.declared.setup.Setup.{Setup}
use Rattle.login_laws.proofs.Asked.{granted-adds}
use Rattle.login_laws.proofs.JournalLaws.{one-after}

-- an event makes marks
record MakesMarks (t u : Trail) : Type 0 where
  marks : List Mark
  leads : after t marks ≡ u

step-adds : (U : Setup) (v : Verdict) (e : Event) (t : Trail) → v ≡ verdict U t e → MakesMarks t (stepped U v e t)
step-adds U Granted e t p = (let a = granted-adds U e t (sym p) in record { marks = a.marks; leads = a.leads })
step-adds U (Denied r) e t p = record { marks = []; leads = refl }

-- the entry that an event makes after these entries
record Makes (U : Setup) (before : List Entry) (e : Event) : Type 0 where
  entry : Entry
  event_is : entry.event ≡ e
  legal : IsLegalEntry U before entry

makes : (U : Setup) (before : List Entry) (e : Event) → IsPlaced before e → Makes U before e
makes U before e p =
    let t = trail_of before in
    let v = verdict U t e in
    let a = step-adds U v e t refl in
    record {
      entry = record { event = e; verdict = v; answer = answered U v e before; marks = a.marks };
      event_is = refl;
      legal = record { placed = p; verdict_is = refl; answer_is = refl; marks_are = a.leads };
    }

record Goes-on (U : Setup) (before : List Entry) (events : List Event) : Type 0 where
  journal : List Entry
  legal : IsLegalAfter U before journal
  events_are : events_of journal ≡ events

goes-on : (U : Setup) (before : List Entry) (events : List Event) → AreInPlace U before events → Goes-on U before events
goes-on U before [] w = record { journal = []; legal = tt; events_are = refl }
goes-on U before (e ∷ es) w =
    let m = makes U before e w.0 in
    let g = goes-on U (before ++ m.entry ∷ []) es (w.1 m.entry m.event_is m.legal) in
    record {
      journal = m.entry ∷ g.journal;
      legal = (m.legal, g.legal);
      events_are = λ i. m.event_is i ∷ g.events_are i;
    }

has-journal : (U : Setup) (events : List Event) → AreInPlace U [] events → HasJournal U events
has-journal U events w =
    let g = goes-on U [] events w in
    record { journal = g.journal; legal = g.legal; events_are = g.events_are }

pub one-journal : OneJournal
one-journal = record { one = λ U a b l m p. one-after U [] a b l m p; some = has-journal }
