-- How legal journals go on.
use Rattle.std.proofs.Common.{◌≡◌, List, [], ◌∷◌, ◌++◌, refl, ap, sym, subst, ◌∙◌, append_assoc, append-nil, None}
use Rattle.login_model.specs.declared.setup.Setup.{Setup}
use Rattle.login_model.specs.declared.event.Event.{Event}
use Rattle.login_model.specs.declared.mark.Entry.{Entry}
use Rattle.login_model.specs.Full.{full}
use Rattle.login_model.specs.Legal.{IsLegalEntry, IsLegalAfter, answered, events_of, stepped, trail_of}
use Rattle.login_model.specs.Policy.{verdict}
use Rattle.login_laws.proofs.JournalLaws.{one-marks}
use Rattle.replay.specs.Recording.{IsNeverFullAfter}

-- an event makes one entry
pub one_entry : (U : Setup) (before : List Entry) (e f : Entry) → IsLegalEntry U before e → IsLegalEntry U before f → e.event ≡ f.event → e ≡ f
one_entry U before e f h k same =
    let t = trail_of before in
    let verdicts : e.verdict ≡ f.verdict = h.verdict_is ∙ (ap (verdict U t) same ∙ sym k.verdict_is) in
    let answers : e.answer ≡ f.answer = h.answer_is ∙ ((λ i. answered U (verdicts i) (same i) before) ∙ sym k.answer_is) in
    let trails : stepped U e.verdict e.event t ≡ stepped U f.verdict f.event t = λ i. stepped U (verdicts i) (same i) t in
    let marks : e.marks ≡ f.marks = one-marks t e.marks f.marks (h.marks_are ∙ (trails ∙ sym k.marks_are)) in
    λ i. record { event = same i; verdict = verdicts i; answer = answers i; marks = marks i }

-- what goes on behind the same entries
pub record JournalGoesOn (all es : List Entry) (more : List Event) : Type 0 where
  pub rest : List Entry
  pub is : all ≡ es ++ rest
  pub events : events_of rest ≡ more

-- a legal journal whose events begin with those of another begins with that one
pub journal_goes_on : (U : Setup) (before all es : List Entry) (more : List Event) → IsLegalAfter U before all → IsLegalAfter U before es
    → events_of all ≡ events_of es ++ more → JournalGoesOn all es more
journal_goes_on U before all [] more h k e = record { rest = all; is = refl; events = e }
journal_goes_on U before [] (e ∷ es) more h k same = cc
journal_goes_on U before (a ∷ all) (e ∷ es) more h k same =
    let heads : a.event ≡ e.event = cc in
    let tails : events_of all ≡ events_of es ++ more = cc in
    let one : a ≡ e = one_entry U before a e h.0 k.0 heads in
    let theirs : IsLegalAfter U (before ++ e ∷ []) all = subst (λ (x : Entry). IsLegalAfter U (before ++ x ∷ []) all) one h.1 in
    let g = journal_goes_on U (before ++ e ∷ []) all es more theirs k.1 tails in
    let whole : a ∷ all ≡ e ∷ (es ++ g.rest) = ap (λ (x : Entry). x ∷ all) one ∙ ap (λ (t : List Entry). e ∷ t) g.is in
    record { rest = g.rest; is = whole; events = g.events }

-- the first entries of a legal journal, and those behind them
pub legal_front : (U : Setup) (before es rest : List Entry) → IsLegalAfter U before (es ++ rest) → IsLegalAfter U before es
legal_front U before [] rest h = tt
legal_front U before (e ∷ es) rest h = (h.0, legal_front U (before ++ e ∷ []) es rest h.1)

pub legal_behind : (U : Setup) (before es rest : List Entry) → IsLegalAfter U before (es ++ rest) → IsLegalAfter U (before ++ es) rest
legal_behind U before [] rest h = subst (λ (b : List Entry). IsLegalAfter U b rest) (sym (append-nil before)) h
legal_behind U before (e ∷ es) rest h = subst (λ (b : List Entry). IsLegalAfter U b rest) (append_assoc before (e ∷ []) es) (legal_behind U (before ++ e ∷ []) es rest h.1)

-- the event of an entry found room
pub room_at : (U : Setup) (before es : List Entry) (e : Entry) (rest : List Entry) → IsNeverFullAfter U before (es ++ (e ∷ rest)) → full U (before ++ es) e.event ≡ None
room_at U before [] e rest h = rw append-nil h.0
room_at U before (x ∷ es) e rest h = subst (λ (b : List Entry). full U b e.event ≡ None) (append_assoc before (x ∷ []) es) (room_at U (before ++ x ∷ []) es e rest h.1)

-- and so did those behind it
pub room_behind : (U : Setup) (before es rest : List Entry) → IsNeverFullAfter U before (es ++ rest) → IsNeverFullAfter U (before ++ es) rest
room_behind U before [] rest h = subst (λ (b : List Entry). IsNeverFullAfter U b rest) (sym (append-nil before)) h
room_behind U before (e ∷ es) rest h = subst (λ (b : List Entry). IsNeverFullAfter U b rest) (append_assoc before (e ∷ []) es) (room_behind U (before ++ e ∷ []) es rest h.1)
