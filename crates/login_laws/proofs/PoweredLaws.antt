-- No operation starts past a lock that stands in its way and that the policy does not let it pass.
use Rattle.std.proofs.Common.{◌≡◌, ℕ, zero, suc, Bool, List, [], ◌∷◌, ◌++◌, length, take, drop, refl, ap, sym, ◌∙◌, subst, ◌⊎◌, inl, inr}
use Rattle.std.specs.List.{AllByRecursion}
use Rattle.login_base.specs.declared.ids.Millis.{Millis}
use Rattle.login_model.specs.Direct.{direct}
use Rattle.login_model.specs.Legal.{IsLegal, IsLegalAfter, IsLegalEntry, after_all, stepped, trail_of}
use Rattle.login_laws.specs.Powered.{Begins, IsAt, IsPowered, LeaveOperation, WasAsked, runs, waits}
use Rattle.login_laws.specs.Sound.{AreHeld, IsSound}
use Rattle.login_model.specs.Marks.{cut_at}
use Rattle.login_model.specs.Trail.{Trail, after, value}
use Rattle.login_model.specs.declared.fact.Fact.{Fact}
use Rattle.login_model.specs.declared.fact.Fact.TheVariants as fact
use Rattle.login_model.specs.declared.fact.Key.{Key}
use Rattle.login_model.specs.declared.fact.Key.TheVariants as key
use Rattle.login_model.specs.declared.mark.Entry.{Entry}
use Rattle.login_model.specs.declared.mark.Mark.{Mark}
use Rattle.login_model.specs.declared.mark.Mark.TheVariants.{Set, Say}
use Rattle.login_model.specs.declared.operation.OpKind.{OpKind}
use Rattle.login_model.specs.declared.operation.Operation.TheVariants.{Waiting}
use Rattle.login_model.specs.declared.rule.Verdict.{Verdict}
use Rattle.login_model.specs.declared.rule.Verdict.TheVariants.{Granted, Denied}
use Rattle.login_model.specs.declared.setup.Setup.{Setup}
use Rattle.login_laws.proofs.Accords.{good-sound}
use Rattle.login_laws.proofs.Asked.{AllMarks, Lets, all-at, granted-adds}
use Rattle.login_laws.proofs.Begun.{AreBegun, begun-at, direct-begun, settle-begun}
use Rattle.login_laws.proofs.Holds.{none_out}
use Rattle.login_laws.proofs.JournalLaws.{one-marks}
use Rattle.login_laws.proofs.Settling.{switched}
use Rattle.login_laws.proofs.SoundLaws.{after-more, good-direct, sound-entry, sound-journal}

-- ---- each setting that makes an operation run stands where it may begin

step-begun : (U : Setup) (before : List Entry) (e : Entry) (v : Verdict) → v ≡ e.verdict → IsLegalEntry U before e → IsSound U (trail_of before) → AreBegun U (trail_of before)
    → AreBegun U (stepped U v e.event (trail_of before))
step-begun U before e Granted q l s a =
    let t = trail_of before in
    let g = good-direct U before e.event l.placed (sym (q ∙ l.verdict_is)) (good-sound t s.between) in
    settle-begun U none_out (direct U e.event t) (switched U.conf none_out (direct U e.event t) g).good (direct-begun U e.event t a)
step-begun U before e (Denied r) q l s a = a

entry-begun : (U : Setup) (before : List Entry) (e : Entry) → IsLegalEntry U before e → IsSound U (trail_of before) → AreBegun U (trail_of before) → AreBegun U (after (trail_of before) e.marks)
entry-begun U before e l s a =
    let P : Trail → Type 0 = AreBegun U in
    subst P (sym l.marks_are) (step-begun U before e e.verdict refl l s a)

after-begun : (U : Setup) (before es : List Entry) → IsLegalAfter U before es → IsSound U (trail_of before) → AreBegun U (trail_of before) → AreBegun U (after_all (trail_of before) es)
after-begun U before [] l s a = a
after-begun U before (e ∷ es) l s a =
    let P : Trail → Type 0 = λ t. AreBegun U (after_all t es) in
    let Q : Trail → Type 0 = AreBegun U in
    subst P (after-more [] before e) (after-begun U (before ++ e ∷ []) es l.1 (sound-entry U before e l.0 s) (subst Q (sym (after-more [] before e)) (entry-begun U before e l.0 s a)))

journal-begun : (U : Setup) (journal : List Entry) → IsLegal U journal → AreBegun U (trail_of journal)
journal-begun U journal l = after-begun U [] journal l (sound-journal U [] tt) tt

-- ---- each that makes one wait is the event's

denied-none : (t : Trail) (ms : List Mark) → after t ms ≡ t → ms ≡ []
denied-none t ms e = one-marks t ms [] e

-- the marks of an entry are those of its event, and a denied one makes none
pub record Made (U : Setup) (before : List Entry) (e : Entry) (ms : List Mark) : Type 0 where
  pub granted : (n : ℕ) (m : Mark) → IsAt n ms m → e.verdict ≡ Granted
  pub lets : AllMarks (Lets U (trail_of before) e.event) ms

marks-by : (v : Verdict) (U : Setup) (before : List Entry) (e : Entry) → v ≡ e.verdict → IsLegalEntry U before e → Made U before e e.marks
marks-by Granted U before e q l =
    let t = trail_of before in
    let w = granted-adds U e.event t (sym (q ∙ l.verdict_is)) in
    let P : Verdict → Type 0 = λ x. after t e.marks ≡ stepped U x e.event t in
    let same : e.marks ≡ w.marks = one-marks t e.marks w.marks (subst P (sym q) l.marks_are ∙ sym w.leads) in
    let Q : List Mark → Type 0 = AllMarks (Lets U t e.event) in
    record { granted = λ n m i. sym q; lets = subst Q (sym same) w.all }
marks-by (Denied r) U before e q l =
    let t = trail_of before in
    let P : Verdict → Type 0 = λ x. after t e.marks ≡ stepped U x e.event t in
    let Q : List Mark → Type 0 = Made U before e in
    subst Q (sym (denied-none t e.marks (subst P (sym q) l.marks_are))) (record { granted = λ n m i. absurd i; lets = tt })

-- ---- who asked for the operation that waits

-- a mark is the last of these that sets the operation
pub record Latest (ms : List Mark) (m : Mark) : Type 0 where
  pub place : ℕ
  pub at : IsAt place ms m
  pub last : LeaveOperation (drop (suc place) ms)

-- what was there before, where none of these sets it
abbrev Came : Trail → List Mark → Fact → Type 0
Came t ms x = Latest ms (Set key.Op x) ⊎ ((value t key.Op ≡ x) × LeaveOperation ms)

came-behind : (j : Key) (y x : Fact) (t : Trail) (ms : List Mark) → value (Set j y ∷ t) key.Op ≡ x → LeaveOperation ms → Came t (Set j y ∷ ms) x
unfolding value
came-behind key.Op y x t ms e l = inl (record { place = zero; at = ap (Set key.Op) e; last = l })
came-behind _ y x t ms e l = inr (e, (tt, l))

came : (t : Trail) (ms : List Mark) (x : Fact) → value (after t ms) key.Op ≡ x → Came t ms x
unfolding value
came t [] x e = inr (e, tt)
came t (Set j y ∷ ms) x e = elim (came (Set j y ∷ t) ms x e) [
  | inl p ↦ inl (record { place = suc p.place; at = p.at; last = p.last })
  | inr p ↦ came-behind j y x t ms p.0 p.1
]
came t (Say w n ∷ ms) x e = elim (came (Say w n ∷ t) ms x e) [
  | inl p ↦ inl (record { place = suc p.place; at = p.at; last = p.last })
  | inr p ↦ inr (p.0, (tt, p.1))
]

take-at : (ms : List Mark) (n p : ℕ) (m : Mark) → IsAt p (take n ms) m → IsAt p ms m
take-at ms zero p m i = absurd i
take-at [] (suc n) p m i = absurd i
take-at (x ∷ xs) (suc n) zero m i = i
take-at (x ∷ xs) (suc n) (suc p) m i = take-at xs n p m i

append-more : (xs ys : List Entry) (e : Entry) → (xs ++ ys) ++ e ∷ [] ≡ xs ++ (ys ++ e ∷ [])
append-more [] ys e = refl
append-more (x ∷ xs) ys e = ap (λ (zs : List Entry). x ∷ zs) (append-more xs ys e)

one-more : (P : Entry → Type 0) (xs : List Entry) (e : Entry) → AllByRecursion P xs → P e → AllByRecursion P (xs ++ e ∷ [])
one-more P [] e a p = (p, tt)
one-more P (x ∷ xs) e a p = (a.0, one-more P xs e a.1 p)

-- an entry before asked for it, and this one leaves it
asked-before : (U : Setup) (journal : List Entry) (e : Entry) (k : OpKind) (since : Millis) (skip : Bool) → LeaveOperation e.marks → WasAsked U journal k since skip → WasAsked U (journal ++ e ∷ []) k since skip
asked-before U journal e k since skip l w = record {
  before = w.before;
  entry = w.entry;
  later = w.later ++ e ∷ [];
  journal_is = ap (λ (xs : List Entry). xs ++ e ∷ []) w.journal_is ∙ append-more w.before (w.entry ∷ w.later) e;
  granted = w.granted;
  asks = w.asks;
  passes = w.passes;
  place = w.place;
  asked = w.asked;
  last = w.last;
  last_of_all = one-more (λ (d : Entry). LeaveOperation d.marks) w.later e w.last_of_all l;
}

-- this entry asked for it, by its first n marks
asked-here : (U : Setup) (journal : List Entry) (e : Entry) (n : ℕ) (k : OpKind) (since : Millis) (skip : Bool) → IsLegalEntry U journal e → Latest (take n e.marks) (waits k since skip)
    → WasAsked U (journal ++ cut_at n e ∷ []) k since skip
asked-here U journal e n k since skip l p =
    let w = marks-by e.verdict U journal e refl l in
    let i = take-at e.marks n p.place (waits k since skip) p.at in
    let a = all-at (Lets U (trail_of journal) e.event) e.marks p.place (waits k since skip) w.lets i k since skip refl in
    record {
      before = journal;
      entry = cut_at n e;
      later = [];
      journal_is = refl;
      granted = w.granted p.place (waits k since skip) i;
      asks = a.0;
      passes = a.1;
      place = p.place;
      asked = p.at;
      last = p.last;
      last_of_all = tt;
    }

abbrev WaitingWasAsked : Setup → List Entry → Type 0
WaitingWasAsked U journal = (k : OpKind) (since : Millis) (skip : Bool) → value (trail_of journal) key.Op ≡ fact.Operation (Waiting k since skip) → WasAsked U journal k since skip

asked-entry : (U : Setup) (before : List Entry) (e : Entry) (n : ℕ) → IsLegalEntry U before e → WaitingWasAsked U before → WaitingWasAsked U (before ++ cut_at n e ∷ [])
asked-entry U before e n l w k since skip q =
    elim (came (trail_of before) (take n e.marks) (fact.Operation (Waiting k since skip)) (ap (λ (t : Trail). value t key.Op) (sym (after-more [] before (cut_at n e))) ∙ q)) [
      | inl p ↦ asked-here U before e n k since skip l p
      | inr p ↦ asked-before U before (cut_at n e) k since skip p.1 (w k since skip p.0)
    ]

take-all : (ms : List Mark) → take (length ms) ms ≡ ms
take-all [] = refl
take-all (m ∷ ms) = ap (λ (xs : List Mark). m ∷ xs) (take-all ms)

asked-whole : (U : Setup) (before : List Entry) (e : Entry) → IsLegalEntry U before e → WaitingWasAsked U before → WaitingWasAsked U (before ++ e ∷ [])
asked-whole U before e l w =
    let P : List Mark → Type 0 = λ ms. WaitingWasAsked U (before ++ record e { marks = ms } ∷ []) in
    subst P (take-all e.marks) (asked-entry U before e (length e.marks) l w)

pub append-one : (xs : List Entry) (e : Entry) (ys : List Entry) → (xs ++ e ∷ []) ++ ys ≡ xs ++ e ∷ ys
append-one [] e ys = refl
append-one (x ∷ xs) e ys = ap (λ (zs : List Entry). x ∷ zs) (append-one xs e ys)

pub append-none : (xs : List Entry) → xs ++ [] ≡ xs
append-none [] = refl
append-none (x ∷ xs) = ap (λ (zs : List Entry). x ∷ zs) (append-none xs)

asked-after : (U : Setup) (before es : List Entry) → IsLegalAfter U before es → WaitingWasAsked U before → WaitingWasAsked U (before ++ es)
asked-after U before [] l w = (let P : List Entry → Type 0 = WaitingWasAsked U in subst P (sym (append-none before)) w)
asked-after U before (e ∷ es) l w =
    let P : List Entry → Type 0 = WaitingWasAsked U in
    subst P (append-one before e es) (asked-after U (before ++ e ∷ []) es l.1 (asked-whole U before e l.0 w))

asked-start : (U : Setup) → WaitingWasAsked U []
unfolding value
asked-start U k since skip e = cc

asked-journal : (U : Setup) (journal : List Entry) → IsLegal U journal → WaitingWasAsked U journal
asked-journal U journal l = asked-after U [] journal l (asked-start U)

-- ---- the law

begins : (U : Setup) (journal : List Entry) (e : Entry) → IsLegal U journal → IsLegalEntry U journal e → (n : ℕ) (k : OpKind) → IsAt n e.marks (runs k) → Begins U journal e n k
begins U journal e l m n k i =
    let a = begun-at U (trail_of journal) e.marks n k (entry-begun U journal e m (sound-journal U journal l) (journal-begun U journal l)) i in
    let q = ap (λ (t : Trail). value t key.Op) (after-more [] journal (cut_at n e)) ∙ a.waited in
    record { may = a; asked = asked-entry U journal e n m (asked-journal U journal l) k a.since a.skip q }

pub powered : (U : Setup) (journal : List Entry) (e : Entry) → IsLegal U journal → IsLegalEntry U journal e → IsPowered U journal e
powered U journal e l m =
    let P : Trail → Type 0 = AreHeld U in
    record { begins = begins U journal e l m; held = subst P (after-more [] journal e) (sound-entry U journal e m (sound-journal U journal l)).held }
