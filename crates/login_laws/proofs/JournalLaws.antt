-- A list of events has at most one legal journal.
use Rattle.std.proofs.Common.{◌≡◌, ◌+◌, List, [], ◌∷◌, ◌++◌, length, refl, ap, sym, ◌∙◌, subst, arith}
use Rattle.login_model.specs.Legal.{IsLegalAfter, IsLegalEntry, answered, events_of, stepped, trail_of}
use Rattle.login_model.specs.Policy.{verdict}
use Rattle.login_model.specs.Trail.{Trail, after}
use Rattle.login_model.specs.declared.mark.Entry.{Entry}
use Rattle.login_model.specs.declared.mark.Mark.{Mark}
use Rattle.login_model.specs.declared.setup.Setup.{Setup}

-- one list of marks leads from one trail to another
pub length-after : (t : Trail) (ms : List Mark) → length (after t ms) ≡ length t + length ms
length-after t [] = omega arith
length-after t (m ∷ ms) = let e = length-after (m ∷ t) ms in omega arith

same-after : (t u : Trail) (ms ns : List Mark) → length ms ≡ length ns → after t ms ≡ after u ns → (t ≡ u) × (ms ≡ ns)
same-after t u [] [] l e = (e, refl)
same-after t u [] (n ∷ ns) l e = absurd (omega arith)
same-after t u (m ∷ ms) [] l e = absurd (omega arith)
same-after t u (m ∷ ms) (n ∷ ns) l e =
    let i = same-after (m ∷ t) (n ∷ u) ms ns (omega arith) e in
    let a = i.0 in let b = i.1 in
    let x : m ≡ n = cc in let y : t ≡ u = cc in (y, (let z : m ∷ ms ≡ n ∷ ns = cc in z))

pub one-marks : (t : Trail) (ms ns : List Mark) → after t ms ≡ after t ns → ms ≡ ns
one-marks t ms ns e =
    let a = length-after t ms in let b = length-after t ns in let c = ap length e in
    (same-after t t ms ns (omega arith) e).1

entry-one : (U : Setup) (before : List Entry) (e d : Entry) → IsLegalEntry U before e → IsLegalEntry U before d → e.event ≡ d.event → e ≡ d
entry-one U before e d l m p =
    let t = trail_of before in
    let q : e.verdict ≡ d.verdict = l.verdict_is ∙ ap (verdict U t) p ∙ sym m.verdict_is in
    let a : e.answer ≡ d.answer = l.answer_is ∙ (λ i. answered U (q i) (p i) before) ∙ sym m.answer_is in
    let s : stepped U e.verdict e.event t ≡ stepped U d.verdict d.event t = λ i. stepped U (q i) (p i) t in
    let n : e.marks ≡ d.marks = one-marks t e.marks d.marks (l.marks_are ∙ s ∙ sym m.marks_are) in
    λ i. record { event = p i; verdict = q i; answer = a i; marks = n i }

pub one-after : (U : Setup) (before a b : List Entry) → IsLegalAfter U before a → IsLegalAfter U before b → events_of a ≡ events_of b → a ≡ b
one-after U before [] [] l m p = refl
one-after U before [] (d ∷ ds) l m p = cc
one-after U before (e ∷ es) [] l m p = cc
one-after U before (e ∷ es) (d ∷ ds) l m p =
    let head : e.event ≡ d.event = cc in
    let tail : events_of es ≡ events_of ds = cc in
    let k = entry-one U before e d l.0 m.0 head in
    let P : Entry → Type 0 = λ x. IsLegalAfter U (before ++ x ∷ []) ds in
    let rest = one-after U (before ++ e ∷ []) es ds l.1 (subst P (sym k) m.1) tail in
    λ i. k i ∷ rest i
