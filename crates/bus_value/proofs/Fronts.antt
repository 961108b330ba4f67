-- The first of the values that bytes spell.
use Rattle.std.proofs.Common.{◌≡◌, ◌∙◌, ℕ, zero, suc, ◌+◌, ◌≤◌, List, [], ◌∷◌, take, drop, length, min, refl, ap, sym, Ok, Err, None, arith}
use Rattle.std.specs.Prelude.{IsOk}
use Rattle.std.proofs.lemmas.List.{take_min}
use Rattle.bus_names.specs.Types.{Shape}
use Rattle.bus_value.specs.declared.fault.ValueFault.{ValueFault}
use Rattle.bus_value.specs.declared.order.Order.{Order}
use Rattle.bus_value.specs.declared.values.Spelled.{Spelled}
use Rattle.bus_value.specs.Faults.{and_then}
use Rattle.bus_value.specs.inner.Held.{read_in, values_in}
use Rattle.bus_value.specs.inner.Nesting.{nesting_all}
use Rattle.bus_value.specs.Reading.{Answer, Reading, made, in_turn, read, levels, read_all}
use Rattle.bus_value.specs.Values.{Val}
use Rattle.bus_value.proofs.HeldLaws.{are_in}
use Rattle.bus_value.proofs.ValueSound.{all_ended}

-- the types in front are nested no deeper
pub nesting_front : (n : ℕ) (ts : List Shape) → nesting_all (take n ts) ≤ nesting_all ts
nesting_front zero ts = omega arith
nesting_front (suc n) [] = omega arith
nesting_front (suc n) (t ∷ ts) = let k = nesting_front n ts in omega (arith, k)

-- the values of the types in front are in front
abbrev IsFront : (Shape → Reading Val) → ℕ → List Shape → ℕ → List ℕ → List Val → Type 0
IsFront f n ts at bytes vs = (rest : ℕ × List ℕ) × (in_turn f (take n ts) at bytes ≡ Ok (take n vs, rest))

abbrev values_of : Answer (List Val) → List Val
values_of (Ok r) = r.0
values_of (Err e) = []

turn_front : (f : Shape → Reading Val) (n : ℕ) (ts : List Shape) (at : ℕ) (bytes : List ℕ) (vs : List Val) (rest : ℕ × List ℕ) → in_turn f ts at bytes ≡ Ok (vs, rest) → IsFront f n ts at bytes vs
unfolding in_turn
turn_front f zero ts at bytes vs rest h = ((at, bytes), refl)
turn_front f (suc n) [] at bytes [] rest h = ((at, bytes), refl)
turn_front f (suc n) [] at bytes (v ∷ vs) rest h = absurd (let k : [] ≡ v ∷ vs = ap values_of h in cc)
turn_front f (suc n) (t ∷ ts) at bytes vs rest h = first (turn_front f n ts) (f t at bytes) refl
  where
    Behind : Type 0
    Behind = (at : ℕ) (bytes : List ℕ) (vs : List Val) (rest : ℕ × List ℕ) → in_turn f ts at bytes ≡ Ok (vs, rest) → IsFront f n ts at bytes vs

    joined : Val × (ℕ × List ℕ) → Answer (List Val) → Answer (List Val)
    joined r found = made (λ vs. r.0 ∷ vs) found

    others : Behind → (r : Val × (ℕ × List ℕ)) → f t at bytes ≡ Ok r → (found : Answer (List Val)) → in_turn f ts r.1.0 r.1.1 ≡ found → joined r found ≡ Ok (vs, rest) → IsFront f (suc n) (t ∷ ts) at bytes vs
    others behind r is (Err e) found_is so = absurd (let k : Err e ≡ Ok (vs, rest) = so in cc)
    others behind r is (Ok q) found_is so =
        let whole : r.0 ∷ q.0 ≡ vs = ap values_of so in
        let front = behind r.1.0 r.1.1 q.0 q.1 found_is in (
          front.0,
          ap (λ x. and_then x (λ r. made (λ vs. r.0 ∷ vs) (in_turn f (take n ts) r.1.0 r.1.1))) is
              ∙ ap (joined r) front.1
              ∙ ap (λ (vs : List Val). Ok (take (suc n) vs, front.0)) whole,
        )

    first : Behind → (r : Answer Val) → f t at bytes ≡ r → IsFront f (suc n) (t ∷ ts) at bytes vs
    first behind (Err e) is = absurd (let k : Err e ≡ Ok (vs, rest) = ap (λ x. and_then x (λ r. joined r (in_turn f ts r.1.0 r.1.1))) (sym is) ∙ h in cc)
    first behind (Ok r) is = others behind r is (in_turn f ts r.1.0 r.1.1) refl (ap (λ x. and_then x (λ r. joined r (in_turn f ts r.1.0 r.1.1))) (sym is) ∙ h)

-- what is read of the types in front
pub all_front : (o : Order) (start : ℕ) (n : ℕ) (ts : List Shape) (bytes : List ℕ) (vs : List Val) → read_all o start ts bytes ≡ Ok vs → IsFront (read (levels 0) o 0 None) n ts start bytes vs
unfolding read_all
all_front o start n ts bytes vs h =
    let r = all_ended (in_turn (read (levels 0) o 0 None) ts start bytes) vs h in
    turn_front (read (levels 0) o 0 None) n ts start bytes vs (r.0, []) r.1

-- the same of bytes that are kept
pub kept_front : (s : Spelled) (n m : ℕ) (ts : List Shape) (bytes : List ℕ) (found : Answer (List Val)) → ts ≡ s.types → m ≡ min n (length ts) → bytes ≡ s.bytes → IsOk (read_in s)
    → in_turn (read (levels 0) s.order 0 None) (take m ts) (s.start + 0) (drop 0 bytes) ≡ found → (rest : ℕ × List ℕ) × (found ≡ Ok (take n (values_in (read_in s)), rest))
kept_front s n m ts bytes found types least kept h is =
    let front = all_front s.order s.start n s.types s.bytes (values_in (read_in s)) (are_in (read_in s) h) in
    let here : s.start + 0 ≡ s.start = omega arith in
    let same : take m ts ≡ take n s.types = ap (λ k. take k ts) least ∙ take_min n ts ∙ ap (take n) types in (
      front.0,
      sym is ∙ ap (λ at. in_turn (read (levels 0) s.order 0 None) (take m ts) at bytes) here
          ∙ ap (λ us. in_turn (read (levels 0) s.order 0 None) us s.start bytes) same
          ∙ ap (λ bs. in_turn (read (levels 0) s.order 0 None) (take n s.types) s.start bs) kept ∙ front.1,
    )

pub same_values : (vs ws : List Val) (x rest : ℕ × List ℕ) (found : Answer (List Val)) → found ≡ Ok (vs, x) → found ≡ Ok (ws, rest) → vs ≡ ws
same_values vs ws x rest found a b = ap values_of (sym a ∙ b)

pub no_fault : (e : ValueFault) (ws : List Val) (rest : ℕ × List ℕ) (found : Answer (List Val)) → found ≡ Err e → found ≡ Ok (ws, rest) → ⊥
no_fault e ws rest found a b = cc
