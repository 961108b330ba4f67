-- Elements that are read one after another.
use Rattle.std.proofs.Common.{◌≡◌, ℕ, zero, suc, ◌+◌, ◌-◌, ◌<◌, ◌≤◌, List, [], ◌∷◌, ◌++◌, length, length-append, length-drop, get_or, drop, drop-cons, refl, ap, sym, ◌∙◌, Result, Ok, Err, arith, append_assoc, append-nil, add-one}
use Rattle.std.proofs.Math.ListN.{drop_of_length-le}
use Rattle.bus_names.specs.Types.{Shape}
use Rattle.bus_value.specs.declared.fault.ValueFault.{ValueFault}
use Rattle.bus_value.specs.Values.{Val}
use Rattle.bus_value.specs.Faults.{and_then}
use Rattle.bus_value.specs.Reading.{Reading, Answer, made, all_of, to_end, in_turn}

-- what was read before, and the rest
abbrev pub before : {A : Type 0} → List A → Result (List A) ValueFault → Result (List A) ValueFault
before done (Ok xs) = Ok (done ++ xs)
before done (Err e) = Err e

pub all_of-end : {A : Type 0} (most : ℕ) (f : Reading A) (at : ℕ) → all_of most f at [] ≡ Ok []
unfolding all_of
all_of-end zero f at = refl
all_of-end (suc most) f at = refl

pub all_of-cons : {A : Type 0} (most : ℕ) (f : Reading A) (at b : ℕ) (bs : List ℕ) →
    all_of (suc most) f at (b ∷ bs) ≡ and_then (f at (b ∷ bs)) (λ r. and_then (all_of most f r.1.0 r.1.1) (λ xs. Ok (r.0 ∷ xs)))
unfolding all_of
all_of-cons most f at b bs = refl

pub all_of-step : {A : Type 0} (most : ℕ) (f : Reading A) (at : ℕ) (bytes : List ℕ) (x : A) (at2 : ℕ) (rest : List ℕ) → 0 < length bytes → f at bytes ≡ Ok (x, (at2, rest)) →
    all_of (suc most) f at bytes ≡ and_then (all_of most f at2 rest) (λ xs. Ok (x ∷ xs))
all_of-step most f at [] x at2 rest h e = absurd (omega arith)
all_of-step {A = A} most f at (b ∷ bs) x at2 rest h e =
    all_of-cons most f at b bs ∙ ap (λ (a : Answer A). and_then a (λ r. and_then (all_of most f r.1.0 r.1.1) (λ xs. Ok (r.0 ∷ xs)))) e

pub all_of-fail : {A : Type 0} (most : ℕ) (f : Reading A) (at : ℕ) (bytes : List ℕ) (e : ValueFault) → 0 < length bytes → f at bytes ≡ Err e → all_of (suc most) f at bytes ≡ Err e
all_of-fail most f at [] e h is = absurd (omega arith)
all_of-fail {A = A} most f at (b ∷ bs) e h is =
    all_of-cons most f at b bs ∙ ap (λ (a : Answer A). and_then a (λ r. and_then (all_of most f r.1.0 r.1.1) (λ xs. Ok (r.0 ∷ xs)))) is

-- the elements before this place are read, and the rest is still to be
pub record Round {A : Type 0} (f : Reading A) (start at next : ℕ) (bytes : List ℕ) (done : List A) : Type 0 where
  pub most : ℕ
  pub enough : length (drop next bytes) ≤ most
  pub within : next ≤ length bytes
  pub so_far : to_end f (start + at) (drop at bytes) ≡ before done (all_of most f (start + next) (drop next bytes))

before_none : {A : Type 0} (r : Result (List A) ValueFault) → r ≡ before [] r
before_none (Ok xs) = refl
before_none (Err e) = refl

before_more : {A : Type 0} (done : List A) (x : A) (r : Result (List A) ValueFault) → before done (and_then r (λ xs. Ok (x ∷ xs))) ≡ before (done ++ x ∷ []) r
before_more done x (Ok xs) = ap (λ ys. Ok ys) (sym (append_assoc done (x ∷ []) xs))
before_more done x (Err e) = refl

pub round_first : {A : Type 0} (f : Reading A) (start at : ℕ) (bytes : List ℕ) → at ≤ length bytes → Round f start at at bytes []
round_first f start at bytes h = record { most = length (drop at bytes); enough = omega arith; within = h; so_far = before_none (all_of (length (drop at bytes)) f (start + at) (drop at bytes)) }

some_left : (next : ℕ) (bytes : List ℕ) → next < length bytes → 0 < length (drop next bytes)
some_left next bytes h = let l : length (drop next bytes) ≡ length bytes - next = length-drop next bytes in omega arith

pub round_next : {A : Type 0} (f : Reading A) (start at next : ℕ) (bytes : List ℕ) (done : List A) (x : A) (end : ℕ) → Round f start at next bytes done → next < length bytes →
    f (start + next) (drop next bytes) ≡ Ok (x, (start + end, drop end bytes)) → next < end → end ≤ length bytes → Round f start at end bytes (done ++ x ∷ [])
round_next {A = A} f start at next bytes done x end r less e ahead within = by r.most r.enough r.so_far
  where
    by : (k : ℕ) → length (drop next bytes) ≤ k → to_end f (start + at) (drop at bytes) ≡ before done (all_of k f (start + next) (drop next bytes)) → Round f start at end bytes (done ++ x ∷ [])
    by zero few so = let some : 0 < length (drop next bytes) = some_left next bytes less in absurd (omega arith)
    by (suc k) few so =
        let some : 0 < length (drop next bytes) = some_left next bytes less in
        let l : length (drop next bytes) ≡ length bytes - next = length-drop next bytes in
        let m : length (drop end bytes) ≡ length bytes - end = length-drop end bytes in
        record {
          most = k;
          enough = omega arith;
          within = within;
          so_far = so ∙ ap (λ (q : Result (List A) ValueFault). before done q) (all_of-step k f (start + next) (drop next bytes) x (start + end) (drop end bytes) some e) ∙ before_more done x (all_of k f (start + end) (drop end bytes));
        }

pub round_last : {A : Type 0} (f : Reading A) (start at next : ℕ) (bytes : List ℕ) (done : List A) → Round f start at next bytes done → length bytes ≤ next → to_end f (start + at) (drop at bytes) ≡ Ok done
round_last {A = A} f start at next bytes done r h =
    r.so_far ∙ ap (λ (x : List ℕ). before done (all_of r.most f (start + next) x)) (drop_of_length-le bytes h)
    ∙ ap (λ (q : Result (List A) ValueFault). before done q) (all_of-end r.most f (start + next)) ∙ ap (λ (ys : List A). Ok ys) (append-nil done)

pub round_fails : {A : Type 0} (f : Reading A) (start at next : ℕ) (bytes : List ℕ) (done : List A) (e : ValueFault) → Round f start at next bytes done → next < length bytes →
    f (start + next) (drop next bytes) ≡ Err e → to_end f (start + at) (drop at bytes) ≡ Err e
round_fails {A = A} f start at next bytes done e r less is = by r.most r.enough r.so_far
  where
    by : (k : ℕ) → length (drop next bytes) ≤ k → to_end f (start + at) (drop at bytes) ≡ before done (all_of k f (start + next) (drop next bytes)) → to_end f (start + at) (drop at bytes) ≡ Err e
    by zero few so = let some : 0 < length (drop next bytes) = some_left next bytes less in absurd (omega arith)
    by (suc k) few so = so ∙ ap (λ (q : Result (List A) ValueFault). before done q) (all_of-fail k f (start + next) (drop next bytes) e (some_left next bytes less) is)

-- the values of the first types are read
pub record Turn (f : Shape → Reading Val) (ts : List Shape) (start at next i : ℕ) (bytes : List ℕ) (done : List Val) : Type 0 where
  pub so_far : in_turn f ts (start + at) (drop at bytes) ≡ made (λ vs. done ++ vs) (in_turn f (drop i ts) (start + next) (drop next bytes))
  pub count : length done ≡ i
  pub ahead : at + i ≤ next
  pub within : next ≤ length bytes

pub in_turn-end : (f : Shape → Reading Val) (at : ℕ) (bytes : List ℕ) → in_turn f [] at bytes ≡ Ok ([], (at, bytes))
unfolding in_turn
in_turn-end f at bytes = refl

pub in_turn-cons : (f : Shape → Reading Val) (t : Shape) (ts : List Shape) (at : ℕ) (bytes : List ℕ) → in_turn f (t ∷ ts) at bytes ≡ and_then (f t at bytes) (λ r. made (λ vs. r.0 ∷ vs) (in_turn f ts r.1.0 r.1.1))
unfolding in_turn
in_turn-cons f t ts at bytes = refl

made_none : (r : Answer (List Val)) → r ≡ made (λ vs. [] ++ vs) r
made_none (Ok r) = refl
made_none (Err e) = refl

made_more : (done : List Val) (x : Val) (r : Answer (List Val)) → made (λ vs. done ++ vs) (made (λ vs. x ∷ vs) r) ≡ made (λ vs. (done ++ x ∷ []) ++ vs) r
made_more done x (Ok r) = ap (λ ys. Ok (ys, r.1)) (sym (append_assoc done (x ∷ []) r.0))
made_more done x (Err e) = refl

pub turn_first : (f : Shape → Reading Val) (ts : List Shape) (start at : ℕ) (bytes : List ℕ) → at ≤ length bytes → Turn f ts start at at 0 bytes []
turn_first f ts start at bytes h = record { so_far = made_none (in_turn f ts (start + at) (drop at bytes)); count = refl; ahead = omega arith; within = h }

pub turn_next : (f : Shape → Reading Val) (ts : List Shape) (start at next i : ℕ) (bytes : List ℕ) (done : List Val) (t : Shape) (x : Val) (end : ℕ) → Turn f ts start at next i bytes done → i < length ts → t ≡ get_or ts i t →
    f t (start + next) (drop next bytes) ≡ Ok (x, (start + end, drop end bytes)) → next < end → end ≤ length bytes → Turn f ts start at end (i + 1) bytes (done ++ x ∷ [])
turn_next f ts start at next i bytes done t x end r less is e ahead within = record {
  so_far =
      r.so_far
      ∙ ap (λ (us : List Shape). made (λ vs. done ++ vs) (in_turn f us (start + next) (drop next bytes))) (drop-cons ts i t less ∙ ap (λ (u : Shape). u ∷ drop (suc i) ts) (sym is))
      ∙ ap (λ (a : Answer (List Val)). made (λ vs. done ++ vs) a) (in_turn-cons f t (drop (suc i) ts) (start + next) (drop next bytes) ∙ ap (λ (a : Answer Val). and_then a (λ r. made (λ vs. r.0 ∷ vs) (in_turn f (drop (suc i) ts) r.1.0 r.1.1))) e)
      ∙ made_more done x (in_turn f (drop (suc i) ts) (start + end) (drop end bytes))
      ∙ ap (λ (k : ℕ). made (λ vs. (done ++ x ∷ []) ++ vs) (in_turn f (drop k ts) (start + end) (drop end bytes))) (sym (add-one i));
  count = let l : length (done ++ x ∷ []) ≡ length done + 1 = length-append done (x ∷ []) in let c : length done ≡ i = r.count in omega arith;
  ahead = let a : at + i ≤ next = r.ahead in omega arith;
  within = within;
}

pub turn_last : (f : Shape → Reading Val) (ts : List Shape) (start at next i : ℕ) (bytes : List ℕ) (done : List Val) → Turn f ts start at next i bytes done → length ts ≤ i →
    in_turn f ts (start + at) (drop at bytes) ≡ Ok (done, (start + next, drop next bytes))
turn_last f ts start at next i bytes done r h =
    r.so_far ∙ ap (λ (us : List Shape). made (λ vs. done ++ vs) (in_turn f us (start + next) (drop next bytes))) (drop_of_length-le ts h)
    ∙ ap (λ (a : Answer (List Val)). made (λ vs. done ++ vs) a) (in_turn-end f (start + next) (drop next bytes)) ∙ ap (λ (ys : List Val). Ok (ys, (start + next, drop next bytes))) (append-nil done)

pub turn_fails : (f : Shape → Reading Val) (ts : List Shape) (start at next i : ℕ) (bytes : List ℕ) (done : List Val) (t : Shape) (e : ValueFault) → Turn f ts start at next i bytes done → i < length ts → t ≡ get_or ts i t →
    f t (start + next) (drop next bytes) ≡ Err e → in_turn f ts (start + at) (drop at bytes) ≡ Err e
turn_fails f ts start at next i bytes done t e r less is fails =
    r.so_far
    ∙ ap (λ (us : List Shape). made (λ vs. done ++ vs) (in_turn f us (start + next) (drop next bytes))) (drop-cons ts i t less ∙ ap (λ (u : Shape). u ∷ drop (suc i) ts) (sym is))
    ∙ ap (λ (a : Answer (List Val)). made (λ vs. done ++ vs) a) (in_turn-cons f t (drop (suc i) ts) (start + next) (drop next bytes) ∙ ap (λ (a : Answer Val). and_then a (λ r. made (λ vs. r.0 ∷ vs) (in_turn f (drop (suc i) ts) r.1.0 r.1.1))) fails)
