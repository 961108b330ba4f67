-- A text that is cut at its first byte that passes a test.
use Rattle.std.proofs.Common.{◌≡◌, ℕ, ◌+◌, ◌-◌, ◌<◌, Bool, true, false, not, cond, List, [], ◌∷◌, length, length-drop, take, drop, Some, None, refl, ap, sym, ◌∙◌, arith}
use borrow.Author.Tests.{ltb-true, ltb-false}
use Rattle.std.specs.List.{list_any, before_first, after_first, slice_split, position, position_or_len, prefix_len}
use Rattle.std.proofs.lemmas.List.{take_all}
use Rattle.std.proofs.lemmas.List.Sums.{prefix_len-le-length, passes_at_first}
use Rattle.std.proofs.lemmas.List.Folds.{list_any_at}
use Rattle.std.proofs.lemmas.List.Splits.{slice_split_first}

some_if : (b : Bool) (a i : ℕ) → cond b (Some a) None ≡ Some i → (b ≡ true) × (a ≡ i)
some_if true a i e = (refl, cc)
some_if false a i e = cc

none_if : (b : Bool) (a : ℕ) → cond b (Some a) None ≡ None → b ≡ false
none_if true a e = cc
none_if false a e = refl

module _ (p : ℕ → Bool) where
  -- where a byte passes
  found_at : (xs : List ℕ) (i : ℕ) → Some i ≡ position p xs → (position_or_len p xs ≡ i) × (position_or_len p xs < length xs)
  found_at xs i e = let h = some_if _ _ i (sym e) in (h.1, ltb-true _ _ h.0)

  -- where none does
  pub found_none : (xs : List ℕ) → None ≡ position p xs → position_or_len p xs ≡ length xs
  found_none xs e =
      let h = ltb-false _ _ (none_if _ _ (sym e)) in omega (arith, h, prefix_len-le-length (λ x. not (p x)) xs)

  before_place : (xs : List ℕ) (i : ℕ) → Some i ≡ position p xs → take i xs ≡ before_first p xs
  before_place xs i e = ap (λ (n : ℕ). take n xs) (sym (found_at xs i e).0)

  after_place : (xs : List ℕ) (i : ℕ) → Some i ≡ position p xs → drop (i + 1) xs ≡ after_first p xs
  after_place xs i e = ap (λ (n : ℕ). drop (n + 1) xs) (sym (found_at xs i e).0)

  pub any_at_place : (xs : List ℕ) (i : ℕ) → Some i ≡ position p xs → list_any p xs ≡ true
  any_at_place xs i e = let h = found_at xs i e in list_any_at p xs (position_or_len p xs) 0 h.1 (passes_at_first p xs 0 h.1)

  -- the parts of a text, of which the first ends there
  pub split_here : (xs : List ℕ) (i : ℕ) → Some i ≡ position p xs
      → slice_split p xs ≡ take i xs ∷ slice_split p (take (length xs - (i + 1)) (drop (i + 1) xs))
  split_here xs i e =
      slice_split_first p xs 0 (found_at xs i e).1
      ∙ (ap (λ (before : List ℕ). before ∷ slice_split p (after_first p xs)) (sym (before_place xs i e))
      ∙ ap (λ (after : List ℕ). take i xs ∷ slice_split p after)
      (sym (after_place xs i e) ∙ sym (take_all (length xs - (i + 1)) (drop (i + 1) xs) (omega (arith, length-drop (i + 1) xs)))))

  behind_head : (x : ℕ) (xs : List ℕ) → position_or_len p (x ∷ xs) ≡ length (x ∷ xs) → (p x ≡ false) × (position_or_len p xs ≡ length xs)
  behind_head x xs e = by (p x) refl
    where
      by : (b : Bool) → p x ≡ b → (p x ≡ false) × (position_or_len p xs ≡ length xs)
      by true is = absurd (omega (arith, rw is at e))
      by false is = (is, omega (arith, rw is at e))

  none_passes : (xs : List ℕ) → position_or_len p xs ≡ length xs → (list_any p xs ≡ false) × (slice_split p xs ≡ xs ∷ [])
  none_passes [] e = (refl, refl)
  none_passes (x ∷ xs) e =
      let h = behind_head x xs e in
      let k = none_passes xs h.1 in
      (rw h.0 k.0, rw (h.0, k.1) refl)

  pub no_place : (xs : List ℕ) → None ≡ position p xs → (list_any p xs ≡ false) × (slice_split p xs ≡ xs ∷ [])
  no_place xs e = none_passes xs (found_none xs e)

-- a test that is denied twice
twice_not : (p : ℕ → Bool) (xs : List ℕ) → prefix_len (λ x. not (not (p x))) xs ≡ prefix_len p xs
twice_not p [] = refl
twice_not p (x ∷ xs) = by (p x) refl (twice_not p xs)
  where
    by : (b : Bool) → p x ≡ b → prefix_len (λ y. not (not (p y))) xs ≡ prefix_len p xs → prefix_len (λ y. not (not (p y))) (x ∷ xs) ≡ prefix_len p (x ∷ xs)
    by true e h = rw e (ap (λ (n : ℕ). 1 + n) h)
    by false e h = rw e refl

pub all_pass : (p : ℕ → Bool) (xs : List ℕ) → None ≡ position (λ x. not (p x)) xs → length xs ≡ prefix_len p xs
all_pass p xs e = sym (found_none (λ x. not (p x)) xs e) ∙ twice_not p xs
