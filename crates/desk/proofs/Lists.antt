-- Lists that are read by `get_elem?`, and their fronts.
use Rattle.std.proofs.Common.{◌≡◌, ◌⊎◌, ℕ, zero, suc, ◌<◌, List, [], ◌∷◌, ◌++◌, length, drop, refl, sym, ap, ◌∙◌, inl, inr, ⊎_elim, arith, append_assoc}
use mathlib.Core.Option.{some, some-ne-none, some-injective}
use lib.ListN.{get_elem?}
use Rattle.desk.specs.History.{StartsWith}

module _ {A : Type 0} where
  pub at_below : (l : List A) (i : ℕ) (a : A) → get_elem? l i ≡ some a → i < length l
  at_below [] i a e = absurd (some-ne-none a (sym e))
  at_below (x ∷ xs) zero a e = omega arith
  at_below (x ∷ xs) (suc i) a e = let h = at_below xs i a e in omega arith

  -- the place below the length of a list
  pub at_some : (l : List A) (i : ℕ) → i < length l → (a : A) × (get_elem? l i ≡ some a)
  at_some [] i lt = absurd (omega arith)
  at_some (x ∷ xs) zero lt = (x, refl)
  at_some (x ∷ xs) (suc i) lt = at_some xs i (omega arith)

  pub same_at : (l : List A) (i : ℕ) (a b : A) → get_elem? l i ≡ some a → get_elem? l i ≡ some b → a ≡ b
  same_at l i a b e f = some-injective a b (sym e ∙ f)

  pub first_of : (l : List A) (a : A) → get_elem? l 0 ≡ some a → l ≡ a ∷ drop 1 l
  first_of [] a e = absurd (some-ne-none a (sym e))
  first_of (x ∷ xs) a e = ap (λ (y : _). y ∷ xs) (some-injective x a e)

  pub at_end : (l : List A) (a b : A) (j : ℕ) → get_elem? (l ++ a ∷ []) j ≡ some b → (get_elem? l j ≡ some b) ⊎ ((j ≡ length l) × (a ≡ b))
  at_end [] a b zero e = inr (refl, some-injective a b e)
  at_end [] a b (suc j) e = absurd (some-ne-none b (sym e))
  at_end (x ∷ xs) a b zero e = inl e
  at_end (x ∷ xs) a b (suc j) e = ⊎_elim (λ h. inl h) (λ t. inr ((let h : j ≡ length xs = t.0 in let g : suc j ≡ suc (length xs) = ap suc h in g), t.1)) (at_end xs a b j e)

  pub append_nil : (xs : List A) → xs ++ [] ≡ xs
  append_nil [] = refl
  append_nil (x ∷ xs) = ap (λ (l : List _). x ∷ l) (append_nil xs)

  pub none_left : (xs : List A) → length xs ≡ 0 → xs ≡ []
  none_left [] e = refl
  none_left (x ∷ xs) e = absurd (omega (arith, e))

  pub longer_starts : (all more seen : List A) → StartsWith all seen → StartsWith (all ++ more) seen
  longer_starts all more seen s = (s.0 ++ more, ap (λ (l : List A). l ++ more) s.1 ∙ append_assoc seen s.0 more)

  pub front_nil : (xs ys : List A) → xs ++ ys ≡ [] → xs ≡ []
  front_nil [] ys e = refl
  front_nil (x ∷ xs) ys e = absurd (let n : length ((x ∷ xs) ++ ys) ≡ 0 = ap length e in omega arith)

  pub starts_nil : (all seen : List A) → StartsWith all seen → all ≡ [] → seen ≡ all
  starts_nil all seen s e = front_nil seen s.0 (sym s.1 ∙ e) ∙ sym e

  -- a property of the old elements and of the new ones
  pub each_longer : (P : A → Type 0) (xs ys : List A) → ((k : ℕ) (l : A) → get_elem? xs k ≡ some l → P l) → ((k : ℕ) (l : A) → get_elem? ys k ≡ some l → P l)
      → (k : ℕ) (l : A) → get_elem? (xs ++ ys) k ≡ some l → P l
  each_longer P [] ys f g k l e = g k l e
  each_longer P (x ∷ xs) ys f g zero l e = f zero l e
  each_longer P (x ∷ xs) ys f g (suc k) l e = each_longer P xs ys (λ i m h. f (suc i) m h) g k l e
