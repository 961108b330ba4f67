-- Readings one after another that all gave a value, and readings that a word chooses.
use Rattle.std.proofs.Common.{◌≡◌, ℕ, refl, sym, subst, Bool, true, false, cond, Option, Some, None, List, ◌∷◌}
use Rattle.std.specs.Option.{option_map}
use Rattle.std.specs.Str.{bytes_eq}
use Rattle.std.proofs.lemmas.Slice.Eq.{bytes_eq-Decides}

pub with_rest : {A : Type 0} {x y : A} {xs ys : List A} → x ≡ y → xs ≡ ys → x ∷ xs ≡ y ∷ ys
with_rest p q = cc

pub mapped : {A D : Type 0} (f : A → D) (a : Option A) (d : D) → option_map f a ≡ Some d → (x : A) × (a ≡ Some x) × (f x ≡ d)
mapped f None d e = cc
mapped f (Some x) d e = (x, refl, cc)

-- a reading that is chosen by whether the word is this one
pub chosen : {D R : Type 0} (word text : List ℕ) (a b : Option D) (d : D) → cond (bytes_eq word text) a b ≡ Some d → (word ≡ text → a ≡ Some d → R) → (b ≡ Some d → R) → R
chosen {D} {R} word text a b d e if_so if_not = by (bytes_eq word text) refl e
  where
    by : (t : Bool) → bytes_eq word text ≡ t → cond t a b ≡ Some d → R
    by true h f = if_so ((bytes_eq-Decides word text).0 h) f
    by false h f = if_not f

-- what this first word reads, or what the others do
pub by_word : {D : Type 0} (P : D → List (List ℕ) → Type 0) (word text : List ℕ) (words : List (List ℕ)) (a b : Option D) (d : D) → cond (bytes_eq word text) a b ≡ Some d
    → (a ≡ Some d → P d (text ∷ words)) → (b ≡ Some d → P d (word ∷ words)) → P d (word ∷ words)
by_word P word text words a b d e this others = chosen word text a b d e (λ w f. subst (λ (v : List ℕ). P d (v ∷ words)) (sym w) (this f)) others
