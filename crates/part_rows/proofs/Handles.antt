-- What holds of each handle of a list.
use Rattle.std.proofs.Common.{◌≡◌, ℕ, zero, suc, ◌<◌, List, [], ◌∷◌, ◌++◌, All, get_or, sym, subst, arith}
use Rattle.std.proofs.lemmas.List.Elements.{All-append}

pub all_more : {A : Type 0} (P : A → Type 0) (xs ys : List A) (y : A) → ys ≡ xs ++ y ∷ [] → All P xs → P y → All P ys
all_more P xs ys y e all one = subst (All P) (sym e) (All-append P xs (y ∷ []) all (λ k d below. last k d below))
  where
    last : (k : ℕ) (d : _) → k < 1 → P (get_or (y ∷ []) k d)
    last zero d b = one
    last (suc k) d b = absurd (omega (arith, b))

pub all_first : {A : Type 0} (P : A → Type 0) (xs ys : List A) (x : A) → xs ≡ x ∷ ys → All P xs → P x
all_first P xs ys x e all = subst (All P) e all 0 x (omega arith)

pub all_rest : {A : Type 0} (P : A → Type 0) (xs ys : List A) (x : A) → xs ≡ x ∷ ys → All P xs → All P ys
all_rest P xs ys x e all = λ k d below. subst (All P) e all (suc k) d (omega (arith, below))
