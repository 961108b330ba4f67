-- Fronts of lists.
use Rattle.std.specs.Prelude.{◌≡◌, ℕ, zero, suc, Bool, true, false, List, [], ◌∷◌}

-- so many pass from the front on, and the next one does not
abbrev pub IsFront : {A : Type 0} → (A → Bool) → ℕ → List A → Type 0
IsFront p zero [] = Unit {0}
IsFront p zero (x ∷ xs) = p x ≡ false
IsFront p (suc n) [] = ⊥
IsFront p (suc n) (x ∷ xs) = (p x ≡ true) × IsFront p n xs
