-- How long an open line gets at least.
use Rattle.std.proofs.Common.{◌≡◌, ℕ, List, [], ◌∷◌, ◌++◌, length, refl, ap, sym, subst, Bool, true, false, eqb, ◌≢◌, arith, inl, inr, ◌⊎◌}
use Rattle.std.proofs.lemmas.Bool.Decides.{nat_tests}
use Rattle.bus_auth.specs.Cutting.{Open, cut, without_cr, IsLeastLength}
use Rattle.bus_auth.specs.Laws.{LeastLength}
use Rattle.bus_auth.proofs.Ends.{without_cr-cr, without_cr-other, least-empty, least-cr, least-other}

abbrev HasLast : List ℕ → Type 0
HasLast line = (line ≡ []) ⊎ ((front : List ℕ) × ((last : ℕ) × (line ≡ front ++ last ∷ [])))

has_last : (line : List ℕ) → HasLast line
has_last [] = inl refl
has_last (b ∷ bs) = elim (has_last bs) [
  | inl e ↦ inr ([], (b, ap (λ (xs : List ℕ). b ∷ xs) e))
  | inr (front, (last, e)) ↦ inr (b ∷ front, (last, ap (λ (xs : List ℕ). b ∷ xs) e))
]

abbrev Least : List ℕ → Type 0
Least line = cut line ≡ Open line → IsLeastLength line (length (without_cr line))

least_by : (front : List ℕ) (last : ℕ) (t : Bool) → eqb last 13 ≡ t → Least (front ++ last ∷ [])
least_by front last true e = let is : last ≡ 13 = grind (arith, nat_tests) in
    subst (λ (b : ℕ). Least (front ++ b ∷ [])) (sym is) (λ h. rw (without_cr-cr front) (least-cr front h))
least_by front last false e = λ h.
    let other : last ≢ 13 = grind (arith, nat_tests) in
    rw (without_cr-other front last other) (least-other front last other h)

pub least_length : LeastLength
least_length line = elim (has_last line) [
  | inl e ↦ λ h. subst (λ (xs : List ℕ). IsLeastLength xs (length (without_cr xs))) (sym e) (least-empty [] refl)
  | inr (front, (last, e)) ↦ subst Least (sym e) (least_by front last (eqb last 13) refl)
]
