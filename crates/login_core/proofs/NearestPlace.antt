-- The nearest of some places, either way, and in an ascending list.
use Rattle.std.proofs.Common.{◌≡◌, ℕ, nat_lt, Bool, true, false, cond, Option, Some, None, List, [], ◌∷◌, refl, ap, sym, ◌∙◌, inl, inr}
use Rattle.std.specs.Option.{option_or}
use Rattle.login_model.specs.Kind.{IsOrder}
use Rattle.login_model.specs.Names.{is_above}
use Rattle.login_model.specs.Turning.{first_of, first_above, last_of, last_below}
use Rattle.login_model.proofs.Keys.{test}
use Rattle.login_model.proofs.NameLaws.{number_order}
use Rattle.login_model.proofs.InOrder.{IsIn, Ascending}
use Rattle.login_core.specs.declared.turning.Way.{Way}
use Rattle.login_core.specs.declared.turning.Way.TheVariants.{Next, Previous}
use Rattle.login_core.specs.inner.Places.{is_before, behind}

-- places in their order, either way
pub way-order : (w : Way) → IsOrder (is_before w)
way-order Next = record { irreflexive = λ a. number_order.irreflexive a; transitive = λ a b c. number_order.transitive a b c; total = λ a b. number_order.total a b }
way-order Previous = record { irreflexive = λ a. number_order.irreflexive a; transitive = λ a b c p q. number_order.transitive c b a q p; total = λ a b p q. number_order.total a b q p }

-- the nearest of these behind a place
abbrev pub IsNearest : (ℕ → ℕ → Bool) → List ℕ → Option ℕ → Option ℕ → Type 0
IsNearest lt xs above None = (a : ℕ) → IsIn a xs → is_above lt above a ≡ true → ⊥
IsNearest lt xs above (Some n) = IsIn n xs × (is_above lt above n ≡ true) × ((a : ℕ) → IsIn a xs → is_above lt above a ≡ true → lt a n ≡ false)

not-both : (b : Bool) → b ≡ true → b ≡ false → ⊥
not-both b p q = let z : true ≡ false = sym p ∙ q in cc

self-not : (lt : ℕ → ℕ → Bool) (o : IsOrder lt) (a x : ℕ) → a ≡ x → lt a x ≡ false
self-not lt o a x e = ap (λ (z : ℕ). lt z x) e ∙ o.irreflexive x

not-back : (lt : ℕ → ℕ → Bool) (o : IsOrder lt) (a x : ℕ) → lt x a ≡ true → lt a x ≡ false
not-back lt o a x p = elim (test (lt a x)) [
  | inl y ↦ absurd (not-both (lt x x) (o.transitive x a x p y) (o.irreflexive x))
  | inr n ↦ n
]

-- one more place that is not behind changes nothing
skip : (lt : ℕ → ℕ → Bool) (xs : List ℕ) (above r : Option ℕ) (x : ℕ) → is_above lt above x ≡ false → IsNearest lt xs above r → IsNearest lt (x ∷ xs) above r
skip lt xs above None x e h = λ a i f. elim i [ inl p ↦ not-both (is_above lt above x) (sym (ap (is_above lt above) p) ∙ f) e | inr j ↦ h a j f ]
skip lt xs above (Some n) x e h =
    (inr h.0, h.1, λ a i f. elim i [ inl p ↦ absurd (not-both (is_above lt above x) (sym (ap (is_above lt above) p) ∙ f) e) | inr j ↦ h.2 a j f ])

-- there is one at most
pub nearest-one : (lt : ℕ → ℕ → Bool) (o : IsOrder lt) (xs : List ℕ) (above r s : Option ℕ) → IsNearest lt xs above r → IsNearest lt xs above s → r ≡ s
nearest-one lt o xs above None None h k = refl
nearest-one lt o xs above None (Some n) h k = absurd (h n k.0 k.1)
nearest-one lt o xs above (Some n) None h k = absurd (k n h.0 h.1)
nearest-one lt o xs above (Some n) (Some m) h k = ap Some (o.total n m (k.2 n h.0 h.1) (h.2 m k.0 k.1))

-- in an ascending list it is the first
first-more : (lt : ℕ → ℕ → Bool) (o : IsOrder lt) (x : ℕ) (xs : List ℕ) (above r : Option ℕ) (b : Bool) → is_above lt above x ≡ b → Ascending lt (x ∷ xs) → IsNearest lt xs above r
    → IsNearest lt (x ∷ xs) above (cond b (Some x) r)
first-more lt o x xs above r true e a h = (inl refl, e, λ y i f. elim i [ inl p ↦ self-not lt o y x p | inr j ↦ not-back lt o y x (a.0 y j) ])
first-more lt o x xs above r false e a h = skip lt xs above r x e h

-- and the other way the last
abbrev back : (ℕ → ℕ → Bool) → ℕ → ℕ → Bool
back lt a b = lt b a

last-more : (lt : ℕ → ℕ → Bool) (o : IsOrder lt) (x : ℕ) (xs : List ℕ) (above r : Option ℕ) (b : Bool) → is_above (back lt) above x ≡ b → Ascending lt (x ∷ xs) → IsNearest (back lt) xs above r
    → IsNearest (back lt) (x ∷ xs) above (option_or r (cond b (Some x) None))
last-more lt o x xs above (Some n) b e a h = (inr h.0, h.1, λ y i f. elim i [ inl p ↦ ap (lt n) p ∙ not-back lt o n x (a.0 n h.0) | inr j ↦ h.2 y j f ])
last-more lt o x xs above None true e a h =
    (inl refl, e, λ y i f. elim i [ inl p ↦ ap (lt x) p ∙ o.irreflexive x | inr j ↦ absurd (h y j f) ])
last-more lt o x xs above None false e a h = skip (back lt) xs above None x e h

pub behind-nearest : (w : Way) (above : Option ℕ) (xs : List ℕ) → Ascending nat_lt xs → IsNearest (is_before w) xs above (behind w above xs)
behind-nearest Next None [] a = λ y i f. i
behind-nearest Next (Some p) [] a = λ y i f. i
behind-nearest Previous None [] a = λ y i f. i
behind-nearest Previous (Some p) [] a = λ y i f. i
behind-nearest Next None (x ∷ xs) a = first-more nat_lt number_order x xs None (first_of xs) true refl a (behind-nearest Next None xs a.1)
behind-nearest Next (Some p) (x ∷ xs) a = first-more nat_lt number_order x xs (Some p) (first_above nat_lt p xs) (nat_lt p x) refl a (behind-nearest Next (Some p) xs a.1)
behind-nearest Previous None (x ∷ xs) a = last-more nat_lt number_order x xs None (last_of xs) true refl a (behind-nearest Previous None xs a.1)
behind-nearest Previous (Some p) (x ∷ xs) a = last-more nat_lt number_order x xs (Some p) (last_below nat_lt p xs) (nat_lt x p) refl a (behind-nearest Previous (Some p) xs a.1)
