-- One step of the reading of a name.
use Rattle.std.proofs.Common.{◌≡◌, ℕ, ◌+◌, ◌≤◌, refl, ap, subst, arith, Option, Some, None, ◌∙◌, cond, eqb, true, false, Bool, ◌&&◌, ◌⊎◌, inl, inr}
use Rattle.std.proofs.lemmas.Bool.{leb-true, le-leb}
use Rattle.std.specs.Option.{option_and_then}
use Rattle.bus_names.specs.declared.grammar.Grammar.{Grammar}
use Rattle.bus_names.specs.declared.grammar.Grammar.TheVariants.{Path, Interface, Member, WellKnown, Unique}
use Rattle.bus_names.specs.declared.grammar.Place.{Place}
use Rattle.bus_names.specs.Grammar.{step, wanted, fits, begins, stands, separator, next, checked}

pub guard_some : {A : Type 0} (b : Bool) (x y : A) → cond b (Some x) None ≡ Some y → (b ≡ true) × (x ≡ y)
guard_some true x y e = (refl, cc)
guard_some false x y e = cc

pub fits_less : (g : Grammar) (m n : ℕ) → m ≤ n → fits g n ≡ true → fits g m ≡ true
fits_less Path m n h e = refl
fits_less Interface m n h e = le-leb m 255 (let k : n ≤ 255 = leb-true n 255 e in omega arith)
fits_less Member m n h e = le-leb m 255 (let k : n ≤ 255 = leb-true n 255 e in omega arith)
fits_less WellKnown m n h e = le-leb m 255 (let k : n ≤ 255 = leb-true n 255 e in omega arith)
fits_less Unique m n h e = le-leb m 255 (let k : n ≤ 255 = leb-true n 255 e in omega arith)

-- a step is a place behind the byte, from which a name can still have as many bytes as it needs
pub checked_is : (g : Grammar) (at : ℕ) (o : Option Place) (q : Place) → option_and_then (checked g at) o ≡ Some q → (o ≡ Some q) × (fits g (at + 1 + wanted q) ≡ true)
checked_is g at None q e = cc
checked_is g at (Some p) q e =
    let h = guard_some (fits g (at + 1 + wanted p)) p q e in
    (ap Some h.1, subst (λ (r : Place). fits g (at + 1 + wanted r) ≡ true) h.1 h.0)

pub step_is : (g : Grammar) (at : ℕ) (p : Place) (b : ℕ) (q : Place) → step g at p b ≡ Some q → (next g p b ≡ Some q) × (fits g (at + 1 + wanted q) ≡ true)
step_is g at p b q e = checked_is g at (next g p b) q e

pub step_by : (g : Grammar) (at : ℕ) (p : Place) (b : ℕ) (q : Place) → next g p b ≡ Some q → fits g (at + 1 + wanted q) ≡ true → step g at p b ≡ Some q
step_by g at p b q e f =
    ap (λ (o : Option Place). option_and_then (checked g at) o) e ∙ ap (λ (c : Bool). cond c (Some q) None) f

-- a byte within an element, or behind it
pub onward_is : (s e m : Bool) (p r q : Place) → cond s (Some p) (cond (e && m) (Some r) None) ≡ Some q → ((s ≡ true) × (p ≡ q)) ⊎ ((e ≡ true) × (m ≡ true) × (r ≡ q))
onward_is true e m p r q h = inl (refl, cc)
onward_is false true true p r q h = inr (refl, refl, cc)
onward_is false true false p r q h = cc
onward_is false false m p r q h = cc

pub first_begins : (g : Grammar) → begins g 97 ≡ true
first_begins Path = refl
first_begins Interface = refl
first_begins Member = refl
first_begins WellKnown = refl
first_begins Unique = refl

pub separator_parts : (g : Grammar) → stands g (separator g) ≡ false
separator_parts Path = refl
separator_parts Interface = refl
separator_parts Member = refl
separator_parts WellKnown = refl
separator_parts Unique = refl

pub separator_same : (g : Grammar) → eqb (separator g) (separator g) ≡ true
separator_same Path = refl
separator_same Interface = refl
separator_same Member = refl
separator_same WellKnown = refl
separator_same Unique = refl
