-- The first broken rule of a list: what stands whatever comes behind, and how the rules of an action are one.
use Rattle.std.proofs.Common.{◌≡◌, Bool, true, false, refl, List, [], ◌∷◌, ◌++◌, Option, Some, None}
use Rattle.std.specs.Option.{option_or}
use Rattle.login_model.specs.Policy.{first_broken, unless}
use Rattle.login_model.specs.declared.rule.Rule.{Rule}
use Rattle.login_model.specs.declared.rule.Verdict.TheVariants.{Granted}

pub stays : (xs ys : List (Option Rule)) → (first_broken xs ≡ Granted → ⊥) → first_broken (xs ++ ys) ≡ first_broken xs
stays [] ys n = absurd (n refl)
stays (Some r ∷ xs) ys n = refl
stays (None ∷ xs) ys n = stays xs ys n

-- where no rule of a list is broken, those behind it are looked at
pub goes_on : (xs ys : List (Option Rule)) → first_broken xs ≡ Granted → first_broken (xs ++ ys) ≡ first_broken ys
goes_on [] ys e = refl
goes_on (Some r ∷ xs) ys e = cc
goes_on (None ∷ xs) ys e = goes_on xs ys e

-- two rules are one where the first that is broken counts
pub either : (r q : Option Rule) (xs : List (Option Rule)) → first_broken (option_or r q ∷ xs) ≡ first_broken (r ∷ q ∷ xs)
either (Some x) q xs = refl
either None q xs = refl

-- the same of two rules that count where a test does not hold
pub both_unless : (b : Bool) (r q : Option Rule) (xs : List (Option Rule)) → first_broken (unless b (option_or r q) ∷ xs) ≡ first_broken (unless b r ∷ unless b q ∷ xs)
both_unless true r q xs = refl
both_unless false r q xs = either r q xs

-- the rest of a list, behind its first rule
pub behind : (r : Option Rule) (xs ys : List (Option Rule)) → first_broken xs ≡ first_broken ys → first_broken (r ∷ xs) ≡ first_broken (r ∷ ys)
behind (Some x) xs ys e = refl
behind None xs ys e = e
