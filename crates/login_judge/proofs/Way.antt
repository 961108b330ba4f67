-- What is in the way of an operation: a lock that blocks it, or nothing.
use Rattle.std.proofs.Common.{◌≡◌, ◌∙◌, ◌||◌, refl, sym, ap, Bool, true, false, not, [], ◌∷◌, Option, Some, None}
use Rattle.std.specs.Option.{is_some, option_or}
use Rattle.login_model.specs.Answers.{less, said_if}
use Rattle.login_model.specs.Policy.{first_broken, unless}
use Rattle.login_model.specs.declared.rule.Rule.{Rule}
use Rattle.login_model.specs.declared.table.Say.{Say}
use Rattle.login_model.specs.declared.table.Say.TheVariants.{No, Challenge, Yes}
use Rattle.login_judge.proofs.Broken.{either}

one-of-two : {b : Bool} → b ≡ true → b ≡ false → ⊥
one-of-two p q = (let z : true ≡ false = sym p ∙ q in cc)

-- where no lock blocks it, one rule is left: that of the plain action
pub free : (passes blocked others : Bool) (lock r q : Option Rule) → lock ≡ None → blocked ≡ is_some lock
    → first_broken (unless (not (not others)) (option_or r q) ∷ []) ≡ first_broken (unless passes lock ∷ unless (not (not (others || blocked))) r ∷ unless (not (not (others || blocked))) q ∷ [])
free passes true others lock r q e f = absurd (one-of-two (sym f) (ap is_some e))
free passes false others (Some x) r q e f = cc
free true false true None r q e f = refl
free false false true None r q e f = refl
free true false false None r q e f = either r q []
free false false false None r q e f = either r q []

-- nothing allows less than what is said to be allowed
less-yes : (x : Say) → x ≡ less x Yes
less-yes No = refl
less-yes Challenge = refl
less-yes Yes = refl

-- where one does, passing it is all that is asked
pub past : (blocked others : Bool) (x y : Say) → blocked ≡ true → x ≡ less (said_if blocked x) (said_if (not (others || blocked)) y)
past true true x y e = less-yes x
past true false x y e = less-yes x
past false others x y e = absurd (one-of-two e refl)
