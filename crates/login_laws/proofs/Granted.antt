-- What the verdict granted says of the rules.
use Rattle.std.proofs.Common.{◌≡◌, not, Bool, true, false, Option, Some, None, List, [], ◌∷◌, refl}
use Rattle.std.specs.Option.{option_map}
use Rattle.login_model.specs.Policy.{broken_if, first_broken, rules, verdict}
use Rattle.login_model.specs.Trail.{Trail}
use Rattle.login_model.specs.declared.event.Event.{Event}
use Rattle.login_model.specs.declared.rule.Rule.{Rule}
use Rattle.login_model.specs.declared.rule.Verdict.TheVariants.{Granted, Denied}
use Rattle.login_model.specs.declared.setup.Setup.{Setup}

-- none of these rules is broken
abbrev pub NoneBroken : List (Option Rule) → Type 0
NoneBroken [] = Unit {0}
NoneBroken (r ∷ rs) = (r ≡ None) × NoneBroken rs

pub none-broken : (rs : List (Option Rule)) → first_broken rs ≡ Granted → NoneBroken rs
none-broken [] e = tt
none-broken (None ∷ rs) e = (refl, none-broken rs e)
none-broken (Some r ∷ rs) e = (let z : Denied r ≡ Granted = e in cc)

pub granted-rules : (U : Setup) (t : Trail) (e : Event) → verdict U t e ≡ Granted → NoneBroken (rules U t e)
unfolding verdict
granted-rules U t e g = none-broken (rules U t e) g

pub not-broken : (b : Bool) (r : Rule) → broken_if b r ≡ None → b ≡ false
not-broken true r e = cc
not-broken false r e = refl

pub not-not : (b : Bool) → not b ≡ false → b ≡ true
not-not true e = refl
not-not false e = cc

pub holds-rule : (b : Bool) (r : Rule) → broken_if (not b) r ≡ None → b ≡ true
holds-rule b r e = not-not b (not-broken (not b) r e)

-- a rule that is a value found
pub none-found : {A : Type 0} (f : A → Rule) (o : Option A) → option_map f o ≡ None → o ≡ None
none-found f None e = refl
none-found f (Some a) e = (let z : Some (f a) ≡ None = e in cc)
