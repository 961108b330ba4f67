-- Kinds of names.
use Rattle.std.specs.Prelude.{◌≡◌, Bool, true, false, Option, Some}
use Rattle.login_model.specs.declared.fact.Key.{Key}
use Rattle.login_model.specs.declared.fact.Fact.{Fact}
use Rattle.login_model.specs.Start.{start_fact}

-- a strict order in which any two are the same or one is below the other
pub record IsOrder {A : Type 0} (lt : A → A → Bool) : Type 0 where
  pub irreflexive : (a : A) → lt a a ≡ false
  pub transitive : (a b c : A) → lt a b ≡ true → lt b c ≡ true → lt a c ≡ true
  pub total : (a b : A) → lt a b ≡ false → lt b a ≡ false → a ≡ b

-- a key that is about a name is the name's own, and the first name alone is there at the start
pub record AreKeys {A : Type 0} (name_in : Key → Option A) (key_of : A → Key) (is_fact : Fact → Bool) (first : Option A) : Type 0 where
  pub own : (k : Key) (a : A) → name_in k ≡ Some a → k ≡ key_of a
  pub named : (a : A) → name_in (key_of a) ≡ Some a
  pub start : (a : A) → is_fact (start_fact (key_of a)) ≡ true → first ≡ Some a
  pub begins : (a : A) → first ≡ Some a → is_fact (start_fact (key_of a)) ≡ true
