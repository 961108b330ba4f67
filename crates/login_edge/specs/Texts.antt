-- Texts that only some objects tell: None where the object does not tell it.
use Rattle.std.specs.Prelude.{ℕ, ◌≡◌, List, ◌++◌, Option, take}
use Rattle.std.specs.Option.{option_map}

-- the text gained these bytes at its end
abbrev pub Gains : Option (List ℕ) → Option (List ℕ) → List ℕ → Type 0
Gains old new text = new ≡ option_map (λ held. held ++ text) old

-- the text gained some front of these bytes at its end
pub record GainsFront (old new : Option (List ℕ)) (text : List ℕ) : Type 0 where
  pub count : ℕ
  pub gained : Gains old new (take count text)
