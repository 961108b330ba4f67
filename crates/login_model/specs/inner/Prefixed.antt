-- Words in a text that goes on.
use Rattle.std.specs.Prelude.{ℕ, List, ◌∷◌}
use Rattle.std.specs.List.{flat_map}

-- words, a byte before each
abbrev pub prefixed : ℕ → List (List ℕ) → List ℕ
prefixed c words = flat_map (λ (word : List ℕ). c ∷ word) words

-- words, a space before each
abbrev pub spaced : List (List ℕ) → List ℕ
spaced words = prefixed 32 words
