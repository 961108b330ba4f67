-- The bytes of texts.
use Rattle.std.specs.Prelude.{ℕ, ◌<◌, ◌≢◌, List}
use Rattle.std.specs.List.{AllByRecursion}

-- each number is a byte
abbrev pub AreBytes : List ℕ → Type 0
AreBytes bs = AllByRecursion (λ b. b < 256) bs

-- each is a byte other than the line feed
abbrev pub AreRaw : List ℕ → Type 0
AreRaw bs = AllByRecursion (λ b. (b < 256) × (b ≢ 10)) bs
