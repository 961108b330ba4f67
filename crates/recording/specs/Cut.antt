-- The lines of a text.
use Rattle.std.specs.Prelude.{ℕ, ◌≢◌, List, [], ◌∷◌, ◌==◌, if◌then◌else◌}

-- it has no line feed
abbrev pub NoLineFeed : List ℕ → Type 0
NoLineFeed [] = Unit {0}
NoLineFeed (b ∷ bs) = (b ≢ 10) × NoLineFeed bs

-- the bytes through the first line feed, or all of them where there is none
abbrev pub first_line : List ℕ → List ℕ
first_line [] = []
first_line (b ∷ bs) = if b == 10 then b ∷ [] else b ∷ first_line bs

-- a byte in front of the first of these lines
abbrev pub before_line : ℕ → List (List ℕ) → List (List ℕ)
before_line b [] = (b ∷ []) ∷ []
before_line b (line ∷ more) = (b ∷ line) ∷ more

-- the lines, each with its line feed; the last may have none
abbrev pub cut : List ℕ → List (List ℕ)
cut [] = []
cut (b ∷ bs) = if b == 10 then (b ∷ []) ∷ cut bs else before_line b (cut bs)
