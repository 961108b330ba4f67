-- Blanks, and what stands at the ends of a text.
use Rattle.std.specs.Prelude.{ℕ, ◌==◌, ◌||◌, ◌-◌, Bool, List, [], ◌∷◌, reverse, length, take, slice_index, Option, Some, None, if◌then◌else◌}

-- a space or a tab
abbrev pub is_blank : ℕ → Bool
is_blank b = (b == 32) || (b == 9)

-- a text without the bytes at its front that pass a test
abbrev pub from_first : (ℕ → Bool) → List ℕ → List ℕ
from_first test [] = []
from_first test (b ∷ bs) = if test b then from_first test bs else b ∷ bs

-- a text without those at its end
unfoldable pub to_last : (ℕ → Bool) → List ℕ → List ℕ
to_last test text = reverse (from_first test (reverse text))

-- a text without blanks at both ends
abbrev pub trimmed : List ℕ → List ℕ
trimmed text = to_last is_blank (from_first is_blank text)

-- a line that ends with a backslash, without it
unfoldable pub continued : List ℕ → Option (List ℕ)
continued line = if slice_index line (length line - 1) == 92 then Some (take (length line - 1) line) else None
