-- How a text is spelled as one word.
use Rattle.std.specs.Prelude.{ℕ, ◌/◌, ◌%◌, ◌==◌, ◌&&◌, not, nat_le, Bool, true, false, if◌then◌else◌, List, [], ◌∷◌, codes}
use Rattle.std.specs.List.{flat_map}
use Rattle.login_base.specs.Hex.{hex_digit}

-- a byte that stands for itself: printable ASCII but for the space and `%`
abbrev pub stands : ℕ → Bool
stands b = nat_le 33 b && nat_le b 126 && not (b == 37)

-- a byte: itself, or `%` and two hex digits
abbrev pub spell_byte : ℕ → List ℕ
spell_byte b = if stands b then b ∷ [] else 37 ∷ hex_digit (b / 16) ∷ hex_digit (b % 16) ∷ []

-- a text as one word; the empty text is `%`
unfoldable pub spell_text : List ℕ → List ℕ
spell_text [] = 37 ∷ []
spell_text (b ∷ bs) = flat_map spell_byte (b ∷ bs)

abbrev pub spell_flag : Bool → List ℕ
spell_flag true = codes "true"
spell_flag false = codes "false"
