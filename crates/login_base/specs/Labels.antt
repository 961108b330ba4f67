-- Texts as elements of object paths, as sd_bus_path_encode(3) writes them.
use Rattle.std.specs.Prelude.{ℕ, List, [], ◌∷◌, ◌++◌, ◌+◌, ◌*◌, ◌/◌, ◌%◌, nat_le, ◌==◌, ◌&&◌, ◌||◌, Bool, if◌then◌else◌}
use Rattle.std.specs.List.{flat_map}
use Rattle.login_base.specs.Hex.{hex_digit, hex_value}
use Rattle.login_base.specs.Names.{is_digit}

abbrev pub is_letter : ℕ → Bool
is_letter b = (nat_le 97 b && nat_le b 122) || (nat_le 65 b && nat_le b 90)

-- an underscore and two digits of base 16
abbrev pub escape_of : ℕ → List ℕ
escape_of b = 95 ∷ hex_digit (b / 16) ∷ hex_digit (b % 16) ∷ []

-- a byte in first place, which may be no digit
abbrev pub first_byte : ℕ → List ℕ
first_byte b = if is_letter b then b ∷ [] else escape_of b

-- a byte behind the first place
abbrev pub later_byte : ℕ → List ℕ
later_byte b = if is_letter b || is_digit b then b ∷ [] else escape_of b

-- each byte but letters and digits is escaped, and so is a digit in first place; the empty text is an underscore
abbrev pub escape : List ℕ → List ℕ
escape [] = 95 ∷ []
escape (b ∷ bs) = first_byte b ++ flat_map later_byte bs

-- the bytes of which an element that escapes some is made; `_` alone is no byte
abbrev pub decoded : List ℕ → List ℕ
decoded [] = []
decoded (a ∷ []) = if a == 95 then [] else a ∷ []
decoded (a ∷ b ∷ []) = a ∷ decoded (b ∷ [])
decoded (a ∷ b ∷ c ∷ rest) = if a == 95 then (16 * hex_value b + hex_value c) ∷ decoded rest else a ∷ decoded (b ∷ c ∷ rest)
