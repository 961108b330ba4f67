-- How bytes are spelled in hex.
use Rattle.std.specs.Prelude.{ℕ, ◌/◌, ◌%◌, ◌==◌, ◌&&◌, Bool, List, [], ◌∷◌, length}
use Rattle.std.specs.List.{flat_map, list_all}
use Rattle.login_base.specs.Hex.{hex_digit, is_hex_digit}

-- a byte as two digits, in lower case
abbrev pub spell_pair : ℕ → List ℕ
spell_pair b = hex_digit (b / 16) ∷ hex_digit (b % 16) ∷ []

unfoldable pub spell_hex : List ℕ → List ℕ
spell_hex bytes = flat_map spell_pair bytes

-- the identity of a server: 32 such digits
abbrev pub is_guid : List ℕ → Bool
is_guid word = (length word == 32) && list_all is_hex_digit word
