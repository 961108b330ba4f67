-- Numbers in decimal.
use Rattle.std.specs.Prelude.{ℕ, List, nat_lt, ◌&&◌, ◌^◌, Option, Some, None, if◌then◌else◌}
use Rattle.std.specs.Fmt.{decimal}
use Rattle.std.specs.Str.{bytes_eq}
use Rattle.std.specs.Str.Parse.{digits_value}

-- the number below a limit whose decimal spelling the word is, without sign or leading zeros
abbrev pub decimal_below : ℕ → List ℕ → Option ℕ
decimal_below limit word =
    if nat_lt (digits_value 10 word) limit && bytes_eq (decimal (digits_value 10 word)) word
    then Some (digits_value 10 word) else None

-- of 32 bits
unfoldable pub number_of : List ℕ → Option ℕ
number_of word = decimal_below (2 ^ 32) word

-- of 64 bits
unfoldable pub whole_of : List ℕ → Option ℕ
whole_of word = decimal_below (2 ^ 64) word
