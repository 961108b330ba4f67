-- What the words of a line say.
use Rattle.std.specs.Prelude.{ℕ, ℤ, pos, negsuc, ◌^◌, ◌+◌, ◌-◌, ◌*◌, ◌==◌, ◌&&◌, not, nat_le, nat_lt, Bool, true, false, if◌then◌else◌, Option, Some, None, List, [], ◌∷◌, length, codes}
use Rattle.std.specs.List.{list_all}
use Rattle.std.specs.Option.{option_and_then}
use Rattle.std.specs.Str.{bytes_eq}
use Rattle.login_base.specs.Number.{number_of}
use Rattle.login_base.specs.Texts.{is_text}
use Rattle.recording.specs.Text.{spell_text}
use Rattle.login_base.specs.Hex.{hex_value, is_hex_digit}
use Rattle.recording.specs.Hex.{spell_hex}

-- a number above 0
abbrev pub above_zero : ℕ → Option ℕ
above_zero n = if n == 0 then None else Some n

abbrev pub positive_of : List ℕ → Option ℕ
positive_of word = option_and_then above_zero (number_of word)

-- the number, where it is below this bound
abbrev pub if_below : ℕ → ℕ → Option ℕ
if_below bound n = if nat_lt n bound then Some n else None

-- a number below 2^16
abbrev pub small_of : List ℕ → Option ℕ
small_of word = option_and_then (if_below (2 ^ 16)) (number_of word)

-- a number of 31 bits as a signed one
abbrev pub from_zero : ℕ → Option ℤ
from_zero n = if nat_lt n (2 ^ 31) then Some (pos n) else None

-- the negative of a number from 1 to 2^31
abbrev pub negative : ℕ → Option ℤ
negative n = if nat_le 1 n && nat_le n (2 ^ 31) then Some (negsuc (n - 1)) else None

-- a signed number of 32 bits: a number, or `-` and one that is not 0
abbrev pub signed_of : List ℕ → Option ℤ
signed_of [] = None
signed_of (b ∷ bs) = if b == 45 then option_and_then negative (number_of bs) else option_and_then from_zero (number_of (b ∷ bs))

abbrev pub flag_of : List ℕ → Option Bool
flag_of word =
    if bytes_eq word (codes "true") then Some true
    else if bytes_eq word (codes "false") then Some false
    else None

-- what stands right before a byte of a word: no escape, `%`, or `%` and a digit of this value
pub data Escape : Type 0 where
  Plain : Escape
  Percent : Escape
  Digit : ℕ → Escape

-- the text whose spelling these bytes are, if they are one
abbrev pub unspelled : Escape → List ℕ → List ℕ
unspelled escape [] = []
unspelled Plain (b ∷ bs) = if b == 37 then unspelled Percent bs else b ∷ unspelled Plain bs
unspelled Percent (b ∷ bs) = unspelled (Digit (hex_value b)) bs
unspelled (Digit high) (b ∷ bs) = (16 * high + hex_value b) ∷ unspelled Plain bs

abbrev pub is_short_text : ℕ → List ℕ → Bool
is_short_text most text = is_text text && nat_le (length text) most

-- the text of at most so many bytes whose spelling the word is
unfoldable pub text_of : ℕ → List ℕ → Option (List ℕ)
text_of most word =
    if is_short_text most (unspelled Plain word) && bytes_eq (spell_text (unspelled Plain word)) word
    then Some (unspelled Plain word) else None

-- the bytes that pairs of hex digits stand for, whatever the digits are
abbrev pub unhexed : List ℕ → List ℕ
unhexed (high ∷ low ∷ rest) = (16 * hex_value high + hex_value low) ∷ unhexed rest
unhexed _ = []

-- the bytes, one at least, whose spelling in hex the word is
unfoldable pub hex_of : List ℕ → Option (List ℕ)
hex_of word =
    if not (length word == 0) && list_all is_hex_digit word && bytes_eq (spell_hex (unhexed word)) word
    then Some (unhexed word) else None
