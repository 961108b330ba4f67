-- Users' numbers in hex.
use Rattle.std.proofs.Common.{◌≡◌, ℕ, zero, suc, ◌+◌, ◌*◌, ◌/◌, ◌%◌, ◌<◌, ◌≤◌, ◌^◌, List, [], ◌∷◌, length, get_or, refl, arith, ap, sym, ◌∙◌, Option, Some, None, Result, Ok, Err, Bool, nat_eq, slice_index}
use Rattle.std.proofs.lemmas.Bool.Decides.{nat_tests}
use Rattle.std.specs.Int.{IsInRange}
use Rattle.std.specs.Prelude.{◌↔◌, IsTrue, MatchResult}
use Rattle.std.specs.Option.{option_eq}
use Rattle.std.specs.Fmt.{decimal}
use Rattle.std.specs.Result.{result_unwrap_or}
use Rattle.std.specs.Str.Parse.{IsNumeral, digits_value}
use Rattle.std.proofs.lemmas.Fmt.{decimal_is_IsNumeral}
use Rattle.std.proofs.lemmas.Str.Parse.{digit_at}
use Rattle.hex.specs.Hex.{IsBytes, decode_pairs, decode_sized, digit_or_error, hex_digit_value, encode_lower, encode_with, lower_digits, pair_value, ◌>>=◌}
use Rattle.hex.specs.declared.error.FromHexError.{FromHexError}
use Rattle.hex.proofs.HexLemmas.{IsDigits-lower_digits, length-encode_with, decode_of-even, decode_sized-ok, decode_sized-twice, decode_sized-encode_lower}
use Rattle.login_base.specs.Number.{number_of}
use Rattle.login_base.proofs.Numbers.{number_of-decimal, number_of_is}
use Rattle.login_base.proofs.Decimals.{decimal_short}

-- a digit of hex below ten is a digit of ten
small_digit : (c v : ℕ) → hex_digit_value c ≡ Some v → v < 10 → c ≡ 48 + v
small_digit c v h small = grind (arith, nat_tests)

-- the digits below ten in the table
table_digit : (d : ℕ) → d < 10 → slice_index lower_digits d ≡ 48 + d
table_digit d small = small_digit (slice_index lower_digits d) d (IsDigits-lower_digits d (omega arith)) small

below_sixteen : (c v : ℕ) → hex_digit_value c ≡ Some v → v < 16
below_sixteen c v h = grind (arith, nat_tests)

-- two digits that spell a byte which is a decimal digit
record SpellsDigit (a b v : ℕ) : Type 0 where
  high : a ≡ 51
  low : b ≡ v

pair_digit : (a b i v : ℕ) (x y : Option ℕ) → hex_digit_value a ≡ x → hex_digit_value b ≡ y → IsInRange 48 57 v
    → (digit_or_error a i x >>= λ h. digit_or_error b (i + 1) y >>= λ l. Ok (h * 16 + l)) ≡ Ok v → SpellsDigit a b v
pair_digit a b i v None y ha hb digit e = cc
pair_digit a b i v (Some h) None ha hb digit e = cc
pair_digit a b i v (Some h) (Some l) ha hb digit e =
    let sum : h * 16 + l ≡ v = ap (λ (r : Result ℕ FromHexError). result_unwrap_or r 0) e in
    let low = below_sixteen b l hb in
    let three : h ≡ 3 = omega (arith, sum, low, digit) in
    let first = small_digit a h ha (omega (arith, three)) in
    let second = small_digit b l hb (omega (arith, sum, three, digit)) in
    record { high = omega (arith, first, three); low = omega (arith, second, sum, three) }

-- each of them is a decimal digit
abbrev IsDecimal : List ℕ → Type 0
IsDecimal [] = Unit {0}
IsDecimal (d ∷ ds) = IsInRange 48 57 d × IsDecimal ds

from_places : (ds : List ℕ) → ((k : ℕ) → k < length ds → IsInRange 48 57 (get_or ds k 0)) → IsDecimal ds
from_places [] h = tt
from_places (d ∷ ds) h = (h 0 (omega arith), from_places ds (λ k below. h (suc k) (omega arith)))

decimal_IsDecimal : (n : ℕ) → n < 2 ^ 32 → IsDecimal (decimal n)
decimal_IsDecimal n small =
    let h : IsNumeral 10 (decimal n) × (digits_value 10 (decimal n) ≡ n) = decimal_is_IsNumeral n (omega arith) in
    from_places (decimal n) (λ k below. digit_at (decimal n) k h.0.1 below)

-- what a byte and more bytes show
split_pair : (a b i : ℕ) (ds : List ℕ) (byte : Result ℕ FromHexError) (rest : Result (List ℕ) FromHexError)
    → (byte >>= λ d. rest >>= λ more. Ok (d ∷ more)) ≡ Ok ds
    → (d : ℕ) × (more : List ℕ) × (byte ≡ Ok d) × (rest ≡ Ok more) × (ds ≡ d ∷ more)
split_pair a b i ds (Ok d) (Ok more) e = (d, more, refl, refl, cc)
split_pair a b i ds (Ok d) (Err f) e = cc
split_pair a b i ds (Err f) rest e = cc

-- text that decodes to decimal digits is their hex
encode-decode : (i : ℕ) (text ds : List ℕ) → decode_pairs i text ≡ Ok ds → IsDecimal ds → text ≡ encode_lower ds
unfolding decode_pairs encode_with
encode-decode i [] ds e h = let none : ds ≡ [] = cc in rw none refl
encode-decode i (a ∷ []) ds e h = cc
encode-decode i (a ∷ b ∷ rest) ds e h =
    let s = split_pair a b i ds (pair_value a b i) (decode_pairs (i + 2) rest) e in
    let all : IsDecimal (s.0 ∷ s.1) = let P : List ℕ → Type 0 = IsDecimal in rw s.4 at h in
    let digit = pair_digit a b i s.0 (hex_digit_value a) (hex_digit_value b) refl refl all.0 s.2 in
    let ih = encode-decode (i + 2) rest s.1 s.3 all.1 in
    let three : s.0 / 16 ≡ 3 = omega (arith, all.0) in
    let high : slice_index lower_digits (s.0 / 16) ≡ 51 = rw three refl in
    let low : slice_index lower_digits (s.0 % 16) ≡ s.0 = table_digit (s.0 % 16) (omega (arith, all.0)) ∙ omega (arith, all.0) in
    rw s.4 (cc)

decimal_bytes : (ds : List ℕ) → IsDecimal ds → IsBytes ds
decimal_bytes [] h i = omega arith
decimal_bytes (d ∷ ds) h zero = omega (arith, h.0)
decimal_bytes (d ∷ ds) h (suc i) = decimal_bytes ds h.1 i

-- text that decodes to a number's digits is the number's identity
pub identity_read : (text : List ℕ) (count n : ℕ) (digits : List ℕ) → decode_sized text count ≡ Ok digits
    → number_of digits ≡ Some n → text ≡ encode_lower (decimal n)
identity_read text count n digits e read =
    let is = number_of_is digits n read in
    let len = decode_sized-ok text count digits e in
    let pairs : decode_pairs 0 text ≡ Ok digits =
    sym (decode_of-even text (omega (arith, len))) ∙ sym (decode_sized-twice text count len) ∙ e in
    encode-decode 0 text (decimal n) (pairs ∙ ap Ok is.0) (decimal_IsDecimal n is.1)

-- a number's identity has at most twenty digits
pub identity_short : (n : ℕ) → n < 2 ^ 32 → length (encode_lower (decimal n)) / 2 ≤ 10
identity_short n small =
    let len = length-encode_with lower_digits (decimal n) in
    let short = decimal_short n (omega arith) in
    omega (arith, len, short)

-- a number's identity decodes to its digits
pub identity_decodes : (text : List ℕ) (n : ℕ) → n < 2 ^ 32 → text ≡ encode_lower (decimal n)
    → decode_sized text (length text / 2) ≡ Ok (decimal n)
identity_decodes text n small is =
    let len = length-encode_with lower_digits (decimal n) in
    let half : length (decimal n) ≡ length (encode_lower (decimal n)) / 2 = omega (arith, len) in
    rw is (decode_sized-encode_lower (decimal n) (length (encode_lower (decimal n)) / 2) half (decimal_bytes (decimal n) (decimal_IsDecimal n small)))

-- and these are the number
pub identity_number : (n : ℕ) (digits text : List ℕ) → n < 2 ^ 32 → text ≡ encode_lower (decimal n)
    → decode_sized text (length text / 2) ≡ Ok digits → number_of digits ≡ Some n
identity_number n digits text small is e =
    let same : digits ≡ decimal n = ap (λ (r : Result (List ℕ) FromHexError). result_unwrap_or r []) (sym e ∙ identity_decodes text n small is) in
    rw same (number_of-decimal n small)

same_number : (o : Option ℕ) (n : ℕ) (t : Bool) → t ≡ option_eq nat_eq o (Some n) → IsTrue t ↔ (o ≡ Some n)
same_number None n t e = (λ h. cc, λ h. cc)
same_number (Some m) n t e = (λ h. let same : m ≡ n = grind (arith, nat_tests) in ap Some same, λ h. let same : m ≡ n = cc in grind (arith, nat_tests))

-- a decoder's answer where it decoded: the digits
decoded : (d : Result (List ℕ) FromHexError) (r : Result Unit FromHexError) (out : List ℕ) (u : Unit)
    → MatchResult d (λ bytes. (r ≡ Ok tt) × (out ≡ bytes)) (λ e. r ≡ Err e) → r ≡ Ok u → d ≡ Ok out
decoded (Ok bytes) r out u v is = rw v.1 refl
decoded (Err e) r out u v is = cc

-- and where it did not
undecoded : (d : Result (List ℕ) FromHexError) (r : Result Unit FromHexError) (out : List ℕ) (e : FromHexError) (digits : List ℕ)
    → MatchResult d (λ bytes. (r ≡ Ok tt) × (out ≡ bytes)) (λ e. r ≡ Err e) → r ≡ Err e → d ≡ Ok digits → ⊥
undecoded (Ok bytes) r out e digits v is h = cc
undecoded (Err f) r out e digits v is h = cc

pub identity_ok : (number n : ℕ) (text out : List ℕ) (r : Result Unit FromHexError) (u : Unit) (t : Bool) → number < 2 ^ 32
    → MatchResult (decode_sized text n) (λ bytes. (r ≡ Ok tt) × (out ≡ bytes)) (λ e. r ≡ Err e) → r ≡ Ok u
    → n ≡ length text / 2 → t ≡ option_eq nat_eq (number_of out) (Some number) → IsTrue t ↔ (text ≡ encode_lower (decimal number))
identity_ok number n text out r u t small v is half tested =
    let d = decoded (decode_sized text n) r out u v is in
    let same = same_number (number_of out) number t tested in (
      λ h. identity_read text n number out d (same.0 h),
      λ h. same.1 (identity_number number out text small h (rw half at d)),
    )

pub identity_err : (number n : ℕ) (text out : List ℕ) (r : Result Unit FromHexError) (e : FromHexError) → number < 2 ^ 32
    → MatchResult (decode_sized text n) (λ bytes. (r ≡ Ok tt) × (out ≡ bytes)) (λ e. r ≡ Err e) → r ≡ Err e
    → n ≡ length text / 2 → text ≡ encode_lower (decimal number) → ⊥
identity_err number n text out r e small v is half h =
    undecoded (decode_sized text n) r out e (decimal number) v is (rw half (identity_decodes text number small h))

pub identity_long : (number : ℕ) (text : List ℕ) → number < 2 ^ 32 → 10 < length text / 2 → text ≡ encode_lower (decimal number) → ⊥
identity_long number text small long h =
    let short = identity_short number small in
    let len = ap length h in
    omega (arith, short, len)
