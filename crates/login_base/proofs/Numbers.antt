-- Numbers in digits.
use Rattle.std.proofs.Common.{◌≡◌, ℕ, ◌<◌, ◌≤◌, ◌^◌, List, length, get_or, refl, arith, zero, suc, Result, Ok, Err, ◌∙◌, ap, sym, IfOk, Option, Some, None, Bool, true, false, ltb, ◌&&◌, cond}
use Rattle.std.specs.Fmt.{decimal}
use Rattle.std.specs.Str.{bytes_eq}
use Rattle.std.specs.Str.Parse.{ParsesUnsigned, IsNumeral, digits_value, AllDigits}
use Rattle.std.specs.Str.{IsUtf8}
use Rattle.std.proofs.lemmas.Fmt.{decimal_is_IsNumeral, first_decimal, decimal_digit, parse-decimal, decimal-digits_value}
use Rattle.std.proofs.lemmas.Str.Parse.{digit_at, parse_plain, tells_digits, numerals_by_value, IsNumeralModel}
use Rattle.std.proofs.lemmas.Bool.Decides.{nat_tests}
use Rattle.std.proofs.lemmas.Slice.Eq.{bytes_eq-Decides}
use borrow.Author.Tests.{ltb-true}
use Rattle.std.specs.Int.{IsInRange}
use Rattle.std.proofs.lemmas.Fmt.{IsAscii-decimal}
use Rattle.std.proofs.lemmas.Str.{IsUtf8-from_ascii}
use Rattle.login_base.specs.inner.Plain.{IsPlain}
use Rattle.login_base.specs.Number.{decimal_below, number_of, whole_of}

own : IsNumeralModel (AllDigits 10) (digits_value 10)
own = numerals_by_value (AllDigits 10) tells_digits

one_zero : (n : ℕ) → n < 2 ^ 64 → get_or (decimal n) 0 0 ≡ 48 → length (decimal n) ≡ 1
one_zero zero small e = ap length (decimal_digit 0 (omega arith))
one_zero (suc n) small e = let h = first_decimal (suc n) (omega arith) (omega arith) in absurd (omega (arith, h, e))

pub decimal_IsPlain : (n : ℕ) → n < 2 ^ 64 → IsPlain (decimal n)
decimal_IsPlain n small =
    let h : IsNumeral 10 (decimal n) × (digits_value 10 (decimal n) ≡ n) = decimal_is_IsNumeral n (omega arith) in
    let digit : IsInRange 48 57 (get_or (decimal n) 0 0) = digit_at (decimal n) 0 h.0.1 h.0.0 in
    (h.0.0, λ e. omega (arith, e, digit), one_zero n small)

by_tests : (b c : Bool) (n m : ℕ) → cond (b && c) (Some m) None ≡ Some n → (b ≡ true) × (c ≡ true) × (m ≡ n)
by_tests true true n m e = (refl, refl, cc)
by_tests true false n m e = cc
by_tests false c n m e = cc

-- ---- below a limit

-- what is spelled in decimal is read
below-decimal : (limit n : ℕ) → n < limit → limit ≤ 2 ^ 64 → decimal_below limit (decimal n) ≡ Some n
below-decimal limit n small few =
    let h : IsNumeral 10 (decimal n) × (digits_value 10 (decimal n) ≡ n) = decimal_is_IsNumeral n (omega arith) in
    let below : ltb n limit ≡ true = grind (arith, nat_tests) in
    let same : bytes_eq (decimal n) (decimal n) ≡ true = (bytes_eq-Decides (decimal n) (decimal n)).1 refl in
    rw (h.1, below, same) refl

-- what is read is spelled so
below_is : (limit : ℕ) (word : List ℕ) (n : ℕ) → decimal_below limit word ≡ Some n → (word ≡ decimal n) × (n < limit)
below_is limit word n e =
    let t = by_tests (ltb (digits_value 10 word) limit) (bytes_eq (decimal (digits_value 10 word)) word) n (digits_value 10 word) e in
    let below : digits_value 10 word < limit = ltb-true _ _ t.0 in
    let same : decimal (digits_value 10 word) ≡ word = (bytes_eq-Decides (decimal (digits_value 10 word)) word).0 t.1 in
    (sym same ∙ ap decimal t.2, omega (arith, below, t.2))

-- a word that is no number's spelling is not read
below_none : (limit : ℕ) (word : List ℕ) → ((n : ℕ) → n < limit → word ≡ decimal n → ⊥) → decimal_below limit word ≡ None
below_none limit word none = by (decimal_below limit word) refl
  where
    by : (o : Option ℕ) → decimal_below limit word ≡ o → o ≡ None
    by None e = refl
    by (Some n) e = let h = below_is limit word n e in absurd (none n h.1 h.0)

-- ---- as std parses

parsed_is_decimal : {E : Type 0} (bits : ℕ) (word : List ℕ) (r : Result ℕ E) → 2 ^ bits ≤ 2 ^ 64 → IsPlain word → ParsesUnsigned bits 10 word r
    → IfOk r (λ n. decimal_below (2 ^ bits) word ≡ Some n)
parsed_is_decimal {E} bits word (Ok n) few plain h =
    let k = parse_plain own {E = E} bits word (Ok n) h plain.1 in
    let spelled : decimal n ≡ word = rw k.1 (decimal-digits_value own word k.0.0 plain.0 plain.2 (omega (arith, k.0.2))) in
    let small : n < 2 ^ bits = omega (arith, k.0.2, k.1) in
    ap (decimal_below (2 ^ bits)) (sym spelled) ∙ below-decimal (2 ^ bits) n small few
parsed_is_decimal bits word (Err e) few plain h = tt

pub decimal_is_parsed : {E : Type 0} (bits : ℕ) (word : List ℕ) (r : Result ℕ E) (e : E) (n : ℕ) → 2 ^ bits ≤ 2 ^ 64 → ParsesUnsigned bits 10 word r → r ≡ Err e
    → n < 2 ^ bits → word ≡ decimal n → ⊥
decimal_is_parsed bits word r e n few h is small w = let k = parse-decimal bits n word r small (omega arith) w h in cc

pub decimal_is_utf8 : (word : List ℕ) (n : ℕ) → n < 2 ^ 64 → word ≡ decimal n → IsUtf8 word
decimal_is_utf8 word n small w = rw w (IsUtf8-from_ascii (decimal n) (IsAscii-decimal n (omega arith)))

-- ---- of 32 and of 64 bits

pub number_of-decimal : (n : ℕ) → n < 2 ^ 32 → number_of (decimal n) ≡ Some n
unfolding number_of
number_of-decimal n small = below-decimal (2 ^ 32) n small (omega arith)

pub number_of_is : (word : List ℕ) (n : ℕ) → number_of word ≡ Some n → (word ≡ decimal n) × (n < 2 ^ 32)
unfolding number_of
number_of_is word n e = below_is (2 ^ 32) word n e

pub number_of_none : (word : List ℕ) → ((n : ℕ) → n < 2 ^ 32 → word ≡ decimal n → ⊥) → number_of word ≡ None
unfolding number_of
number_of_none word none = below_none (2 ^ 32) word none

pub number_is_parsed : {E : Type 0} (word : List ℕ) (r : Result ℕ E) → IsPlain word → ParsesUnsigned 32 10 word r → IfOk r (λ n. number_of word ≡ Some n)
unfolding number_of
number_is_parsed word r plain h = parsed_is_decimal 32 word r (omega arith) plain h

pub whole_of-decimal : (n : ℕ) → n < 2 ^ 64 → whole_of (decimal n) ≡ Some n
unfolding whole_of
whole_of-decimal n small = below-decimal (2 ^ 64) n small (omega arith)

pub whole_of_is : (word : List ℕ) (n : ℕ) → whole_of word ≡ Some n → (word ≡ decimal n) × (n < 2 ^ 64)
unfolding whole_of
whole_of_is word n e = below_is (2 ^ 64) word n e

pub whole_of_none : (word : List ℕ) → ((n : ℕ) → n < 2 ^ 64 → word ≡ decimal n → ⊥) → whole_of word ≡ None
unfolding whole_of
whole_of_none word none = below_none (2 ^ 64) word none

pub whole_is_parsed : {E : Type 0} (word : List ℕ) (r : Result ℕ E) → IsPlain word → ParsesUnsigned 64 10 word r → IfOk r (λ n. whole_of word ≡ Some n)
unfolding whole_of
whole_is_parsed word r plain h = parsed_is_decimal 64 word r (omega arith) plain h
