-- Digits that are put one behind the other, and how many there are.
use Rattle.std.proofs.Common.{◌≡◌, ℕ, ◌+◌, ◌/◌, ◌%◌, ◌<◌, ◌≤◌, ◌^◌, length, arith, ap, ◌∙◌}
use Rattle.std.specs.Fmt.{decimal}
use Rattle.std.proofs.lemmas.Fmt.{decimal_step, decimal_digit, length-decimal-le}
use Rattle.std.proofs.lemmas.List.{length_push}

pub length_long : (n : ℕ) → 10 ≤ n → n < 2 ^ 64 → length (decimal n) ≡ length (decimal (n / 10)) + 1
length_long n h k = ap length (decimal_step n h k) ∙ length_push (decimal (n / 10)) (48 + n % 10)

pub length_one : (n : ℕ) → n < 10 → length (decimal n) ≡ 1
length_one n h = ap length (decimal_digit n h)

pub ruleset of_digits = (length_long, length_one, decimal_step, decimal_digit)

-- of 32 bits
pub decimal_short : (n : ℕ) → n < 2 ^ 32 → length (decimal n) ≤ 10
decimal_short n h = length-decimal-le 10 n (omega arith) (omega arith) (omega arith)

-- of 64 bits
pub decimal_long : (n : ℕ) → n < 2 ^ 64 → length (decimal n) ≤ 20
decimal_long n h = length-decimal-le 20 n (omega arith) (omega arith) (omega arith)
