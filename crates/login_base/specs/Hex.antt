-- Digits of base 16, in lower case.
use Rattle.std.specs.Prelude.{ℕ, ◌+◌, ◌-◌, nat_le, nat_lt, ◌&&◌, ◌||◌, Bool, if◌then◌else◌}
use Rattle.login_base.specs.Names.{is_digit}

-- the digit of a number below 16
abbrev pub hex_digit : ℕ → ℕ
hex_digit n = if nat_lt n 10 then 48 + n else 87 + n

abbrev pub is_hex_letter : ℕ → Bool
is_hex_letter b = nat_le 97 b && nat_le b 102

abbrev pub is_hex_digit : ℕ → Bool
is_hex_digit b = is_digit b || is_hex_letter b

-- the value of a digit, and 0 of any other byte
abbrev pub hex_value : ℕ → ℕ
hex_value b = if is_digit b then b - 48 else if is_hex_letter b then b - 87 else 0
