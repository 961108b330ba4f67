-- Sums by number.
use Rattle.std.specs.Prelude.{ℕ, ◌≡◌, ◌==◌, if◌then◌else◌, Bool, true, List}
use Rattle.std.specs.Map.{lookup}
use Rattle.std.specs.Option.{is_some, unwrap_or}

-- the sum of a number: zero where there is none
abbrev pub sum_in : List (ℕ × ℕ) → ℕ → ℕ
sum_in sums n = unwrap_or (lookup (λ number. n == number) sums) 0

-- whether a number has a row
abbrev pub has_row : List (ℕ × ℕ) → ℕ → Bool
has_row sums n = is_some (lookup (λ number. n == number) sums)

-- whichever numbers had a row have one
abbrev pub KeepRows : List (ℕ × ℕ) → List (ℕ × ℕ) → Type 0
KeepRows old new = (n : ℕ) → has_row old n ≡ true → has_row new n ≡ true

-- what one number has of so much: another has none of it
abbrev pub part : ℕ → ℕ → ℕ → ℕ
part number amount n = if number == n then amount else 0
