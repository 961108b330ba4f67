-- Spans of time, in milliseconds.
use Rattle.std.specs.Prelude.{ℕ, ◌+◌, ◌*◌, ◌==◌, ◌&&◌, ◌||◌, not, nat_le, Bool, List, [], ◌∷◌, take, drop, slice_index, Option, Some, None, codes, if◌then◌else◌}
use Rattle.std.specs.Option.{option_and_then, option_map}
use Rattle.std.specs.List.{prefix_len}
use Rattle.std.specs.Char.{is_ascii_digit}
use Rattle.std.specs.Str.{bytes_eq}
use Rattle.login_base.specs.declared.ids.Millis.{Millis}
use Rattle.login_base.specs.Number.{whole_of}
use Rattle.login_model.specs.Limits.{span_limit}
use Rattle.login_conf.specs.Text.{to_last}

-- the longest span
abbrev pub most : ℕ
most = span_limit

abbrev pub within : ℕ → Option ℕ
within n = if nat_le n most then Some n else None

-- how long a unit is; a number without one is of seconds
abbrev pub unit_of : List ℕ → Option ℕ
unit_of word =
    if bytes_eq word (codes "ms") then Some 1
    else if bytes_eq word [] || bytes_eq word (codes "s") || bytes_eq word (codes "sec") then Some 1000
    else if bytes_eq word (codes "min") then Some 60000
    else if bytes_eq word (codes "h") then Some 3600000
    else if bytes_eq word (codes "d") then Some 86400000
    else if bytes_eq word (codes "w") then Some 604800000
    else None

-- a span's parts: the next one begins at a digit behind another byte
abbrev pub begins_part : ℕ → ℕ → Bool
begins_part b c = not (is_ascii_digit b) && is_ascii_digit c

abbrev pub onto_parts : ℕ → List (List ℕ) → List (List ℕ)
onto_parts b [] = (b ∷ []) ∷ []
onto_parts b (part ∷ more) = if begins_part b (slice_index part 0) then (b ∷ []) ∷ part ∷ more else (b ∷ part) ∷ more

abbrev pub parts : List ℕ → List (List ℕ)
parts [] = []
parts (b ∷ bs) = onto_parts b (parts bs)

-- a part is its digits, and behind them its unit and spaces
abbrev pub number_in : List ℕ → Option ℕ
number_in part = whole_of (take (prefix_len is_ascii_digit part) part)

abbrev pub unit_in : List ℕ → Option ℕ
unit_in part = unit_of (to_last (λ b. b == 32) (drop (prefix_len is_ascii_digit part) part))

unfoldable pub part_of : List ℕ → Option ℕ
part_of part = option_and_then (λ n. option_map (λ unit. n * unit) (unit_in part)) (number_in part)

-- the sum of parts
abbrev pub sum_of : List (List ℕ) → Option ℕ
sum_of [] = Some 0
sum_of (part ∷ more) = option_and_then (λ n. option_map (λ m. n + m) (sum_of more)) (part_of part)

-- the span that a text says: one part or more, whose sum is not above the longest
unfoldable pub span_of : List ℕ → Option ℕ
span_of text = if bytes_eq text [] then None else option_and_then within (sum_of (parts text))

abbrev pub span : ℕ → Millis
span n = record { 0 = n }
