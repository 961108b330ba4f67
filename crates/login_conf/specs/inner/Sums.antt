-- The sum of a span's parts, as far as it is not too long.
use Rattle.std.specs.Prelude.{ℕ, ◌+◌, List, Option}
use Rattle.std.specs.Option.{option_and_then}
use Rattle.login_conf.specs.Spans.{within, part_of, parts, sum_of}

-- a sum and a part
abbrev pub added : ℕ → List ℕ → Option ℕ
added sum part = option_and_then (λ n. within (sum + n)) (option_and_then within (part_of part))

-- all parts of a text
abbrev pub sum_within : List ℕ → Option ℕ
sum_within text = option_and_then within (sum_of (parts text))
