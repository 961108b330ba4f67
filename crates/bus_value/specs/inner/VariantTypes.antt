-- Types of variants.
use Rattle.std.specs.Prelude.{ℕ, ◌+◌, nat_le, Bool, false, List, [], ◌∷◌}
use Rattle.bus_names.specs.Types.{Shape}
use Rattle.bus_value.specs.Limits.{most_open}
use Rattle.bus_value.specs.Nesting.{nesting}

-- whether there is one type, which may be nested there
abbrev pub is_variant_type : ℕ → List Shape → Bool
is_variant_type depth [] = false
is_variant_type depth (t ∷ []) = nat_le (depth + 1 + nesting t) most_open
is_variant_type depth (t ∷ u ∷ ts) = false
