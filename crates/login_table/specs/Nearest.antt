-- The lower of two names of a kind.
use Rattle.std.specs.Prelude.{Bool, true, Option, Some, None}

-- whether a name is below another, or there is no other
abbrev pub is_lower : {A : Type 0} → (A → A → Bool) → A → Option A → Bool
is_lower lt a None = true
is_lower lt a (Some b) = lt a b
