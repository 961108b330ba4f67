-- The nearest of names above one.
use Rattle.std.specs.Prelude.{◌&&◌, Bool, if◌then◌else◌, Option, Some, None}
use Rattle.login_model.specs.Names.{is_above}
use Rattle.login_table.specs.Nearest.{is_lower}

-- the lower of the best name so far and another, if that one is there and above
abbrev pub nearer : {A : Type 0} → (A → A → Bool) → (A → Bool) → Option A → Option A → Option A → Option A
nearer lt there above None best = best
nearer lt there above (Some a) best = if is_above lt above a && is_lower lt a best && there a then Some a else best
