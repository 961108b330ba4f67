-- How many parts types have.
use Rattle.std.specs.Prelude.{ℕ, ◌+◌}
use Rattle.bus_names.specs.Types.{Shape, Shapes, basic, variant, array, dict, struct, none, more}

abbrev mutual
  -- how many parts a type has
  pub parts : Shape → ℕ
  parts (basic b) = 1
  parts variant = 1
  parts (array t) = parts t + 1
  parts (dict b t) = parts t + 1
  parts (struct t ts) = parts t + parts_in ts + 1

  pub parts_in : Shapes → ℕ
  parts_in none = 0
  parts_in (more t ts) = parts t + parts_in ts
