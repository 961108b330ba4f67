-- How deep containers are nested.
use Rattle.std.specs.Prelude.{ℕ, ◌+◌, max}
use Rattle.bus_names.specs.Types.{Shape, Shapes, basic, variant, array, dict, struct, none, more}

abbrev mutual
  -- how deep the containers of a type are nested: arrays, structs, dict entries, variants
  pub nesting : Shape → ℕ
  nesting (basic b) = 0
  nesting variant = 1
  nesting (array t) = nesting t + 1
  nesting (dict b t) = nesting t + 2
  nesting (struct t ts) = max (nesting t) (nesting_in ts) + 1

  pub nesting_in : Shapes → ℕ
  nesting_in none = 0
  nesting_in (more t ts) = max (nesting t) (nesting_in ts)
