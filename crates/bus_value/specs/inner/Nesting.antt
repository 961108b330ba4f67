-- How deep containers are nested.
use Rattle.std.specs.Prelude.{ℕ, List, [], ◌∷◌, max}
use Rattle.bus_names.specs.Types.{Shape}
use Rattle.bus_value.specs.Nesting.{nesting}

-- how deep the containers of several types are nested
abbrev pub nesting_all : List Shape → ℕ
nesting_all [] = 0
nesting_all (t ∷ ts) = max (nesting t) (nesting_all ts)
