-- A list with room for more.
use Rattle.std.specs.Prelude.{ℕ, List}

-- the items, and how many more go in without memory
pub record Room (T : Type 0) : Type 0 where
  pub items : List T
  pub spare : ℕ
