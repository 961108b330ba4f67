-- A spawner in memory, as callers see it.
use Rattle.std.specs.Prelude.{ℕ, List}

-- the numbers of the starts that are declined, how many starts there were, and how many of them failed
pub record SpawnerState : Type 0 where
  pub declined : List ℕ
  pub starts : ℕ
  pub faults : ℕ
