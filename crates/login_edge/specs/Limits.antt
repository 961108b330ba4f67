-- The limits of what stands in memory.
use Rattle.std.specs.Prelude.{ℕ}

-- how often a gate holds its call at most, where nothing else is said
abbrev pub most_holds : ℕ
most_holds = 1000000
