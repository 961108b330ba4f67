-- What a reader or a writer of std tells, where it told something at first.
use Rattle.std.specs.Prelude.{ℕ, List, Option, Some, None, IsSome}

-- what is told now, where something was told at first
abbrev pub told_since : Option (List ℕ) → Option (List ℕ) → Option (List ℕ)
told_since None now = None
told_since (Some first) now = now

-- who told something at first tells something now
abbrev pub TellsOn : Option (List ℕ) → Option (List ℕ) → Type 0
TellsOn None now = Unit {0}
TellsOn (Some first) now = IsSome now
