-- A clock in memory, as callers see it.
use Rattle.std.specs.Prelude.{ℕ, List, [], ◌∷◌, ◌++◌, ◌-◌, length, min, slice_index_or, zero, suc}
use Rattle.login_base.specs.declared.ids.Millis.{Millis}
use Rattle.login_edge.specs.Readings.{Readings}

-- its readings, how many were given, how many calls there were, the numbers of the calls that fail, and how many failed
pub record ClockState : Type 0 where
  pub script : List Millis
  pub given : ℕ
  pub asked : ℕ
  pub fails : List ℕ
  pub faults : ℕ

-- the reading behind so many others: the next one of the script, or its last one (the moment 0 is that of an empty
-- script)
abbrev pub reading_at : List Millis → ℕ → Millis
reading_at script n = slice_index_or script (min (length script - 1) n) (record { 0 = 0 })

-- so many readings, from the first on
abbrev pub first_readings : List Millis → ℕ → List ℕ
first_readings script zero = []
first_readings script (suc n) = first_readings script n ++ (reading_at script n).0 ∷ []

-- what the clock tells
abbrev pub told_of : ClockState → Readings
told_of c = record { given = first_readings c.script c.given; asked = c.asked }
