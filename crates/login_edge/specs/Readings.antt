-- What a clock tells of its calls: None where it does not tell it.
use Rattle.std.specs.Prelude.{ℕ, ◌≡◌, List, [], ◌∷◌, ◌++◌}
use Rattle.login_edge.specs.Faults.{Rose, one_more}
use Rattle.login_edge.specs.declared.clock.Reading.{Reading}
use Rattle.login_edge.specs.declared.clock.Reading.TheVariants.{At, Failed}

-- the readings so far, in order, and how often the clock was asked
pub record Readings : Type 0 where
  pub given : List ℕ
  pub asked : ℕ

-- what is told after an answer
abbrev pub with_reading : Reading → Readings → Readings
with_reading (At moment) r = record { given = r.given ++ moment.0 ∷ []; asked = one_more r.asked }
with_reading Failed r = record { given = r.given; asked = one_more r.asked }

-- the count of faults rises with a call that failed, and with no other
abbrev pub ClockCause : ℕ → ℕ → Reading → Type 0
ClockCause before now (At moment) = now ≡ before
ClockCause before now Failed = Rose before now
