-- Sockets, the machine's clock and its threads, as callers see them: what they count.
use Rattle.std.specs.Prelude.{ℕ}

-- how many calls failed
pub record FaultCount : Type 0 where
  pub faults : ℕ

-- the number of a link, and how many of its calls failed
pub record LinkState : Type 0 where
  pub number : ℕ
  pub faults : ℕ

-- how many links came, and how many calls failed
pub record ListenerState : Type 0 where
  pub given : ℕ
  pub faults : ℕ
