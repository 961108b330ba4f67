-- A source in memory that holds bytes back, as callers see it.
use Rattle.std.specs.Prelude.{ℕ, ◌-◌, List, min, ◌==◌, if◌then◌else◌}
use Rattle.login_edge.specs.declared.Got.{Got}
use Rattle.login_edge.specs.declared.Got.TheVariants as got

-- the bytes that are left, how many of them stand before the place where it waits, the numbers of the calls that
-- fail, and how many calls there were and how many of them failed
pub record HeldState : Type 0 where
  pub rest : List ℕ
  pub before : ℕ
  pub fails : List ℕ
  pub calls : ℕ
  pub faults : ℕ

-- a read goes up to the place where it waits, and not past it
abbrev pub reach : ℕ → ℕ → ℕ
reach before size = if before == 0 then size else min before size

-- the place where it waits comes nearer by the bytes that came, and by nothing else
abbrev pub nearer : ℕ → Got → ℕ
nearer before (got.Bytes n) = before - n
nearer before got.End = before
nearer before got.Failed = before
