-- With which statuses serving ends, and from which causes.
use Rattle.std.specs.Prelude.{ℕ, ◌≡◌, ◌≤◌, ◌⊎◌}
use Rattle.login_prog.specs.Outcome.{Given, HasFailed}

-- a status with which serving ends
abbrev pub IsEnding : ℕ → Type 0
IsEnding status = (status ≡ 0) ⊎ ((2 ≤ status) × (status ≤ 8))

-- each fault has its cause
pub record Caused {L : Type 0} (status : ℕ) (x : Given L) : Type 0 where
  pub read : status ≡ 3 → HasFailed x.input
  pub write : status ≡ 4 → HasFailed x.output ⊎ HasFailed x.errors
  pub asked : status ≡ 7 → HasFailed x.listener ⊎ HasFailed x.clock
  pub started : status ≡ 8 → HasFailed x.spawner
