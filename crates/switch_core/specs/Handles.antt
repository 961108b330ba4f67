-- Whether handles can still be numbered.
use Rattle.std.specs.Prelude.{ℕ, ◌+◌, ◌<◌, ◌≤◌, ◌^◌}
use Rattle.login_model.specs.Fresh.{fresh_handle}
use Rattle.login_model.specs.Full.{taken_count}
use Rattle.login_model.specs.Trail.{Trail}

-- the next handle can be numbered after these marks
abbrev pub IsNumbered : Trail → Type 0
IsNumbered t = fresh_handle t < 2 ^ 32

-- the last number that a handle can have
abbrev pub last_handle : ℕ
last_handle = 4294967295

-- a handle can be given out for each device that a session has taken
abbrev pub HandlesLeft : Trail → Type 0
HandlesLeft t = fresh_handle t + taken_count t ≤ last_handle
