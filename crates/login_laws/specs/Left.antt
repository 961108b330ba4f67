-- How many handles can still be given out.
use Rattle.std.specs.Prelude.{◌+◌, ◌≤◌, length}
use Rattle.login_model.specs.Fresh.{fresh_handle}
use Rattle.login_model.specs.Full.{taken_count}
use Rattle.login_model.specs.Trail.{Trail}

-- the law: the handles that were given out, which are one less than the fresh handle's number, and the pairs of a
-- session and a device that it has taken are together at most as many as the marks, whatever these are
abbrev pub HandlesAreLeft : Type 0
HandlesAreLeft = (t : Trail) → fresh_handle t + taken_count t ≤ length t + 1
