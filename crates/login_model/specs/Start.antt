-- What holds before the first mark.
use Rattle.std.specs.Prelude.{false, if◌then◌else◌}
use Rattle.std.specs.Str.{bytes_eq}
use Rattle.login_model.specs.declared.fact.Key.{Key}
use Rattle.login_model.specs.declared.fact.Key.TheVariants as key
use Rattle.login_model.specs.declared.fact.Fact.{Fact}
use Rattle.login_model.specs.declared.fact.Fact.TheVariants.{Absent, Flag, Present, Number, Moment, Operation}
use Rattle.login_model.specs.declared.operation.Operation.TheVariants.{Idle}
pub use Rattle.login_base.specs.Seat.{seat0}

-- The virtual terminal 1 is current, seat0 is there, the clock is at 0, no operation runs, no flag is
-- set, each mode is 0, and nothing else is there.
abbrev pub start_fact : Key → Fact
start_fact (key.Idle s) = Flag false
start_fact (key.Locked s) = Flag false
start_fact (key.Linger u) = Flag false
start_fact (key.Live h) = Flag false
start_fact (key.Seat name) = if bytes_eq name seat0 then Present else Absent
start_fact key.Vt = Number 1
start_fact (key.Getty v) = Flag false
start_fact (key.Awaited s d) = Flag false
start_fact (key.Mode d) = Number 0
start_fact key.Op = Operation Idle
start_fact key.Docked = Flag false
start_fact key.Now = Moment (record { 0 = 0 })
start_fact _ = Absent
