-- The withdrawal of a switch, said of the pauses that are awaited.
use Rattle.std.specs.Prelude.{◌≡◌, ◌==◌, Bool, if◌then◌else◌, Option, Some, None, List, filter}
use Rattle.login_base.specs.declared.ids.DevNo.{DevNo}
use Rattle.login_base.specs.declared.ids.SessId.{SessId}
use Rattle.login_model.specs.Names.{device_lt, names}
use Rattle.login_model.specs.Procedure.{each, if_some, no, resume}
use Rattle.login_model.specs.Start.{seat0}
use Rattle.login_model.specs.Switching.{withdraw_switch}
use Rattle.login_model.specs.Trail.{Trail, put, value}
use Rattle.login_model.specs.Where.{active_on, is_set, sessions}
use Rattle.login_model.specs.declared.fact.Fact.TheVariants as fact
use Rattle.login_model.specs.declared.fact.Key.{Key}
use Rattle.login_model.specs.declared.fact.Key.TheVariants as key
use Rattle.login_model.specs.declared.setup.Setup.{Setup}
use Rattle.login_laws.specs.Sound.{IsSoundBetween}

-- the device of a key about a pause of a session's
abbrev pub awaited_in : SessId → Key → Option DevNo
awaited_in s (key.Awaited r d) = if r.0 == s.0 then Some d else None
awaited_in s _ = None

-- whether the pause of a device is awaited
abbrev pub is_awaited : Trail → SessId → DevNo → Bool
is_awaited t s d = is_set (value t (key.Awaited s d))

-- the devices of a session whose pauses are awaited, in order
unfoldable pub awaited_devices : Trail → SessId → List DevNo
awaited_devices t s = filter (is_awaited t s) (names device_lt (awaited_in s) t)

abbrev pub unawait : SessId → DevNo → Trail → Trail
unawait s d t = put (key.Awaited s d) no t

-- each awaited device is not awaited: those of each session, in order
abbrev pub unawait_each : Trail → Trail
unawait_each t = each (λ s u. each (unawait s) (awaited_devices t s) u) (sessions t) t

-- the law: where a switch is withdrawn, nothing is pending, each awaited device is not awaited, and the active session
-- goes on
abbrev pub WithdrawsEach : Type 0
WithdrawsEach = (U : Setup) (t : Trail) → IsSoundBetween U t → withdraw_switch t ≡ if_some resume (active_on t seat0) (unawait_each (put key.Pending fact.Absent t))
