-- The pauses of a session's devices that are awaited.
use Rattle.std.specs.Prelude.{Bool}
use Rattle.std.specs.List.{list_any}
use Rattle.login_base.specs.declared.ids.SessId.{SessId}
use Rattle.login_model.specs.Devices.{taken_devices}
use Rattle.login_model.specs.Trail.{Trail}
use Rattle.login_laws.specs.Withdrawing.{is_awaited}

-- whether that of one of the devices is that a session has taken
abbrev pub has_awaited : Trail → SessId → Bool
has_awaited t s = list_any (is_awaited t s) (taken_devices t s)
