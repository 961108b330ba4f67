-- Operations on the machine: how they are asked for, wait, run and end.
use Rattle.std.specs.Prelude.{◌-◌, ◌&&◌, not, nat_le, Bool, true, false, if◌then◌else◌}
use Rattle.login_base.specs.declared.ids.HandleNo.{HandleNo}
use Rattle.login_base.specs.declared.ids.LockNo.{LockNo}
use Rattle.login_base.specs.declared.ids.Millis.{Millis}
use Rattle.login_model.specs.declared.conf.Conf.{Conf}
use Rattle.login_model.specs.declared.conf.KeyAction.{KeyAction}
use Rattle.login_model.specs.declared.fact.Key.TheVariants as key
use Rattle.login_model.specs.declared.fact.Fact.{Fact}
use Rattle.login_model.specs.declared.fact.Fact.TheVariants as fact
use Rattle.login_model.specs.declared.fact.Owner.TheVariants as owner
use Rattle.login_model.specs.declared.hardware.HardKey.{HardKey}
use Rattle.login_model.specs.declared.hardware.HardKey.TheVariants as hard
use Rattle.login_model.specs.declared.lock.Lock.{Lock}
use Rattle.login_model.specs.declared.lock.LockMode.TheVariants.{Block, Delay}
use Rattle.login_model.specs.declared.mark.Notice.{Notice}
use Rattle.login_model.specs.declared.mark.Notice.TheVariants.{PrepareShutdown, PrepareSleep}
use Rattle.login_model.specs.declared.operation.OpKind.{OpKind}
use Rattle.login_model.specs.declared.operation.OpKind.TheVariants as kind
use Rattle.login_model.specs.declared.operation.Operation.TheVariants.{Idle, Waiting, Running}
use Rattle.login_model.specs.declared.setup.Setup.{Setup}
use Rattle.login_model.specs.Locks.{matching}
use Rattle.login_model.specs.Procedure.{is_empty}
use Rattle.login_model.specs.Trail.{Trail, value, put, tell_all}
use Rattle.login_model.specs.Where.{is_set, now}

-- whether a lock blocks an operation, or delays it
abbrev pub is_blocked : Trail → OpKind → Bool
is_blocked t k = not (is_empty (matching t k Block))

abbrev pub is_delayed : Trail → OpKind → Bool
is_delayed t k = not (is_empty (matching t k Delay))

-- whether an operation that waits since a moment has waited as long as the configuration allows
abbrev pub is_over : Conf → Trail → Millis → Bool
is_over conf t since = nat_le conf.inhibit_delay_max.0 (now t - since.0)

-- the notice that an operation is about to begin, or is over
abbrev pub prepare : OpKind → Bool → Notice
prepare kind.PowerOff on = PrepareShutdown on
prepare kind.Reboot on = PrepareShutdown on
prepare kind.Halt on = PrepareShutdown on
prepare _ on = PrepareSleep on

-- an operation waits from now on, past the locks that block it or not, and all are told
unfoldable pub ask_operation : OpKind → Bool → Trail → Trail
ask_operation k skip t = tell_all (prepare k true) (put key.Op (fact.Operation (Waiting k (record { 0 = now t }) skip)) t)

-- the operation that waits runs, once no lock delays it or it has waited for long
abbrev pub start : Conf → Fact → Trail → Trail
start conf (fact.Operation (Waiting k since skip)) t = if is_delayed t k && not (is_over conf t since) then t else put key.Op (fact.Operation (Running k)) t
start conf _ t = t

unfoldable pub settle_operation : Conf → Trail → Trail
settle_operation conf t = start conf (value t key.Op) t

-- the operation that runs is over, and all are told
abbrev pub end_operation : Fact → Trail → Trail
end_operation (fact.Operation (Running k)) t = tell_all (prepare k false) (put key.Op (fact.Operation Idle) t)
end_operation _ t = t

unfoldable pub job_done : Trail → Trail
job_done t = end_operation (value t key.Op) t

-- a lock stands, and a handle keeps it
abbrev pub inhibit : Lock → LockNo → HandleNo → Trail → Trail
inhibit x l h t = put (key.Owner h) (fact.Owned (owner.Lock x.holder l)) (put (key.Lock l) (fact.Lock x) t)

-- what a key brings about; the lid of a docked machine has an action of its own
abbrev pub action_of : Conf → HardKey → Bool → KeyAction
action_of conf hard.Power docked = conf.handle_power_key
action_of conf hard.Suspend docked = conf.handle_suspend_key
action_of conf hard.Hibernate docked = conf.handle_hibernate_key
action_of conf hard.Lid docked = if docked then conf.handle_lid_switch_docked else conf.handle_lid_switch

-- whether a key passes the locks that block its operation
abbrev pub passes_locks : Conf → HardKey → Bool
passes_locks conf hard.Power = conf.power_key_ignore_inhibited
passes_locks conf hard.Suspend = conf.suspend_key_ignore_inhibited
passes_locks conf hard.Hibernate = conf.hibernate_key_ignore_inhibited
passes_locks conf hard.Lid = conf.lid_switch_ignore_inhibited

-- what a key brings about now
abbrev pub key_action : Setup → Trail → HardKey → KeyAction
key_action U t k = action_of U.conf k (is_set (value t key.Docked))
