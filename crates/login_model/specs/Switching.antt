-- How seat0 goes from one virtual terminal to another.
use Rattle.std.specs.Prelude.{ℕ, ◌==◌, ◌&&◌, not, nat_le, Bool, if◌then◌else◌, Option, None}
use Rattle.std.specs.Option.{is_some}
use Rattle.login_base.specs.declared.ids.SessId.{SessId}
use Rattle.login_base.specs.declared.ids.DevNo.{DevNo}
use Rattle.login_model.specs.declared.conf.Conf.{Conf}
use Rattle.login_model.specs.declared.fact.Key.TheVariants as key
use Rattle.login_model.specs.declared.fact.Fact.{Fact}
use Rattle.login_model.specs.declared.fact.Fact.TheVariants as fact
use Rattle.login_model.specs.declared.mark.PauseKind.TheVariants as pause
use Rattle.login_model.specs.declared.mark.Notice.TheVariants.{Pause, Active}
use Rattle.login_model.specs.Trail.{Trail, value, put, tell_all}
use Rattle.login_model.specs.Start.{seat0}
use Rattle.login_model.specs.Where.{current_vt, active_on, session_on}
use Rattle.login_model.specs.Devices.{taken_devices, is_live, is_awaiting}
use Rattle.login_model.specs.Procedure.{each, if_some, yes, no, tell_controller, force, resume}
use Rattle.login_model.specs.Facts.{is_number_fact}

-- a live device is to be let go of: that is awaited, and the controller is told
abbrev pub await_handle : SessId → DevNo → Fact → Trail → Trail
await_handle s d (fact.Handle h) t =
    if is_live t h then tell_controller (value t (key.Ctl s)) (Pause s d pause.Pause) (put (key.Awaited s d) yes t) else t
await_handle s d _ t = t

abbrev pub await_device : SessId → DevNo → Trail → Trail
await_device s d t = await_handle s d (value t (key.Taken s d)) t

-- the pauses of a session's live devices are awaited
unfoldable pub await_devices : SessId → Trail → Trail
await_devices s t = each (await_device s) (taken_devices t s) t

-- no pause of a session's devices is awaited
unfoldable pub unawait_devices : SessId → Trail → Trail
unawait_devices s t = each (λ d u. put (key.Awaited s d) no u) (taken_devices t s) t

-- a switch is pending: it goes to another terminal now, and pauses are awaited only once
abbrev pub ask_switch : ℕ → Bool → Trail → Trail
ask_switch v was_pending t =
    if was_pending then put key.Pending (fact.Number v) t
    else if_some await_devices (active_on t seat0) (put key.Pending (fact.Number v) t)

-- no switch is pending, no pause is awaited, and the active session goes on; pauses are awaited of its
-- devices alone
abbrev pub withdraw_switch : Trail → Trail
withdraw_switch t = if_some resume (active_on t seat0) (if_some unawait_devices (active_on t seat0) (put key.Pending fact.Absent t))

-- another terminal is asked for; the current one withdraws a switch that is pending
unfoldable pub request : ℕ → Trail → Trail
request v t =
    if v == current_vt t
    then (if is_number_fact (value t key.Pending) then withdraw_switch t else t)
    else ask_switch v (is_number_fact (value t key.Pending)) t

-- a getty is asked for on a terminal without an open session, up to the number of the configuration
abbrev pub ask_getty : Conf → ℕ → Trail → Trail
ask_getty conf v t = if not (is_some (session_on t v)) && nat_le v conf.auto_vts then put (key.Getty v) yes t else t

-- all are told who was active on seat0 and who is, if there was one or is one
abbrev pub tell_change : Option SessId → Option SessId → Trail → Trail
tell_change None None t = t
tell_change old new t = tell_all (Active seat0 old new) t

-- the session that is active now goes on, after all are told
abbrev pub arrive : Option SessId → Trail → Trail
arrive old t = if_some resume (active_on t seat0) (tell_change old (active_on t seat0) t)

-- the terminal changes: the session that was active loses its devices, and the one that is gets them
abbrev pub move_to : Conf → ℕ → Option SessId → Trail → Trail
move_to conf v old t =
    arrive old (ask_getty conf v (put key.Pending fact.Absent (put key.Vt (fact.Number v) (if_some force old t))))

-- the switch that is pending completes, once no pause is awaited
abbrev pub complete : Conf → Fact → Trail → Trail
complete conf (fact.Number v) t = if is_awaiting t then t else move_to conf v (active_on t seat0) t
complete conf _ t = t

unfoldable pub settle_switch : Conf → Trail → Trail
settle_switch conf t = complete conf (value t key.Pending) t
