-- What a granted event does by itself.
use Rattle.std.specs.Prelude.{ℕ, ◌==◌, Bool, true, false, if◌then◌else◌, Option, Some, None, List, filter}
use Rattle.std.specs.Str.{bytes_eq}
use Rattle.login_base.specs.declared.ids.SessId.{SessId}
use Rattle.login_base.specs.declared.ids.Uid.{Uid}
use Rattle.login_base.specs.declared.ids.ConnId.{ConnId}
use Rattle.login_base.specs.declared.ids.HandleNo.{HandleNo}
use Rattle.login_base.specs.declared.ids.LockNo.{LockNo}
use Rattle.login_base.specs.declared.ids.Millis.{Millis}
use Rattle.login_base.specs.SessionId.{session_of}
use Rattle.login_model.specs.declared.fact.Key.TheVariants as key
use Rattle.login_model.specs.declared.fact.Fact.{Fact}
use Rattle.login_model.specs.declared.fact.Fact.TheVariants as fact
use Rattle.login_model.specs.declared.fact.Owner.TheVariants as owner
use Rattle.login_model.specs.declared.session.Phase.TheVariants.{Gone}
use Rattle.login_model.specs.declared.session.KillWhom.TheVariants as whom
use Rattle.login_model.specs.declared.setup.Setup.{Setup}
use Rattle.login_model.specs.declared.call.Call.{Call}
use Rattle.login_model.specs.declared.call.Call.TheVariants as call
use Rattle.login_model.specs.declared.hardware.Hardware.{Hardware}
use Rattle.login_model.specs.declared.hardware.Hardware.TheVariants.{Add, Remove, Input, VtKey, Exit, Key as HardKeyPressed, Dock, JobDone}
use Rattle.login_model.specs.declared.conf.KeyAction.{KeyAction}
use Rattle.login_model.specs.declared.conf.KeyAction.TheVariants as does
use Rattle.login_model.specs.Locks.{asked_lock}
use Rattle.login_model.specs.Power.{ask_operation, inhibit, is_blocked, job_done, key_action}
use Rattle.login_model.specs.declared.event.Event.{Event}
use Rattle.login_model.specs.declared.event.Event.TheVariants.{Connect, Disconnect, Call as Calls, Hardware as Happens, Tick, Stop}
use Rattle.login_model.specs.declared.mark.Notice.TheVariants.{Lock, Unlock, SessionRemoved}
use Rattle.login_model.specs.Trail.{Trail, value, put, tell_all}
use Rattle.login_model.specs.Start.{seat0}
use Rattle.login_model.specs.Fresh.{next_session, next_handle, next_lock}
use Rattle.login_model.specs.Where.{sessions, open_sessions, sessions_on, sessions_of, seat_of_session, users, locks}
use Rattle.login_model.specs.Policy.{controls, meant_user, uid_of}
use Rattle.login_model.specs.Procedure.{each, if_some, yes, no, untake, release, oust, set_phase, shut, front, know, forget, leave}
use Rattle.login_model.specs.Switching.{request}
use Rattle.login_model.specs.Creating.{create}
use Rattle.login_model.specs.Taking.{acknowledge, add_device, remove_device, set_mode, take_device}
use Rattle.login_model.specs.Turning.{vt_in, turn_to_next, turn_to_previous}
use Rattle.login_model.specs.Words.{whom_of}
pub use Rattle.login_model.specs.Facts.{is_this_handle, is_fifo_of, fifo_in, is_lock_of, user_or_root, is_overdue_fact}

-- a session is brought to its seat: on seat0 its terminal is asked for
abbrev pub activate_on : Option (List ℕ) → SessId → Trail → Trail
activate_on None s t = t
activate_on (Some seat) s t = if bytes_eq seat seat0 then request (vt_in (value t (key.Sess s))) t else front seat s t

unfoldable pub activate : SessId → Trail → Trail
activate s t = activate_on (seat_of_session t s) s t

abbrev pub lock_session : SessId → Trail → Trail
lock_session s t = tell_all (Lock s) t

abbrev pub unlock_session : SessId → Trail → Trail
unlock_session s t = tell_all (Unlock s) t

-- a user lingers: the user is known
abbrev pub begin_linger : Uid → Trail → Trail
begin_linger u t = know u (put (key.Linger u) yes t)

-- a user lingers no more, and leaves if nothing else keeps them
abbrev pub leave_known : Setup → Uid → Fact → Trail → Trail
leave_known U u fact.Known t = leave U u t
leave_known U u _ t = t

abbrev pub end_linger : Setup → Uid → Trail → Trail
end_linger U u t = leave_known U u (value (put (key.Linger u) no t) (key.User u)) (put (key.Linger u) no t)

abbrev pub linger : Setup → Uid → Bool → Trail → Trail
linger U u true t = begin_linger u t
linger U u false t = end_linger U u t

-- a connection takes control: from another one, if there is one
abbrev pub control_from : Fact → ConnId → SessId → Trail → Trail
control_from (fact.Controller b) c s t = if b.0 == c.0 then t else oust s c t
control_from _ c s t = put (key.Ctl s) (fact.Controller c) t

unfoldable pub control : ConnId → SessId → Trail → Trail
control c s t = control_from (value t (key.Ctl s)) c s t

-- a handle is closed
abbrev pub close_handle : HandleNo → Trail → Trail
close_handle h t = put (key.Owner h) (fact.Owned owner.Closed) t

-- and what its owner's fact names goes with it: the session of a fifo is shut, a lock is gone, a device
-- that is taken with it is not taken
abbrev pub close_owned : HandleNo → Fact → Trail → Trail
close_owned h (fact.Owned (owner.Fifo c s)) t = shut s (close_handle h t)
close_owned h (fact.Owned (owner.Lock c l)) t = close_handle h (put (key.Lock l) fact.Absent t)
close_owned h (fact.Owned (owner.Device c s d)) t = close_handle h (if is_this_handle h (value t (key.Taken s d)) then untake s d t else t)
close_owned h _ t = t

unfoldable pub close : HandleNo → Trail → Trail
close h t = close_owned h (value t (key.Owner h)) t

-- f of the session that an id names, if it names one
abbrev pub at_session : (SessId → Trail → Trail) → List ℕ → Trail → Trail
at_session f id t = if_some f (session_of id) t

abbrev pub direct_call : Setup → ConnId → Call → Trail → Trail
direct_call U c (call.Create x) t = create c x (next_session t) (next_handle t) t
direct_call U c (call.Activate id) t = at_session activate id t
direct_call U c (call.ActivateOnSeat id seat) t = at_session activate id t
direct_call U c (call.Lock id) t = at_session lock_session id t
direct_call U c (call.Unlock id) t = at_session unlock_session id t
direct_call U c call.LockAll t = each lock_session (open_sessions t) t
direct_call U c call.UnlockAll t = each unlock_session (open_sessions t) t
direct_call U c (call.Kill id who signal) t = at_session (λ s u. put (key.Sig s) (fact.Signal (whom_of who) signal) u) id t
direct_call U c (call.Terminate id) t = at_session shut id t
direct_call U c (call.TerminateUser u) t = each shut (sessions_of t u.0) t
direct_call U c (call.TerminateSeat seat) t = each shut (sessions_on t seat) t
direct_call U c (call.SetLinger u on) t = linger U (record { 0 = meant_user t c u.0 }) on t
direct_call U c (call.SetIdle id on) t = at_session (λ s u. put (key.Idle s) (fact.Flag on) u) id t
direct_call U c (call.SetLocked id on) t = at_session (λ s u. put (key.Locked s) (fact.Flag on) u) id t
direct_call U c (call.Control id force) t = at_session (control c) id t
direct_call U c (call.Uncontrol id) t = at_session release id t
direct_call U c (call.SwitchTo seat vt) t = request vt t
direct_call U c (call.SwitchToNext seat) t = turn_to_next seat t
direct_call U c (call.SwitchToPrevious seat) t = turn_to_previous seat t
direct_call U c (call.KillUser u signal) t = each (λ s v. put (key.Sig s) (fact.Signal whom.All signal) v) (sessions_of t u.0) t
direct_call U c (call.Close h) t = close h t
direct_call U c (call.TakeDevice id d) t = at_session (λ s u. take_device c s d (next_handle u) u) id t
direct_call U c (call.ReleaseDevice id d) t = at_session (λ s u. untake s d u) id t
direct_call U c (call.PauseComplete id d) t = at_session (λ s u. acknowledge s d u) id t
direct_call U c (call.SetMode h mode) t = set_mode (value t (key.Owner h)) mode t
direct_call U c (call.Power k) t = ask_operation k (is_blocked t k) t
direct_call U c (call.Inhibit x) t = inhibit (asked_lock c (record { 0 = uid_of t c }) x) (next_lock t) (next_handle t) t
direct_call U c (call.GetSession id) t = t
direct_call U c (call.GetUser u) t = t
direct_call U c (call.GetSeat seat) t = t
direct_call U c call.ListSessions t = t
direct_call U c call.ListUsers t = t
direct_call U c call.ListSeats t = t
direct_call U c call.ListInhibitors t = t
direct_call U c (call.Can k) t = t
direct_call U c (call.ReadInput h) t = t
direct_call U c (call.GetProperty x) t = t
direct_call U c (call.GetAllProperties path interface) t = t
direct_call U c (call.SetProperty x) t = t
direct_call U c call.Ping t = t
direct_call U c call.GetMachineId t = t
direct_call U c call.Hello t = t
direct_call U c (call.GetNameOwner name) t = t
direct_call U c (call.AddMatch rule) t = t
direct_call U c (call.RemoveMatch rule) t = t
direct_call U c call.NoCall t = t
direct_call U c call.NoObject t = t
direct_call U c call.NoMethod t = t
direct_call U c call.BadArguments t = t

-- the sessions that a connection controls, in order
unfoldable pub controlled_by : Trail → ConnId → List SessId
controlled_by t c = filter (controls t c) (sessions t)

-- whether a connection owns the fifo of a session
abbrev pub owns_fifo : Trail → ConnId → SessId → Bool
owns_fifo t c s = is_fifo_of c (value t (key.Owner (fifo_in (value t (key.Sess s)))))

-- the open sessions whose fifo a connection owns, in order
unfoldable pub kept_open_by : Trail → ConnId → List SessId
kept_open_by t c = filter (owns_fifo t c) (open_sessions t)

-- the locks of a connection, in order
unfoldable pub locks_of : Trail → ConnId → List LockNo
locks_of t c = filter (λ l. is_lock_of c (value t (key.Lock l))) (locks t)

-- the sessions that a connection keeps open are shut
abbrev pub end_sessions : ConnId → Trail → Trail
end_sessions c t = each shut (kept_open_by t c) t

-- the locks of a connection are gone
abbrev pub unlock : ConnId → Trail → Trail
unlock c t = each (λ l u. put (key.Lock l) fact.Absent u) (locks_of t c) t

-- a connection gives back what it controls, the sessions that it keeps open are shut, its locks are
-- gone, and so is it
unfoldable pub disconnect : ConnId → Trail → Trail
disconnect c t = put (key.Conn c) fact.Absent (unlock c (end_sessions c (each release (controlled_by t c) t)))

-- the last process of a session is gone
unfoldable pub exit : Setup → SessId → Trail → Trail
exit U s t = leave U (user_or_root (value t (key.Sess s))) (tell_all (SessionRemoved s) (set_phase s Gone (shut s t)))

-- the users whose delay is over at a moment, in order
unfoldable pub overdue : Setup → Trail → ℕ → List Uid
overdue U t m = filter (λ u. is_overdue_fact U m (value t (key.User u))) (users t)

-- the clock stands at a moment, and users whose delay is over are absent
unfoldable pub tick : Setup → Millis → Trail → Trail
tick U m t = each forget (overdue U t m.0) (put key.Now (fact.Moment m) t)

-- what a key brings about
abbrev pub press : KeyAction → Trail → Trail
press does.Ignore t = t
press does.Lock t = each lock_session (open_sessions t) t
press (does.Operation k) t = ask_operation k (is_blocked t k) t

abbrev pub happen : Setup → Hardware → Trail → Trail
happen U (VtKey vt) t = request vt t
happen U (Exit id) t = at_session (exit U) id t
happen U (Add d kind seat) t = add_device d kind seat t
happen U (Remove d) t = remove_device d t
happen U (HardKeyPressed k) t = press (key_action U t k) t
happen U (Dock on) t = put key.Docked (fact.Flag on) t
happen U JobDone t = job_done t
happen U (Input d kind code value) t = t

-- the marks so far, and then those that a granted event makes by itself
unfoldable pub direct : Setup → Event → Trail → Trail
direct U (Connect c u) t = put (key.Conn c) (fact.Connected u) t
direct U (Disconnect c) t = disconnect c t
direct U (Calls r) t = direct_call U r.who r.call t
direct U (Happens x) t = happen U x t
direct U (Tick m) t = tick U m t
direct U Stop t = t
