-- What is carried from the marks before a procedure to those after it, said once for all procedures.
use Rattle.login_laws.specs.Powered.{AsksFor}
use Rattle.login_model.specs.declared.conf.Conf.{Conf}
use Rattle.login_model.specs.declared.event.Event.{Event}
use Rattle.std.proofs.Common.{◌≡◌, refl, ◌==◌, ◌&&◌, ◌||◌, not, nat_le, nat_lt, ℕ, Bool, true, false, cond, Option, Some, None, List, [], ◌∷◌, ap, sym, subst, ◌∙◌}
use Rattle.std.specs.Option.{is_some}
use Rattle.std.specs.Str.{bytes_eq}
use Rattle.login_base.specs.declared.ids.SessId.{SessId}
use Rattle.login_base.specs.declared.ids.Uid.{Uid}
use Rattle.login_base.specs.declared.ids.ConnId.{ConnId}
use Rattle.login_base.specs.declared.ids.DevNo.{DevNo}
use Rattle.login_base.specs.declared.ids.HandleNo.{HandleNo}
use Rattle.login_base.specs.declared.ids.Millis.{Millis}
use Rattle.login_base.specs.declared.ids.LockNo.{LockNo}
use Rattle.login_base.specs.SessionId.{session_of}
use Rattle.login_model.specs.Names.{session_lt}
use Rattle.login_model.specs.Start.{seat0}
use Rattle.login_model.specs.Trail.{Trail, put, tell_all, value}
use Rattle.login_model.specs.Fresh.{next_handle, next_lock, next_session}
use Rattle.login_model.specs.Where.{active_on, current_vt, is_device_fact, is_seat, is_set, is_active, is_open, now, open_sessions, seat_of_session, session_on, sessions_of, sessions_on}
use Rattle.login_model.specs.Devices.{is_awaiting, is_live, taken_devices}
use Rattle.login_model.specs.Policy.{meant_user, uid_of}
use Rattle.login_model.specs.Procedure.{each, force, force_device, force_handle, forget, front, if_some, is_kept, kill, know, leave, leave_seat, no, oust, release, renew, resume, resume_device, resume_handle, revive, revoke, set_phase, shut, take_seat, tell_controller, tell_new_user, untake, vacate, yes}
use Rattle.login_model.specs.Facts.{is_number_fact}
use Rattle.login_model.specs.Switching.{arrive, ask_getty, ask_switch, await_device, await_devices, await_handle, complete, move_to, request, settle_switch, tell_change, unawait_devices, withdraw_switch}
use Rattle.login_model.specs.Creating.{appear_on, create, created_session, seat_of}
use Rattle.login_model.specs.Turning.{next_around, open_on, open_terminals, previous_around, turn_to_next, turn_to_previous, vt_in}
use Rattle.login_model.specs.Direct.{activate, activate_on, close, close_handle, close_owned, control, control_from, controlled_by, direct_call, end_sessions, exit, happen, is_this_handle, kept_open_by, leave_known, linger, lock_session, locks_of, overdue, user_or_root, press, tick, unlock, unlock_session, direct, disconnect}
use Rattle.login_model.specs.Words.{whom_of}
use Rattle.login_model.specs.Settle.{settle}
use Rattle.login_model.specs.declared.call.Call.{Call}
use Rattle.login_model.specs.declared.call.Call.TheVariants as call
use Rattle.login_model.specs.declared.call.Creation.{Creation}
use Rattle.login_model.specs.declared.hardware.DevKind.TheVariants.{Drm, Evdev}
use Rattle.login_model.specs.declared.hardware.Hardware.{Hardware}
use Rattle.login_model.specs.declared.hardware.Hardware.TheVariants.{Add, Remove, VtKey, Exit, Key as HardKeyPressed, Dock, JobDone}
use Rattle.login_model.specs.declared.hardware.HardKey.{HardKey}
use Rattle.login_model.specs.declared.hardware.DevKind.{DevKind}
use Rattle.login_model.specs.Taking.{acknowledge, add_device, appear_seat, enliven, has_graphics, lose_seat, remove_device, set_mode, take_device, takers}
use Rattle.login_model.specs.declared.conf.KeyAction.{KeyAction}
use Rattle.login_model.specs.declared.conf.KeyAction.TheVariants as does
use Rattle.login_model.specs.declared.event.Event.TheVariants.{Hardware as Happens, Connect, Disconnect, Call as Calls, Tick, Stop}
use Rattle.login_model.specs.declared.operation.OpKind.{OpKind}
use Rattle.login_model.specs.declared.operation.Operation.{Operation}
use Rattle.login_model.specs.declared.operation.Operation.TheVariants.{Idle, Waiting, Running}
use Rattle.login_laws.specs.Asking.{asked_vt, call_vt, on_seat0, session_vt_of, turn_vt}
use Rattle.login_model.specs.Locks.{asked_lock}
use Rattle.login_model.specs.Power.{ask_operation, end_operation, is_blocked, is_delayed, is_over, job_done, key_action, prepare, settle_operation, start}
use Rattle.login_model.specs.declared.mark.Notice.{Notice}
use Rattle.login_model.specs.declared.mark.Notice.TheVariants as notice
use Rattle.login_model.specs.declared.mark.PauseKind.TheVariants as pause
use Rattle.login_model.specs.declared.session.KillWhom.TheVariants as whom
use Rattle.login_model.specs.declared.session.Phase.TheVariants.{Closing, Gone}
use Rattle.login_model.specs.declared.setup.Setup.{Setup}
use Rattle.login_model.specs.Same.{same_key}
use Rattle.login_model.proofs.Values.{value-put}
use Rattle.login_model.specs.declared.fact.Key.{Key}
use Rattle.login_model.specs.declared.fact.Key.TheVariants as key
use Rattle.login_model.specs.declared.fact.Fact.{Fact}
use Rattle.login_model.specs.declared.fact.Fact.TheVariants as fact
use Rattle.login_model.specs.declared.fact.Owner.TheVariants as owner
use Rattle.login_model.specs.declared.mark.Mark.TheVariants.{Say}
use Rattle.login_model.specs.declared.mark.Whom.{Whom}
use Rattle.login_model.specs.declared.mark.Whom.TheVariants.{One, All}
use Rattle.login_model.specs.declared.mark.Notice.{Notice}

-- a setting of another key
pub other : (k j : Key) (x : Fact) (t : Trail) → same_key k j ≡ false → value (put k x t) j ≡ value t j
other k j x t e = value-put k j x t ∙ ap (λ (b : Bool). cond b x (value t j)) e

-- whether a setting is about no connection, session or lock, no clock and no operation, brings no device, and begins or
-- ends no switch
abbrev pub is_plain : Key → Fact → Bool
is_plain (key.Conn c) x = false
is_plain (key.Sess s) x = false
is_plain key.Vt x = false
is_plain key.Pending x = false
is_plain (key.Awaited s d) x = not (is_set x)
is_plain (key.Dev d) x = not (is_device_fact x)
is_plain key.Op x = false
is_plain key.Now x = false
is_plain (key.Lock l) x = false
is_plain _ x = true

-- What is carried along: from marks to themselves, over each step to the next, and over each plain mark, each
-- notice, the closing of a session that was open, and a session's going.
pub record Carried : Type 1 where
  pub R : Trail → Trail → Type 0
  pub refl : (t : Trail) → R t t
  pub trans : (t u v : Trail) → R t u → R u v → R t v
  pub put : (k : Key) (x : Fact) (t : Trail) → is_plain k x ≡ true → R t (put k x t)
  pub say : (w : Whom) (n : Notice) (t : Trail) → R t (Say w n ∷ t)
  pub closing : (s : SessId) (t u : Trail) → is_open t s ≡ true → R t u → R t (set_phase s Closing u)
  pub gone : (s : SessId) (t u : Trail) → R t u → R t (set_phase s Gone u)

-- and over what begins and ends a switch
pub record Switched (r : Carried) : Type 0 where
  pub awaited : (s : SessId) (d : DevNo) (t : Trail) → r.R t (put (key.Awaited s d) yes t)
  pub pending : (x : Fact) (t : Trail) → r.R t (put key.Pending x t)
  pub vt : (x : Fact) (t : Trail) → r.R t (put key.Vt x t)

-- and over a lock's going
abbrev pub Unlocks : Carried → Type 0
Unlocks r = (l : LockNo) (t : Trail) → r.R t (put (key.Lock l) fact.Absent t)

-- and over the clock and locks
pub record Clocked (r : Carried) : Type 0 where
  pub now : (m : Millis) (t : Trail) → r.R t (put key.Now (fact.Moment m) t)
  pub lock : (l : LockNo) (x : Fact) (t : Trail) → r.R t (put (key.Lock l) x t)

-- and over what is set of the operation
pub record Operated (r : Carried) : Type 0 where
  pub op : (o : Operation) (t : Trail) → r.R t (put key.Op (fact.Operation o) t)

-- and over a session that is made, and a connection that comes or goes
pub record Comes (r : Carried) : Type 0 where
  pub sess : (s : SessId) (x : Fact) (t : Trail) → r.R t (put (key.Sess s) x t)
  pub conn : (c : ConnId) (x : Fact) (t : Trail) → r.R t (put (key.Conn c) x t)

-- and over the device that an event adds
abbrev pub Arrives : Carried → Trail → Event → Type 0
Arrives r t e = (d : DevNo) (kind : DevKind) (seat : List ℕ) → e ≡ Happens (Add d kind seat) → r.R t (put (key.Dev d) (fact.Device kind seat) t)

pub cond-carried : (r : Carried) (b : Bool) (t u v : Trail) → r.R t u → r.R t v → r.R t (cond b u v)
cond-carried r true t u v p q = p
cond-carried r false t u v p q = q

-- a setting behind what is carried
pub put-behind : (r : Carried) (k : Key) (x : Fact) → is_plain k x ≡ true → (t u : Trail) → r.R t u → r.R t (put k x u)
put-behind r k x e t u p = r.trans t u (put k x u) p (r.put k x u e)

pub tell_all-carried : (r : Carried) (n : Notice) (t : Trail) → r.R t (tell_all n t)
tell_all-carried r n t = r.say All n t

pub tell_controller-carried : (r : Carried) (x : Fact) (n : Notice) (t : Trail) → r.R t (tell_controller x n t)
tell_controller-carried r (fact.Controller c) n t = r.say (One c) n t
tell_controller-carried r _ n t = r.refl t

-- ---- each of a list, and what there is

pub each-carried : (r : Carried) {A : Type 0} (f : A → Trail → Trail) → ((x : A) (t : Trail) → r.R t (f x t)) → (xs : List A) (t : Trail) → r.R t (each f xs t)
unfolding each
each-carried r f step [] t = r.refl t
each-carried r f step (x ∷ xs) t = r.trans t (f x t) (each f xs (f x t)) (step x t) (each-carried r f step xs (f x t))

pub if_some-carried : (r : Carried) {A : Type 0} (f : A → Trail → Trail) → ((x : A) (t : Trail) → r.R t (f x t)) → (o : Option A) (t : Trail) → r.R t (if_some f o t)
if_some-carried r f step None t = r.refl t
if_some-carried r f step (Some x) t = step x t

-- ---- devices

pub kill-carried : (r : Carried) (x : Fact) (t : Trail) → r.R t (kill x t)
kill-carried r (fact.Handle h) t = r.put (key.Live h) no t refl
kill-carried r _ t = r.refl t

pub untake-carried : (r : Carried) (s : SessId) (d : DevNo) (t : Trail) → r.R t (untake s d t)
untake-carried r s d t =
    let u = kill (value t (key.Taken s d)) t in
    put-behind r (key.Taken s d) fact.Absent refl t (put (key.Awaited s d) no u) (put-behind r (key.Awaited s d) no refl t u (kill-carried r (value t (key.Taken s d)) t))

pub release-carried : (r : Carried) (s : SessId) (t : Trail) → r.R t (release s t)
unfolding release
release-carried r s t =
    let u = each (untake s) (taken_devices t s) t in
    put-behind r (key.Ctl s) fact.Absent refl t u (each-carried r (untake s) (untake-carried r s) (taken_devices t s) t)

pub revoke-carried : (r : Carried) (s : SessId) (d : DevNo) (t : Trail) → r.R t (revoke s d t)
revoke-carried r s d t =
    let n = notice.Pause s d pause.Gone in
    let u = tell_controller (value t (key.Ctl s)) n t in
    r.trans t u (untake s d u) (tell_controller-carried r (value t (key.Ctl s)) n t) (untake-carried r s d u)

pub oust-carried : (r : Carried) (s : SessId) (c : ConnId) (t : Trail) → r.R t (oust s c t)
unfolding oust
oust-carried r s c t =
    let u = each (revoke s) (taken_devices t s) t in
    put-behind r (key.Ctl s) (fact.Controller c) refl t u (each-carried r (revoke s) (revoke-carried r s) (taken_devices t s) t)

pub force_handle-carried : (r : Carried) (s : SessId) (d : DevNo) (x : Fact) (t : Trail) → r.R t (force_handle s d x t)
force_handle-carried r s d (fact.Handle h) t =
    (let n = notice.Pause s d pause.Force in
    let u = put (key.Live h) no t in
    let v = tell_controller (value t (key.Ctl s)) n u in
    cond-carried r (is_live t h) t v t (r.trans t u v (r.put (key.Live h) no t refl) (tell_controller-carried r (value t (key.Ctl s)) n u)) (r.refl t))
force_handle-carried r s d _ t = r.refl t

pub force-carried : (r : Carried) (s : SessId) (t : Trail) → r.R t (force s t)
unfolding force
force-carried r s t = each-carried r (force_device s) (λ d u. force_handle-carried r s d (value u (key.Taken s d)) u) (taken_devices t s) t

pub renew-carried : (r : Carried) (s : SessId) (d : DevNo) (h : HandleNo) (x : Fact) (t : Trail) → r.R t (renew s d h x t)
renew-carried r s d h (fact.Controller c) t =
    (let o = fact.Owned (owner.Device c s d) in
    let a = put (key.Owner h) o t in
    let b = put (key.Live h) yes a in
    let p = put-behind r (key.Taken s d) (fact.Handle h) refl t b (put-behind r (key.Live h) yes refl t a (r.put (key.Owner h) o t refl)) in
    let e = put (key.Taken s d) (fact.Handle h) b in
    r.trans t e (Say (One c) (notice.Resume s d h) ∷ e) p (r.say (One c) (notice.Resume s d h) e))
renew-carried r s d h _ t = r.refl t

pub revive-carried : (r : Carried) (s : SessId) (d : DevNo) (h : HandleNo) (x : Fact) (t : Trail) → r.R t (revive s d h x t)
revive-carried r s d h (fact.Device Drm seat) t =
    (let u = put (key.Live h) yes t in
    r.trans t u (tell_controller (value t (key.Ctl s)) (notice.Resume s d h) u) (r.put (key.Live h) yes t refl) (tell_controller-carried r (value t (key.Ctl s)) (notice.Resume s d h) u))
revive-carried r s d h (fact.Device Evdev seat) t = renew-carried r s d (next_handle t) (value t (key.Ctl s)) t
revive-carried r s d h _ t = r.refl t

pub resume_handle-carried : (r : Carried) (s : SessId) (d : DevNo) (x : Fact) (t : Trail) → r.R t (resume_handle s d x t)
resume_handle-carried r s d (fact.Handle h) t =
    (let u = tell_controller (value t (key.Ctl s)) (notice.Resume s d h) t in
    cond-carried r (is_live t h) t u (revive s d h (value t (key.Dev d)) t) (tell_controller-carried r (value t (key.Ctl s)) (notice.Resume s d h) t) (revive-carried r s d h (value t (key.Dev d)) t))
resume_handle-carried r s d _ t = r.refl t

pub resume-carried : (r : Carried) (s : SessId) (t : Trail) → r.R t (resume s t)
unfolding resume
resume-carried r s t = each-carried r (resume_device s) (λ d u. resume_handle-carried r s d (value u (key.Taken s d)) u) (taken_devices t s) t

-- ---- sessions and seats

pub vacate-carried : (r : Carried) (seat : List ℕ) (t : Trail) → r.R t (vacate seat t)
vacate-carried r seat t = cond-carried r (bytes_eq seat seat0) t t (put (key.Act seat) fact.Absent t) (r.refl t) (r.put (key.Act seat) fact.Absent t refl)

pub leave_seat-carried : (r : Carried) (s : SessId) (seat : List ℕ) (t : Trail) → r.R t (leave_seat s seat t)
leave_seat-carried r s seat t = r.trans t (vacate seat t) (leave_seat s seat t) (vacate-carried r seat t) (r.say All (notice.Active seat (Some s) None) (vacate seat t))

shut-by : (r : Carried) (s : SessId) (t : Trail) (b : Bool) → is_open t s ≡ b
    → r.R t (cond b (if_some (leave_seat s) (cond (is_active t s) (seat_of_session t s) None) (set_phase s Closing (release s t))) t)
shut-by r s t true e =
    let o = cond (is_active t s) (seat_of_session t s) None in
    let v = set_phase s Closing (release s t) in
    r.trans t v (if_some (leave_seat s) o v) (r.closing s t (release s t) e (release-carried r s t)) (if_some-carried r (leave_seat s) (leave_seat-carried r s) o v)
shut-by r s t false e = r.refl t

pub shut-carried : (r : Carried) (s : SessId) (t : Trail) → r.R t (shut s t)
unfolding shut
shut-carried r s t = shut-by r s t (is_open t s) refl

pub take_seat-carried : (r : Carried) (seat : List ℕ) (s : SessId) (old : Option SessId) (t : Trail) → r.R t (take_seat seat s old t)
take_seat-carried r seat s old t =
    let u = if_some force old t in
    let p = put-behind r (key.Act seat) (fact.Active s) refl t u (if_some-carried r force (force-carried r) old t) in
    let v = put (key.Act seat) (fact.Active s) u in
    r.trans t v (take_seat seat s old t) p (r.say All (notice.Active seat old (Some s)) v)

pub front-carried : (r : Carried) (seat : List ℕ) (s : SessId) (t : Trail) → r.R t (front seat s t)
unfolding front
front-carried r seat s t =
    let u = take_seat seat s (active_on t seat) t in
    cond-carried r (is_active t s) t t (resume s u) (r.refl t) (r.trans t u (resume s u) (take_seat-carried r seat s (active_on t seat) t) (resume-carried r s u))

-- ---- users

pub tell_new_user-carried : (r : Carried) (u : Uid) (x : Fact) (t : Trail) → r.R t (tell_new_user u x t)
tell_new_user-carried r u fact.Absent t = r.say All (notice.UserNew u) t
tell_new_user-carried r u _ t = r.refl t

pub know-carried : (r : Carried) (u : Uid) (t : Trail) → r.R t (know u t)
unfolding know
know-carried r u t =
    let v = put (key.User u) fact.Known t in
    r.trans t v (tell_new_user u (value t (key.User u)) v) (r.put (key.User u) fact.Known t refl) (tell_new_user-carried r u (value t (key.User u)) v)

pub forget-carried : (r : Carried) (u : Uid) (t : Trail) → r.R t (forget u t)
forget-carried r u t = r.trans t (put (key.User u) fact.Absent t) (forget u t) (r.put (key.User u) fact.Absent t refl) (r.say All (notice.UserRemoved u) (put (key.User u) fact.Absent t))

pub leaving-carried : (r : Carried) (b c : Bool) (u : Uid) (since : Fact) (t : Trail) → r.R t (cond b t (cond c (forget u t) (put (key.User u) since t)))
leaving-carried r true c u since t = r.refl t
leaving-carried r false true u since t = forget-carried r u t
leaving-carried r false false u since t = r.put (key.User u) since t refl

pub leave-carried : (r : Carried) (U : Setup) (u : Uid) (t : Trail) → r.R t (leave U u t)
unfolding leave
leave-carried r U u t = leaving-carried r (is_kept t u) (U.conf.user_stop_delay.0 == 0) u (fact.Leaving (record { 0 = now t })) t

pub linger-carried : (r : Carried) (U : Setup) (u : Uid) (on : Bool) (t : Trail) → r.R t (linger U u on t)
linger-carried r U u true t =
    (let v = put (key.Linger u) yes t in r.trans t v (know u v) (r.put (key.Linger u) yes t refl) (know-carried r u v))
linger-carried r U u false t =
    (let v = put (key.Linger u) no t in
    r.trans t v (leave_known U u (value v (key.User u)) v) (r.put (key.Linger u) no t refl) (leave_known-carried (value v (key.User u)) v))
  where
    leave_known-carried : (x : Fact) (v : Trail) → r.R v (leave_known U u x v)
    leave_known-carried fact.Known v = leave-carried r U u v
    leave_known-carried _ v = r.refl v

-- ---- terminals

pub await_handle-carried : (r : Carried) → Switched r → (s : SessId) (d : DevNo) (x : Fact) (t : Trail) → r.R t (await_handle s d x t)
await_handle-carried r w s d (fact.Handle h) t =
    (let n = notice.Pause s d pause.Pause in
    let u = put (key.Awaited s d) yes t in
    let v = tell_controller (value t (key.Ctl s)) n u in
    cond-carried r (is_live t h) t v t (r.trans t u v (w.awaited s d t) (tell_controller-carried r (value t (key.Ctl s)) n u)) (r.refl t))
await_handle-carried r w s d _ t = r.refl t

pub await_devices-carried : (r : Carried) → Switched r → (s : SessId) (t : Trail) → r.R t (await_devices s t)
unfolding await_devices
await_devices-carried r w s t = each-carried r (await_device s) (λ d u. await_handle-carried r w s d (value u (key.Taken s d)) u) (taken_devices t s) t

pub unawait_devices-carried : (r : Carried) (s : SessId) (t : Trail) → r.R t (unawait_devices s t)
unfolding unawait_devices
unawait_devices-carried r s t = each-carried r (λ d u. put (key.Awaited s d) no u) (λ d u. r.put (key.Awaited s d) no u refl) (taken_devices t s) t

pub ask_switch-carried : (r : Carried) → Switched r → (v : ℕ) (was : Bool) (t : Trail) → r.R t (ask_switch v was t)
ask_switch-carried r w v true t = w.pending (fact.Number v) t
ask_switch-carried r w v false t =
    (let u = put key.Pending (fact.Number v) t in
    r.trans t u (if_some await_devices (active_on t seat0) u) (w.pending (fact.Number v) t) (if_some-carried r await_devices (await_devices-carried r w) (active_on t seat0) u))

pub withdraw_switch-carried : (r : Carried) → Switched r → (t : Trail) → r.R t (withdraw_switch t)
withdraw_switch-carried r w t =
    let o = active_on t seat0 in
    let u = put key.Pending fact.Absent t in
    let v = if_some unawait_devices o u in
    r.trans t v (if_some resume o v) (r.trans t u v (w.pending fact.Absent t) (if_some-carried r unawait_devices (unawait_devices-carried r) o u)) (if_some-carried r resume (resume-carried r) o v)

pub request-carried : (r : Carried) → Switched r → (v : ℕ) (t : Trail) → r.R t (request v t)
unfolding request
request-carried r w v t =
    let b = is_number_fact (value t key.Pending) in
    cond-carried r (v == current_vt t) t (cond b (withdraw_switch t) t) (ask_switch v b t)
    (cond-carried r b t (withdraw_switch t) t (withdraw_switch-carried r w t) (r.refl t)) (ask_switch-carried r w v b t)

pub tell_change-carried : (r : Carried) (old new : Option SessId) (t : Trail) → r.R t (tell_change old new t)
tell_change-carried r None None t = r.refl t
tell_change-carried r (Some s) new t = r.say All (notice.Active seat0 (Some s) new) t
tell_change-carried r None (Some w) t = r.say All (notice.Active seat0 None (Some w)) t

pub arrive-carried : (r : Carried) (old : Option SessId) (t : Trail) → r.R t (arrive old t)
arrive-carried r old t =
    let o = active_on t seat0 in
    let u = tell_change old o t in
    r.trans t u (if_some resume o u) (tell_change-carried r old o t) (if_some-carried r resume (resume-carried r) o u)

pub move_to-carried : (r : Carried) → Switched r → (conf : Conf) (v : ℕ) (old : Option SessId) (t : Trail) → r.R t (move_to conf v old t)
move_to-carried r w conf v old t =
    let a = if_some force old t in
    let b = put key.Vt (fact.Number v) a in
    let c = put key.Pending fact.Absent b in
    let d = ask_getty conf v c in
    let p = r.trans t b c (r.trans t a b (if_some-carried r force (force-carried r) old t) (w.vt (fact.Number v) a)) (w.pending fact.Absent b) in
    let q = cond-carried r (not (is_some (session_on c v)) && nat_le v conf.auto_vts) c (put (key.Getty v) yes c) c (r.put (key.Getty v) yes c refl) (r.refl c) in
    r.trans t d (arrive old d) (r.trans t c d p q) (arrive-carried r old d)

pub complete-carried : (r : Carried) → Switched r → (conf : Conf) (x : Fact) (t : Trail) → r.R t (complete conf x t)
complete-carried r w conf (fact.Number v) t =
    (let u = move_to conf v (active_on t seat0) t in cond-carried r (is_awaiting t) t t u (r.refl t) (move_to-carried r w conf v (active_on t seat0) t))
complete-carried r w conf _ t = r.refl t

pub settle_switch-carried : (r : Carried) → Switched r → (conf : Conf) (t : Trail) → r.R t (settle_switch conf t)
unfolding settle_switch
settle_switch-carried r w conf t = complete-carried r w conf (value t key.Pending) t

-- ---- devices that are taken, and that come and go

pub enliven-carried : (r : Carried) (h : HandleNo) (b : Bool) (t : Trail) → r.R t (enliven h b t)
enliven-carried r h true t = r.put (key.Live h) yes t refl
enliven-carried r h false t = r.refl t

pub take-carried : (r : Carried) (c : ConnId) (s : SessId) (d : DevNo) (h : HandleNo) (t : Trail) → r.R t (take_device c s d h t)
unfolding take_device
take-carried r c s d h t =
    let o = fact.Owned (owner.Device c s d) in
    let a = put (key.Owner h) o t in
    let b = put (key.Taken s d) (fact.Handle h) a in
    r.trans t b (enliven h (is_active t s) b) (put-behind r (key.Taken s d) (fact.Handle h) refl t a (r.put (key.Owner h) o t refl)) (enliven-carried r h (is_active t s) b)

pub acknowledge-carried : (r : Carried) (s : SessId) (d : DevNo) (t : Trail) → r.R t (acknowledge s d t)
unfolding acknowledge
acknowledge-carried r s d t =
    let u = put (key.Awaited s d) no t in
    let v = kill (value t (key.Taken s d)) u in
    cond-carried r (is_set (value t (key.Awaited s d))) t v t (r.trans t u v (r.put (key.Awaited s d) no t refl) (kill-carried r (value t (key.Taken s d)) u)) (r.refl t)

pub set_mode-carried : (r : Carried) (x : Fact) (n : ℕ) (t : Trail) → r.R t (set_mode x n t)
set_mode-carried r (fact.Owned (owner.Device c s d)) n t = r.put (key.Mode d) (fact.Number n) t refl
set_mode-carried r _ n t = r.refl t

pub appear_seat-carried : (r : Carried) (kind : DevKind) (seat : List ℕ) (t : Trail) → r.R t (appear_seat kind seat t)
appear_seat-carried r Drm seat t =
    (let u = put (key.Seat seat) fact.Present t in
    cond-carried r (is_seat t seat) t t (tell_all (notice.SeatNew seat) u) (r.refl t) (r.trans t u (tell_all (notice.SeatNew seat) u) (r.put (key.Seat seat) fact.Present t refl) (r.say All (notice.SeatNew seat) u)))
appear_seat-carried r Evdev seat t = r.refl t

pub add_device-carried : (r : Carried) (d : DevNo) (kind : DevKind) (seat : List ℕ) (t : Trail) → Arrives r t (Happens (Add d kind seat)) → r.R t (add_device d kind seat t)
unfolding add_device
add_device-carried r d kind seat t k =
    let u = put (key.Dev d) (fact.Device kind seat) t in
    r.trans t u (appear_seat kind seat u) (k d kind seat refl) (appear_seat-carried r kind seat u)

pub lose_seat-carried : (r : Carried) (x : Fact) (t : Trail) → r.R t (lose_seat x t)
lose_seat-carried r (fact.Device Drm seat) t =
    (let a = each shut (sessions_on t seat) t in
    let b = put (key.Seat seat) fact.Absent a in
    let v = tell_all (notice.SeatRemoved seat) b in
    cond-carried r (bytes_eq seat seat0 || has_graphics t seat) t t v (r.refl t)
    (r.trans t b v (put-behind r (key.Seat seat) fact.Absent refl t a (each-carried r shut (shut-carried r) (sessions_on t seat) t)) (r.say All (notice.SeatRemoved seat) b)))
lose_seat-carried r _ t = r.refl t

pub remove_device-carried : (r : Carried) (d : DevNo) (t : Trail) → r.R t (remove_device d t)
unfolding remove_device
remove_device-carried r d t =
    let a = each (λ s u. revoke s d u) (takers t d) t in
    let b = put (key.Dev d) fact.Absent a in
    let c = put (key.Mode d) (fact.Number 0) b in
    let p = put-behind r (key.Mode d) (fact.Number 0) refl t b (put-behind r (key.Dev d) fact.Absent refl t a (each-carried r (λ s u. revoke s d u) (λ s u. revoke-carried r s d u) (takers t d) t)) in
    r.trans t c (lose_seat (value t (key.Dev d)) c) p (lose_seat-carried r (value t (key.Dev d)) c)

-- ---- calls and hardware

pub appear_on-carried : (r : Carried) (o : Option (List ℕ)) (s : SessId) (t : Trail) → r.R t (appear_on o s t)
appear_on-carried r None s t = r.refl t
appear_on-carried r (Some seat) s t =
    (let u = tell_all (notice.Active seat0 None (Some s)) t in
    let v = take_seat seat s (active_on t seat) t in
    cond-carried r (bytes_eq seat seat0) t (cond (is_active t s) u t) v (cond-carried r (is_active t s) t u t (tell_all-carried r (notice.Active seat0 None (Some s)) t) (r.refl t)) (take_seat-carried r seat s (active_on t seat) t))

-- what is said of each event: what it carries, or of the terminal that it asks for
activate-by : (b : Bool) (r : Carried) (Q : Trail → Type 0) (seat : List ℕ) (s : SessId) (v : ℕ) (t : Trail) → ((u : Trail) → r.R t u → Q u)
    → ((n : ℕ) → cond b (Some v) None ≡ Some n → Q (request n t)) → Q (cond b (request v t) (front seat s t))
activate-by true r Q seat s v t carry asks = asks v refl
activate-by false r Q seat s v t carry asks = carry (front seat s t) (front-carried r seat s t)

activate_on-carried : (r : Carried) (Q : Trail → Type 0) (o : Option (List ℕ)) (s : SessId) (t : Trail) → ((u : Trail) → r.R t u → Q u)
    → ((n : ℕ) → on_seat0 o (vt_in (value t (key.Sess s))) ≡ Some n → Q (request n t)) → Q (activate_on o s t)
activate_on-carried r Q None s t carry asks = carry t (r.refl t)
activate_on-carried r Q (Some seat) s t carry asks = activate-by (bytes_eq seat seat0) r Q seat s (vt_in (value t (key.Sess s))) t carry asks

pub activate-carried : (r : Carried) (Q : Trail → Type 0) (o : Option SessId) (t : Trail) → ((u : Trail) → r.R t u → Q u)
    → ((n : ℕ) → session_vt_of t o ≡ Some n → Q (request n t)) → Q (if_some activate o t)
unfolding activate
activate-carried r Q None t carry asks = carry t (r.refl t)
activate-carried r Q (Some s) t carry asks = activate_on-carried r Q (seat_of_session t s) s t carry asks

request-some : (r : Carried) (Q : Trail → Type 0) (o : Option ℕ) (t : Trail) → ((u : Trail) → r.R t u → Q u) → ((n : ℕ) → o ≡ Some n → Q (request n t)) → Q (if_some request o t)
request-some r Q None t carry asks = carry t (r.refl t)
request-some r Q (Some v) t carry asks = asks v refl

turn-by : (b : Bool) (r : Carried) (Q : Trail → Type 0) (o : Option ℕ) (w : Option SessId) (seat : List ℕ) (t : Trail) → ((u : Trail) → r.R t u → Q u)
    → ((n : ℕ) → cond b o None ≡ Some n → Q (request n t)) → Q (cond b (if_some request o t) (if_some (front seat) w t))
turn-by true r Q o w seat t carry asks = request-some r Q o t carry asks
turn-by false r Q o w seat t carry asks = carry (if_some (front seat) w t) (if_some-carried r (front seat) (front-carried r seat) w t)

pub next-carried : (r : Carried) (Q : Trail → Type 0) (seat : List ℕ) (t : Trail) → ((u : Trail) → r.R t u → Q u)
    → ((n : ℕ) → turn_vt (next_around nat_lt) seat t ≡ Some n → Q (request n t)) → Q (turn_to_next seat t)
unfolding turn_to_next
next-carried r Q seat t carry asks =
    turn-by (bytes_eq seat seat0) r Q (next_around nat_lt (Some (current_vt t)) (open_terminals t)) (next_around session_lt (active_on t seat) (open_on t seat)) seat t carry asks

pub previous-carried : (r : Carried) (Q : Trail → Type 0) (seat : List ℕ) (t : Trail) → ((u : Trail) → r.R t u → Q u)
    → ((n : ℕ) → turn_vt (previous_around nat_lt) seat t ≡ Some n → Q (request n t)) → Q (turn_to_previous seat t)
unfolding turn_to_previous
previous-carried r Q seat t carry asks =
    turn-by (bytes_eq seat seat0) r Q (previous_around nat_lt (Some (current_vt t)) (open_terminals t)) (previous_around session_lt (active_on t seat) (open_on t seat)) seat t carry asks

pub control_from-carried : (r : Carried) (x : Fact) (c : ConnId) (s : SessId) (t : Trail) → r.R t (control_from x c s t)
control_from-carried r (fact.Controller b) c s t = cond-carried r (b.0 == c.0) t t (oust s c t) (r.refl t) (oust-carried r s c t)
control_from-carried r _ c s t = r.put (key.Ctl s) (fact.Controller c) t refl

pub control-carried : (r : Carried) (c : ConnId) (s : SessId) (t : Trail) → r.R t (control c s t)
unfolding control
control-carried r c s t = control_from-carried r (value t (key.Ctl s)) c s t

pub close_owned-carried : (r : Carried) → Unlocks r → (h : HandleNo) (x : Fact) (t : Trail) → r.R t (close_owned h x t)
close_owned-carried r k h (fact.Owned (owner.Fifo c s)) t =
    (let u = close_handle h t in r.trans t u (shut s u) (r.put (key.Owner h) (fact.Owned owner.Closed) t refl) (shut-carried r s u))
close_owned-carried r k h (fact.Owned (owner.Lock c l)) t =
    (let u = put (key.Lock l) fact.Absent t in put-behind r (key.Owner h) (fact.Owned owner.Closed) refl t u (k l t))
close_owned-carried r k h (fact.Owned (owner.Device c s d)) t =
    (let b = is_this_handle h (value t (key.Taken s d)) in
    put-behind r (key.Owner h) (fact.Owned owner.Closed) refl t (cond b (untake s d t) t) (cond-carried r b t (untake s d t) t (untake-carried r s d t) (r.refl t)))
close_owned-carried r k h _ t = r.refl t

pub close-carried : (r : Carried) → Unlocks r → (h : HandleNo) (t : Trail) → r.R t (close h t)
unfolding close
close-carried r k h t = close_owned-carried r k h (value t (key.Owner h)) t

-- all of a disconnect but its last setting
pub ends-carried : (r : Carried) → Unlocks r → (c : ConnId) (t : Trail) → r.R t (unlock c (end_sessions c (each release (controlled_by t c) t)))
ends-carried r k c t =
    let a = each release (controlled_by t c) t in
    let b = end_sessions c a in
    let d = unlock c b in
    r.trans t b d (r.trans t a b (each-carried r release (release-carried r) (controlled_by t c) t) (each-carried r shut (shut-carried r) (kept_open_by a c) a))
    (each-carried r (λ l u. put (key.Lock l) fact.Absent u) (λ l u. k l u) (locks_of b c) b)

pub exit-carried : (r : Carried) (U : Setup) (s : SessId) (t : Trail) → r.R t (exit U s t)
unfolding exit
exit-carried r U s t =
    let u = user_or_root (value t (key.Sess s)) in
    let a = set_phase s Gone (shut s t) in
    let b = tell_all (notice.SessionRemoved s) a in
    r.trans t b (leave U u b) (r.trans t a b (r.gone s t (shut s t) (shut-carried r s t)) (r.say All (notice.SessionRemoved s) a)) (leave-carried r U u b)

pub tick-carried : (r : Carried) → Clocked r → (U : Setup) (m : Millis) (t : Trail) → r.R t (tick U m t)
unfolding tick
tick-carried r k U m t =
    let u = put key.Now (fact.Moment m) t in
    r.trans t u (each forget (overdue U t m.0) u) (k.now m t) (each-carried r forget (forget-carried r) (overdue U t m.0) u)

-- ---- events

-- What an event makes of its call: what is carried, or a terminal asked for, a session created, an operation asked for.
pub direct_call-carried : (r : Carried) → Clocked r → (Q : Trail → Type 0) (U : Setup) (c : ConnId) (x : Call) (t : Trail) → ((u : Trail) → r.R t u → Q u)
    → ((v : ℕ) → call_vt t x ≡ Some v → Q (request v t)) → ((y : Creation) → x ≡ call.Create y → Q (create c y (next_session t) (next_handle t) t))
    → ((k : OpKind) → x ≡ call.Power k → Q (ask_operation k (is_blocked t k) t)) → Q (direct_call U c x t)
direct_call-carried r w Q U c (call.Create x) t carry asks new ops = new x refl
direct_call-carried r w Q U c (call.Activate id) t carry asks new ops = activate-carried r Q (session_of id) t carry asks
direct_call-carried r w Q U c (call.ActivateOnSeat id seat) t carry asks new ops = activate-carried r Q (session_of id) t carry asks
direct_call-carried r w Q U c (call.Lock id) t carry asks new ops = carry (direct_call U c (call.Lock id) t) (if_some-carried r lock_session (λ s u. tell_all-carried r (notice.Lock s) u) (session_of id) t)
direct_call-carried r w Q U c (call.Unlock id) t carry asks new ops = carry (direct_call U c (call.Unlock id) t) (if_some-carried r unlock_session (λ s u. tell_all-carried r (notice.Unlock s) u) (session_of id) t)
direct_call-carried r w Q U c call.LockAll t carry asks new ops = carry (direct_call U c call.LockAll t) (each-carried r lock_session (λ s u. tell_all-carried r (notice.Lock s) u) (open_sessions t) t)
direct_call-carried r w Q U c call.UnlockAll t carry asks new ops = carry (direct_call U c call.UnlockAll t) (each-carried r unlock_session (λ s u. tell_all-carried r (notice.Unlock s) u) (open_sessions t) t)
direct_call-carried r w Q U c (call.Kill id who signal) t carry asks new ops = carry (direct_call U c (call.Kill id who signal) t) (if_some-carried r (λ s u. put (key.Sig s) (fact.Signal (whom_of who) signal) u) (λ s u. r.put (key.Sig s) (fact.Signal (whom_of who) signal) u refl) (session_of id) t)
direct_call-carried r w Q U c (call.Terminate id) t carry asks new ops = carry (direct_call U c (call.Terminate id) t) (if_some-carried r shut (shut-carried r) (session_of id) t)
direct_call-carried r w Q U c (call.TerminateUser u) t carry asks new ops = carry (direct_call U c (call.TerminateUser u) t) (each-carried r shut (shut-carried r) (sessions_of t u.0) t)
direct_call-carried r w Q U c (call.TerminateSeat seat) t carry asks new ops = carry (direct_call U c (call.TerminateSeat seat) t) (each-carried r shut (shut-carried r) (sessions_on t seat) t)
direct_call-carried r w Q U c (call.SetLinger u on) t carry asks new ops = carry (direct_call U c (call.SetLinger u on) t) (linger-carried r U (record { 0 = meant_user t c u.0 }) on t)
direct_call-carried r w Q U c (call.SetIdle id on) t carry asks new ops = carry (direct_call U c (call.SetIdle id on) t) (if_some-carried r (λ s u. put (key.Idle s) (fact.Flag on) u) (λ s u. r.put (key.Idle s) (fact.Flag on) u refl) (session_of id) t)
direct_call-carried r w Q U c (call.SetLocked id on) t carry asks new ops = carry (direct_call U c (call.SetLocked id on) t) (if_some-carried r (λ s u. put (key.Locked s) (fact.Flag on) u) (λ s u. r.put (key.Locked s) (fact.Flag on) u refl) (session_of id) t)
direct_call-carried r w Q U c (call.Control id force) t carry asks new ops = carry (direct_call U c (call.Control id force) t) (if_some-carried r (control c) (control-carried r c) (session_of id) t)
direct_call-carried r w Q U c (call.Uncontrol id) t carry asks new ops = carry (direct_call U c (call.Uncontrol id) t) (if_some-carried r release (release-carried r) (session_of id) t)
direct_call-carried r w Q U c (call.SwitchTo seat vt) t carry asks new ops = asks vt refl
direct_call-carried r w Q U c (call.SwitchToNext seat) t carry asks new ops = next-carried r Q seat t carry asks
direct_call-carried r w Q U c (call.SwitchToPrevious seat) t carry asks new ops = previous-carried r Q seat t carry asks
direct_call-carried r w Q U c (call.KillUser u signal) t carry asks new ops = carry (direct_call U c (call.KillUser u signal) t) (each-carried r (λ s v. put (key.Sig s) (fact.Signal whom.All signal) v) (λ s v. r.put (key.Sig s) (fact.Signal whom.All signal) v refl) (sessions_of t u.0) t)
direct_call-carried r w Q U c (call.Close h) t carry asks new ops = carry (direct_call U c (call.Close h) t) (close-carried r (λ l u. w.lock l fact.Absent u) h t)
direct_call-carried r w Q U c (call.TakeDevice id d) t carry asks new ops =
    (let f = λ (s : SessId) (u : Trail). take_device c s d (next_handle u) u in
    carry (if_some f (session_of id) t) (if_some-carried r f (λ s u. take-carried r c s d (next_handle u) u) (session_of id) t))
direct_call-carried r w Q U c (call.ReleaseDevice id d) t carry asks new ops =
    (let f = λ (s : SessId) (u : Trail). untake s d u in carry (if_some f (session_of id) t) (if_some-carried r f (λ s u. untake-carried r s d u) (session_of id) t))
direct_call-carried r w Q U c (call.PauseComplete id d) t carry asks new ops =
    (let f = λ (s : SessId) (u : Trail). acknowledge s d u in carry (if_some f (session_of id) t) (if_some-carried r f (λ s u. acknowledge-carried r s d u) (session_of id) t))
direct_call-carried r w Q U c (call.SetMode h mode) t carry asks new ops = carry (set_mode (value t (key.Owner h)) mode t) (set_mode-carried r (value t (key.Owner h)) mode t)
direct_call-carried r w Q U c (call.Power k) t carry asks new ops = ops k refl
direct_call-carried r w Q U c (call.Inhibit x) t carry asks new ops =
    (let y = asked_lock c (record { 0 = uid_of t c }) x in
    let l = next_lock t in
    let h = next_handle t in
    let o = fact.Owned (owner.Lock y.holder l) in
    let u = put (key.Lock l) (fact.Lock y) t in
    carry (put (key.Owner h) o u) (put-behind r (key.Owner h) o refl t u (w.lock l (fact.Lock y) t)))
direct_call-carried r w Q U c _ t carry asks new ops = carry t (r.refl t)

press-carried : (r : Carried) (Q : Trail → Type 0) (x : KeyAction) (t : Trail) → ((u : Trail) → r.R t u → Q u) → ((k : OpKind) → x ≡ does.Operation k → Q (ask_operation k (is_blocked t k) t)) → Q (press x t)
press-carried r Q does.Ignore t carry ops = carry t (r.refl t)
press-carried r Q does.Lock t carry ops = carry (each lock_session (open_sessions t) t) (each-carried r lock_session (λ s u. tell_all-carried r (notice.Lock s) u) (open_sessions t) t)
press-carried r Q (does.Operation k) t carry ops = ops k refl

pub happen-carried : (r : Carried) (Q : Trail → Type 0) (U : Setup) (x : Hardware) (t : Trail) → Arrives r t (Happens x) → ((u : Trail) → r.R t u → Q u)
    → ((v : ℕ) → asked_vt t (Happens x) ≡ Some v → Q (request v t)) → ((p : HardKey) (k : OpKind) → x ≡ HardKeyPressed p → key_action U t p ≡ does.Operation k → Q (ask_operation k (is_blocked t k) t)) → (x ≡ JobDone → Q (job_done t)) → Q (happen U x t)
unfolding asked_vt
happen-carried r Q U (VtKey vt) t new carry asks ops done = asks vt refl
happen-carried r Q U (Exit id) t new carry asks ops done = carry (if_some (exit U) (session_of id) t) (if_some-carried r (exit U) (exit-carried r U) (session_of id) t)
happen-carried r Q U (Add d kind seat) t new carry asks ops done = carry (add_device d kind seat t) (add_device-carried r d kind seat t new)
happen-carried r Q U (Remove d) t new carry asks ops done = carry (remove_device d t) (remove_device-carried r d t)
happen-carried r Q U (HardKeyPressed p) t new carry asks ops done = press-carried r Q (key_action U t p) t carry (λ k e. ops p k refl e)
happen-carried r Q U (Dock on) t new carry asks ops done = carry (put key.Docked (fact.Flag on) t) (r.put key.Docked (fact.Flag on) t refl)
happen-carried r Q U JobDone t new carry asks ops done = done refl
happen-carried r Q U _ t new carry asks ops done = carry t (r.refl t)

-- a session is created
pub create-carried : (r : Carried) → Comes r → (c : ConnId) (x : Creation) (s : SessId) (h : HandleNo) (t : Trail) → r.R t (create c x s h t)
unfolding create
create-carried r k c x s h t =
    let o = fact.Owned (owner.Fifo c s) in
    let y = fact.Session (created_session c x h) in
    let a = know x.uid t in
    let b = put (key.Owner h) o a in
    let d = put (key.Sess s) y b in
    let e = tell_all (notice.SessionNew s) d in
    r.trans t e (appear_on (seat_of x.seat) s e)
    (r.trans t d e (r.trans t b d (put-behind r (key.Owner h) o refl t a (know-carried r x.uid t)) (k.sess s y b)) (r.say All (notice.SessionNew s) d))
    (appear_on-carried r (seat_of x.seat) s e)

-- What a granted event does by itself: what is carried, or a terminal asked for, an operation asked for, or one that is
-- over.
pub direct-carried : (r : Carried) → Clocked r → Comes r → (Q : Trail → Type 0) (U : Setup) (e : Event) (t : Trail) → Arrives r t e → ((u : Trail) → r.R t u → Q u)
    → ((v : ℕ) → asked_vt t e ≡ Some v → Q (request v t)) → ((k : OpKind) → AsksFor U t e k → Q (ask_operation k (is_blocked t k) t)) → (e ≡ Happens JobDone → Q (job_done t)) → Q (direct U e t)
unfolding direct disconnect asked_vt
direct-carried r w k Q U (Connect c u) t new carry asks ops done = carry (put (key.Conn c) (fact.Connected u) t) (k.conn c (fact.Connected u) t)
direct-carried r w k Q U (Disconnect c) t new carry asks ops done =
    (let u = unlock c (end_sessions c (each release (controlled_by t c) t)) in
    carry (put (key.Conn c) fact.Absent u) (r.trans t u (put (key.Conn c) fact.Absent u) (ends-carried r (λ l v. w.lock l fact.Absent v) c t) (k.conn c fact.Absent u)))
direct-carried r w k Q U (Calls q) t new carry asks ops done =
    direct_call-carried r w Q U q.who q.call t carry asks (λ y e. carry (create q.who y (next_session t) (next_handle t) t) (create-carried r k q.who y (next_session t) (next_handle t) t)) ops
direct-carried r w k Q U (Happens x) t new carry asks ops done =
    happen-carried r Q U x t new carry asks (λ p o e a. ops o (let P : Hardware → Type 0 = λ y. AsksFor U t (Happens y) o in subst P (sym e) a)) (λ e. done (ap Happens e))
direct-carried r w k Q U (Tick m) t new carry asks ops done = carry (tick U m t) (tick-carried r w U m t)
direct-carried r w k Q U Stop t new carry asks ops done = carry t (r.refl t)

-- ---- what all carry over operations too

pub ask_operation-carried : (r : Carried) → Operated r → (k : OpKind) (skip : Bool) (t : Trail) → r.R t (ask_operation k skip t)
unfolding ask_operation
ask_operation-carried r w k skip t =
    let o = Waiting k (record { 0 = now t }) skip in
    let u = put key.Op (fact.Operation o) t in
    r.trans t u (tell_all (prepare k true) u) (w.op o t) (r.say All (prepare k true) u)

end_operation-carried : (r : Carried) → Operated r → (x : Fact) (t : Trail) → r.R t (end_operation x t)
end_operation-carried r w (fact.Operation (Running k)) t =
    (let u = put key.Op (fact.Operation Idle) t in r.trans t u (tell_all (prepare k false) u) (w.op Idle t) (r.say All (prepare k false) u))
end_operation-carried r w _ t = r.refl t

pub job_done-carried : (r : Carried) → Operated r → (t : Trail) → r.R t (job_done t)
unfolding job_done
job_done-carried r w t = end_operation-carried r w (value t key.Op) t

start-carried : (r : Carried) → Operated r → (U : Setup) (x : Fact) (t : Trail) → r.R t (start U.conf x t)
start-carried r w U (fact.Operation (Waiting k since skip)) t =
    (let u = put key.Op (fact.Operation (Running k)) t in
    cond-carried r (is_delayed t k && not (is_over U.conf t since)) t t u (r.refl t) (w.op (Running k) t))
start-carried r w U _ t = r.refl t

pub settle_operation-carried : (r : Carried) → Operated r → (U : Setup) (t : Trail) → r.R t (settle_operation U.conf t)
unfolding settle_operation
settle_operation-carried r o U t = start-carried r o U (value t key.Op) t

pub settle-carried : (r : Carried) → Switched r → Operated r → (U : Setup) (t : Trail) → r.R t (settle U t)
settle-carried r w o U t =
    let u = settle_switch U.conf t in
    r.trans t u (settle_operation U.conf u) (settle_switch-carried r w U.conf t) (settle_operation-carried r o U u)

-- a call and a hardware event, where all of it is carried
pub call-carried : (r : Carried) → Clocked r → Switched r → Operated r → (U : Setup) (c : ConnId) (x : Call) (t : Trail)
    → ((y : Creation) → x ≡ call.Create y → r.R t (create c y (next_session t) (next_handle t) t)) → r.R t (direct_call U c x t)
call-carried r k w o U c x t new = direct_call-carried r k (r.R t) U c x t (λ u p. p) (λ v e. request-carried r w v t) new (λ k e. ask_operation-carried r o k (is_blocked t k) t)

pub hardware-carried : (r : Carried) → Switched r → Operated r → (U : Setup) (x : Hardware) (t : Trail) → Arrives r t (Happens x) → r.R t (happen U x t)
hardware-carried r w o U x t new = happen-carried r (r.R t) U x t new (λ u p. p) (λ v e. request-carried r w v t) (λ p k e q. ask_operation-carried r o k (is_blocked t k) t) (λ e. job_done-carried r o t)
