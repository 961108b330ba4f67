-- Each mark of a legal journal is named: the procedures, one after the other, add only marks that are.
use Rattle.std.proofs.Common.{◌≡◌, ◌==◌, ◌&&◌, ◌||◌, not, nat_le, nat_lt, ℕ, Bool, true, false, cond, Option, Some, None, List, [], ◌∷◌, ◌++◌, refl, ap, sym, ◌∙◌, subst}
use Rattle.std.specs.List.{AllByRecursion}
use Rattle.std.specs.Option.{is_some}
use Rattle.std.specs.Str.{bytes_eq}
use Rattle.login_base.specs.Seat.{is_seat_name}
use Rattle.login_base.specs.SessionId.{session_of}
use Rattle.login_base.specs.declared.ids.ConnId.{ConnId}
use Rattle.login_base.specs.declared.ids.DevNo.{DevNo}
use Rattle.login_base.specs.declared.ids.HandleNo.{HandleNo}
use Rattle.login_base.specs.declared.ids.LockNo.{LockNo}
use Rattle.login_base.specs.declared.ids.Millis.{Millis}
use Rattle.login_base.specs.declared.ids.SessId.{SessId}
use Rattle.login_base.specs.declared.ids.Uid.{Uid}
use Rattle.login_model.specs.Creating.{appear_on, create, created_session, seat_of}
use Rattle.login_model.specs.Devices.{is_awaiting, is_live, taken_devices}
use Rattle.login_model.specs.Direct.{activate, activate_on, close, close_handle, close_owned, control, control_from, controlled_by, direct, direct_call, disconnect, end_sessions, exit, happen, is_this_handle, kept_open_by, leave_known, linger, lock_session, locks_of, overdue, user_or_root, press, tick, unlock, unlock_session}
use Rattle.login_model.specs.Facts.{is_number_fact, seat_in_fact}
use Rattle.login_model.specs.Fresh.{next_handle, next_lock, next_session}
use Rattle.login_model.specs.Legal.{IsLegalAfter, IsLegalEntry, IsPlaced, after_all, stepped, trail_of}
use Rattle.login_model.specs.Limits.{text_limit}
use Rattle.login_model.specs.Locks.{asked_lock}
use Rattle.login_model.specs.Names.{session_lt}
use Rattle.login_model.specs.Policy.{call_rules, is_user_of, meant_user, no_such_seat, no_such_user, uid_of, verdict}
use Rattle.login_model.specs.Power.{ask_operation, end_operation, inhibit, is_blocked, is_delayed, is_over, job_done, key_action, prepare, settle_operation, start}
use Rattle.login_model.specs.Procedure.{each, force, force_device, force_handle, forget, front, if_some, in_phase, is_kept, kill, know, leave, leave_seat, no, oust, release, renew, resume, resume_device, resume_handle, revive, revoke, set_phase, shut, take_seat, tell_controller, tell_new_user, untake, vacate, yes}
use Rattle.login_model.specs.Same.{same_fact, same_key}
use Rattle.login_model.specs.Settle.{settle}
use Rattle.login_model.specs.Start.{seat0, start_fact}
use Rattle.login_model.specs.Switching.{arrive, ask_getty, ask_switch, await_device, await_devices, await_handle, complete, move_to, request, settle_switch, tell_change, unawait_devices, withdraw_switch}
use Rattle.login_model.specs.Taking.{acknowledge, add_device, appear_seat, enliven, has_graphics, lose_seat, remove_device, set_mode, take_device, takers}
use Rattle.login_model.specs.Texts.{IsText, has_seat_name, texts}
use Rattle.login_model.specs.Trail.{Trail, put, tell_all, value}
use Rattle.login_model.specs.Turning.{next_around, open_on, open_terminals, previous_around, turn_to_next, turn_to_previous, vt_in}
use Rattle.login_model.specs.Where.{active_on, current_vt, is_active, is_open, is_seat, is_set, now, open_sessions, seat_of_session, session_on, sessions_of, sessions_on}
use Rattle.login_model.specs.Words.{whom_of}
use Rattle.login_model.specs.declared.call.Call.{Call}
use Rattle.login_model.specs.declared.call.Call.TheVariants as call
use Rattle.login_model.specs.declared.call.Creation.{Creation}
use Rattle.login_model.specs.declared.call.Inhibition.{Inhibition}
use Rattle.login_model.specs.declared.conf.Conf.{Conf}
use Rattle.login_model.specs.declared.conf.KeyAction.{KeyAction}
use Rattle.login_model.specs.declared.conf.KeyAction.TheVariants as does
use Rattle.login_model.specs.declared.event.Event.{Event}
use Rattle.login_model.specs.declared.event.Request.{Request}
use Rattle.login_model.specs.declared.event.Event.TheVariants.{Hardware as Happens, Connect, Disconnect, Call as Calls, Tick, Stop}
use Rattle.login_model.specs.declared.fact.Fact.{Fact}
use Rattle.login_model.specs.declared.fact.Fact.TheVariants as fact
use Rattle.login_model.specs.declared.fact.Key.{Key}
use Rattle.login_model.specs.declared.fact.Key.TheVariants as key
use Rattle.login_model.specs.declared.fact.Owner.TheVariants as owner
use Rattle.login_model.specs.declared.hardware.DevKind.{DevKind}
use Rattle.login_model.specs.declared.hardware.DevKind.TheVariants.{Drm, Evdev}
use Rattle.login_model.specs.declared.hardware.Hardware.{Hardware}
use Rattle.login_model.specs.declared.hardware.Hardware.TheVariants.{Add, Remove, VtKey, Exit, Key as HardKeyPressed, Dock, JobDone}
use Rattle.login_model.specs.declared.lock.Lock.{Lock}
use Rattle.login_model.specs.declared.mark.Entry.{Entry}
use Rattle.login_model.specs.declared.mark.Mark.TheVariants.{Set, Say}
use Rattle.login_model.specs.declared.mark.Notice.{Notice}
use Rattle.login_model.specs.declared.mark.Notice.TheVariants as notice
use Rattle.login_model.specs.declared.mark.PauseKind.TheVariants as pause
use Rattle.login_model.specs.declared.mark.Whom.{Whom}
use Rattle.login_model.specs.declared.mark.Whom.TheVariants.{One, All}
use Rattle.login_model.specs.declared.operation.OpKind.{OpKind}
use Rattle.login_model.specs.declared.operation.OpKind.TheVariants as operation
use Rattle.login_model.specs.declared.operation.Operation.TheVariants.{Idle, Waiting, Running}
use Rattle.login_model.specs.declared.rule.Rule.TheVariants.{NoSuchSeat, NoSuchUser}
use Rattle.login_model.specs.declared.rule.Verdict.{Verdict}
use Rattle.login_model.specs.declared.rule.Verdict.TheVariants.{Granted, Denied}
use Rattle.login_model.specs.declared.session.KillWhom.TheVariants as whom
use Rattle.login_model.specs.declared.session.Phase.{Phase}
use Rattle.login_model.specs.declared.session.Phase.TheVariants.{Closing, Gone}
use Rattle.login_model.specs.declared.setup.Setup.{Setup}
use Rattle.login_model.proofs.Keys.{both, same_key-true}
use Rattle.login_laws.specs.Named.{AreNamed, HasTexts, IsNamedFact, IsNamedNotice, IsSeat, IsSeatIf, IsUser}
use Rattle.login_laws.proofs.Granted.{NoneBroken, granted-rules, holds-rule}
use Rattle.login_laws.proofs.Loops.{each-keeps}
use Rattle.login_laws.proofs.SoundLaws.{after-more}

-- ---- what is walked along

-- whether a procedure may make a setting by itself: none brings a device or a lock, which only their events do
abbrev pub MayPut : Setup → Key → Fact → Type 0
MayPut U (key.Dev d) (fact.Device kind seat) = ⊥
MayPut U (key.Lock l) (fact.Lock x) = ⊥
MayPut U k x = IsNamedFact U k x

-- What is kept by each procedure: named marks, and what each such setting and each such notice keeps.
pub record Walk (U : Setup) : Type 1 where
  pub N : Trail → Type 0
  pub named : (t : Trail) → N t → AreNamed U t
  pub put : (k : Key) (x : Fact) (t : Trail) → MayPut U k x → N t → N (put k x t)
  pub say : (w : Whom) (n : Notice) (t : Trail) → IsNamedNotice n → N t → N (Say w n ∷ t)

put-if : (U : Setup) (b : Bool) (k : Key) (x : Fact) (t : Trail) → IsNamedFact U k x → AreNamed U t → AreNamed U (cond b t (Set k x ∷ t))
put-if U true k x t f h = h
put-if U false k x t f h = (f, h)

-- one setting
pub put-are : (U : Setup) (k : Key) (x : Fact) (t : Trail) → IsNamedFact U k x → AreNamed U t → AreNamed U (put k x t)
unfolding put
put-are U k x t f h = put-if U (same_fact (value t k) x) k x t f h

pub may-put : (U : Setup) (k : Key) (x : Fact) → MayPut U k x → IsNamedFact U k x
may-put U (key.Dev d) (fact.Device kind seat) f = absurd f
may-put U (key.Lock l) (fact.Lock x) f = absurd f
may-put U _ _ f = f

-- ---- facts

start-named : (U : Setup) (k : Key) → IsNamedFact U k (start_fact k)
start-named U (key.Dev d) = tt
start-named U (key.Sess s) = tt
start-named U (key.User u) = tt
start-named U (key.Lock l) = tt
start-named U _ = tt

set-named : (U : Setup) (b : Bool) (j k : Key) (x y : Fact) → same_key j k ≡ b → IsNamedFact U j x → IsNamedFact U k y → IsNamedFact U k (cond b x y)
set-named U true j k x y e f g = (let P : Key → Type 0 = λ i. IsNamedFact U i x in subst P (same_key-true j k e) f)
set-named U false j k x y e f g = g

-- the fact of a key is named
pub value-named : (U : Setup) (t : Trail) (k : Key) → AreNamed U t → IsNamedFact U k (value t k)
unfolding value
value-named U [] k h = start-named U k
value-named U (Set j x ∷ t) k h = set-named U (same_key j k) j k x (value t k) refl h.0 (value-named U t k h.1)
value-named U (Say w n ∷ t) k h = value-named U t k h.1

seat-in : (U : Setup) (s : SessId) (x : Fact) → IsNamedFact U (key.Sess s) x → IsSeatIf (seat_in_fact x)
seat-in U s (fact.Session x) h = h.0
seat-in U s _ h = tt

pub session-seat : (U : Setup) (t : Trail) (s : SessId) → AreNamed U t → IsSeatIf (seat_of_session t s)
session-seat U t s h = seat-in U s (value t (key.Sess s)) (value-named U t (key.Sess s) h)

owner-in : (U : Setup) (s : SessId) (x : Fact) → IsNamedFact U (key.Sess s) x → IsUser U (user_or_root x).0
owner-in U s (fact.Session x) h = h.1
owner-in U s _ h = refl

pub session-owner : (U : Setup) (t : Trail) (s : SessId) → AreNamed U t → IsUser U (user_or_root (value t (key.Sess s))).0
session-owner U t s h = owner-in U s (value t (key.Sess s)) (value-named U t (key.Sess s) h)

phase-fact : (U : Setup) (s : SessId) (p : Phase) (x : Fact) → IsNamedFact U (key.Sess s) x → IsNamedFact U (key.Sess s) (in_phase p x)
phase-fact U s p (fact.Session x) h = h
phase-fact U s p _ h = tt

put-named : (U : Setup) (r : Walk U) (k : Key) (x : Fact) (t : Trail) → MayPut U k x → r.N t → r.N (put k x t)
put-named U r k x t f h = r.put k x t f h

say-named : (U : Setup) (r : Walk U) (w : Whom) (n : Notice) (t : Trail) → IsNamedNotice n → r.N t → r.N (Say w n ∷ t)
say-named U r w n t f h = r.say w n t f h

cond-named : (U : Setup) (r : Walk U) (b : Bool) (t u : Trail) → r.N t → r.N u → r.N (cond b t u)
cond-named U r true t u p q = p
cond-named U r false t u p q = q

controller-named : (U : Setup) (r : Walk U) (x : Fact) (n : Notice) (t : Trail) → IsNamedNotice n → r.N t → r.N (tell_controller x n t)
controller-named U r (fact.Controller c) n t f h = r.say (One c) n t f h
controller-named U r _ n t f h = h

each-named : (U : Setup) (r : Walk U) {A : Type 0} (f : A → Trail → Trail) → ((x : A) (t : Trail) → r.N t → r.N (f x t)) → (xs : List A) (t : Trail) → r.N t → r.N (each f xs t)
each-named U r f step xs t h = each-keeps r.N f xs (λ x u i p. step x u p) t h

some-named : (U : Setup) (r : Walk U) {A : Type 0} (f : A → Trail → Trail) → ((x : A) (t : Trail) → r.N t → r.N (f x t)) → (o : Option A) (t : Trail) → r.N t → r.N (if_some f o t)
some-named U r f step None t h = h
some-named U r f step (Some x) t h = step x t h

set_phase-named : (U : Setup) (r : Walk U) (s : SessId) (p : Phase) (t : Trail) → r.N t → r.N (set_phase s p t)
set_phase-named U r s p t h = put-named U r (key.Sess s) (in_phase p (value t (key.Sess s))) t (phase-fact U s p (value t (key.Sess s)) (value-named U t (key.Sess s) (r.named t h))) h

-- ---- devices

kill-named : (U : Setup) (r : Walk U) (x : Fact) (t : Trail) → r.N t → r.N (kill x t)
kill-named U r (fact.Handle g) t h = put-named U r (key.Live g) no t tt h
kill-named U r _ t h = h

untake-named : (U : Setup) (r : Walk U) (s : SessId) (d : DevNo) (t : Trail) → r.N t → r.N (untake s d t)
untake-named U r s d t h =
    let a = kill (value t (key.Taken s d)) t in
    put-named U r (key.Taken s d) fact.Absent (put (key.Awaited s d) no a) tt (put-named U r (key.Awaited s d) no a tt (kill-named U r (value t (key.Taken s d)) t h))

release-named : (U : Setup) (r : Walk U) (s : SessId) (t : Trail) → r.N t → r.N (release s t)
unfolding release
release-named U r s t h = put-named U r (key.Ctl s) fact.Absent (each (untake s) (taken_devices t s) t) tt (each-named U r (untake s) (untake-named U r s) (taken_devices t s) t h)

revoke-named : (U : Setup) (r : Walk U) (s : SessId) (d : DevNo) (t : Trail) → r.N t → r.N (revoke s d t)
revoke-named U r s d t h =
    let n = notice.Pause s d pause.Gone in
    untake-named U r s d (tell_controller (value t (key.Ctl s)) n t) (controller-named U r (value t (key.Ctl s)) n t tt h)

oust-named : (U : Setup) (r : Walk U) (s : SessId) (c : ConnId) (t : Trail) → r.N t → r.N (oust s c t)
unfolding oust
oust-named U r s c t h = put-named U r (key.Ctl s) (fact.Controller c) (each (revoke s) (taken_devices t s) t) tt (each-named U r (revoke s) (revoke-named U r s) (taken_devices t s) t h)

force_handle-named : (U : Setup) (r : Walk U) (s : SessId) (d : DevNo) (x : Fact) (t : Trail) → r.N t → r.N (force_handle s d x t)
force_handle-named U r s d (fact.Handle g) t h =
    (let n = notice.Pause s d pause.Force in
    let u = put (key.Live g) no t in
    let c = value t (key.Ctl s) in
    cond-named U r (is_live t g) (tell_controller c n u) t (controller-named U r c n u tt (put-named U r (key.Live g) no t tt h)) h)
force_handle-named U r s d _ t h = h

force-named : (U : Setup) (r : Walk U) (s : SessId) (t : Trail) → r.N t → r.N (force s t)
unfolding force
force-named U r s t h = each-named U r (force_device s) (λ d u p. force_handle-named U r s d (value u (key.Taken s d)) u p) (taken_devices t s) t h

renew-named : (U : Setup) (r : Walk U) (s : SessId) (d : DevNo) (g : HandleNo) (x : Fact) (t : Trail) → r.N t → r.N (renew s d g x t)
renew-named U r s d g (fact.Controller c) t h =
    (let o = fact.Owned (owner.Device c s d) in
    let a = put (key.Owner g) o t in
    let b = put (key.Live g) yes a in
    let e = put (key.Taken s d) (fact.Handle g) b in
    say-named U r (One c) (notice.Resume s d g) e tt (put-named U r (key.Taken s d) (fact.Handle g) b tt (put-named U r (key.Live g) yes a tt (put-named U r (key.Owner g) o t tt h))))
renew-named U r s d g _ t h = h

revive-named : (U : Setup) (r : Walk U) (s : SessId) (d : DevNo) (g : HandleNo) (x : Fact) (t : Trail) → r.N t → r.N (revive s d g x t)
revive-named U r s d g (fact.Device Drm seat) t h =
    (let u = put (key.Live g) yes t in controller-named U r (value t (key.Ctl s)) (notice.Resume s d g) u tt (put-named U r (key.Live g) yes t tt h))
revive-named U r s d g (fact.Device Evdev seat) t h = renew-named U r s d (next_handle t) (value t (key.Ctl s)) t h
revive-named U r s d g _ t h = h

resume_handle-named : (U : Setup) (r : Walk U) (s : SessId) (d : DevNo) (x : Fact) (t : Trail) → r.N t → r.N (resume_handle s d x t)
resume_handle-named U r s d (fact.Handle g) t h =
    (let c = value t (key.Ctl s) in
    let n = notice.Resume s d g in
    let x = value t (key.Dev d) in
    cond-named U r (is_live t g) (tell_controller c n t) (revive s d g x t) (controller-named U r c n t tt h) (revive-named U r s d g x t h))
resume_handle-named U r s d _ t h = h

resume-named : (U : Setup) (r : Walk U) (s : SessId) (t : Trail) → r.N t → r.N (resume s t)
unfolding resume
resume-named U r s t h = each-named U r (resume_device s) (λ d u p. resume_handle-named U r s d (value u (key.Taken s d)) u p) (taken_devices t s) t h

-- ---- sessions and seats

vacate-named : (U : Setup) (r : Walk U) (seat : List ℕ) (t : Trail) → r.N t → r.N (vacate seat t)
vacate-named U r seat t h = cond-named U r (bytes_eq seat seat0) t (put (key.Act seat) fact.Absent t) h (put-named U r (key.Act seat) fact.Absent t tt h)

leave_seat-named : (U : Setup) (r : Walk U) (s : SessId) (o : Option (List ℕ)) (t : Trail) → IsSeatIf o → r.N t → r.N (if_some (leave_seat s) o t)
leave_seat-named U r s None t f h = h
leave_seat-named U r s (Some seat) t f h = say-named U r All (notice.Active seat (Some s) None) (vacate seat t) f (vacate-named U r seat t h)

seat-if : (b : Bool) (o : Option (List ℕ)) → IsSeatIf o → IsSeatIf (cond b o None)
seat-if true o f = f
seat-if false o f = tt

shut-named : (U : Setup) (r : Walk U) (s : SessId) (t : Trail) → r.N t → r.N (shut s t)
unfolding shut
shut-named U r s t h =
    let o = cond (is_active t s) (seat_of_session t s) None in
    let v = set_phase s Closing (release s t) in
    cond-named U r (is_open t s) (if_some (leave_seat s) o v) t
    (leave_seat-named U r s o v (seat-if (is_active t s) (seat_of_session t s) (session-seat U t s (r.named t h))) (set_phase-named U r s Closing (release s t) (release-named U r s t h))) h

take_seat-named : (U : Setup) (r : Walk U) (seat : List ℕ) (s : SessId) (old : Option SessId) (t : Trail) → IsSeat seat → r.N t → r.N (take_seat seat s old t)
take_seat-named U r seat s old t f h =
    let u = if_some force old t in
    let v = put (key.Act seat) (fact.Active s) u in
    say-named U r All (notice.Active seat old (Some s)) v f (put-named U r (key.Act seat) (fact.Active s) u tt (some-named U r force (force-named U r) old t h))

front-named : (U : Setup) (r : Walk U) (seat : List ℕ) (s : SessId) (t : Trail) → IsSeat seat → r.N t → r.N (front seat s t)
unfolding front
front-named U r seat s t f h =
    let u = take_seat seat s (active_on t seat) t in
    cond-named U r (is_active t s) t (resume s u) h (resume-named U r s u (take_seat-named U r seat s (active_on t seat) t f h))

-- ---- users

new_user-named : (U : Setup) (r : Walk U) (u : Uid) (x : Fact) (t : Trail) → r.N t → r.N (tell_new_user u x t)
new_user-named U r u fact.Absent t h = say-named U r All (notice.UserNew u) t tt h
new_user-named U r u _ t h = h

know-named : (U : Setup) (r : Walk U) (u : Uid) (t : Trail) → IsUser U u.0 → r.N t → r.N (know u t)
unfolding know
know-named U r u t f h = new_user-named U r u (value t (key.User u)) (put (key.User u) fact.Known t) (put-named U r (key.User u) fact.Known t f h)

forget-named : (U : Setup) (r : Walk U) (u : Uid) (t : Trail) → r.N t → r.N (forget u t)
forget-named U r u t h = say-named U r All (notice.UserRemoved u) (put (key.User u) fact.Absent t) tt (put-named U r (key.User u) fact.Absent t tt h)

leave-named : (U : Setup) (r : Walk U) (u : Uid) (t : Trail) → IsUser U u.0 → r.N t → r.N (leave U u t)
unfolding leave
leave-named U r u t f h =
    let x = fact.Leaving (record { 0 = now t }) in
    let b = U.conf.user_stop_delay.0 == 0 in
    cond-named U r (is_kept t u) t (cond b (forget u t) (put (key.User u) x t)) h
    (cond-named U r b (forget u t) (put (key.User u) x t) (forget-named U r u t h) (put-named U r (key.User u) x t f h))

leave_known-named : (U : Setup) (r : Walk U) (u : Uid) (x : Fact) (t : Trail) → IsUser U u.0 → r.N t → r.N (leave_known U u x t)
leave_known-named U r u fact.Known t f h = leave-named U r u t f h
leave_known-named U r u _ t f h = h

linger-named : (U : Setup) (r : Walk U) (u : Uid) (on : Bool) (t : Trail) → IsUser U u.0 → r.N t → r.N (linger U u on t)
linger-named U r u true t f h = (let v = put (key.Linger u) yes t in know-named U r u v f (put-named U r (key.Linger u) yes t tt h))
linger-named U r u false t f h = (let v = put (key.Linger u) no t in leave_known-named U r u (value v (key.User u)) v f (put-named U r (key.Linger u) no t tt h))

-- ---- terminals

await_handle-named : (U : Setup) (r : Walk U) (s : SessId) (d : DevNo) (x : Fact) (t : Trail) → r.N t → r.N (await_handle s d x t)
await_handle-named U r s d (fact.Handle g) t h =
    (let n = notice.Pause s d pause.Pause in
    let u = put (key.Awaited s d) yes t in
    let c = value t (key.Ctl s) in
    cond-named U r (is_live t g) (tell_controller c n u) t (controller-named U r c n u tt (put-named U r (key.Awaited s d) yes t tt h)) h)
await_handle-named U r s d _ t h = h

await-named : (U : Setup) (r : Walk U) (s : SessId) (t : Trail) → r.N t → r.N (await_devices s t)
unfolding await_devices
await-named U r s t h = each-named U r (await_device s) (λ d u p. await_handle-named U r s d (value u (key.Taken s d)) u p) (taken_devices t s) t h

unawait-named : (U : Setup) (r : Walk U) (s : SessId) (t : Trail) → r.N t → r.N (unawait_devices s t)
unfolding unawait_devices
unawait-named U r s t h = each-named U r (λ d u. put (key.Awaited s d) no u) (λ d u p. put-named U r (key.Awaited s d) no u tt p) (taken_devices t s) t h

ask_switch-named : (U : Setup) (r : Walk U) (v : ℕ) (was : Bool) (t : Trail) → r.N t → r.N (ask_switch v was t)
ask_switch-named U r v true t h = put-named U r key.Pending (fact.Number v) t tt h
ask_switch-named U r v false t h =
    (let u = put key.Pending (fact.Number v) t in some-named U r await_devices (await-named U r) (active_on t seat0) u (put-named U r key.Pending (fact.Number v) t tt h))

withdraw-named : (U : Setup) (r : Walk U) (t : Trail) → r.N t → r.N (withdraw_switch t)
withdraw-named U r t h =
    let o = active_on t seat0 in
    let u = put key.Pending fact.Absent t in
    some-named U r resume (resume-named U r) o (if_some unawait_devices o u) (some-named U r unawait_devices (unawait-named U r) o u (put-named U r key.Pending fact.Absent t tt h))

pub request-named : (U : Setup) (r : Walk U) (v : ℕ) (t : Trail) → r.N t → r.N (request v t)
unfolding request
request-named U r v t h =
    let b = is_number_fact (value t key.Pending) in
    cond-named U r (v == current_vt t) (cond b (withdraw_switch t) t) (ask_switch v b t) (cond-named U r b (withdraw_switch t) t (withdraw-named U r t h) h) (ask_switch-named U r v b t h)

change-named : (U : Setup) (r : Walk U) (old new : Option SessId) (t : Trail) → r.N t → r.N (tell_change old new t)
change-named U r None None t h = h
change-named U r (Some s) new t h = say-named U r All (notice.Active seat0 (Some s) new) t refl h
change-named U r None (Some w) t h = say-named U r All (notice.Active seat0 None (Some w)) t refl h

arrive-named : (U : Setup) (r : Walk U) (old : Option SessId) (t : Trail) → r.N t → r.N (arrive old t)
arrive-named U r old t h = (let o = active_on t seat0 in some-named U r resume (resume-named U r) o (tell_change old o t) (change-named U r old o t h))

move_to-named : (U : Setup) (r : Walk U) (conf : Conf) (v : ℕ) (old : Option SessId) (t : Trail) → r.N t → r.N (move_to conf v old t)
move_to-named U r conf v old t h =
    let a = if_some force old t in
    let b = put key.Vt (fact.Number v) a in
    let c = put key.Pending fact.Absent b in
    let p = put-named U r key.Pending fact.Absent b tt (put-named U r key.Vt (fact.Number v) a tt (some-named U r force (force-named U r) old t h)) in
    arrive-named U r old (ask_getty conf v c) (cond-named U r (not (is_some (session_on c v)) && nat_le v conf.auto_vts) (put (key.Getty v) yes c) c (put-named U r (key.Getty v) yes c tt p) p)

complete-named : (U : Setup) (r : Walk U) (conf : Conf) (x : Fact) (t : Trail) → r.N t → r.N (complete conf x t)
complete-named U r conf (fact.Number v) t h = cond-named U r (is_awaiting t) t (move_to conf v (active_on t seat0) t) h (move_to-named U r conf v (active_on t seat0) t h)
complete-named U r conf _ t h = h

settle_switch-named : (U : Setup) (r : Walk U) (conf : Conf) (t : Trail) → r.N t → r.N (settle_switch conf t)
unfolding settle_switch
settle_switch-named U r conf t h = complete-named U r conf (value t key.Pending) t h

-- ---- devices that are taken, and that come and go

enliven-named : (U : Setup) (r : Walk U) (g : HandleNo) (b : Bool) (t : Trail) → r.N t → r.N (enliven g b t)
enliven-named U r g true t h = put-named U r (key.Live g) yes t tt h
enliven-named U r g false t h = h

take-named : (U : Setup) (r : Walk U) (c : ConnId) (s : SessId) (d : DevNo) (g : HandleNo) (t : Trail) → r.N t → r.N (take_device c s d g t)
unfolding take_device
take-named U r c s d g t h =
    let o = fact.Owned (owner.Device c s d) in
    let a = put (key.Owner g) o t in
    enliven-named U r g (is_active t s) (put (key.Taken s d) (fact.Handle g) a) (put-named U r (key.Taken s d) (fact.Handle g) a tt (put-named U r (key.Owner g) o t tt h))

acknowledge-named : (U : Setup) (r : Walk U) (s : SessId) (d : DevNo) (t : Trail) → r.N t → r.N (acknowledge s d t)
unfolding acknowledge
acknowledge-named U r s d t h =
    let u = put (key.Awaited s d) no t in
    let x = value t (key.Taken s d) in
    cond-named U r (is_set (value t (key.Awaited s d))) (kill x u) t (kill-named U r x u (put-named U r (key.Awaited s d) no t tt h)) h

mode-named : (U : Setup) (r : Walk U) (x : Fact) (n : ℕ) (t : Trail) → r.N t → r.N (set_mode x n t)
mode-named U r (fact.Owned (owner.Device c s d)) n t h = put-named U r (key.Mode d) (fact.Number n) t tt h
mode-named U r _ n t h = h

appear_seat-named : (U : Setup) (r : Walk U) (kind : DevKind) (seat : List ℕ) (t : Trail) → IsSeat seat → r.N t → r.N (appear_seat kind seat t)
appear_seat-named U r Drm seat t f h =
    (let u = put (key.Seat seat) fact.Present t in
    cond-named U r (is_seat t seat) t (tell_all (notice.SeatNew seat) u) h (say-named U r All (notice.SeatNew seat) u f (put-named U r (key.Seat seat) fact.Present t tt h)))
appear_seat-named U r Evdev seat t f h = h

add-named : (U : Setup) (r : Walk U) (d : DevNo) (kind : DevKind) (seat : List ℕ) (t : Trail) → IsSeat seat → r.N (put (key.Dev d) (fact.Device kind seat) t) → r.N (add_device d kind seat t)
unfolding add_device
add-named U r d kind seat t f h = appear_seat-named U r kind seat (put (key.Dev d) (fact.Device kind seat) t) f h

lose_seat-named : (U : Setup) (r : Walk U) (d : DevNo) (x : Fact) (t : Trail) → IsNamedFact U (key.Dev d) x → r.N t → r.N (lose_seat x t)
lose_seat-named U r d (fact.Device Drm seat) t f h =
    (let a = each shut (sessions_on t seat) t in
    let b = put (key.Seat seat) fact.Absent a in
    cond-named U r (bytes_eq seat seat0 || has_graphics t seat) t (tell_all (notice.SeatRemoved seat) b) h
    (say-named U r All (notice.SeatRemoved seat) b f (put-named U r (key.Seat seat) fact.Absent a tt (each-named U r shut (shut-named U r) (sessions_on t seat) t h))))
lose_seat-named U r d _ t f h = h

remove-named : (U : Setup) (r : Walk U) (d : DevNo) (t : Trail) → r.N t → r.N (remove_device d t)
unfolding remove_device
remove-named U r d t h =
    let a = each (λ s u. revoke s d u) (takers t d) t in
    let b = put (key.Dev d) fact.Absent a in
    let c = put (key.Mode d) (fact.Number 0) b in
    lose_seat-named U r d (value t (key.Dev d)) c (value-named U t (key.Dev d) (r.named t h))
    (put-named U r (key.Mode d) (fact.Number 0) b tt (put-named U r (key.Dev d) fact.Absent a tt (each-named U r (λ s u. revoke s d u) (λ s u p. revoke-named U r s d u p) (takers t d) t h)))

-- ---- calls

seat_of-by : (b : Bool) (text : List ℕ) → is_seat_name text ≡ b → IsSeatIf (cond b (Some text) None)
seat_of-by true text e = e
seat_of-by false text e = tt

pub seat_of-named : (text : List ℕ) → IsSeatIf (seat_of text)
seat_of-named text = seat_of-by (is_seat_name text) text refl

appear_on-named : (U : Setup) (r : Walk U) (o : Option (List ℕ)) (s : SessId) (t : Trail) → IsSeatIf o → r.N t → r.N (appear_on o s t)
appear_on-named U r None s t f h = h
appear_on-named U r (Some seat) s t f h =
    (let u = tell_all (notice.Active seat0 None (Some s)) t in
    let v = take_seat seat s (active_on t seat) t in
    cond-named U r (bytes_eq seat seat0) (cond (is_active t s) u t) v (cond-named U r (is_active t s) u t (say-named U r All (notice.Active seat0 None (Some s)) t refl h) h) (take_seat-named U r seat s (active_on t seat) t f h))

created-texts : (c : ConnId) (x : Creation) (g : HandleNo) → AllByRecursion (IsText text_limit) (texts (call.Create x)) → HasTexts (created_session c x g).texts
created-texts c x g f =
    let behind = f.1.1.1.1.1 in
    record { service = f.0; desktop = f.1.1.1.0; tty = behind.0; display = behind.1.0; remote_user = behind.1.1.0; remote_host = behind.1.1.1.0 }

create-named : (U : Setup) (r : Walk U) (c : ConnId) (x : Creation) (s : SessId) (g : HandleNo) (t : Trail) → IsUser U x.uid.0 → AllByRecursion (IsText text_limit) (texts (call.Create x)) → r.N t → r.N (create c x s g t)
unfolding create
create-named U r c x s g t f w h =
    let o = fact.Owned (owner.Fifo c s) in
    let y = fact.Session (created_session c x g) in
    let a = know x.uid t in
    let b = put (key.Owner g) o a in
    let d = put (key.Sess s) y b in
    appear_on-named U r (seat_of x.seat) s (tell_all (notice.SessionNew s) d) (seat_of-named x.seat)
    (say-named U r All (notice.SessionNew s) d tt (put-named U r (key.Sess s) y b (seat_of-named x.seat, f, created-texts c x g w) (put-named U r (key.Owner g) o a tt (know-named U r x.uid t f h))))

activate_on-named : (U : Setup) (r : Walk U) (o : Option (List ℕ)) (s : SessId) (t : Trail) → IsSeatIf o → r.N t → r.N (activate_on o s t)
activate_on-named U r None s t f h = h
activate_on-named U r (Some seat) s t f h =
    (let v = vt_in (value t (key.Sess s)) in cond-named U r (bytes_eq seat seat0) (request v t) (front seat s t) (request-named U r v t h) (front-named U r seat s t f h))

activate-named : (U : Setup) (r : Walk U) (s : SessId) (t : Trail) → r.N t → r.N (activate s t)
unfolding activate
activate-named U r s t h = activate_on-named U r (seat_of_session t s) s t (session-seat U t s (r.named t h)) h

turn-named : (U : Setup) (r : Walk U) (b : Bool) (o : Option ℕ) (w : Option SessId) (seat : List ℕ) (t : Trail) → IsSeat seat → r.N t → r.N (cond b (if_some request o t) (if_some (front seat) w t))
turn-named U r true o w seat t f h = some-named U r request (request-named U r) o t h
turn-named U r false o w seat t f h = some-named U r (front seat) (λ s u p. front-named U r seat s u f p) w t h

next-named : (U : Setup) (r : Walk U) (seat : List ℕ) (t : Trail) → IsSeat seat → r.N t → r.N (turn_to_next seat t)
unfolding turn_to_next
next-named U r seat t f h = turn-named U r (bytes_eq seat seat0) (next_around nat_lt (Some (current_vt t)) (open_terminals t)) (next_around session_lt (active_on t seat) (open_on t seat)) seat t f h

previous-named : (U : Setup) (r : Walk U) (seat : List ℕ) (t : Trail) → IsSeat seat → r.N t → r.N (turn_to_previous seat t)
unfolding turn_to_previous
previous-named U r seat t f h = turn-named U r (bytes_eq seat seat0) (previous_around nat_lt (Some (current_vt t)) (open_terminals t)) (previous_around session_lt (active_on t seat) (open_on t seat)) seat t f h

control_from-named : (U : Setup) (r : Walk U) (x : Fact) (c : ConnId) (s : SessId) (t : Trail) → r.N t → r.N (control_from x c s t)
control_from-named U r (fact.Controller b) c s t h = cond-named U r (b.0 == c.0) t (oust s c t) h (oust-named U r s c t h)
control_from-named U r _ c s t h = put-named U r (key.Ctl s) (fact.Controller c) t tt h

control-named : (U : Setup) (r : Walk U) (c : ConnId) (s : SessId) (t : Trail) → r.N t → r.N (control c s t)
unfolding control
control-named U r c s t h = control_from-named U r (value t (key.Ctl s)) c s t h

close_owned-named : (U : Setup) (r : Walk U) (g : HandleNo) (x : Fact) (t : Trail) → r.N t → r.N (close_owned g x t)
close_owned-named U r g (fact.Owned (owner.Fifo c s)) t h = shut-named U r s (close_handle g t) (put-named U r (key.Owner g) (fact.Owned owner.Closed) t tt h)
close_owned-named U r g (fact.Owned (owner.Lock c l)) t h =
    put-named U r (key.Owner g) (fact.Owned owner.Closed) (put (key.Lock l) fact.Absent t) tt (put-named U r (key.Lock l) fact.Absent t tt h)
close_owned-named U r g (fact.Owned (owner.Device c s d)) t h =
    (let b = is_this_handle g (value t (key.Taken s d)) in
    put-named U r (key.Owner g) (fact.Owned owner.Closed) (cond b (untake s d t) t) tt (cond-named U r b (untake s d t) t (untake-named U r s d t h) h))
close_owned-named U r g _ t h = h

close-named : (U : Setup) (r : Walk U) (g : HandleNo) (t : Trail) → r.N t → r.N (close g t)
unfolding close
close-named U r g t h = close_owned-named U r g (value t (key.Owner g)) t h

disconnect-named : (U : Setup) (r : Walk U) (c : ConnId) (t : Trail) → r.N t → r.N (disconnect c t)
unfolding disconnect
disconnect-named U r c t h =
    let a = each release (controlled_by t c) t in
    let b = end_sessions c a in
    put-named U r (key.Conn c) fact.Absent (unlock c b) tt
    (each-named U r (λ l u. put (key.Lock l) fact.Absent u) (λ l u p. put-named U r (key.Lock l) fact.Absent u tt p) (locks_of b c) b
    (each-named U r shut (shut-named U r) (kept_open_by a c) a (each-named U r release (release-named U r) (controlled_by t c) t h)))

exit-named : (U : Setup) (r : Walk U) (s : SessId) (t : Trail) → r.N t → r.N (exit U s t)
unfolding exit
exit-named U r s t h =
    let a = set_phase s Gone (shut s t) in
    let b = tell_all (notice.SessionRemoved s) a in
    leave-named U r (user_or_root (value t (key.Sess s))) b (session-owner U t s (r.named t h))
    (say-named U r All (notice.SessionRemoved s) a tt (set_phase-named U r s Gone (shut s t) (shut-named U r s t h)))

tick-named : (U : Setup) (r : Walk U) (m : Millis) (t : Trail) → r.N t → r.N (tick U m t)
unfolding tick
tick-named U r m t h = each-named U r forget (forget-named U r) (overdue U t m.0) (put key.Now (fact.Moment m) t) (put-named U r key.Now (fact.Moment m) t tt h)

prepare-named : (k : OpKind) (on : Bool) → IsNamedNotice (prepare k on)
prepare-named operation.PowerOff on = tt
prepare-named operation.Reboot on = tt
prepare-named operation.Halt on = tt
prepare-named _ on = tt

ask_operation-named : (U : Setup) (r : Walk U) (k : OpKind) (skip : Bool) (t : Trail) → r.N t → r.N (ask_operation k skip t)
unfolding ask_operation
ask_operation-named U r k skip t h =
    let o = fact.Operation (Waiting k (record { 0 = now t }) skip) in
    say-named U r All (prepare k true) (put key.Op o t) (prepare-named k true) (put-named U r key.Op o t tt h)

end_operation-named : (U : Setup) (r : Walk U) (x : Fact) (t : Trail) → r.N t → r.N (end_operation x t)
end_operation-named U r (fact.Operation (Running k)) t h =
    say-named U r All (prepare k false) (put key.Op (fact.Operation Idle) t) (prepare-named k false) (put-named U r key.Op (fact.Operation Idle) t tt h)
end_operation-named U r _ t h = h

job_done-named : (U : Setup) (r : Walk U) (t : Trail) → r.N t → r.N (job_done t)
unfolding job_done
job_done-named U r t h = end_operation-named U r (value t key.Op) t h

start_operation-named : (U : Setup) (r : Walk U) (x : Fact) (t : Trail) → r.N t → r.N (start U.conf x t)
start_operation-named U r (fact.Operation (Waiting k since skip)) t h =
    cond-named U r (is_delayed t k && not (is_over U.conf t since)) t (put key.Op (fact.Operation (Running k)) t) h (put-named U r key.Op (fact.Operation (Running k)) t tt h)
start_operation-named U r _ t h = h

settle_operation-named : (U : Setup) (r : Walk U) (t : Trail) → r.N t → r.N (settle_operation U.conf t)
unfolding settle_operation
settle_operation-named U r t h = start_operation-named U r (value t key.Op) t h

settle-named : (U : Setup) (r : Walk U) (t : Trail) → r.N t → r.N (settle U t)
settle-named U r t h = settle_operation-named U r (settle_switch U.conf t) (settle_switch-named U r U.conf t h)

lock_session-named : (U : Setup) (r : Walk U) (s : SessId) (t : Trail) → r.N t → r.N (lock_session s t)
lock_session-named U r s t h = say-named U r All (notice.Lock s) t tt h

unlock_session-named : (U : Setup) (r : Walk U) (s : SessId) (t : Trail) → r.N t → r.N (unlock_session s t)
unlock_session-named U r s t h = say-named U r All (notice.Unlock s) t tt h

inhibit-named : (U : Setup) (r : Walk U) (x : Lock) (l : LockNo) (g : HandleNo) (t : Trail) → r.N (put (key.Lock l) (fact.Lock x) t) → r.N (inhibit x l g t)
inhibit-named U r x l g t h = put-named U r (key.Owner g) (fact.Owned (owner.Lock x.holder l)) (put (key.Lock l) (fact.Lock x) t) tt h

-- ---- events

seat-named : (t : Trail) (seat : List ℕ) → no_such_seat t seat ≡ None → IsSeat seat
seat-named t seat e = (both (is_seat_name seat) (is_seat t seat) (holds-rule (is_seat_name seat && is_seat t seat) NoSuchSeat e)).0

user-named : (U : Setup) (uid : ℕ) → no_such_user U uid ≡ None → IsUser U uid
user-named U uid e = holds-rule (is_user_of U uid) NoSuchUser e

-- the lock that a call asks for is set
abbrev pub locked : ConnId → Inhibition → Trail → Trail
locked c y t = put (key.Lock (next_lock t)) (fact.Lock (asked_lock c (record { 0 = uid_of t c }) y)) t

call-named : (U : Setup) (r : Walk U) (c : ConnId) (x : Call) (t : Trail) → NoneBroken (call_rules U t c x) → AllByRecursion (IsText text_limit) (texts x) → ((y : Inhibition) → x ≡ call.Inhibit y → r.N (locked c y t)) → r.N t → r.N (direct_call U c x t)
call-named U r c (call.Create x) t b f w h = create-named U r c x (next_session t) (next_handle t) t (user-named U x.uid.0 b.1.1.0) f h
call-named U r c (call.Activate id) t b f w h = some-named U r activate (activate-named U r) (session_of id) t h
call-named U r c (call.ActivateOnSeat id seat) t b f w h = some-named U r activate (activate-named U r) (session_of id) t h
call-named U r c (call.Lock id) t b f w h = some-named U r lock_session (lock_session-named U r) (session_of id) t h
call-named U r c (call.Unlock id) t b f w h = some-named U r unlock_session (unlock_session-named U r) (session_of id) t h
call-named U r c call.LockAll t b f w h = each-named U r lock_session (lock_session-named U r) (open_sessions t) t h
call-named U r c call.UnlockAll t b f w h = each-named U r unlock_session (unlock_session-named U r) (open_sessions t) t h
call-named U r c (call.Kill id who signal) t b f w h =
    (let x = fact.Signal (whom_of who) signal in some-named U r (λ s u. put (key.Sig s) x u) (λ s u p. put-named U r (key.Sig s) x u tt p) (session_of id) t h)
call-named U r c (call.Terminate id) t b f w h = some-named U r shut (shut-named U r) (session_of id) t h
call-named U r c (call.TerminateUser u) t b f w h = each-named U r shut (shut-named U r) (sessions_of t u.0) t h
call-named U r c (call.TerminateSeat seat) t b f w h = each-named U r shut (shut-named U r) (sessions_on t seat) t h
call-named U r c (call.SetLinger u on) t b f w h = linger-named U r (record { 0 = meant_user t c u.0 }) on t (user-named U (meant_user t c u.0) b.0) h
call-named U r c (call.SetIdle id on) t b f w h = some-named U r (λ s u. put (key.Idle s) (fact.Flag on) u) (λ s u p. put-named U r (key.Idle s) (fact.Flag on) u tt p) (session_of id) t h
call-named U r c (call.SetLocked id on) t b f w h = some-named U r (λ s u. put (key.Locked s) (fact.Flag on) u) (λ s u p. put-named U r (key.Locked s) (fact.Flag on) u tt p) (session_of id) t h
call-named U r c (call.Control id force) t b f w h = some-named U r (control c) (control-named U r c) (session_of id) t h
call-named U r c (call.Uncontrol id) t b f w h = some-named U r release (release-named U r) (session_of id) t h
call-named U r c (call.SwitchTo seat vt) t b f w h = request-named U r vt t h
call-named U r c (call.SwitchToNext seat) t b f w h = next-named U r seat t (seat-named t seat b.0) h
call-named U r c (call.SwitchToPrevious seat) t b f w h = previous-named U r seat t (seat-named t seat b.0) h
call-named U r c (call.KillUser u signal) t b f w h =
    (let x = fact.Signal whom.All signal in each-named U r (λ s v. put (key.Sig s) x v) (λ s v p. put-named U r (key.Sig s) x v tt p) (sessions_of t u.0) t h)
call-named U r c (call.Close g) t b f w h = close-named U r g t h
call-named U r c (call.TakeDevice id d) t b f w h =
    some-named U r (λ s u. take_device c s d (next_handle u) u) (λ s u p. take-named U r c s d (next_handle u) u p) (session_of id) t h
call-named U r c (call.ReleaseDevice id d) t b f w h = some-named U r (λ s u. untake s d u) (λ s u p. untake-named U r s d u p) (session_of id) t h
call-named U r c (call.PauseComplete id d) t b f w h = some-named U r (λ s u. acknowledge s d u) (λ s u p. acknowledge-named U r s d u p) (session_of id) t h
call-named U r c (call.SetMode g mode) t b f w h = mode-named U r (value t (key.Owner g)) mode t h
call-named U r c (call.Power k) t b f w h = ask_operation-named U r k (is_blocked t k) t h
call-named U r c (call.Inhibit x) t b f w h =
    inhibit-named U r (asked_lock c (record { 0 = uid_of t c }) x) (next_lock t) (next_handle t) t (w x refl)
call-named U r c _ t b f w h = h

press-named : (U : Setup) (r : Walk U) (x : KeyAction) (t : Trail) → r.N t → r.N (press x t)
press-named U r does.Ignore t h = h
press-named U r does.Lock t h = each-named U r lock_session (lock_session-named U r) (open_sessions t) t h
press-named U r (does.Operation k) t h = ask_operation-named U r k (is_blocked t k) t h

happen-named : (U : Setup) (r : Walk U) (x : Hardware) (t : Trail) → has_seat_name x ≡ true → ((d : DevNo) (kind : DevKind) (seat : List ℕ) → x ≡ Add d kind seat → r.N (put (key.Dev d) (fact.Device kind seat) t)) → r.N t → r.N (happen U x t)
happen-named U r (VtKey vt) t f w h = request-named U r vt t h
happen-named U r (Exit id) t f w h = some-named U r (exit U) (exit-named U r) (session_of id) t h
happen-named U r (Add d kind seat) t f w h = add-named U r d kind seat t f (w d kind seat refl)
happen-named U r (Remove d) t f w h = remove-named U r d t h
happen-named U r (HardKeyPressed k) t f w h = press-named U r (key_action U t k) t h
happen-named U r (Dock on) t f w h = put-named U r key.Docked (fact.Flag on) t tt h
happen-named U r JobDone t f w h = job_done-named U r t h
happen-named U r _ t f w h = h

-- what an event brings by itself: a lock that a call asks for, a device that is added
pub record Brings (U : Setup) (r : Walk U) (e : Event) (t : Trail) : Type 0 where
  pub lock : (q : Request) (y : Inhibition) → e ≡ Calls q → q.call ≡ call.Inhibit y → r.N (locked q.who y t)
  pub device : (d : DevNo) (kind : DevKind) (seat : List ℕ) → e ≡ Happens (Add d kind seat) → r.N (put (key.Dev d) (fact.Device kind seat) t)

direct-named : (U : Setup) (r : Walk U) (before : List Entry) (e : Event) → IsPlaced before e → verdict U (trail_of before) e ≡ Granted → Brings U r e (trail_of before) → r.N (trail_of before) → r.N (direct U e (trail_of before))
unfolding direct
direct-named U r before (Connect c u) p v w h = put-named U r (key.Conn c) (fact.Connected u) (trail_of before) tt h
direct-named U r before (Disconnect c) p v w h = disconnect-named U r c (trail_of before) h
direct-named U r before (Calls q) p v w h = call-named U r q.who q.call (trail_of before) (granted-rules U (trail_of before) (Calls q) v) p.0.2 (λ y i. w.lock q y refl i) h
direct-named U r before (Happens x) p v w h = happen-named U r x (trail_of before) p.0.1 (λ d kind seat i. w.device d kind seat (ap Happens i)) h
direct-named U r before (Tick m) p v w h = tick-named U r m (trail_of before) h
direct-named U r before Stop p v w h = h

pub step-named : (U : Setup) (r : Walk U) (before : List Entry) (e : Event) (v : Verdict) → v ≡ verdict U (trail_of before) e → IsPlaced before e → (v ≡ Granted → Brings U r e (trail_of before)) → r.N (trail_of before) → r.N (stepped U v e (trail_of before))
step-named U r before e Granted q p w h = settle-named U r (direct U e (trail_of before)) (direct-named U r before e p (sym q) (w refl) h)
step-named U r before e (Denied b) q p w h = h

-- ---- journals

-- named marks
abbrev pub marks-walk : (U : Setup) → Walk U
marks-walk U = record { N = λ t. AreNamed U t; named = λ t h. h; put = λ k x t f h. put-are U k x t (may-put U k x f) h; say = λ w n t f h. (f, h) }

call-texts : (x : Call) (y : Inhibition) → x ≡ call.Inhibit y → AllByRecursion (IsText text_limit) (texts x) → IsText text_limit y.who × IsText text_limit y.why
call-texts x y e f = (let P : Call → Type 0 = λ z. AllByRecursion (IsText text_limit) (texts z) in let g = subst P e f in (g.1.0, g.1.1.0))

brings-lock : (U : Setup) (before : List Entry) (e : Event) (q : Request) (y : Inhibition) → e ≡ Calls q → q.call ≡ call.Inhibit y → IsPlaced before e → AreNamed U (trail_of before) → AreNamed U (locked q.who y (trail_of before))
brings-lock U before e q y i j p h =
    let t = trail_of before in
    let P : Event → Type 0 = λ z. IsPlaced before z in
    let l = subst P i p in
    put-are U (key.Lock (next_lock t)) (fact.Lock (asked_lock q.who (record { 0 = uid_of t q.who }) y)) t (call-texts q.call y j l.0.2) h

brings-device : (U : Setup) (before : List Entry) (e : Event) (d : DevNo) (kind : DevKind) (seat : List ℕ) → e ≡ Happens (Add d kind seat) → IsPlaced before e → AreNamed U (trail_of before) → AreNamed U (put (key.Dev d) (fact.Device kind seat) (trail_of before))
brings-device U before e d kind seat i p h =
    let P : Event → Type 0 = λ z. IsPlaced before z in
    let l = subst P i p in
    put-are U (key.Dev d) (fact.Device kind seat) (trail_of before) l.0.1 h

pub brings : (U : Setup) (before : List Entry) (e : Event) → IsPlaced before e → AreNamed U (trail_of before) → Brings U (marks-walk U) e (trail_of before)
brings U before e p h = record { lock = λ q y i j. brings-lock U before e q y i j p h; device = λ d kind seat i. brings-device U before e d kind seat i p h }

pub entry-named : (U : Setup) (before : List Entry) (e : Entry) → IsLegalEntry U before e → AreNamed U (trail_of before) → AreNamed U (trail_of (before ++ e ∷ []))
entry-named U before e l h =
    let P : Trail → Type 0 = λ t. AreNamed U t in
    subst P (sym (after-more [] before e ∙ l.marks_are)) (step-named U (marks-walk U) before e.event e.verdict l.verdict_is l.placed (λ g. brings U before e.event l.placed h) h)

after-named : (U : Setup) (before es : List Entry) → IsLegalAfter U before es → AreNamed U (trail_of before) → AreNamed U (after_all (trail_of before) es)
after-named U before [] l h = h
after-named U before (e ∷ es) l h =
    let P : Trail → Type 0 = λ t. AreNamed U (after_all t es) in
    subst P (after-more [] before e) (after-named U (before ++ e ∷ []) es l.1 (entry-named U before e l.0 h))
