-- How many keys the procedures of events set for the first time.
use Rattle.std.proofs.Common.{◌+◌, ◌*◌, ◌||◌, ◌==◌, nat_lt, ℕ, Bool, true, false, cond, Option, Some, None, List, refl, arith}
use Rattle.std.specs.Str.{bytes_eq}
use Rattle.login_base.specs.declared.ids.ConnId.{ConnId}
use Rattle.login_base.specs.declared.ids.DevNo.{DevNo}
use Rattle.login_base.specs.declared.ids.HandleNo.{HandleNo}
use Rattle.login_base.specs.declared.ids.Millis.{Millis}
use Rattle.login_base.specs.declared.ids.SessId.{SessId}
use Rattle.login_base.specs.declared.ids.Uid.{Uid}
use Rattle.login_model.specs.Creating.{appear_on, create, created_session, seat_of}
use Rattle.login_model.specs.Direct.{activate, activate_on, close, close_handle, close_owned, control, control_from, exit, is_this_handle, leave_known, linger, overdue, tick, user_or_root}
use Rattle.login_model.specs.Facts.{is_number_fact}
use Rattle.login_model.specs.Names.{session_lt}
use Rattle.login_model.specs.Power.{ask_operation, end_operation, job_done, prepare}
use Rattle.login_model.specs.Procedure.{each, force, forget, front, if_some, is_kept, kill, know, leave, no, oust, resume, revoke, set_phase, shut, take_seat, tell_new_user, untake, yes}
use Rattle.login_model.specs.Start.{seat0}
use Rattle.login_model.specs.Switching.{ask_switch, await_devices, request, unawait_devices, withdraw_switch}
use Rattle.login_model.specs.Taking.{acknowledge, add_device, appear_seat, enliven, has_graphics, lose_seat, remove_device, set_mode, take_device, takers}
use Rattle.login_model.specs.Devices.{taken_devices}
use Rattle.login_model.specs.Trail.{Trail, put, tell_all, value}
use Rattle.login_model.specs.Turning.{next_around, open_on, open_terminals, previous_around, turn, turn_to_next, turn_to_previous, vt_in}
use Rattle.login_model.specs.Where.{active_on, current_vt, is_active, is_seat, is_set, now, seat_of_session, sessions_on}
use Rattle.login_model.specs.declared.call.Creation.{Creation}
use Rattle.login_model.specs.declared.fact.Fact.{Fact}
use Rattle.login_model.specs.declared.fact.Fact.TheVariants as fact
use Rattle.login_model.specs.declared.fact.Key.TheVariants as key
use Rattle.login_model.specs.declared.fact.Owner.TheVariants as owner
use Rattle.login_model.specs.declared.hardware.DevKind.{DevKind}
use Rattle.login_model.specs.declared.hardware.DevKind.TheVariants.{Drm, Evdev}
use Rattle.login_model.specs.declared.mark.Notice.TheVariants as notice
use Rattle.login_model.specs.declared.mark.Whom.TheVariants.{All}
use Rattle.login_model.specs.declared.operation.OpKind.{OpKind}
use Rattle.login_model.specs.declared.operation.Operation.TheVariants.{Idle, Waiting, Running}
use Rattle.login_model.specs.declared.session.Phase.TheVariants.{Gone}
use Rattle.login_model.specs.declared.setup.Setup.{Setup}
use Rattle.login_laws.specs.Amounts.{Part}
use Rattle.login_laws.specs.Few.{TakeAtMost}
use Rattle.login_laws.specs.Keys.{keys_of_device}
use Rattle.login_laws.proofs.Keying.{Firsts, await-firsts, firsts-if, firsts-later, firsts-more, firsts-refl, firsts-some, firsts-trans, force-none, forget-none, none-each, phase-none, put-firsts, put-start, resume-firsts, revoke-none, say-none, shut-none, unawait-kill-none, unawait-none, untake-none}
use Rattle.login_laws.proofs.ProcedureMarks.{some-later, take_seat-within, unawait-within}
use Rattle.login_laws.proofs.WithinLaws.{plain-within}

-- ---- seats

take_seat-firsts : (which : Part) (seat : List ℕ) (s : SessId) (o : Option SessId) (t : Trail) → Firsts which 1 t (take_seat seat s o t)
take_seat-firsts which seat s o t =
    let u = if_some force o t in
    let v = put (key.Act seat) (fact.Active s) u in
    firsts-trans which 1 0 t v (take_seat seat s o t) (firsts-trans which 0 1 t u v (firsts-some which 0 force o t (λ r. force-none which r t)) (put-firsts which (key.Act seat) (fact.Active s) u))
    (say-none which All (notice.Active seat o (Some s)) v)

-- what one turn sets, beside the keys of devices, of which one session has taken so many at most
front-firsts : (which : Part) (n : ℕ) (seat : List ℕ) (s : SessId) (t : Trail) → TakeAtMost n t → Firsts which (1 + keys_of_device which * n) t (front seat s t)
unfolding front
front-firsts which n seat s t l =
    let k = keys_of_device which in
    let o = active_on t seat in
    let u = take_seat seat s o t in
    let w = take_seat-within seat s o n t (λ r e. l r) in
    firsts-if which (is_active t s) (1 + k * n) t t (resume s u) (firsts-refl which (1 + k * n) t)
    (firsts-later which k resume (resume-firsts which) (Some s) t u 1 n (λ r e. l r) w.falls (take_seat-firsts which seat s o t))

ask-firsts : (which : Part) (n v : ℕ) (b : Bool) (t : Trail) → TakeAtMost n t → Firsts which (1 + keys_of_device which * n) t (ask_switch v b t)
ask-firsts which n v true t l =
    firsts-more which 1 (1 + keys_of_device which * n) t (put key.Pending (fact.Number v) t) (omega arith) (put-firsts which key.Pending (fact.Number v) t)
ask-firsts which n v false t l =
    (let o = active_on t seat0 in
    let u = put key.Pending (fact.Number v) t in
    let w = plain-within key.Pending (fact.Number v) t refl in
    firsts-later which (keys_of_device which) await_devices (await-firsts which) o t u 1 n (λ r e. l r) w.falls (put-firsts which key.Pending (fact.Number v) t))

withdraw-firsts : (which : Part) (n : ℕ) (t : Trail) → TakeAtMost n t → Firsts which (1 + keys_of_device which * n) t (withdraw_switch t)
withdraw-firsts which n t l =
    let k = keys_of_device which in
    let o = active_on t seat0 in
    let u = put key.Pending fact.Absent t in
    let v = if_some unawait_devices o u in
    let w = some-later 1 unawait_devices unawait-within o t u 1 n (λ r e. l r) (plain-within key.Pending fact.Absent t refl) in
    let p = firsts-trans which 0 0 t u v (put-start which key.Pending fact.Absent t refl) (firsts-some which 0 unawait_devices o u (λ s. unawait-none which s u)) in
    firsts-more which (0 + k * n) (1 + k * n) t (if_some resume o v) (omega arith) (firsts-later which k resume (resume-firsts which) o t v 0 n (λ r e. l r) w.falls p)

pub request-firsts : (which : Part) (n v : ℕ) (t : Trail) → TakeAtMost n t → Firsts which (1 + keys_of_device which * n) t (request v t)
unfolding request
request-firsts which n v t l =
    let m = 1 + keys_of_device which * n in
    let b = is_number_fact (value t key.Pending) in
    firsts-if which (v == current_vt t) m t (cond b (withdraw_switch t) t) (ask_switch v b t)
    (firsts-if which b m t (withdraw_switch t) t (withdraw-firsts which n t l) (firsts-refl which m t)) (ask-firsts which n v b t l)

activated : (which : Part) (n : ℕ) (o : Option (List ℕ)) (s : SessId) (t : Trail) → TakeAtMost n t → Firsts which (1 + keys_of_device which * n) t (activate_on o s t)
activated which n None s t l = firsts-refl which (1 + keys_of_device which * n) t
activated which n (Some seat) s t l =
    (let v = vt_in (value t (key.Sess s)) in
    firsts-if which (bytes_eq seat seat0) (1 + keys_of_device which * n) t (request v t) (front seat s t) (request-firsts which n v t l) (front-firsts which n seat s t l))

pub activate-firsts : (which : Part) (n : ℕ) (o : Option SessId) (t : Trail) → TakeAtMost n t → Firsts which (1 + keys_of_device which * n) t (if_some activate o t)
unfolding activate
activate-firsts which n o t l = firsts-some which (1 + keys_of_device which * n) activate o t (λ s. activated which n (seat_of_session t s) s t l)

turn-firsts : (which : Part) (n : ℕ) (terminal : Option ℕ → List ℕ → Option ℕ) (session : Option SessId → List SessId → Option SessId) (seat : List ℕ) (t : Trail) → TakeAtMost n t
    → Firsts which (1 + keys_of_device which * n) t (turn terminal session seat t)
turn-firsts which n terminal session seat t l =
    let m = 1 + keys_of_device which * n in
    let o = terminal (Some (current_vt t)) (open_terminals t) in
    let r = session (active_on t seat) (open_on t seat) in
    firsts-if which (bytes_eq seat seat0) m t (if_some request o t) (if_some (front seat) r t)
    (firsts-some which m request o t (λ v. request-firsts which n v t l)) (firsts-some which m (front seat) r t (λ s. front-firsts which n seat s t l))

pub next-firsts : (which : Part) (n : ℕ) (seat : List ℕ) (t : Trail) → TakeAtMost n t → Firsts which (1 + keys_of_device which * n) t (turn_to_next seat t)
unfolding turn_to_next
next-firsts which n seat t l = turn-firsts which n (next_around nat_lt) (next_around session_lt) seat t l

pub previous-firsts : (which : Part) (n : ℕ) (seat : List ℕ) (t : Trail) → TakeAtMost n t → Firsts which (1 + keys_of_device which * n) t (turn_to_previous seat t)
unfolding turn_to_previous
previous-firsts which n seat t l = turn-firsts which n (previous_around nat_lt) (previous_around session_lt) seat t l

-- ---- users

new-none : (which : Part) (u : Uid) (x : Fact) (t : Trail) → Firsts which 0 t (tell_new_user u x t)
new-none which u fact.Absent t = say-none which All (notice.UserNew u) t
new-none which u _ t = firsts-refl which 0 t

know-firsts : (which : Part) (u : Uid) (t : Trail) → Firsts which 1 t (know u t)
unfolding know
know-firsts which u t =
    let v = put (key.User u) fact.Known t in
    let x = value t (key.User u) in
    firsts-trans which 1 0 t v (tell_new_user u x v) (put-firsts which (key.User u) fact.Known t) (new-none which u x v)

leave-firsts : (which : Part) (U : Setup) (u : Uid) (t : Trail) → Firsts which 1 t (leave U u t)
unfolding leave
leave-firsts which U u t =
    let x = fact.Leaving (record { 0 = now t }) in
    let v = put (key.User u) x t in
    let b = U.conf.user_stop_delay.0 == 0 in
    firsts-if which (is_kept t u) 1 t t (cond b (forget u t) v) (firsts-refl which 1 t)
    (firsts-if which b 1 t (forget u t) v (firsts-more which 0 1 t (forget u t) (omega arith) (forget-none which u t)) (put-firsts which (key.User u) x t))

known-firsts : (which : Part) (U : Setup) (u : Uid) (x : Fact) (t : Trail) → Firsts which 1 t (leave_known U u x t)
known-firsts which U u fact.Known t = leave-firsts which U u t
known-firsts which U u _ t = firsts-refl which 1 t

pub linger-firsts : (which : Part) (U : Setup) (u : Uid) (on : Bool) (t : Trail) → Firsts which 2 t (linger U u on t)
linger-firsts which U u true t = (let v = put (key.Linger u) yes t in firsts-trans which 1 1 t v (know u v) (put-firsts which (key.Linger u) yes t) (know-firsts which u v))
linger-firsts which U u false t =
    (let v = put (key.Linger u) no t in
    let x = value v (key.User u) in
    firsts-trans which 1 1 t v (leave_known U u x v) (put-firsts which (key.Linger u) no t) (known-firsts which U u x v))

pub tick-firsts : (which : Part) (U : Setup) (m : Millis) (t : Trail) → Firsts which 1 t (tick U m t)
unfolding tick
tick-firsts which U m t =
    let v = put key.Now (fact.Moment m) t in
    let us = overdue U t m.0 in
    firsts-trans which 1 0 t v (each forget us v) (put-firsts which key.Now (fact.Moment m) t) (none-each which forget (forget-none which) us v)

-- ---- sessions and handles

appear-firsts : (which : Part) (o : Option (List ℕ)) (s : SessId) (t : Trail) → Firsts which 1 t (appear_on o s t)
appear-firsts which None s t = firsts-refl which 1 t
appear-firsts which (Some seat) s t =
    (let x = notice.Active seat0 None (Some s) in
    let u = cond (is_active t s) (tell_all x t) t in
    let p = firsts-if which (is_active t s) 0 t (tell_all x t) t (say-none which All x t) (firsts-refl which 0 t) in
    firsts-if which (bytes_eq seat seat0) 1 t u (take_seat seat s (active_on t seat) t) (firsts-more which 0 1 t u (omega arith) p) (take_seat-firsts which seat s (active_on t seat) t))

pub create-firsts : (which : Part) (c : ConnId) (x : Creation) (s : SessId) (h : HandleNo) (t : Trail) → Firsts which 4 t (create c x s h t)
unfolding create
create-firsts which c x s h t =
    let o = fact.Owned (owner.Fifo c s) in
    let y = fact.Session (created_session c x h) in
    let a = know x.uid t in
    let b = put (key.Owner h) o a in
    let d = put (key.Sess s) y b in
    let e = tell_all (notice.SessionNew s) d in
    let p = firsts-trans which 2 1 t b d (firsts-trans which 1 1 t a b (know-firsts which x.uid t) (put-firsts which (key.Owner h) o a)) (put-firsts which (key.Sess s) y b) in
    firsts-trans which 3 1 t e (appear_on (seat_of x.seat) s e) (firsts-trans which 3 0 t d e p (say-none which All (notice.SessionNew s) d)) (appear-firsts which (seat_of x.seat) s e)

oust-firsts : (which : Part) (s : SessId) (c : ConnId) (t : Trail) → Firsts which 1 t (oust s c t)
unfolding oust
oust-firsts which s c t =
    let ds = taken_devices t s in
    let u = each (revoke s) ds t in
    firsts-trans which 0 1 t u (put (key.Ctl s) (fact.Controller c) u) (none-each which (revoke s) (revoke-none which s) ds t) (put-firsts which (key.Ctl s) (fact.Controller c) u)

control-by : (which : Part) (x : Fact) (c : ConnId) (s : SessId) (t : Trail) → Firsts which 1 t (control_from x c s t)
control-by which (fact.Controller b) c s t = firsts-if which (b.0 == c.0) 1 t t (oust s c t) (firsts-refl which 1 t) (oust-firsts which s c t)
control-by which _ c s t = put-firsts which (key.Ctl s) (fact.Controller c) t

pub control-firsts : (which : Part) (c : ConnId) (s : SessId) (t : Trail) → Firsts which 1 t (control c s t)
unfolding control
control-firsts which c s t = control-by which (value t (key.Ctl s)) c s t

close-by : (which : Part) (h : HandleNo) (x : Fact) (t : Trail) → Firsts which 1 t (close_owned h x t)
close-by which h (fact.Owned (owner.Fifo c s)) t =
    (let u = close_handle h t in firsts-trans which 1 0 t u (shut s u) (put-firsts which (key.Owner h) (fact.Owned owner.Closed) t) (shut-none which s u))
close-by which h (fact.Owned (owner.Lock c l)) t =
    (let u = put (key.Lock l) fact.Absent t in firsts-trans which 0 1 t u (close_handle h u) (put-start which (key.Lock l) fact.Absent t refl) (put-firsts which (key.Owner h) (fact.Owned owner.Closed) u))
close-by which h (fact.Owned (owner.Device c s d)) t =
    (let b = is_this_handle h (value t (key.Taken s d)) in
    let u = cond b (untake s d t) t in
    firsts-trans which 0 1 t u (close_handle h u) (firsts-if which b 0 t (untake s d t) t (untake-none which s d t) (firsts-refl which 0 t)) (put-firsts which (key.Owner h) (fact.Owned owner.Closed) u))
close-by which h _ t = firsts-refl which 1 t

pub close-firsts : (which : Part) (h : HandleNo) (t : Trail) → Firsts which 1 t (close h t)
unfolding close
close-firsts which h t = close-by which h (value t (key.Owner h)) t

pub exit-firsts : (which : Part) (U : Setup) (s : SessId) (t : Trail) → Firsts which 1 t (exit U s t)
unfolding exit
exit-firsts which U s t =
    let who = user_or_root (value t (key.Sess s)) in
    let u = shut s t in
    let v = set_phase s Gone u in
    let w = tell_all (notice.SessionRemoved s) v in
    firsts-trans which 0 1 t w (leave U who w) (firsts-trans which 0 0 t v w (firsts-trans which 0 0 t u v (shut-none which s t) (phase-none which s Gone u)) (say-none which All (notice.SessionRemoved s) v)) (leave-firsts which U who w)

-- ---- devices

enliven-firsts : (which : Part) (h : HandleNo) (b : Bool) (t : Trail) → Firsts which 1 t (enliven h b t)
enliven-firsts which h true t = put-firsts which (key.Live h) yes t
enliven-firsts which h false t = firsts-refl which 1 t

pub take-firsts : (which : Part) (c : ConnId) (s : SessId) (d : DevNo) (h : HandleNo) (t : Trail) → Firsts which 3 t (take_device c s d h t)
unfolding take_device
take-firsts which c s d h t =
    let o = fact.Owned (owner.Device c s d) in
    let a = put (key.Owner h) o t in
    let b = put (key.Taken s d) (fact.Handle h) a in
    firsts-trans which 2 1 t b (enliven h (is_active t s) b) (firsts-trans which 1 1 t a b (put-firsts which (key.Owner h) o t) (put-firsts which (key.Taken s d) (fact.Handle h) a)) (enliven-firsts which h (is_active t s) b)

pub acknowledge-none : (which : Part) (s : SessId) (d : DevNo) (t : Trail) → Firsts which 0 t (acknowledge s d t)
unfolding acknowledge
acknowledge-none which s d t =
    firsts-if which (is_set (value t (key.Awaited s d))) 0 t (kill (value t (key.Taken s d)) (put (key.Awaited s d) no t)) t (unawait-kill-none which s d t) (firsts-refl which 0 t)

pub mode-firsts : (which : Part) (x : Fact) (n : ℕ) (t : Trail) → Firsts which 1 t (set_mode x n t)
mode-firsts which (fact.Owned (owner.Device c s d)) n t = put-firsts which (key.Mode d) (fact.Number n) t
mode-firsts which _ n t = firsts-refl which 1 t

appear_seat-firsts : (which : Part) (kind : DevKind) (seat : List ℕ) (t : Trail) → Firsts which 1 t (appear_seat kind seat t)
appear_seat-firsts which Drm seat t =
    (let u = put (key.Seat seat) fact.Present t in
    let v = tell_all (notice.SeatNew seat) u in
    firsts-if which (is_seat t seat) 1 t t v (firsts-refl which 1 t) (firsts-trans which 1 0 t u v (put-firsts which (key.Seat seat) fact.Present t) (say-none which All (notice.SeatNew seat) u)))
appear_seat-firsts which Evdev seat t = firsts-refl which 1 t

pub add-firsts : (which : Part) (d : DevNo) (kind : DevKind) (seat : List ℕ) (t : Trail) → Firsts which 2 t (add_device d kind seat t)
unfolding add_device
add-firsts which d kind seat t =
    let u = put (key.Dev d) (fact.Device kind seat) t in
    firsts-trans which 1 1 t u (appear_seat kind seat u) (put-firsts which (key.Dev d) (fact.Device kind seat) t) (appear_seat-firsts which kind seat u)

lose-firsts : (which : Part) (x : Fact) (t : Trail) → Firsts which 1 t (lose_seat x t)
lose-firsts which (fact.Device Drm seat) t =
    (let ss = sessions_on t seat in
    let a = each shut ss t in
    let b = put (key.Seat seat) fact.Absent a in
    let v = tell_all (notice.SeatRemoved seat) b in
    let p = firsts-trans which 0 1 t a b (none-each which shut (shut-none which) ss t) (put-firsts which (key.Seat seat) fact.Absent a) in
    firsts-if which (bytes_eq seat seat0 || has_graphics t seat) 1 t t v (firsts-refl which 1 t) (firsts-trans which 1 0 t b v p (say-none which All (notice.SeatRemoved seat) b)))
lose-firsts which _ t = firsts-refl which 1 t

pub remove-firsts : (which : Part) (d : DevNo) (t : Trail) → Firsts which 1 t (remove_device d t)
unfolding remove_device
remove-firsts which d t =
    let f = λ (s : SessId) (u : Trail). revoke s d u in
    let a = each f (takers t d) t in
    let b = put (key.Dev d) fact.Absent a in
    let c = put (key.Mode d) (fact.Number 0) b in
    let x = value t (key.Dev d) in
    let p = firsts-trans which 0 0 t a b (none-each which f (λ s u. revoke-none which s d u) (takers t d) t) (put-start which (key.Dev d) fact.Absent a refl) in
    firsts-trans which 0 1 t c (lose_seat x c) (firsts-trans which 0 0 t b c p (put-start which (key.Mode d) (fact.Number 0) b refl)) (lose-firsts which x c)

-- ---- operations

pub operation-firsts : (which : Part) (k : OpKind) (skip : Bool) (t : Trail) → Firsts which 1 t (ask_operation k skip t)
unfolding ask_operation
operation-firsts which k skip t =
    let o = fact.Operation (Waiting k (record { 0 = now t }) skip) in
    let u = put key.Op o t in
    firsts-trans which 1 0 t u (tell_all (prepare k true) u) (put-firsts which key.Op o t) (say-none which All (prepare k true) u)

end-none : (which : Part) (x : Fact) (t : Trail) → Firsts which 0 t (end_operation x t)
end-none which (fact.Operation (Running k)) t =
    (let u = put key.Op (fact.Operation Idle) t in firsts-trans which 0 0 t u (tell_all (prepare k false) u) (put-start which key.Op (fact.Operation Idle) t refl) (say-none which All (prepare k false) u))
end-none which _ t = firsts-refl which 0 t

pub done-none : (which : Part) (t : Trail) → Firsts which 0 t (job_done t)
unfolding job_done
done-none which t = end-none which (value t key.Op) t
