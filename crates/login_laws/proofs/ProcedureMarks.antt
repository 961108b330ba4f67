-- How many marks the procedures make that raise nothing.
use Rattle.std.proofs.Common.{◌≡◌, ◌≤◌, ◌+◌, ◌*◌, ◌==◌, nat_lt, ℕ, Bool, true, false, cond, Option, Some, None, List, [], ◌∷◌, length, filter, refl, ap, sym, ◌∙◌, arith, inl, inr}
use Rattle.std.specs.Str.{bytes_eq}
use Rattle.login_base.specs.declared.ids.SessId.{SessId}
use Rattle.login_base.specs.declared.ids.Uid.{Uid}
use Rattle.login_base.specs.declared.ids.DevNo.{DevNo}
use Rattle.login_base.specs.declared.ids.HandleNo.{HandleNo}
use Rattle.login_base.specs.declared.ids.Millis.{Millis}
use Rattle.login_model.specs.Names.{session_lt}
use Rattle.login_model.specs.Start.{seat0}
use Rattle.login_model.specs.Trail.{Trail, put, tell_all, value}
use Rattle.login_model.specs.Where.{active_on, current_vt, is_active, is_open, is_session_fact, now, seat_of_session, sessions, users}
use Rattle.login_model.specs.Fresh.{is_open_fact, is_open_phase}
use Rattle.login_model.specs.Devices.{is_handle_fact, is_live, taken_devices}
use Rattle.login_model.specs.Full.{taken_by, taken_count}
use Rattle.login_model.specs.Procedure.{each, force, forget, front, if_some, in_phase, is_kept, kill, know, leave, leave_seat, no, release, resume, revoke, set_phase, shut, take_seat, tell_controller, tell_new_user, untake, vacate, yes}
use Rattle.login_model.specs.Facts.{is_number_fact}
use Rattle.login_model.specs.Switching.{ask_switch, await_device, await_devices, await_handle, request, unawait_devices, withdraw_switch}
use Rattle.login_model.specs.Turning.{next_around, open_on, open_terminals, previous_around, turn, turn_to_next, turn_to_previous, vt_in}
use Rattle.login_model.specs.Direct.{activate, activate_on, close, close_handle, close_owned, exit, is_overdue_fact, is_this_handle, leave_known, linger, overdue, user_or_root, tick}
use Rattle.login_model.specs.declared.mark.Notice.TheVariants as notice
use Rattle.login_model.specs.declared.mark.PauseKind.TheVariants as pause
use Rattle.login_model.specs.declared.mark.Whom.TheVariants.{All}
use Rattle.login_model.specs.declared.session.Phase.{Phase}
use Rattle.login_model.specs.declared.session.Phase.TheVariants.{Closing, Gone}
use Rattle.login_model.specs.declared.setup.Setup.{Setup}
use Rattle.login_model.specs.declared.fact.Key.{Key}
use Rattle.login_model.specs.declared.fact.Key.TheVariants as key
use Rattle.login_model.specs.declared.fact.Fact.{Fact}
use Rattle.login_model.specs.declared.fact.Fact.TheVariants as fact
use Rattle.login_model.specs.declared.fact.Owner.TheVariants as owner
use Rattle.login_model.proofs.InOrder.{filter-ascending, filter-in}
use Rattle.login_model.proofs.Values.{Facts, given, true-false, upd, value-put, was}
use Rattle.login_laws.specs.Few.{TakeAtMost}
use Rattle.login_laws.proofs.SessionSteps.{open-there}
use Rattle.login_laws.proofs.Loops.{each-keeps}
use Rattle.login_laws.proofs.Counts.{length-taken-less, sessions-ascending, taken-among, taken-by-less, taken_length}
use Rattle.login_laws.proofs.Paying.{Falls}
use Rattle.login_laws.proofs.PayingEnds.{falls-control, falls-lock}
use Rattle.login_laws.proofs.PayingMoves.{force-within, resume-within}
use Rattle.login_laws.proofs.WithinLaws.{Within, filter-length, falls-within, owner-within, plain-within, say-within, tell-within, within-each, within-if, within-later, within-more, within-refl, within-some, within-trans}

-- ---- giving back

pub kill-within : (x : Fact) (t : Trail) → Within 1 t (kill x t)
kill-within (fact.Handle h) t = plain-within (key.Live h) no t refl
kill-within _ t = within-refl 1 t

falls-given : (s : SessId) (d : DevNo) (f : Facts) → Falls f (upd (key.Taken s d) fact.Absent f)
falls-given s d f = record {
  connected = λ c e. e;
  controls = λ r c e. e;
  opens = λ r e. refl;
  fifos = λ h c r e. e;
  locks = λ l x e. e;
  taken = λ r b e. elim (was is_handle_fact (key.Taken s d) (key.Taken r b) fact.Absent f e) [ inl q ↦ (let z = q.1 in cc) | inr q ↦ q.1 ];
  there = λ r e. e;
}

pub untake-within : (s : SessId) (d : DevNo) (t : Trail) → Within 3 t (untake s d t)
untake-within s d t =
    let a = kill (value t (key.Taken s d)) t in
    let b = put (key.Awaited s d) no a in
    within-trans 2 1 t b (untake s d t)
    (within-trans 1 1 t a b (kill-within (value t (key.Taken s d)) t) (plain-within (key.Awaited s d) no a refl))
    (falls-within (key.Taken s d) fact.Absent b (falls-given s d (value b)))

pub revoke-within : (s : SessId) (d : DevNo) (t : Trail) → Within 4 t (revoke s d t)
revoke-within s d t =
    let x = value t (key.Ctl s) in
    let n = notice.Pause s d pause.Gone in
    let u = tell_controller x n t in
    within-trans 1 3 t u (untake s d u) (tell-within x n t) (untake-within s d u)

pub release-within : (s : SessId) (t : Trail) → Within (3 * taken_length t s + 1) t (release s t)
unfolding release
release-within s t =
    let u = each (untake s) (taken_devices t s) t in
    within-trans (3 * taken_length t s) 1 t u (put (key.Ctl s) fact.Absent u) (within-each 3 (untake s) (untake-within s) (taken_devices t s) t)
    (falls-within (key.Ctl s) fact.Absent u (falls-control s (value u)))

-- the sessions are as they were
kill-session : (x : Fact) (r : SessId) (t : Trail) → value (kill x t) (key.Sess r) ≡ value t (key.Sess r)
kill-session (fact.Handle h) r t = value-put (key.Live h) (key.Sess r) no t
kill-session _ r t = refl

untake-session : (s r : SessId) (d : DevNo) (t : Trail) → value (untake s d t) (key.Sess r) ≡ value t (key.Sess r)
untake-session s r d t =
    let a = kill (value t (key.Taken s d)) t in
    value-put (key.Taken s d) (key.Sess r) fact.Absent (put (key.Awaited s d) no a) ∙ value-put (key.Awaited s d) (key.Sess r) no a ∙ kill-session (value t (key.Taken s d)) r t

release-session : (s r : SessId) (t : Trail) → value (release s t) (key.Sess r) ≡ value t (key.Sess r)
unfolding release
release-session s r t =
    let u = each (untake s) (taken_devices t s) t in
    let P : Trail → Type 0 = λ v. value v (key.Sess r) ≡ value t (key.Sess r) in
    value-put (key.Ctl s) (key.Sess r) fact.Absent u ∙ each-keeps P (untake s) (taken_devices t s) (λ d v i p. untake-session s r d v ∙ p) t refl

-- ---- phases

falls-session : (s : SessId) (y : Fact) (f : Facts) → (is_open_fact y ≡ true → y ≡ f (key.Sess s)) → (is_session_fact y ≡ true → is_session_fact (f (key.Sess s)) ≡ true)
    → Falls f (upd (key.Sess s) y f)
falls-session s y f o p = record {
  connected = λ c e. e;
  controls = λ r c e. e;
  fifos = λ h c r e. e;
  locks = λ l x e. e;
  taken = λ r d e. e;
  opens = λ r e. elim (given (key.Sess s) (key.Sess r) y (upd (key.Sess s) y f (key.Sess r)) f refl) [
    | inl q ↦ (let m : is_open_fact y ≡ true = ap is_open_fact q.1 ∙ e in sym q.1 ∙ o m ∙ ap f q.0)
    | inr q ↦ sym q.1
  ];
  there = λ r e. elim (was is_session_fact (key.Sess s) (key.Sess r) y f e) [ inl q ↦ ap (λ (k : Key). is_session_fact (f k)) (sym q.0) ∙ p q.1 | inr q ↦ q.1 ];
}

not-opened : (p : Phase) (x : Fact) → is_open_phase p ≡ false → is_open_fact (in_phase p x) ≡ true → in_phase p x ≡ x
not-opened p (fact.Session x) n e = absurd (true-false (is_open_phase p) e n)
not-opened p _ n e = refl

not-there : (x : Fact) → is_session_fact (in_phase Gone x) ≡ true → is_session_fact x ≡ true
not-there (fact.Session x) e = cc
not-there _ e = e

phase-within : (s : SessId) (p : Phase) (t : Trail) → is_open_phase p ≡ false → (is_session_fact (in_phase p (value t (key.Sess s))) ≡ true → is_session_fact (value t (key.Sess s)) ≡ true)
    → Within 1 t (set_phase s p t)
phase-within s p t n h =
    let x = value t (key.Sess s) in
    falls-within (key.Sess s) (in_phase p x) t (falls-session s (in_phase p x) (value t) (not-opened p x n) h)

-- ---- closing

leave_seat-within : (s : SessId) (seat : List ℕ) (t : Trail) → Within 2 t (leave_seat s seat t)
leave_seat-within s seat t =
    let n = notice.Active seat (Some s) None in
    let u = vacate seat t in
    within-trans 1 1 t u (tell_all n u)
    (within-if (bytes_eq seat seat0) 1 t t (put (key.Act seat) fact.Absent t) (within-refl 1 t) (plain-within (key.Act seat) fact.Absent t refl))
    (say-within All n u)

-- what closing adds behind giving back
pub closing-within : (o : Option (List ℕ)) (s : SessId) (v : Trail) → is_session_fact (value v (key.Sess s)) ≡ true → Within 3 v (if_some (leave_seat s) o (set_phase s Closing v))
closing-within o s v there =
    let u = set_phase s Closing v in
    within-trans 1 2 v u (if_some (leave_seat s) o u) (phase-within s Closing v refl (λ z. there)) (within-some 2 (leave_seat s) o u (λ seat z. leave_seat-within s seat u))

-- a session is there behind giving back
pub released-there : (s : SessId) (t : Trail) → is_open t s ≡ true → is_session_fact (value (release s t) (key.Sess s)) ≡ true
released-there s t e = ap is_session_fact (release-session s s t) ∙ open-there (value t (key.Sess s)) e

shut-by : (b : Bool) (o : Option (List ℕ)) (s : SessId) (t : Trail) → is_open t s ≡ b
    → Within (3 * taken_length t s + 4) t (cond b (if_some (leave_seat s) o (set_phase s Closing (release s t))) t)
shut-by true o s t e =
    let n = 3 * taken_length t s in
    let v = release s t in
    let u = if_some (leave_seat s) o (set_phase s Closing v) in
    within-more (n + 1 + 3) (n + 4) t u (omega arith) (within-trans (n + 1) 3 t v u (release-within s t) (closing-within o s v (released-there s t e)))
shut-by false o s t e = within-refl (3 * taken_length t s + 4) t

pub shut-within : (s : SessId) (t : Trail) → Within (3 * taken_length t s + 4) t (shut s t)
unfolding shut
shut-within s t = shut-by (is_open t s) (cond (is_active t s) (seat_of_session t s) None) s t refl

-- of a session that had taken so many devices at most
shut-later : (s : SessId) (t u : Trail) (m n : ℕ) → taken_length t s ≤ n → Within m t u → Within (m + (3 * n + 4)) t (shut s u)
shut-later s t u m n l w =
    let a = length-taken-less t u s (w.falls.taken s) in
    within-trans m (3 * n + 4) t u (shut s u) w (within-more (3 * taken_length u s + 4) (3 * n + 4) u (shut s u) (omega arith) (shut-within s u))

shut-each : (ss : List SessId) (t : Trail) → Within (3 * taken_by t ss + 4 * length ss) t (each shut ss t)
unfolding each taken_by
shut-each [] t = within-refl 0 t
shut-each (s ∷ ss) t =
    let u = shut s t in
    let n = taken_length t s in
    let w = shut-within s t in
    let a = taken-by-less t u ss (λ r. length-taken-less t u r (w.falls.taken r)) in
    let b = within-trans (3 * n + 4) (3 * taken_by u ss + 4 * length ss) t u (each shut ss u) w (shut-each ss u) in
    within-more (3 * n + 4 + (3 * taken_by u ss + 4 * length ss)) (3 * (n + taken_by t ss) + 4 * length (s ∷ ss)) t (each shut ss u) (omega arith) b

-- of some of the sessions
pub shut-some : (p : SessId → Bool) (t : Trail) → Within (3 * taken_count t + 4 * length (sessions t)) t (each shut (filter p (sessions t)) t)
shut-some p t =
    let all = sessions t in
    let ss = filter p all in
    let a = filter-length p all in
    let b = taken-among t t ss all (filter-ascending session_lt p all (sessions-ascending t)) (sessions-ascending t) (λ s i. omega arith) (λ s i. inr (filter-in p s all i)) in
    within-more (3 * taken_by t ss + 4 * length ss) (3 * taken_count t + 4 * length all) t (each shut ss t) (omega arith) (shut-each ss t)

-- ---- seats

pub take_seat-within : (seat : List ℕ) (s : SessId) (o : Option SessId) (n : ℕ) (t : Trail) → ((r : SessId) → o ≡ Some r → taken_length t r ≤ n) → Within (2 * n + 2) t (take_seat seat s o t)
take_seat-within seat s o n t l =
    let u = if_some force o t in
    let v = put (key.Act seat) (fact.Active s) u in
    let x = notice.Active seat o (Some s) in
    let a = within-some (2 * n) force o t (λ r e. (let m = l r e in within-more (2 * taken_length t r) (2 * n) t (force r t) (omega arith) (force-within r t))) in
    let b = within-trans (2 * n) 1 t u v a (plain-within (key.Act seat) (fact.Active s) u refl) in
    let c = within-trans (2 * n + 1) 1 t v (tell_all x v) b (say-within All x v) in
    within-more (2 * n + 1 + 1) (2 * n + 2) t (tell_all x v) (omega arith) c

pub front-within : (seat : List ℕ) (s : SessId) (n : ℕ) (t : Trail) → TakeAtMost n t → Within (6 * n + 2) t (front seat s t)
unfolding front
front-within seat s n t l =
    let o = active_on t seat in
    let u = take_seat seat s o t in
    let a = within-later 4 resume resume-within s t u (2 * n + 2) n (l s) (take_seat-within seat s o n t (λ r e. l r)) in
    within-if (is_active t s) (6 * n + 2) t t (resume s u) (within-refl (6 * n + 2) t) (within-more (2 * n + 2 + 4 * n) (6 * n + 2) t (resume s u) (omega arith) a)

-- ---- users

new-within : (u : Uid) (x : Fact) (t : Trail) → Within 1 t (tell_new_user u x t)
new-within u fact.Absent t = say-within All (notice.UserNew u) t
new-within u _ t = within-refl 1 t

pub know-within : (u : Uid) (t : Trail) → Within 2 t (know u t)
unfolding know
know-within u t =
    let v = put (key.User u) fact.Known t in
    let x = value t (key.User u) in
    within-trans 1 1 t v (tell_new_user u x v) (plain-within (key.User u) fact.Known t refl) (new-within u x v)

forget-within : (u : Uid) (t : Trail) → Within 2 t (forget u t)
forget-within u t =
    let v = put (key.User u) fact.Absent t in
    within-trans 1 1 t v (forget u t) (plain-within (key.User u) fact.Absent t refl) (say-within All (notice.UserRemoved u) v)

leave-within : (U : Setup) (u : Uid) (t : Trail) → Within 2 t (leave U u t)
unfolding leave
leave-within U u t =
    let x = fact.Leaving (record { 0 = now t }) in
    let v = put (key.User u) x t in
    let b = U.conf.user_stop_delay.0 == 0 in
    within-if (is_kept t u) 2 t t (cond b (forget u t) v) (within-refl 2 t)
    (within-if b 2 t (forget u t) v (forget-within u t) (within-more 1 2 t v (omega arith) (plain-within (key.User u) x t refl)))

known-within : (U : Setup) (u : Uid) (x : Fact) (t : Trail) → Within 2 t (leave_known U u x t)
known-within U u fact.Known t = leave-within U u t
known-within U u _ t = within-refl 2 t

pub linger-within : (U : Setup) (u : Uid) (on : Bool) (t : Trail) → Within 3 t (linger U u on t)
linger-within U u true t = (let v = put (key.Linger u) yes t in within-trans 1 2 t v (know u v) (plain-within (key.Linger u) yes t refl) (know-within u v))
linger-within U u false t =
    (let v = put (key.Linger u) no t in let x = value v (key.User u) in
    within-trans 1 2 t v (leave_known U u x v) (plain-within (key.Linger u) no t refl) (known-within U u x v))

pub tick-within : (U : Setup) (m : Millis) (t : Trail) → Within (2 * length (users t) + 1) t (tick U m t)
unfolding overdue tick
tick-within U m t =
    let v = put key.Now (fact.Moment m) t in
    let p = λ (u : Uid). is_overdue_fact U m.0 (value t (key.User u)) in
    let us = filter p (users t) in
    let a = filter-length p (users t) in
    let b = within-trans 1 (2 * length us) t v (each forget us v) (plain-within key.Now (fact.Moment m) t refl) (within-each 2 forget forget-within us v) in
    within-more (1 + 2 * length us) (2 * length (users t) + 1) t (each forget us v) (omega arith) b

-- ---- terminals

await-fact : (x : Fact) (s : SessId) (d : DevNo) (t : Trail) → Within 2 t (await_handle s d x t)
await-fact (fact.Handle h) s d t =
    (let u = put (key.Awaited s d) yes t in
    let y = value t (key.Ctl s) in let n = notice.Pause s d pause.Pause in
    within-if (is_live t h) 2 t (tell_controller y n u) t
    (within-trans 1 1 t u (tell_controller y n u) (plain-within (key.Awaited s d) yes t refl) (tell-within y n u)) (within-refl 2 t))
await-fact _ s d t = within-refl 2 t

await-within : (s : SessId) (t : Trail) → Within (2 * taken_length t s) t (await_devices s t)
unfolding await_devices
await-within s t = within-each 2 (await_device s) (λ d u. await-fact (value u (key.Taken s d)) s d u) (taken_devices t s) t

pub unawait-within : (s : SessId) (t : Trail) → Within (1 * taken_length t s) t (unawait_devices s t)
unfolding unawait_devices
unawait-within s t = within-each 1 (λ d u. put (key.Awaited s d) no u) (λ d u. plain-within (key.Awaited s d) no u refl) (taken_devices t s) t

-- what is done to the session, if there is one, that had taken so many devices at most
pub some-later : (k : ℕ) (f : SessId → Trail → Trail) → ((s : SessId) (t : Trail) → Within (k * taken_length t s) t (f s t))
    → (o : Option SessId) (t u : Trail) (m n : ℕ) → ((s : SessId) → o ≡ Some s → taken_length t s ≤ n) → Within m t u → Within (m + k * n) t (if_some f o u)
some-later k f step None t u m n l w = within-more m (m + k * n) t u (omega arith) w
some-later k f step (Some s) t u m n l w = within-later k f step s t u m n (l s refl) w

ask-within : (v : ℕ) (b : Bool) (n : ℕ) (t : Trail) → TakeAtMost n t → Within (5 * n + 1) t (ask_switch v b t)
ask-within v true n t l = within-more 1 (5 * n + 1) t (put key.Pending (fact.Number v) t) (omega arith) (plain-within key.Pending (fact.Number v) t refl)
ask-within v false n t l =
    (let o = active_on t seat0 in
    let u = put key.Pending (fact.Number v) t in
    let a = some-later 2 await_devices await-within o t u 1 n (λ s e. l s) (plain-within key.Pending (fact.Number v) t refl) in
    within-more (1 + 2 * n) (5 * n + 1) t (if_some await_devices o u) (omega arith) a)

withdraw-within : (n : ℕ) (t : Trail) → TakeAtMost n t → Within (5 * n + 1) t (withdraw_switch t)
withdraw-within n t l =
    let o = active_on t seat0 in
    let u = put key.Pending fact.Absent t in
    let v = if_some unawait_devices o u in
    let a = some-later 1 unawait_devices unawait-within o t u 1 n (λ s e. l s) (plain-within key.Pending fact.Absent t refl) in
    let b = some-later 4 resume resume-within o t v (1 + 1 * n) n (λ s e. l s) a in
    within-more (1 + 1 * n + 4 * n) (5 * n + 1) t (if_some resume o v) (omega arith) b

pub request-within : (v n : ℕ) (t : Trail) → TakeAtMost n t → Within (5 * n + 1) t (request v t)
unfolding request
request-within v n t l =
    let m = 5 * n + 1 in
    let b = is_number_fact (value t key.Pending) in
    within-if (v == current_vt t) m t (cond b (withdraw_switch t) t) (ask_switch v b t)
    (within-if b m t (withdraw_switch t) t (withdraw-within n t l) (within-refl m t)) (ask-within v b n t l)

-- ---- bringing to a seat

abbrev pub TakenWithin : Trail → Type 0
TakenWithin t = TakeAtMost (taken_count t) t

request-front : (v n : ℕ) (t : Trail) → TakeAtMost n t → Within (6 * n + 2) t (request v t)
request-front v n t l = within-more (5 * n + 1) (6 * n + 2) t (request v t) (omega arith) (request-within v n t l)

activate-by : (o : Option (List ℕ)) (s : SessId) (n : ℕ) (t : Trail) → TakeAtMost n t → Within (6 * n + 2) t (activate_on o s t)
activate-by None s n t l = within-refl (6 * n + 2) t
activate-by (Some seat) s n t l =
    (let v = vt_in (value t (key.Sess s)) in
    within-if (bytes_eq seat seat0) (6 * n + 2) t (request v t) (front seat s t) (request-front v n t l) (front-within seat s n t l))

pub activate-within : (s : SessId) (n : ℕ) (t : Trail) → TakeAtMost n t → Within (6 * n + 2) t (activate s t)
unfolding activate
activate-within s n t l = activate-by (seat_of_session t s) s n t l

turn-within : (terminal : Option ℕ → List ℕ → Option ℕ) (session : Option SessId → List SessId → Option SessId) (seat : List ℕ) (n : ℕ) (t : Trail) → TakeAtMost n t
    → Within (6 * n + 2) t (turn terminal session seat t)
turn-within terminal session seat n t l =
    let m = 6 * n + 2 in
    let o = terminal (Some (current_vt t)) (open_terminals t) in
    let r = session (active_on t seat) (open_on t seat) in
    within-if (bytes_eq seat seat0) m t (if_some request o t) (if_some (front seat) r t)
    (within-some m request o t (λ v e. request-front v n t l)) (within-some m (front seat) r t (λ s e. front-within seat s n t l))

pub next-within : (seat : List ℕ) (n : ℕ) (t : Trail) → TakeAtMost n t → Within (6 * n + 2) t (turn_to_next seat t)
unfolding turn_to_next
next-within seat n t l = turn-within (next_around nat_lt) (next_around session_lt) seat n t l

pub previous-within : (seat : List ℕ) (n : ℕ) (t : Trail) → TakeAtMost n t → Within (6 * n + 2) t (turn_to_previous seat t)
unfolding turn_to_previous
previous-within seat n t l = turn-within (previous_around nat_lt) (previous_around session_lt) seat n t l

-- ---- handles and exits

close-by : (h : HandleNo) (x : Fact) (n : ℕ) (t : Trail) → TakeAtMost n t → Within (3 * n + 5) t (close_owned h x t)
close-by h (fact.Owned (owner.Fifo c s)) n t l =
    (let u = close_handle h t in
    within-more (1 + (3 * n + 4)) (3 * n + 5) t (shut s u) (omega arith) (shut-later s t u 1 n (l s) (owner-within h (fact.Owned owner.Closed) t (λ b r z. cc))))
close-by h (fact.Owned (owner.Lock c k)) n t l =
    (let u = put (key.Lock k) fact.Absent t in
    within-more 2 (3 * n + 5) t (close_handle h u) (omega arith)
    (within-trans 1 1 t u (close_handle h u) (falls-within (key.Lock k) fact.Absent t (falls-lock k (value t))) (owner-within h (fact.Owned owner.Closed) u (λ b r z. cc))))
close-by h (fact.Owned (owner.Device c s d)) n t l =
    (let b = is_this_handle h (value t (key.Taken s d)) in
    let u = cond b (untake s d t) t in
    within-more 4 (3 * n + 5) t (close_handle h u) (omega arith)
    (within-trans 3 1 t u (close_handle h u) (within-if b 3 t (untake s d t) t (untake-within s d t) (within-refl 3 t)) (owner-within h (fact.Owned owner.Closed) u (λ b r z. cc))))
close-by h _ n t l = within-refl (3 * n + 5) t

pub close-within : (h : HandleNo) (n : ℕ) (t : Trail) → TakeAtMost n t → Within (3 * n + 5) t (close h t)
unfolding close
close-within h n t l = close-by h (value t (key.Owner h)) n t l

pub exit-within : (U : Setup) (s : SessId) (n : ℕ) (t : Trail) → TakeAtMost n t → Within (3 * n + 8) t (exit U s t)
unfolding exit
exit-within U s n t l =
    let m = l s in
    let who = user_or_root (value t (key.Sess s)) in
    let u = shut s t in
    let v = set_phase s Gone u in
    let w = tell_all (notice.SessionRemoved s) v in
    let a = within-more (3 * taken_length t s + 4) (3 * n + 4) t u (omega arith) (shut-within s t) in
    let b = within-trans (3 * n + 4) 1 t u v a (phase-within s Gone u refl (not-there (value u (key.Sess s)))) in
    let c = within-trans (3 * n + 4 + 1) 1 t v w b (say-within All (notice.SessionRemoved s) v) in
    let e = within-trans (3 * n + 4 + 1 + 1) 2 t w (leave U who w) c (leave-within U who w) in
    within-more (3 * n + 4 + 1 + 1 + 2) (3 * n + 8) t (leave U who w) (omega arith) e
