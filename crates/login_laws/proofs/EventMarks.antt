-- An event that is no disconnect makes so many marks at most, and raises the need by so much at most.
use Rattle.std.proofs.Common.{◌≡◌, ◌≤◌, ◌+◌, ◌*◌, ◌==◌, ◌||◌, ℕ, ℤ, Bool, true, false, cond, Option, Some, None, List, [], ◌∷◌, length, filter, refl, ap, sym, ◌∙◌, subst, arith, ◌⊎◌, inl, inr}
use Rattle.std.specs.Str.{bytes_eq}
use Rattle.login_base.specs.declared.ids.SessId.{SessId}
use Rattle.login_base.specs.declared.ids.ConnId.{ConnId}
use Rattle.login_base.specs.declared.ids.LockNo.{LockNo}
use Rattle.login_base.specs.declared.ids.DevNo.{DevNo}
use Rattle.login_base.specs.SessionId.{session_of}
use Rattle.login_model.specs.Names.{conn_lt, device_lt, lock_lt, session_lt}
use Rattle.login_model.specs.Start.{seat0}
use Rattle.login_model.specs.Trail.{Trail, put, tell_all, value}
use Rattle.login_model.specs.Where.{active_on, connections, is_active, is_seat, is_set, now, is_connected, is_connected_fact, is_lock, is_lock_fact, is_on_seat, is_open, is_session, is_session_fact, is_session_of, locks, open_sessions, sessions, sessions_of, sessions_on, users}
use Rattle.login_model.specs.Fresh.{is_open_fact, next_handle, next_lock, next_session}
use Rattle.login_model.specs.Devices.{is_handle_fact, is_taken, taken_devices}
use Rattle.login_model.specs.Full.{controlled_sessions, is_controlled_fact, taken_by, taken_count}
use Rattle.login_model.specs.Legal.{stepped}
use Rattle.login_laws.specs.Asking.{asked_vt, call_vt}
use Rattle.login_laws.specs.Few.{TakeAtMost}
use Rattle.login_laws.specs.Need.{IsDisconnect, IsWithin, RoomIsKept, asks_to_turn, call_marks, call_turns, hardware_marks, hardware_turns, marks_beside, marks_over, marks_over_devices, may_switch, most_marks, most_of_any, most_rise, need, seat_marks, switch_need}
use Rattle.login_model.specs.Policy.{meant_user, uid_of, verdict}
use Rattle.login_model.specs.Procedure.{each, if_some, kill, know, no, oust, release, revoke, shut, take_seat, untake, yes}
use Rattle.login_model.specs.Facts.{is_number_fact}
use Rattle.login_model.specs.Creating.{appear_on, create, created_session, seat_of}
use Rattle.login_model.specs.Direct.{activate, control, control_from, direct, direct_call, disconnect, exit, happen, lock_session, press, unlock_session}
use Rattle.login_model.specs.Words.{whom_of}
use Rattle.login_model.specs.Settle.{settle}
use Rattle.login_laws.specs.Sound.{IsSound}
use Rattle.login_laws.proofs.UnusedLaws.{Unused}
use Rattle.login_model.specs.declared.call.Call.{Call}
use Rattle.login_model.specs.declared.call.Call.TheVariants as call
use Rattle.login_model.specs.declared.call.Creation.{Creation}
use Rattle.login_model.specs.declared.event.Event.{Event}
use Rattle.login_model.specs.declared.event.Event.TheVariants.{Connect, Disconnect, Call as Calls, Hardware as Happens, Tick, Stop}
use Rattle.login_model.specs.declared.hardware.Hardware.{Hardware}
use Rattle.login_model.specs.declared.hardware.Hardware.TheVariants.{Add, Remove, VtKey, Exit, Key as HardKeyPressed, Dock, JobDone}
use Rattle.login_base.specs.declared.ids.HandleNo.{HandleNo}
use Rattle.login_model.specs.declared.conf.KeyAction.{KeyAction}
use Rattle.login_model.specs.declared.conf.KeyAction.TheVariants as does
use Rattle.login_model.specs.declared.hardware.DevKind.{DevKind}
use Rattle.login_model.specs.declared.hardware.DevKind.TheVariants.{Drm, Evdev}
use Rattle.login_model.specs.declared.lock.Lock.{Lock}
use Rattle.login_model.specs.declared.operation.OpKind.{OpKind}
use Rattle.login_model.specs.declared.operation.Operation.TheVariants.{Idle, Waiting, Running}
use Rattle.login_model.specs.Locks.{asked_lock}
use Rattle.login_model.specs.Power.{ask_operation, end_operation, inhibit, is_blocked, job_done, key_action, prepare}
use Rattle.login_model.specs.Same.{same_key}
use Rattle.login_model.specs.Taking.{acknowledge, add_device, appear_seat, enliven, has_graphics, lose_seat, remove_device, set_mode, take_device, takers}
use Rattle.login_model.specs.declared.mark.Notice.TheVariants as notice
use Rattle.login_model.specs.declared.mark.Whom.TheVariants.{All}
use Rattle.login_model.specs.declared.rule.Verdict.{Verdict}
use Rattle.login_model.specs.declared.rule.Verdict.TheVariants.{Granted, Denied}
use Rattle.login_model.specs.declared.session.KillWhom.{KillWhom}
use Rattle.login_model.specs.declared.session.KillWhom.TheVariants as whom
use Rattle.login_model.specs.declared.setup.Setup.{Setup}
use Rattle.login_model.specs.declared.fact.Key.{Key}
use Rattle.login_model.specs.declared.fact.Key.TheVariants as key
use Rattle.login_model.specs.declared.fact.Fact.{Fact}
use Rattle.login_model.specs.declared.fact.Fact.TheVariants as fact
use Rattle.login_model.specs.declared.fact.Owner.TheVariants as owner
use Rattle.login_model.proofs.InOrder.{IsIn}
use Rattle.login_model.proofs.Keys.{both}
use Rattle.login_model.proofs.Values.{Facts, apart, conn-one, ctl-one, taken-one as pair-one, sess-one, true-false, upd, upd-other, value-put, values-put, was}
use Rattle.login_laws.proofs.Holds.{none_out}
use Rattle.login_laws.proofs.SessionSteps.{open-there}
use Rattle.login_laws.proofs.Loops.{in-sessions, of-sessions}
use Rattle.login_laws.proofs.Giving.{Good}
use Rattle.login_laws.proofs.Accords.{good-sound}
use Rattle.login_laws.proofs.Counts.{both-true, connections-list, count-less, count-more, count-same, sessions-list, taken-by-more, taken-less, is_controlled, is_ruled, length-taken-less, locks-list, open-list, put-length, ruled-list, sessions-ascending, taken-among, taken-list, taken_length}
use Rattle.login_laws.proofs.Ending.{good-disconnect}
use Rattle.login_laws.proofs.Paying.{Falls, base, counted, falls-controlled, falls-locked, falls-opened, handle-in, open-session}
use Rattle.login_laws.proofs.PayingEnds.{pays-disconnect}
use Rattle.login_laws.proofs.Calm.{direct-calm}
use Rattle.login_laws.proofs.PayingMoves.{settle-adds, settle-within}
use Rattle.login_laws.proofs.NeedLaws.{ends, need-is}
use Rattle.login_laws.proofs.RoomLaws.{most-less, room, stop-stays}
use Rattle.login_laws.proofs.WithinLaws.{ThereAtMost, Within, active-there, filter-length, owner-within, plain-within, say-within, taken-there, within-each, within-if, within-more, within-refl, within-trans}
use Rattle.login_laws.proofs.ProcedureMarks.{TakenWithin, activate-within, close-within, exit-within, kill-within, know-within, untake-within, linger-within, next-within, previous-within, release-within, request-within, revoke-within, shut-some, shut-within, take_seat-within, tick-within}

-- ---- one more of what the need counts

-- no more connect, control, are open, lock and take than before, but for one connection and one session
record FallsBut (c : ConnId) (s : SessId) (f g : Facts) : Type 0 where
  connected : (b : ConnId) → is_connected_fact (g (key.Conn b)) ≡ true → (b ≡ c) ⊎ (is_connected_fact (f (key.Conn b)) ≡ true)
  controlled : (r : SessId) → is_controlled_fact (g (key.Ctl r)) ≡ true → (r ≡ s) ⊎ (is_controlled_fact (f (key.Ctl r)) ≡ true)
  opened : (r : SessId) → is_open_fact (g (key.Sess r)) ≡ true → (r ≡ s) ⊎ (is_open_fact (f (key.Sess r)) ≡ true)
  there : (r : SessId) → is_session_fact (g (key.Sess r)) ≡ true → (r ≡ s) ⊎ (is_session_fact (f (key.Sess r)) ≡ true)
  locked : (l : LockNo) → is_lock_fact (g (key.Lock l)) ≡ true → is_lock_fact (f (key.Lock l)) ≡ true
  taken : (r : SessId) (d : DevNo) → is_handle_fact (g (key.Taken r d)) ≡ true → is_handle_fact (f (key.Taken r d)) ≡ true

or-was : {A B C : Type 0} → A ⊎ B → (B → C) → A ⊎ C
or-was (inl a) f = inl a
or-was (inr b) f = inr (f b)

but-falls : (c : ConnId) (s : SessId) (f g h : Facts) → FallsBut c s f g → Falls g h → FallsBut c s f h
but-falls c s f g h p q = record {
  connected = λ b e. p.connected b (q.connected b e);
  controlled = λ r e. p.controlled r (falls-controlled g h q r e);
  opened = λ r e. p.opened r (falls-opened g h q r e);
  there = λ r e. p.there r (q.there r e);
  locked = λ l e. p.locked l (falls-locked g h q l e);
  taken = λ r d e. p.taken r d (q.taken r d e);
}

falls-but : (c : ConnId) (s : SessId) (f g h : Facts) → Falls f g → FallsBut c s g h → FallsBut c s f h
falls-but c s f g h p q = record {
  connected = λ b e. or-was (q.connected b e) (p.connected b);
  controlled = λ r e. or-was (q.controlled r e) (falls-controlled f g p r);
  opened = λ r e. or-was (q.opened r e) (falls-opened f g p r);
  there = λ r e. or-was (q.there r e) (p.there r);
  locked = λ l e. falls-locked f g p l (q.locked l e);
  taken = λ r d e. p.taken r d (q.taken r d e);
}

but-put : (c : ConnId) (s : SessId) (k : Key) (x : Fact) (t : Trail) → FallsBut c s (value t) (upd k x (value t)) → FallsBut c s (value t) (value (put k x t))
but-put c s k x t w = (let P : Facts → Type 0 = λ h. FallsBut c s (value t) h in subst P (sym (values-put k x t)) w)

but-connected : (c : ConnId) (s : SessId) (x : Fact) (f : Facts) → FallsBut c s f (upd (key.Conn c) x f)
but-connected c s x f = record {
  connected = λ b e. elim (was is_connected_fact (key.Conn c) (key.Conn b) x f e) [ inl q ↦ inl (sym (conn-one c b q.0)) | inr q ↦ inr q.1 ];
  controlled = λ r e. inr e;
  opened = λ r e. inr e;
  there = λ r e. inr e;
  locked = λ l e. e;
  taken = λ r d e. e;
}

but-controlled : (c : ConnId) (s : SessId) (x : Fact) (f : Facts) → FallsBut c s f (upd (key.Ctl s) x f)
but-controlled c s x f = record {
  controlled = λ r e. elim (was is_controlled_fact (key.Ctl s) (key.Ctl r) x f e) [ inl q ↦ inl (sym (ctl-one s r q.0)) | inr q ↦ inr q.1 ];
  connected = λ b e. inr e;
  opened = λ r e. inr e;
  there = λ r e. inr e;
  locked = λ l e. e;
  taken = λ r d e. e;
}

but-made : (c : ConnId) (s : SessId) (h : HandleNo) (o x : Fact) (f : Facts) → FallsBut c s f (upd (key.Sess s) x (upd (key.Owner h) o f))
but-made c s h o x f = record {
  opened = λ r e. elim (was is_open_fact (key.Sess s) (key.Sess r) x f e) [ inl q ↦ inl (sym (sess-one s r q.0)) | inr q ↦ inr q.1 ];
  there = λ r e. elim (was is_session_fact (key.Sess s) (key.Sess r) x f e) [ inl q ↦ inl (sym (sess-one s r q.0)) | inr q ↦ inr q.1 ];
  connected = λ b e. inr e;
  controlled = λ r e. inr e;
  locked = λ l e. e;
  taken = λ r d e. e;
}

-- ---- what an event makes by itself

-- the marks of an event by itself, beside those of what it goes over
abbrev marks_itself : ℕ
marks_itself = 8

-- what the need is made of, but for a switch
abbrev gross : Trail → ℕ
gross t = base t + 3 * length (locks t)

-- so many marks at most, so many more devices that one session has taken, one more device taken at most, and what is
-- counted grows by no more than one device does; where nothing is brought there is no more than before
pub record Steps (brings : Bool) (marks_most more : ℕ) (t u : Trail) : Type 0 where
  pub falls : brings ≡ false → Falls (value t) (value u)
  marks : length u ≤ length t + marks_most
  pub of_each : (s : SessId) → taken_length u s ≤ taken_length t s + more
  pub taken : taken_count u ≤ taken_count t + 1
  rises : gross u + 8 * taken_count u ≤ gross t + 8 * taken_count t + 12

step-within : {b : Bool} {m k : ℕ} (n : ℕ) (t u : Trail) → n ≤ m → Within n t u → Steps b m k t u
step-within n t u l w =
    let a = w.marks in
    let c = counted t u w.falls in
    let c1 = c.connected in let c2 = c.controlled in let c3 = c.opened in let c4 = c.taken in let c5 = c.locked in
    record { falls = λ e. w.falls; marks = omega arith; of_each = λ s. (let d = length-taken-less t u s (w.falls.taken s) in omega arith); taken = omega arith; rises = omega arith }

step-refl : {b : Bool} {m k : ℕ} (t : Trail) → Steps b m k t t
step-refl t = step-within 0 t t (omega arith) (within-refl 0 t)

step-if : {a : Bool} {m k : ℕ} (b : Bool) (t u v : Trail) → Steps a m k t u → Steps a m k t v → Steps a m k t (cond b u v)
step-if true t u v p q = p
step-if false t u v p q = q

step-some : {b : Bool} {m k : ℕ} {A : Type 0} (f : A → Trail → Trail) (o : Option A) (t : Trail) → ((x : A) → Steps b m k t (f x t)) → Steps b m k t (if_some f o t)
step-some f None t step = step-refl t
step-some f (Some x) t step = step x

ruled-but : (c : ConnId) (s : SessId) (t u : Trail) → FallsBut c s (value t) (value u) → (r : SessId) → is_ruled u r ≡ true → (r ≡ s) ⊎ (is_ruled t r ≡ true)
ruled-but c s t u f r e =
    let p = both (is_session u r) (is_controlled u r) e in
    elim (f.there r p.0) [
      | inl q ↦ inl q
      | inr a ↦ or-was (f.controlled r p.1) (λ b. both-true (is_session t r) (is_controlled t r) a b)
    ]

-- where a session that was not there has taken nothing
step-but : {m k : ℕ} (c : ConnId) (s : SessId) (n : ℕ) (t u : Trail) → n ≤ m → length u ≤ length t + n → FallsBut c s (value t) (value u)
    → ((r : SessId) → is_session u r ≡ true → (taken_length u r ≡ 0) ⊎ (is_session t r ≡ true)) → Steps true m k t u
step-but c s n t u l a f z =
    let c1 = count-more conn_lt (is_connected u) (is_connected t) (connections u) (connections t) (connections-list u) (connections-list t) c f.connected in
    let c2 = count-more session_lt (is_ruled u) (is_ruled t) (controlled_sessions u) (controlled_sessions t) (ruled-list u) (ruled-list t) s (ruled-but c s t u f) in
    let c3 = taken-among t u (sessions u) (sessions t) (sessions-ascending u) (sessions-ascending t) (λ r i. length-taken-less t u r (f.taken r)) (λ r i. or-was (z r (of-sessions u r i)) (in-sessions t r)) in
    let c4 = count-more session_lt (is_open u) (is_open t) (open_sessions u) (open_sessions t) (open-list u (open-session u)) (open-list t (open-session t)) s f.opened in
    let c5 = count-less lock_lt (is_lock u) (is_lock t) (locks u) (locks t) (locks-list u) (locks-list t) f.locked in
    record { falls = λ e. cc; marks = omega arith; of_each = λ r. (let d = length-taken-less t u r (f.taken r) in omega arith); taken = omega arith; rises = omega arith }

-- ---- a lock, and a device that is taken

pub lock-one : (l r : LockNo) → key.Lock l ≡ key.Lock r → l ≡ r
lock-one l r e = cc

-- what is as before but for locks
lock-counts : {k : ℕ} (l : LockNo) (x : Fact) (t : Trail) → Steps true 1 k t (put (key.Lock l) x t) × (length (locks (put (key.Lock l) x t)) ≤ length (locks t) + 1)
lock-counts l x t =
    let u = put (key.Lock l) x t in
    let same = λ (k : Key) (n : same_key (key.Lock l) k ≡ false). (let z : value u k ≡ value t k = value-put (key.Lock l) k x t ∙ upd-other (key.Lock l) k x (value t) n in z) in
    let c1 = count-less conn_lt (is_connected u) (is_connected t) (connections u) (connections t) (connections-list u) (connections-list t) (λ c e. ap is_connected_fact (sym (same (key.Conn c) refl)) ∙ e) in
    let c2 = count-less session_lt (is_ruled u) (is_ruled t) (controlled_sessions u) (controlled_sessions t) (ruled-list u) (ruled-list t)
    (λ s e. (let p = both (is_session u s) (is_controlled u s) e in both-true (is_session t s) (is_controlled t s) (ap is_session_fact (sym (same (key.Sess s) refl)) ∙ p.0) (ap is_controlled_fact (sym (same (key.Ctl s) refl)) ∙ p.1))) in
    let c3 = taken-less t u (λ s e. ap is_session_fact (sym (same (key.Sess s) refl)) ∙ e) (λ s d e. ap is_handle_fact (sym (same (key.Taken s d) refl)) ∙ e) in
    let c4 = count-less session_lt (is_open u) (is_open t) (open_sessions u) (open_sessions t) (open-list u (open-session u)) (open-list t (open-session t)) (λ s e. ap is_open_fact (sym (same (key.Sess s) refl)) ∙ e) in
    let c5 = count-more lock_lt (is_lock u) (is_lock t) (locks u) (locks t) (locks-list u) (locks-list t) l
    (λ r e. elim (was is_lock_fact (key.Lock l) (key.Lock r) x (value t) (ap is_lock_fact (sym (value-put (key.Lock l) (key.Lock r) x t)) ∙ e)) [ inl q ↦ inl (sym (lock-one l r q.0)) | inr q ↦ inr q.1 ]) in
    let m = put-length (key.Lock l) x t in (
      record {
        falls = λ e. cc;
        marks = omega arith;
        of_each = λ s. (let d = length-taken-less t u s (λ y e. ap is_handle_fact (sym (same (key.Taken s y) refl)) ∙ e) in omega arith);
        taken = omega arith;
        rises = omega arith;
      },
      c5,
    )

-- one more, after what is as before
step-then : {k : ℕ} (m n : ℕ) (t u v : Trail) → Steps true m k t u → Within n u v → Steps true (m + n) k t v
step-then m n t u v p w =
    let a = p.rises in let b = p.taken in let d = p.marks in let e = w.marks in
    let c = counted u v w.falls in
    let c1 = c.connected in let c2 = c.controlled in let c3 = c.opened in let c4 = c.taken in let c5 = c.locked in
    record {
      falls = λ e. cc;
      marks = omega arith;
      of_each = λ s. (let f = p.of_each s in let g = length-taken-less u v s (w.falls.taken s) in omega arith);
      taken = omega arith;
      rises = omega arith;
    }

step-more : {b : Bool} {k : ℕ} (m n : ℕ) (t u : Trail) → m ≤ n → Steps b m k t u → Steps b n k t u
step-more m n t u l p = (let a = p.marks in record { falls = p.falls; marks = omega arith; of_each = p.of_each; taken = p.taken; rises = p.rises })

step-inhibit : {k : ℕ} (x : Lock) (l : LockNo) (h : HandleNo) (t : Trail) → Steps true marks_itself k t (inhibit x l h t)
step-inhibit x l h t =
    let u = put (key.Lock l) (fact.Lock x) t in
    let o = fact.Owned (owner.Lock x.holder l) in
    let v = put (key.Owner h) o u in
    step-more 2 marks_itself t v (omega arith) (step-then 1 1 t u v (lock-counts l (fact.Lock x) t).0 (owner-within h o u (λ b r z. cc)))

-- where one device is taken, other sessions have no more
pub taken-others : (s : SessId) (d : DevNo) (x : Fact) (t : Trail) (r : SessId) → (s ≡ r → ⊥) → taken_length (put (key.Taken s d) x t) r ≤ taken_length t r
taken-others s d x t r n =
    let k = key.Taken s d in
    let u = put k x t in
    length-taken-less t u r (λ y i. ap is_handle_fact (sym (value-put k (key.Taken r y) x t ∙ upd-other k (key.Taken r y) x (value t) (apart k (key.Taken r y) (λ z. n (pair-one s r d y z).0)))) ∙ i)

-- and any session one more at most
pub taken-itself : (s : SessId) (d : DevNo) (x : Fact) (t : Trail) (r : SessId) → taken_length (put (key.Taken s d) x t) r ≤ taken_length t r + 1
taken-itself s d x t r =
    let u = put (key.Taken s d) x t in
    count-more device_lt (is_taken u r) (is_taken t r) (taken_devices u r) (taken_devices t r) (taken-list u r) (taken-list t r) d
    (λ y i. elim (was is_handle_fact (key.Taken s d) (key.Taken r y) x (value t) (ap is_handle_fact (sym (value-put (key.Taken s d) (key.Taken r y) x t)) ∙ i)) [ inl q ↦ inl (sym (pair-one s r d y q.0).1) | inr q ↦ inr q.1 ])

taken-counts : (s : SessId) (d : DevNo) (x : Fact) (t : Trail) → Steps true 1 1 t (put (key.Taken s d) x t)
taken-counts s d x t =
    let u = put (key.Taken s d) x t in
    let same = λ (k : Key) (n : same_key (key.Taken s d) k ≡ false). (let z : value u k ≡ value t k = value-put (key.Taken s d) k x t ∙ upd-other (key.Taken s d) k x (value t) n in z) in
    let c1 = count-less conn_lt (is_connected u) (is_connected t) (connections u) (connections t) (connections-list u) (connections-list t) (λ c e. ap is_connected_fact (sym (same (key.Conn c) refl)) ∙ e) in
    let c2 = count-less session_lt (is_ruled u) (is_ruled t) (controlled_sessions u) (controlled_sessions t) (ruled-list u) (ruled-list t)
    (λ r e. (let p = both (is_session u r) (is_controlled u r) e in both-true (is_session t r) (is_controlled t r) (ap is_session_fact (sym (same (key.Sess r) refl)) ∙ p.0) (ap is_controlled_fact (sym (same (key.Ctl r) refl)) ∙ p.1))) in
    let e = count-same session_lt (is_session u) (is_session t) (sessions u) (sessions t) (sessions-list u) (sessions-list t) (λ r. ap is_session_fact (same (key.Sess r) refl)) in
    let b = taken-by-more t u (sessions t) s (sessions-ascending t) (taken-others s d x t) (taken-itself s d x t s) in
    let P : List SessId → Type 0 = λ ss. taken_by u ss ≤ taken_by t (sessions t) + 1 in
    let c3 = subst P (sym e) b in
    let c4 = count-less session_lt (is_open u) (is_open t) (open_sessions u) (open_sessions t) (open-list u (open-session u)) (open-list t (open-session t)) (λ r i. ap is_open_fact (sym (same (key.Sess r) refl)) ∙ i) in
    let c5 = count-less lock_lt (is_lock u) (is_lock t) (locks u) (locks t) (locks-list u) (locks-list t) (λ l i. ap is_lock_fact (sym (same (key.Lock l) refl)) ∙ i) in
    let m = put-length (key.Taken s d) x t in
    record { falls = λ e. cc; marks = omega arith; of_each = taken-itself s d x t; taken = omega arith; rises = omega arith }

pub enliven-within : (h : HandleNo) (b : Bool) (t : Trail) → Within 1 t (enliven h b t)
enliven-within h true t = plain-within (key.Live h) yes t refl
enliven-within h false t = within-refl 1 t

-- after no more than before
step-after : {k : ℕ} (n m : ℕ) (t u v : Trail) → Within n t u → Steps true m k u v → Steps true (n + m) k t v
step-after n m t u v w p =
    let a = p.rises in let b = p.taken in let d = p.marks in let e = w.marks in
    let c = counted t u w.falls in
    let c1 = c.connected in let c2 = c.controlled in let c3 = c.opened in let c4 = c.taken in let c5 = c.locked in
    record {
      falls = λ e. cc;
      marks = omega arith;
      of_each = λ s. (let f = p.of_each s in let g = length-taken-less t u s (w.falls.taken s) in omega arith);
      taken = omega arith;
      rises = omega arith;
    }

step-take : (c : ConnId) (s : SessId) (d : DevNo) (h : HandleNo) (t : Trail) → Steps true marks_itself 1 t (take_device c s d h t)
unfolding take_device
step-take c s d h t =
    let o = fact.Owned (owner.Device c s d) in
    let x = fact.Handle h in
    let a = put (key.Owner h) o t in
    let b = put (key.Taken s d) x a in
    let v = enliven h (is_active t s) b in
    step-more 3 marks_itself t v (omega arith)
    (step-then 2 1 t b v (step-after 1 1 t a b (owner-within h o t (λ b r z. cc)) (taken-counts s d x a)) (enliven-within h (is_active t s) b))

acknowledge-within : (s : SessId) (d : DevNo) (t : Trail) → Within 2 t (acknowledge s d t)
unfolding acknowledge
acknowledge-within s d t =
    let u = put (key.Awaited s d) no t in
    let v = kill (value t (key.Taken s d)) u in
    within-if (is_set (value t (key.Awaited s d))) 2 t v t (within-trans 1 1 t u v (plain-within (key.Awaited s d) no t refl) (kill-within (value t (key.Taken s d)) u)) (within-refl 2 t)

mode-within : (x : Fact) (n : ℕ) (t : Trail) → Within 1 t (set_mode x n t)
mode-within (fact.Owned (owner.Device c s d)) n t = plain-within (key.Mode d) (fact.Number n) t refl
mode-within _ n t = within-refl 1 t

appear-seat-within : (kind : DevKind) (seat : List ℕ) (t : Trail) → Within 2 t (appear_seat kind seat t)
appear-seat-within Drm seat t =
    (let u = put (key.Seat seat) fact.Present t in
    within-if (is_seat t seat) 2 t t (tell_all (notice.SeatNew seat) u) (within-refl 2 t)
    (within-trans 1 1 t u (tell_all (notice.SeatNew seat) u) (plain-within (key.Seat seat) fact.Present t refl) (say-within All (notice.SeatNew seat) u)))
appear-seat-within Evdev seat t = within-refl 2 t

add-within : (d : DevNo) (kind : DevKind) (seat : List ℕ) (t : Trail) → Within 3 t (add_device d kind seat t)
unfolding add_device
add-within d kind seat t =
    let u = put (key.Dev d) (fact.Device kind seat) t in
    within-trans 1 2 t u (appear_seat kind seat u) (plain-within (key.Dev d) (fact.Device kind seat) t refl) (appear-seat-within kind seat u)

shut-on : (seat : List ℕ) (t : Trail) → Within (3 * taken_count t + 4 * length (sessions t)) t (each shut (sessions_on t seat) t)
unfolding sessions_on
shut-on seat t = shut-some (is_on_seat t seat) t

lose-within : (x : Fact) (t : Trail) → Within (3 * taken_count t + 4 * length (sessions t) + 2) t (lose_seat x t)
lose-within (fact.Device Drm seat) t =
    (let n = 3 * taken_count t + 4 * length (sessions t) in
    let a = each shut (sessions_on t seat) t in
    let b = put (key.Seat seat) fact.Absent a in
    let v = tell_all (notice.SeatRemoved seat) b in
    within-if (bytes_eq seat seat0 || has_graphics t seat) (n + 2) t t v (within-refl (n + 2) t)
    (within-trans n 2 t a v (shut-on seat t) (within-trans 1 1 a b v (plain-within (key.Seat seat) fact.Absent a refl) (say-within All (notice.SeatRemoved seat) b))))
lose-within _ t = within-refl (3 * taken_count t + 4 * length (sessions t) + 2) t

takers-few : (t : Trail) (d : DevNo) → length (takers t d) ≤ length (sessions t)
unfolding takers
takers-few t d = filter-length (λ s. is_taken t s d) (sessions t)

sessions-less : (t u : Trail) → Falls (value t) (value u) → length (sessions u) ≤ length (sessions t)
sessions-less t u f = count-less session_lt (is_session u) (is_session t) (sessions u) (sessions t) (sessions-list u) (sessions-list t) f.there

remove-within : (d : DevNo) (t : Trail) → Within (3 * taken_count t + 8 * length (sessions t) + 4) t (remove_device d t)
unfolding remove_device
remove-within d t =
    let f = λ (s : SessId) (u : Trail). revoke s d u in
    let a = each f (takers t d) t in
    let b = put (key.Dev d) fact.Absent a in
    let c = put (key.Mode d) (fact.Number 0) b in
    let v = lose_seat (value t (key.Dev d)) c in
    let few = takers-few t d in
    let w0 = within-each 4 f (λ s u. revoke-within s d u) (takers t d) t in
    let w1 = within-more (4 * length (takers t d)) (4 * length (sessions t)) t a (omega arith) w0 in
    let w2 = within-trans (4 * length (sessions t)) 2 t a c w1 (within-trans 1 1 a b c (plain-within (key.Dev d) fact.Absent a refl) (plain-within (key.Mode d) (fact.Number 0) b refl)) in
    let k = (counted t c w2.falls).taken in
    let n = sessions-less t c w2.falls in
    within-more (4 * length (sessions t) + 2 + (3 * taken_count c + 4 * length (sessions c) + 2)) (3 * taken_count t + 8 * length (sessions t) + 4) t v (omega arith)
    (within-trans (4 * length (sessions t) + 2) (3 * taken_count c + 4 * length (sessions c) + 2) t c v w2 (lose-within (value t (key.Dev d)) c))

-- ---- operations

ask-within : (k : OpKind) (skip : Bool) (t : Trail) → Within 2 t (ask_operation k skip t)
unfolding ask_operation
ask-within k skip t =
    let o = fact.Operation (Waiting k (record { 0 = now t }) skip) in
    let u = put key.Op o t in
    within-trans 1 1 t u (tell_all (prepare k true) u) (plain-within key.Op o t refl) (say-within All (prepare k true) u)

end-within : (x : Fact) (t : Trail) → Within 2 t (end_operation x t)
end-within (fact.Operation (Running k)) t =
    (let u = put key.Op (fact.Operation Idle) t in within-trans 1 1 t u (tell_all (prepare k false) u) (plain-within key.Op (fact.Operation Idle) t refl) (say-within All (prepare k false) u))
end-within _ t = within-refl 2 t

done-within : (t : Trail) → Within 2 t (job_done t)
unfolding job_done
done-within t = end-within (value t key.Op) t

-- ---- connecting and controlling

step-connect : {m k : ℕ} (c : ConnId) (x : Fact) (t : Trail) → 1 ≤ m → Steps true m k t (put (key.Conn c) x t)
step-connect c x t l =
    let s : SessId = record { 0 = 0 } in
    step-but c s 1 t (put (key.Conn c) x t) l (put-length (key.Conn c) x t) (but-put c s (key.Conn c) x t (but-connected c s x (value t)))
    (λ r e. inr (ap is_session_fact (sym (value-put (key.Conn c) (key.Sess r) x t)) ∙ e))

step-controlled : {m k : ℕ} (c : ConnId) (s : SessId) (n : ℕ) (t u : Trail) → n + 1 ≤ m → Within n t u → Steps true m k t (put (key.Ctl s) (fact.Controller c) u)
step-controlled c s n t u l w =
    let x = fact.Controller c in
    let v = put (key.Ctl s) x u in
    let a = w.marks in let b = put-length (key.Ctl s) x u in
    step-but c s (n + 1) t v l (omega arith)
    (falls-but c s (value t) (value u) (value v) w.falls (but-put c s (key.Ctl s) x u (but-controlled c s x (value u))))
    (λ r e. inr (w.falls.there r (ap is_session_fact (sym (value-put (key.Ctl s) (key.Sess r) x u)) ∙ e)))

step-oust : {k : ℕ} (s : SessId) (c : ConnId) (n : ℕ) (t : Trail) → TakeAtMost n t → Steps true (4 * n + 1) k t (oust s c t)
unfolding oust
step-oust s c n t l =
    let a = l s in
    step-controlled c s (4 * taken_length t s) t (each (revoke s) (taken_devices t s) t) (omega arith) (within-each 4 (revoke s) (revoke-within s) (taken_devices t s) t)

step-from : {k : ℕ} (x : Fact) (c : ConnId) (s : SessId) (n : ℕ) (t : Trail) → TakeAtMost n t → Steps true (4 * n + 1) k t (control_from x c s t)
step-from (fact.Controller b) c s n t l = step-if (b.0 == c.0) t t (oust s c t) (step-refl t) (step-oust s c n t l)
step-from _ c s n t l = step-controlled c s 0 t t (omega arith) (within-refl 0 t)

step-control : {k : ℕ} (c : ConnId) (s : SessId) (n : ℕ) (t : Trail) → TakeAtMost n t → Steps true (4 * n + 1) k t (control c s t)
unfolding control
step-control c s n t l = step-from (value t (key.Ctl s)) c s n t l

-- ---- creating

seat0-or : (b : Bool) (n : ℕ) (t u v : Trail) → Within 1 t u → Within (2 * n + 2) t v → Within (cond b 0 (6 * n) + 2) t (cond b u v)
seat0-or true n t u v p q = within-more 1 2 t u (omega arith) p
seat0-or false n t u v p q = within-more (2 * n + 2) (6 * n + 2) t v (omega arith) q

pub appear-within : (o : Option (List ℕ)) (s : SessId) (n : ℕ) (t : Trail) → ((r : SessId) → is_session t r ≡ true → taken_length t r ≤ n) → Within (seat_marks n o + 2) t (appear_on o s t)
appear-within None s n t l = within-refl 2 t
appear-within (Some seat) s n t l =
    (let x = notice.Active seat0 None (Some s) in
    seat0-or (bytes_eq seat seat0) n t (cond (is_active t s) (tell_all x t) t) (take_seat seat s (active_on t seat) t)
    (within-if (is_active t s) 1 t (tell_all x t) t (say-within All x t) (within-refl 1 t))
    (take_seat-within seat s (active_on t seat) n t (λ r e. l r (active-there t seat r e))))

pub length-none : {A : Type 0} (xs : List A) → ((x : A) → IsIn x xs → ⊥) → length xs ≡ 0
length-none [] n = refl
length-none (x ∷ xs) n = absurd (n x (inl refl))

-- a session that was not made has taken nothing
new-none : (t : Trail) → Unused t → taken_length t (next_session t) ≡ 0
new-none t u =
    let s = next_session t in
    length-none (taken_devices t s) (λ d i.
    (let e : value t (key.Taken s d) ≡ fact.Absent = u.sessions (key.Taken s d) s refl (omega arith) in
    true-false (is_taken t s d) ((taken-list t s).gives d i) (ap is_handle_fact e)))

step-create : {k : ℕ} (c : ConnId) (x : Creation) (n : ℕ) (t : Trail) → Unused t → TakeAtMost n t → Steps true (seat_marks n (seat_of x.seat) + 7) k t (create c x (next_session t) (next_handle t) t)
unfolding create
step-create c x n t w l =
    let s = next_session t in
    let h = next_handle t in
    let o = fact.Owned (owner.Fifo c s) in
    let y = fact.Session (created_session c x h) in
    let t1 = know x.uid t in
    let t2 = put (key.Owner h) o t1 in
    let t3 = put (key.Sess s) y t2 in
    let t4 = tell_all (notice.SessionNew s) t3 in
    let u = appear_on (seat_of x.seat) s t4 in
    let a = know-within x.uid t in
    let m0 = a.marks in
    let m1 = put-length (key.Owner h) o t1 in
    let m2 = put-length (key.Sess s) y t2 in
    let P : Facts → Type 0 = λ g. FallsBut c s (value t1) g in
    let path : value t3 ≡ upd (key.Sess s) y (upd (key.Owner h) o (value t1)) = values-put (key.Sess s) y t2 ∙ ap (upd (key.Sess s) y) (values-put (key.Owner h) o t1) in
    let f3 = falls-but c s (value t) (value t1) (value t3) a.falls (subst P (sym path) (but-made c s h o y (value t1))) in
    let b = say-within All (notice.SessionNew s) t3 in
    let f4 = but-falls c s (value t) (value t3) (value t4) f3 b.falls in
    let d = appear-within (seat_of x.seat) s n t4 (λ r e. (let p = length-taken-less t t4 r (f4.taken r) in let q = l r in omega arith)) in
    let m3 = d.marks in
    let f = but-falls c s (value t) (value t4) (value u) f4 d.falls in
    let none : taken_length u s ≡ 0 = (let p = length-taken-less t u s (f.taken s) in let q = new-none t w in omega arith) in
    let P : SessId → Type 0 = λ r. taken_length u r ≡ 0 in
    step-but c s (seat_marks n (seat_of x.seat) + 7) t u (omega arith) (omega arith) f (λ r e. elim (f.there r e) [ inl q ↦ inl (subst P (sym q) none) | inr j ↦ inr j ])

-- ---- calls

shut-of : (uid : ℕ) (t : Trail) → Within (3 * taken_count t + 4 * length (sessions t)) t (each shut (sessions_of t uid) t)
unfolding sessions_of
shut-of uid t = shut-some (λ s. is_session_of uid (value t (key.Sess s))) t

-- one mark for each of some of the sessions
some-within : (f : SessId → Trail → Trail) → ((s : SessId) (u : Trail) → Within 1 u (f s u)) → (p : SessId → Bool) (t : Trail) → Within (length (sessions t)) t (each f (filter p (sessions t)) t)
some-within f step p t =
    let ss = filter p (sessions t) in
    let a = filter-length p (sessions t) in
    within-more (1 * length ss) (length (sessions t)) t (each f ss t) (omega arith) (within-each 1 f step ss t)

open-within : (f : SessId → Trail → Trail) → ((s : SessId) (u : Trail) → Within 1 u (f s u)) → (t : Trail) → Within (length (sessions t)) t (each f (open_sessions t) t)
unfolding open_sessions
open-within f step t = some-within f step (is_open t) t

of-within : (f : SessId → Trail → Trail) → ((s : SessId) (u : Trail) → Within 1 u (f s u)) → (uid : ℕ) (t : Trail) → Within (length (sessions t)) t (each f (sessions_of t uid) t)
unfolding sessions_of
of-within f step uid t = some-within f step (λ s. is_session_of uid (value t (key.Sess s))) t

signal-within : (who : KillWhom) (n : ℤ) (s : SessId) (t : Trail) → Within 1 t (put (key.Sig s) (fact.Signal who n) t)
signal-within who n s t = plain-within (key.Sig s) (fact.Signal who n) t refl

-- one mark
step-one : {b : Bool} {m k : ℕ} (t u : Trail) → 1 ≤ m → Within 1 t u → Steps b m k t u
step-one t u l w = step-within 1 t u l w

step-activate : {b : Bool} {k : ℕ} (o : Option SessId) (n : ℕ) (t : Trail) → TakeAtMost n t → Steps b (marks_over_devices n + marks_itself) k t (if_some activate o t)
step-activate o n t l = step-some activate o t (λ s. step-within (6 * n + 2) t (activate s t) (omega arith) (activate-within s n t l))

-- whether a call brings a session, control, a device or a lock
abbrev pub brings_call : Call → Bool
brings_call (call.Create x) = true
brings_call (call.Control id force) = true
brings_call (call.TakeDevice id d) = true
brings_call (call.Inhibit x) = true
brings_call _ = false

-- how many devices a call takes
abbrev pub call_takes : Call → ℕ
call_takes (call.TakeDevice id d) = 1
call_takes _ = 0

pub step-call : {n : ℕ} (U : Setup) (c : ConnId) (x : Call) (t : Trail) → Unused t → TakeAtMost n t → Steps (brings_call x) (call_marks n t x + marks_itself) (call_takes x) t (direct_call U c x t)
step-call {n} U c (call.Create x) t w l =
    step-more (seat_marks n (seat_of x.seat) + 7) (seat_marks n (seat_of x.seat) + marks_itself) t (direct_call U c (call.Create x) t) (omega arith) (step-create c x n t w l)
step-call {n} U c (call.Activate id) t w l = step-activate (session_of id) n t l
step-call {n} U c (call.ActivateOnSeat id seat) t w l = step-activate (session_of id) n t l
step-call U c (call.Lock id) t w l = step-some lock_session (session_of id) t (λ s. step-one t (lock_session s t) (omega arith) (say-within All (notice.Lock s) t))
step-call U c (call.Unlock id) t w l = step-some unlock_session (session_of id) t (λ s. step-one t (unlock_session s t) (omega arith) (say-within All (notice.Unlock s) t))
step-call U c call.LockAll t w l =
    step-within (length (sessions t)) t (each lock_session (open_sessions t) t) (omega arith) (open-within lock_session (λ s u. say-within All (notice.Lock s) u) t)
step-call U c call.UnlockAll t w l =
    step-within (length (sessions t)) t (each unlock_session (open_sessions t) t) (omega arith) (open-within unlock_session (λ s u. say-within All (notice.Unlock s) u) t)
step-call U c (call.Kill id who signal) t w l =
    (let f = λ (s : SessId) (u : Trail). put (key.Sig s) (fact.Signal (whom_of who) signal) u in
    step-some f (session_of id) t (λ s. step-one t (f s t) (omega arith) (signal-within (whom_of who) signal s t)))
step-call U c (call.Terminate id) t w l =
    step-some shut (session_of id) t (λ s. (let a = l s in step-within (3 * taken_length t s + 4) t (shut s t) (omega arith) (shut-within s t)))
step-call U c (call.TerminateUser u) t w l = step-within (3 * taken_count t + 4 * length (sessions t)) t (each shut (sessions_of t u.0) t) (omega arith) (shut-of u.0 t)
step-call U c (call.TerminateSeat seat) t w l = step-within (3 * taken_count t + 4 * length (sessions t)) t (each shut (sessions_on t seat) t) (omega arith) (shut-on seat t)
step-call U c (call.SetLinger u on) t w l =
    (let v = direct_call U c (call.SetLinger u on) t in step-within 3 t v (omega arith) (linger-within U (record { 0 = meant_user t c u.0 }) on t))
step-call U c (call.SetIdle id on) t w l =
    (let f = λ (s : SessId) (u : Trail). put (key.Idle s) (fact.Flag on) u in
    step-some f (session_of id) t (λ s. step-one t (f s t) (omega arith) (plain-within (key.Idle s) (fact.Flag on) t refl)))
step-call U c (call.SetLocked id on) t w l =
    (let f = λ (s : SessId) (u : Trail). put (key.Locked s) (fact.Flag on) u in
    step-some f (session_of id) t (λ s. step-one t (f s t) (omega arith) (plain-within (key.Locked s) (fact.Flag on) t refl)))
step-call {n} U c (call.Control id force) t w l =
    step-some (control c) (session_of id) t (λ s. step-more (4 * n + 1) (marks_over_devices n + marks_itself) t (control c s t) (omega arith) (step-control c s n t l))
step-call U c (call.Uncontrol id) t w l =
    step-some release (session_of id) t (λ s. (let a = l s in step-within (3 * taken_length t s + 1) t (release s t) (omega arith) (release-within s t)))
step-call {n} U c (call.SwitchTo seat vt) t w l = step-within (5 * n + 1) t (direct_call U c (call.SwitchTo seat vt) t) (omega arith) (request-within vt n t l)
step-call {n} U c (call.SwitchToNext seat) t w l = step-within (6 * n + 2) t (direct_call U c (call.SwitchToNext seat) t) (omega arith) (next-within seat n t l)
step-call {n} U c (call.SwitchToPrevious seat) t w l = step-within (6 * n + 2) t (direct_call U c (call.SwitchToPrevious seat) t) (omega arith) (previous-within seat n t l)
step-call U c (call.KillUser u signal) t w l =
    (let f = λ (s : SessId) (v : Trail). put (key.Sig s) (fact.Signal whom.All signal) v in
    step-within (length (sessions t)) t (each f (sessions_of t u.0) t) (omega arith) (of-within f (signal-within whom.All signal) u.0 t))
step-call U c (call.TakeDevice id d) t w l = step-some (λ s u. take_device c s d (next_handle u) u) (session_of id) t (λ s. step-take c s d (next_handle t) t)
step-call U c (call.ReleaseDevice id d) t w l = step-some (λ s u. untake s d u) (session_of id) t (λ s. step-within 3 t (untake s d t) (omega arith) (untake-within s d t))
step-call U c (call.PauseComplete id d) t w l = step-some (λ s u. acknowledge s d u) (session_of id) t (λ s. step-within 2 t (acknowledge s d t) (omega arith) (acknowledge-within s d t))
step-call U c (call.SetMode h mode) t w l = step-one t (set_mode (value t (key.Owner h)) mode t) (omega arith) (mode-within (value t (key.Owner h)) mode t)
step-call U c (call.Power k) t w l = step-within 2 t (ask_operation k (is_blocked t k) t) (omega arith) (ask-within k (is_blocked t k) t)
step-call U c (call.Inhibit x) t w l = step-inhibit (asked_lock c (record { 0 = uid_of t c }) x) (next_lock t) (next_handle t) t
step-call {n} U c (call.Close h) t w l = step-within (3 * n + 5) t (direct_call U c (call.Close h) t) (omega arith) (close-within h n t l)
step-call U c _ t w l = step-refl t

-- ---- events

step-press : {k : ℕ} (x : KeyAction) (t : Trail) → Steps false (length (sessions t) + marks_itself) k t (press x t)
step-press does.Ignore t = step-refl t
step-press does.Lock t =
    step-within (length (sessions t)) t (each lock_session (open_sessions t) t) (omega arith) (open-within lock_session (λ s u. say-within All (notice.Lock s) u) t)
step-press (does.Operation k) t = step-within 2 t (ask_operation k (is_blocked t k) t) (omega arith) (ask-within k (is_blocked t k) t)

step-happen : {k : ℕ} (U : Setup) (x : Hardware) (n : ℕ) (t : Trail) → TakeAtMost n t → Steps false (hardware_marks n t x + marks_itself) k t (happen U x t)
step-happen U (VtKey vt) n t l = step-within (5 * n + 1) t (happen U (VtKey vt) t) (omega arith) (request-within vt n t l)
step-happen U (Exit id) n t l =
    step-some (exit U) (session_of id) t (λ s. step-within (3 * n + 8) t (exit U s t) (omega arith) (exit-within U s n t l))
step-happen U (Add d kind seat) n t l = step-within 3 t (add_device d kind seat t) (omega arith) (add-within d kind seat t)
step-happen U (Remove d) n t l = step-within (3 * taken_count t + 8 * length (sessions t) + 4) t (remove_device d t) (omega arith) (remove-within d t)
step-happen U (HardKeyPressed k) n t l = step-press (key_action U t k) t
step-happen U (Dock on) n t l = step-one t (put key.Docked (fact.Flag on) t) (omega arith) (plain-within key.Docked (fact.Flag on) t refl)
step-happen U JobDone n t l = step-within 2 t (job_done t) (omega arith) (done-within t)
step-happen U _ n t l = step-refl t

-- whether an event does, or a connection
abbrev pub brings : Event → Bool
brings (Calls q) = brings_call q.call
brings (Connect c u) = true
brings _ = false

-- how many devices an event takes
abbrev pub event_takes : Event → ℕ
event_takes (Calls q) = call_takes q.call
event_takes _ = 0

pub step-direct : {n : ℕ} (U : Setup) (e : Event) (t : Trail) → (IsDisconnect e → ⊥) → Unused t → TakeAtMost n t → Steps (brings e) (marks_over n t e + marks_itself) (event_takes e) t (direct U e t)
unfolding direct
step-direct U (Connect c u) t d w l = step-connect c (fact.Connected u) t (omega arith)
step-direct U (Disconnect c) t d w l = absurd (d tt)
step-direct U (Calls r) t d w l = step-call U r.who r.call t w l
step-direct {n} U (Happens x) t d w l = step-happen U x n t l
step-direct U (Tick m) t d w l = step-within (2 * length (users t) + 1) t (direct U (Tick m) t) (omega arith) (tick-within U m t)
step-direct U Stop t d w l = step-refl t

-- a session takes no more than all do
taken-at : (b : Bool) (t : Trail) (s : SessId) → is_session t s ≡ b → Good none_out t → taken_length t s ≤ taken_count t
taken-at true t s e g = taken-there t s e
taken-at false t s e g =
    (let z = length-none (taken_devices t s) (λ d i.
    (let h = handle-in (value t (key.Taken s d)) ((taken-list t s).gives d i) in
    true-false (is_session t s) (open-there (value t (key.Sess s)) (g.holds.takes s d h.0 h.1).3) e)) in omega arith)

pub taken-within : (t : Trail) → Good none_out t → TakenWithin t
taken-within t g s = taken-at (is_session t s) t s refl g

-- ---- with what is settled

-- what asks for a terminal turns
call-over : (t : Trail) (x : Call) (v : ℕ) → call_vt t x ≡ Some v → call_turns x ≡ true
call-over t (call.Activate id) v e = refl
call-over t (call.ActivateOnSeat id seat) v e = refl
call-over t (call.SwitchTo seat vt) v e = refl
call-over t (call.SwitchToNext seat) v e = refl
call-over t (call.SwitchToPrevious seat) v e = refl
call-over t _ v e = (let z : None ≡ Some v = e in cc)

hardware-over : (t : Trail) (x : Hardware) (v : ℕ) → asked_vt t (Happens x) ≡ Some v → hardware_turns x ≡ true
unfolding asked_vt
hardware-over t (VtKey vt) v e = refl
hardware-over t _ v e = (let z : None ≡ Some v = e in cc)

pub asks-over : (t : Trail) (e : Event) (v : ℕ) → asked_vt t e ≡ Some v → asks_to_turn e ≡ true
unfolding asked_vt
asks-over t (Calls r) v e = call-over t r.call v e
asks-over t (Happens x) v e = hardware-over t x v e
asks-over t _ v e = (let z : None ≡ Some v = e in cc)

or-second : (a b : Bool) → b ≡ true → (a || b) ≡ true
or-second true b e = refl
or-second false b e = e

or-first : (a b : Bool) → a ≡ true → (a || b) ≡ true
or-first true b e = refl
or-first false b e = absurd (let z : false ≡ true = e in cc)

-- so a switch is pending behind an event only where one may be
pending-may : (U : Setup) (e : Event) (t : Trail) → is_number_fact (value (direct U e t) key.Pending) ≡ true → may_switch t e ≡ true
pending-may U e t p =
    let b = is_number_fact (value t key.Pending) in
    elim (direct-calm U e t) [
      | inl k ↦ or-first b (asks_to_turn e) (ap is_number_fact (sym k.pending) ∙ p)
      | inr q ↦ or-second b (asks_to_turn e) (asks-over t e q.0 q.1)
    ]

switch-at : (b : Bool) (n : ℕ) → cond b (8 * n + 8) 0 ≤ 8 * n + 8
switch-at true n = omega arith
switch-at false n = omega arith

switch-most : (t : Trail) → switch_need t ≤ 8 * taken_count t + 8
switch-most t = switch-at (is_number_fact (value t key.Pending)) (taken_count t)

pub one-more : (e : Event) → event_takes e ≤ 1
one-more (Calls q) = of-call q.call
  where
    of-call : (x : Call) → call_takes x ≤ 1
    of-call (call.TakeDevice id d) = omega arith
    of-call _ = omega arith
one-more _ = omega arith

-- the marks of a switch, where one session has taken one device more than before at most
marks-at : (p m : Bool) (n a b c : ℕ) → (p ≡ true → m ≡ true) → c ≤ b + (cond p (6 * (n + 1) + 4) 0 + 1) → b ≤ a + marks_itself → c ≤ a + cond m (6 * n) 0 + marks_beside
marks-at true true n a b c f l k = omega arith
marks-at true false n a b c f l k = (let z = f refl in cc)
marks-at false true n a b c f l k = omega arith
marks-at false false n a b c f l k = omega arith

-- the marks of an event, by how many devices one session has taken at most, and what else it may
pub record StaysWithin (n : ℕ) (e : Event) (before after : Trail) : Type 0 where
  pub marks : length after ≤ length before + most_marks n before e
  pub need_rises : need after ≤ need before + most_rise before
  pub takes : taken_count after ≤ taken_count before + 1

settle-step : {b : Bool} (U : Setup) (n k : ℕ) (e : Event) (t u : Trail) → k ≤ 1 → TakeAtMost n t → (is_number_fact (value u key.Pending) ≡ true → may_switch t e ≡ true)
    → Steps b (marks_over n t e + marks_itself) k t u → StaysWithin n e t (settle U u)
settle-step U n k e t u o l may p =
    let v = settle U u in
    let there : ThereAtMost (n + 1) u = λ s z. (let i = p.of_each s in let j = l s in omega arith) in
    let w = settle-within U (n + 1) u there in
    let c = counted u v w.falls in
    let m1 = p.marks in let m2 = settle-adds U (n + 1) u there in
    let a1 = p.taken in let a2 = p.rises in
    let b1 = c.connected in let b2 = c.controlled in let b3 = c.taken in let b4 = c.opened in let b5 = c.locked in
    let s = switch-most v in
    let i = need-is t in let j = need-is v in
    let m = marks-at (is_number_fact (value u key.Pending)) (may_switch t e) n (length t + marks_over n t e) (length u) (length v) may m2 (omega arith) in
    record { marks = omega arith; need_rises = omega arith; takes = omega arith }

none-more : (n : ℕ) (t : Trail) → length t ≤ length t + n
none-more n t = omega arith

other-by : (v : Verdict) (U : Setup) (n : ℕ) (e : Event) (t : Trail) → IsSound U t → TakeAtMost n t → (IsDisconnect e → ⊥) → StaysWithin n e t (stepped U v e t)
other-by Granted U n e t s l d = (let g = good-sound t s.between in settle-step U n (event_takes e) e t (direct U e t) (one-more e) l (pending-may U e t) (step-direct U e t d g.unused l))
other-by (Denied r) U n e t s l d = record { marks = none-more (most_marks n t e) t; need_rises = omega arith; takes = omega arith }

-- another event stays within both sums
pub other : (U : Setup) (n : ℕ) (t : Trail) (e : Event) → IsSound U t → TakeAtMost n t → (IsDisconnect e → ⊥) → StaysWithin n e t (stepped U (verdict U t e) e t)
other U n t e s l d = other-by (verdict U t e) U n e t s l d

-- a disconnect takes no device
ends-take : (U : Setup) (t : Trail) (c : ConnId) → IsSound U t → is_connected t c ≡ true → taken_count (stepped U Granted (Disconnect c) t) ≤ taken_count t
unfolding direct
ends-take U t c s e =
    let g = good-sound t s.between in
    let u = disconnect c t in
    let a = (counted t u (pays-disconnect c t g (good-disconnect c t g)).falls).taken in
    let b = (counted u (settle U u) (settle-within U (taken_count u) u (taken-there u)).falls).taken in
    omega arith

any : (U : Setup) (t : Trail) (e : Event) → IsSound U t → (IsDisconnect e → ⊥) → IsWithin t (stepped U (verdict U t e) e t)
any U t e s d =
    let n = taken_count t in
    let w = other U n t e s (taken-within t (good-sound t s.between)) d in
    let m = w.marks in
    let l = most-less n t e (omega arith) in
    record { marks = omega arith; need_rises = w.need_rises; takes = w.takes }

pub room-is-kept : (U : Setup) → RoomIsKept U
room-is-kept U = record { other = any U; few = λ n t e s l d. (other U n t e s l d).marks; ends = ends U; ends_take = ends-take U; stop = stop-stays U; room = room }
