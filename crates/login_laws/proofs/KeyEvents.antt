-- How many keys an event that is no disconnect sets for the first time, with a switch that it leaves pending.
use Rattle.std.proofs.Math.Nat.{mul-le-mul_left}
use Rattle.std.proofs.Common.{◌≡◌, ◌≤◌, ◌+◌, ◌*◌, ◌||◌, ℕ, Bool, true, false, cond, Option, Some, None, length, refl, ap, arith, ◌⊎◌, inl, inr}
use Rattle.login_base.specs.SessionId.{session_of}
use Rattle.login_base.specs.declared.ids.ConnId.{ConnId}
use Rattle.login_base.specs.declared.ids.SessId.{SessId}
use Rattle.login_base.specs.declared.ids.Uid.{Uid}
use Rattle.login_model.specs.Creating.{create}
use Rattle.login_model.specs.Direct.{activate, close, control, direct, direct_call, exit, happen, linger, lock_session, press, tick, unlock_session}
use Rattle.login_model.specs.Facts.{is_number_fact}
use Rattle.login_model.specs.Fresh.{next_handle, next_lock, next_session}
use Rattle.login_model.specs.Full.{taken_count}
use Rattle.login_model.specs.Legal.{stepped}
use Rattle.login_model.specs.Locks.{asked_lock}
use Rattle.login_model.specs.Policy.{meant_user, uid_of, verdict}
use Rattle.login_model.specs.Power.{ask_operation, is_blocked, job_done, key_action}
use Rattle.login_model.specs.Procedure.{each, force, if_some, release, shut, untake}
use Rattle.login_model.specs.Settle.{settle}
use Rattle.login_model.specs.Switching.{request}
use Rattle.login_model.specs.Taking.{acknowledge, add_device, remove_device, set_mode, take_device}
use Rattle.login_model.specs.Trail.{Trail, put, value}
use Rattle.login_model.specs.Turning.{turn_to_next, turn_to_previous}
use Rattle.login_model.specs.Where.{is_session_of, now, open_sessions, sessions, sessions_of, sessions_on}
use Rattle.login_model.specs.Words.{whom_of}
use Rattle.login_model.specs.declared.call.Call.{Call}
use Rattle.login_model.specs.declared.call.Call.TheVariants as call
use Rattle.login_model.specs.declared.conf.KeyAction.{KeyAction}
use Rattle.login_model.specs.declared.conf.KeyAction.TheVariants as does
use Rattle.login_model.specs.declared.event.Event.{Event}
use Rattle.login_model.specs.declared.event.Event.TheVariants.{Connect, Disconnect, Call as Calls, Hardware as Happens, Tick, Stop}
use Rattle.login_model.specs.declared.fact.Fact.{Fact}
use Rattle.login_model.specs.declared.fact.Fact.TheVariants as fact
use Rattle.login_model.specs.declared.fact.Key.TheVariants as key
use Rattle.login_model.specs.declared.fact.Owner.TheVariants as owner
use Rattle.login_model.specs.declared.hardware.Hardware.{Hardware}
use Rattle.login_model.specs.declared.hardware.Hardware.TheVariants.{Add, Remove, VtKey, Exit, Key as HardKeyPressed, Dock, JobDone}
use Rattle.login_model.specs.declared.mark.Notice.TheVariants as notice
use Rattle.login_model.specs.declared.mark.Whom.TheVariants.{All}
use Rattle.login_model.specs.declared.rule.Verdict.{Verdict}
use Rattle.login_model.specs.declared.rule.Verdict.TheVariants.{Granted, Denied}
use Rattle.login_model.specs.declared.session.KillWhom.TheVariants as whom
use Rattle.login_model.specs.declared.setup.Setup.{Setup}
use Rattle.login_laws.specs.Asking.{asked_vt, call_vt}
use Rattle.login_laws.specs.Keys.{KeysAreKept, asks_to_turn, call_kills, call_turns, hardware_turns, keys_beside, keys_of_device, keys_of_signal, keys_of_switch, kills_all, most_keys, switch_keys, switch_keys_of}
use Rattle.login_laws.specs.Amounts.{Part, keys_in}
use Rattle.login_laws.specs.Few.{TakeAtMost, most_taken}
use Rattle.login_laws.specs.Need.{IsDisconnect}
use Rattle.login_laws.specs.Sound.{IsSound}
use Rattle.login_laws.proofs.Accords.{good-sound}
use Rattle.login_laws.proofs.Calm.{CalmOr, direct-calm}
use Rattle.login_laws.proofs.EventMarks.{one-more, step-direct, taken-within}
use Rattle.login_laws.proofs.KeyEnds.{ends, least-more, settle-spares, switch-less}
use Rattle.login_laws.proofs.KeyMoves.{acknowledge-none, activate-firsts, add-firsts, close-firsts, control-firsts, create-firsts, done-none, exit-firsts, linger-firsts, mode-firsts, next-firsts, operation-firsts, previous-firsts, remove-firsts, request-firsts, take-firsts, tick-firsts}
use Rattle.login_laws.proofs.Keying.{Firsts, firsts-each, firsts-more, firsts-refl, firsts-some, firsts-trans, none-each, put-counts, put-firsts, release-none, say-none, shut-none, untake-none}
use Rattle.login_laws.proofs.WithinLaws.{taken-there}
use Rattle.login_laws.proofs.Paying.{counted}
use Rattle.login_laws.proofs.PayingMoves.{settle-within}
use Rattle.login_laws.proofs.UnusedLaws.{at-most}
use Rattle.login_laws.proofs.WithinLaws.{filter-length}

-- ---- calls

-- the most keys that an event sets by itself
abbrev itself : Part → ℕ → Bool → Bool → Trail → ℕ
itself which n kills turns t = keys_beside + cond kills (keys_of_signal which * length (sessions t)) 0 + cond turns (keys_of_device which * n) 0

few : (which : Part) (n k : ℕ) (t u : Trail) → k ≤ 4 → Firsts which k t u → Firsts which (itself which n false false t) t u
few which n k t u l p = omega arith

turning : (which : Part) (n : ℕ) (t u : Trail) → Firsts which (1 + keys_of_device which * n) t u → Firsts which (itself which n false true t) t u
turning which n t u p = omega arith

some-few : (which : Part) (most : ℕ) {A : Type 0} (n : ℕ) (f : A → Trail → Trail) (o : Option A) (t : Trail) → n ≤ 4 → ((x : A) → Firsts which n t (f x t)) → Firsts which (itself which most false false t) t (if_some f o t)
some-few which most n f o t l step = few which most n t (if_some f o t) l (firsts-some which n f o t step)

-- one for each session of a user
signals : (which : Part) (most uid : ℕ) (y : Fact) (t : Trail) → Firsts which (itself which most true false t) t (each (λ s v. put (key.Sig s) y v) (sessions_of t uid) t)
unfolding sessions_of
signals which most uid y t =
    let k = keys_of_signal which in
    let p = λ (s : SessId). is_session_of uid (value t (key.Sess s)) in
    let l = mul-le-mul_left k (filter-length p (sessions t)) in
    let q = firsts-each which k (λ s v. put (key.Sig s) y v) (λ s v. put-counts which (key.Sig s) y v) (sessions_of t uid) t in
    omega arith

call-firsts : (which : Part) (most : ℕ) (U : Setup) (c : ConnId) (x : Call) (t : Trail) → TakeAtMost most t → Firsts which (itself which most (call_kills x) (call_turns x) t) t (direct_call U c x t)
call-firsts which most U c (call.Create x) t l = (let s = next_session t in let h = next_handle t in few which most 4 t (create c x s h t) (omega arith) (create-firsts which c x s h t))
call-firsts which most U c (call.Activate id) t l = turning which most t (if_some activate (session_of id) t) (activate-firsts which most (session_of id) t l)
call-firsts which most U c (call.ActivateOnSeat id seat) t l = turning which most t (if_some activate (session_of id) t) (activate-firsts which most (session_of id) t l)
call-firsts which most U c (call.Lock id) t l = some-few which most 0 lock_session (session_of id) t (omega arith) (λ s. say-none which All (notice.Lock s) t)
call-firsts which most U c (call.Unlock id) t l = some-few which most 0 unlock_session (session_of id) t (omega arith) (λ s. say-none which All (notice.Unlock s) t)
call-firsts which most U c call.LockAll t l =
    (let ss = open_sessions t in few which most 0 t (each lock_session ss t) (omega arith) (none-each which lock_session (λ s u. say-none which All (notice.Lock s) u) ss t))
call-firsts which most U c call.UnlockAll t l =
    (let ss = open_sessions t in few which most 0 t (each unlock_session ss t) (omega arith) (none-each which unlock_session (λ s u. say-none which All (notice.Unlock s) u) ss t))
call-firsts which most U c (call.Kill id who signal) t l =
    (let x = fact.Signal (whom_of who) signal in some-few which most 1 (λ s u. put (key.Sig s) x u) (session_of id) t (omega arith) (λ s. put-firsts which (key.Sig s) x t))
call-firsts which most U c (call.Terminate id) t l = some-few which most 0 shut (session_of id) t (omega arith) (λ s. shut-none which s t)
call-firsts which most U c (call.TerminateUser u) t l = (let ss = sessions_of t u.0 in few which most 0 t (each shut ss t) (omega arith) (none-each which shut (shut-none which) ss t))
call-firsts which most U c (call.TerminateSeat seat) t l = (let ss = sessions_on t seat in few which most 0 t (each shut ss t) (omega arith) (none-each which shut (shut-none which) ss t))
call-firsts which most U c (call.SetLinger u on) t l =
    (let who : Uid = record { 0 = meant_user t c u.0 } in few which most 2 t (linger U who on t) (omega arith) (linger-firsts which U who on t))
call-firsts which most U c (call.SetIdle id on) t l = some-few which most 1 (λ s u. put (key.Idle s) (fact.Flag on) u) (session_of id) t (omega arith) (λ s. put-firsts which (key.Idle s) (fact.Flag on) t)
call-firsts which most U c (call.SetLocked id on) t l = some-few which most 1 (λ s u. put (key.Locked s) (fact.Flag on) u) (session_of id) t (omega arith) (λ s. put-firsts which (key.Locked s) (fact.Flag on) t)
call-firsts which most U c (call.Control id force) t l = some-few which most 1 (control c) (session_of id) t (omega arith) (λ s. control-firsts which c s t)
call-firsts which most U c (call.Uncontrol id) t l = some-few which most 0 release (session_of id) t (omega arith) (λ s. release-none which s t)
call-firsts which most U c (call.SwitchTo seat vt) t l = turning which most t (request vt t) (request-firsts which most vt t l)
call-firsts which most U c (call.SwitchToNext seat) t l = turning which most t (turn_to_next seat t) (next-firsts which most seat t l)
call-firsts which most U c (call.SwitchToPrevious seat) t l = turning which most t (turn_to_previous seat t) (previous-firsts which most seat t l)
call-firsts which most U c (call.KillUser u signal) t l =
    signals which most u.0 (fact.Signal whom.All signal) t
call-firsts which most U c (call.Close h) t l = few which most 1 t (close h t) (omega arith) (close-firsts which h t)
call-firsts which most U c (call.TakeDevice id d) t l = some-few which most 3 (λ s u. take_device c s d (next_handle u) u) (session_of id) t (omega arith) (λ s. take-firsts which c s d (next_handle t) t)
call-firsts which most U c (call.ReleaseDevice id d) t l = some-few which most 0 (λ s u. untake s d u) (session_of id) t (omega arith) (λ s. untake-none which s d t)
call-firsts which most U c (call.PauseComplete id d) t l = some-few which most 0 (λ s u. acknowledge s d u) (session_of id) t (omega arith) (λ s. acknowledge-none which s d t)
call-firsts which most U c (call.SetMode h mode) t l = (let x = value t (key.Owner h) in few which most 1 t (set_mode x mode t) (omega arith) (mode-firsts which x mode t))
call-firsts which most U c (call.Power k) t l = (let b = is_blocked t k in few which most 1 t (ask_operation k b t) (omega arith) (operation-firsts which k b t))
call-firsts which most U c (call.Inhibit x) t l =
    (let y = asked_lock c (record { 0 = uid_of t c }) x in
    let n = next_lock t in
    let h = next_handle t in
    let o = fact.Owned (owner.Lock y.holder n) in
    let u = put (key.Lock n) (fact.Lock y) t in
    few which most 2 t (put (key.Owner h) o u) (omega arith) (firsts-trans which 1 1 t u (put (key.Owner h) o u) (put-firsts which (key.Lock n) (fact.Lock y) t) (put-firsts which (key.Owner h) o u)))
call-firsts which most U c _ t l = firsts-refl which 4 t

-- ---- events

press-firsts : (which : Part) (x : KeyAction) (t : Trail) → Firsts which 1 t (press x t)
press-firsts which does.Ignore t = firsts-refl which 1 t
press-firsts which does.Lock t =
    (let ss = open_sessions t in
    firsts-more which 0 1 t (each lock_session ss t) (omega arith) (none-each which lock_session (λ s u. say-none which All (notice.Lock s) u) ss t))
press-firsts which (does.Operation k) t = operation-firsts which k (is_blocked t k) t

happen-firsts : (which : Part) (most : ℕ) (U : Setup) (x : Hardware) (t : Trail) → TakeAtMost most t → Firsts which (itself which most false (hardware_turns x) t) t (happen U x t)
happen-firsts which most U (VtKey vt) t l = turning which most t (request vt t) (request-firsts which most vt t l)
happen-firsts which most U (Exit id) t l = some-few which most 1 (exit U) (session_of id) t (omega arith) (λ s. exit-firsts which U s t)
happen-firsts which most U (Add d kind seat) t l = few which most 2 t (add_device d kind seat t) (omega arith) (add-firsts which d kind seat t)
happen-firsts which most U (Remove d) t l = few which most 1 t (remove_device d t) (omega arith) (remove-firsts which d t)
happen-firsts which most U (HardKeyPressed k) t l = (let x = key_action U t k in few which most 1 t (press x t) (omega arith) (press-firsts which x t))
happen-firsts which most U (Dock on) t l = few which most 1 t (put key.Docked (fact.Flag on) t) (omega arith) (put-firsts which key.Docked (fact.Flag on) t)
happen-firsts which most U JobDone t l = few which most 0 t (job_done t) (omega arith) (done-none which t)
happen-firsts which most U _ t l = firsts-refl which 4 t

direct-firsts : (which : Part) (most : ℕ) (U : Setup) (e : Event) (t : Trail) → (IsDisconnect e → ⊥) → TakeAtMost most t → Firsts which (itself which most (kills_all e) (asks_to_turn e) t) t (direct U e t)
unfolding direct
direct-firsts which most U (Connect c u) t n l = few which most 1 t (put (key.Conn c) (fact.Connected u) t) (omega arith) (put-firsts which (key.Conn c) (fact.Connected u) t)
direct-firsts which most U (Disconnect c) t n l = absurd (n tt)
direct-firsts which most U (Calls r) t n l = call-firsts which most U r.who r.call t l
direct-firsts which most U (Happens x) t n l = happen-firsts which most U x t l
direct-firsts which most U (Tick m) t n l = few which most 1 t (tick U m t) (omega arith) (tick-firsts which U m t)
direct-firsts which most U Stop t n l = firsts-refl which 4 t

-- ---- with the switch that is left pending

call-turned : (t : Trail) (x : Call) (v : ℕ) → call_vt t x ≡ Some v → call_turns x ≡ true
call-turned t (call.Activate id) v e = refl
call-turned t (call.ActivateOnSeat id seat) v e = refl
call-turned t (call.SwitchTo seat vt) v e = refl
call-turned t (call.SwitchToNext seat) v e = refl
call-turned t (call.SwitchToPrevious seat) v e = refl
call-turned t _ v e = absurd (let z : None ≡ Some v = e in cc)

hardware-turned : (t : Trail) (x : Hardware) (v : ℕ) → asked_vt t (Happens x) ≡ Some v → hardware_turns x ≡ true
unfolding asked_vt
hardware-turned t (VtKey vt) v e = refl
hardware-turned t _ v e = absurd (let z : None ≡ Some v = e in cc)

-- what asks for a terminal asks to turn
turned : (t : Trail) (e : Event) (v : ℕ) → asked_vt t e ≡ Some v → asks_to_turn e ≡ true
unfolding asked_vt
turned t (Calls r) v e = call-turned t r.call v e
turned t (Happens x) v e = hardware-turned t x v e
turned t _ v e = absurd (let z : None ≡ Some v = e in cc)

pending-or : (t u : Trail) (e : Event) → CalmOr t e u → (is_number_fact (value u key.Pending) ≡ is_number_fact (value t key.Pending)) ⊎ (asks_to_turn e ≡ true)
pending-or t u e (inl p) = inl (ap is_number_fact p.pending)
pending-or t u e (inr r) = inr (turned t e r.0 r.1)

-- the keys of the switch that is left, where it was pending or the event asked to turn
left-at : (b p a : Bool) (i j k : ℕ) → i ≤ j → (b ≡ p) ⊎ (a ≡ true) → cond b (i + k) 0 ≤ cond (p || a) (j + k) 0
left-at false p a i j k l h = omega arith
left-at true true a i j k l h = omega arith
left-at true false true i j k l h = omega arith
left-at true false false i j k l (inl e) = cc
left-at true false false i j k l (inr e) = cc

-- the keys and the switch after what an event does by itself, by whether one was pending and whether it asks to turn
sum-at : (k a b old now left : ℕ) → now ≤ old + (4 + k + a) → left ≤ b → now + left ≤ old + (4 + k + a + b)
sum-at k a b old now left x y = omega arith

granted : (which : Part) (U : Setup) (e : Event) (t : Trail) → IsSound U t → TakeAtMost (most_taken t) t → (IsDisconnect e → ⊥)
    → keys_in which (settle U (direct U e t)) + switch_keys which (settle U (direct U e t)) ≤ keys_in which t + most_keys which t e
granted which U e t s few d =
    let g = good-sound t s.between in
    let n = most_taken t in
    let k = keys_of_device which in
    let l = few in
    let u = direct U e t in
    let v = settle U u in
    let p = is_number_fact (value t key.Pending) in
    let x = step-direct U e t d g.unused l in
    let a = x.taken in
    let one = one-more e in
    let b = left-at (is_number_fact (value u key.Pending)) p (asks_to_turn e) (k * (n + 1)) (k * (n + 1)) (keys_of_switch which) (omega arith) (pending-or t u e (direct-calm U e t)) in
    let m = sum-at (cond (kills_all e) (keys_of_signal which * length (sessions t)) 0) (cond (asks_to_turn e) (k * n) 0) (cond (p || asks_to_turn e) (k * (n + 1) + keys_of_switch which) 0)
    (keys_in which t) (keys_in which u) (switch_keys_of which (n + 1) u) (direct-firsts which n U e t d l) b in
    let w = settle-spares which (n + 1) U u (λ s. (let i = x.of_each s in let j = l s in omega arith)) in
    let c = counted u v (settle-within U (taken_count u) u (taken-there u)).falls in
    let less = switch-less which v (n + 1) (least-more (taken_count v) (taken_count t) (at-most (taken_count v) (taken_count u) (taken_count t + 1) c.taken a)) in
    omega arith

other-by : (which : Part) (v : Verdict) (U : Setup) (e : Event) (t : Trail) → IsSound U t → TakeAtMost (most_taken t) t → (IsDisconnect e → ⊥)
    → keys_in which (stepped U v e t) + switch_keys which (stepped U v e t) ≤ keys_in which t + most_keys which t e
other-by which Granted U e t s few d = granted which U e t s few d
other-by which (Denied r) U e t s few d =
    let n = most_taken t in
    let k = keys_of_device which in
    none-at (is_number_fact (value t key.Pending)) (asks_to_turn e) (cond (kills_all e) (keys_of_signal which * length (sessions t)) 0) (cond (asks_to_turn e) (k * n) 0)
    (k * n) (k * (n + 1)) (keys_of_switch which) (keys_in which t) (mul-le-mul_left k (omega arith))
  where
    none-at : (p a : Bool) (k i m n j old : ℕ) → m ≤ n → old + cond p (m + j) 0 ≤ old + (4 + k + i + cond (p || a) (n + j) 0)
    none-at true a k i m n j old l = omega arith
    none-at false a k i m n j old l = omega arith

pub keys-are-kept : (U : Setup) (which : Part) → KeysAreKept U which
keys-are-kept U which = record { other = λ t e s few d. other-by which (verdict U t e) U e t s few d; ends = λ t c. ends which U t c }
