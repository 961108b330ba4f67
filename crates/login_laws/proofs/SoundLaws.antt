-- Every legal journal is sound.
use Rattle.std.proofs.Common.{◌≡◌, ◌<◌, ℕ, arith, nat_lt, ℤ, ◌&&◌, not, Bool, true, false, Option, Some, None, List, [], ◌∷◌, ◌++◌, refl, ap, sym, ◌∙◌, subst}
use Rattle.std.specs.Str.{bytes_eq}
use Rattle.login_base.specs.declared.ids.SessId.{SessId}
use Rattle.login_base.specs.declared.ids.ConnId.{ConnId}
use Rattle.login_base.specs.SessionId.{session_of}
use Rattle.login_model.specs.Start.{seat0}
use Rattle.login_model.specs.Trail.{Trail, after, put, value}
use Rattle.login_model.specs.Fresh.{fresh_session, is_open_fact, is_open_phase, next_handle}
use Rattle.login_model.specs.Where.{is_device, is_gone_phase, is_session, is_set, seat_of_session, is_session_fact, now, open_sessions, sessions_of, sessions_on}
use Rattle.login_model.specs.Policy.{activate_on_rules, activate_rules, call_rules, control_rules, fits_creation, hardware_rules, hint_rules, kill_rules, lock_rules, only_session, terminate_rules, uncontrol_rules, controls, is_controller_fact, take_rules, taken_rules, is_closing_fact, is_closing_phase, is_vt, lock_in_progress, meant_user, meets, no_such_session, on_session, session_closing, too_many_locks, uid_of, verdict, word_rules}
use Rattle.login_model.specs.Procedure.{each, if_some, release, shut, untake}
use Rattle.login_model.specs.Direct.{activate, control, direct, direct_call, exit, happen, lock_session, press, unlock_session}
use Rattle.login_model.specs.Words.{whom_of}
use Rattle.login_model.specs.Settle.{settle}
use Rattle.login_model.specs.Legal.{IsLegal, IsLegalAfter, IsLegalEntry, IsPlaced, after_all, stepped, trail_of}
use Rattle.login_laws.specs.Sound.{IsSound}
use Rattle.login_model.specs.declared.setup.Setup.{Setup}
use Rattle.login_model.specs.declared.session.Phase.{Phase}
use Rattle.login_model.specs.declared.session.Phase.TheVariants.{Open, Closing, Gone}
use Rattle.login_model.specs.declared.session.KillWhom.{KillWhom}
use Rattle.login_model.specs.declared.session.KillWhom.TheVariants as whom
use Rattle.login_model.specs.declared.call.Call.{Call}
use Rattle.login_model.specs.declared.call.Call.TheVariants as call
use Rattle.login_model.specs.declared.hardware.Hardware.{Hardware}
use Rattle.login_model.specs.declared.hardware.Hardware.TheVariants.{Add, Remove, VtKey, Exit, Key as HardKeyPressed, Dock, JobDone}
use Rattle.login_base.specs.declared.ids.DevNo.{DevNo}
use Rattle.login_model.specs.declared.hardware.DevKind.{DevKind}
use Rattle.login_model.specs.Devices.{is_handle_fact, is_taken}
use Rattle.login_model.specs.Taking.{acknowledge, take_device}
use Rattle.login_laws.proofs.Devicing.{MayTake, good-acknowledge, good-add, good-mode, good-remove, good-take}
use Rattle.login_model.proofs.FactLaws.{same-conn}
use Rattle.login_laws.proofs.Resuming.{fresh-owner}
use Rattle.login_model.specs.declared.conf.KeyAction.{KeyAction}
use Rattle.login_model.specs.declared.conf.KeyAction.TheVariants as does
use Rattle.login_model.specs.Locks.{asked_lock, mode_of, what_of}
use Rattle.login_model.specs.Facts.{under_way_in, holds_up, is_device_on}
use Rattle.login_model.specs.Power.{is_blocked, key_action}
use Rattle.login_laws.proofs.Operations.{good-ask, good-done, good-inhibit}
use Rattle.login_model.specs.declared.event.Event.{Event}
use Rattle.login_model.specs.declared.event.Event.TheVariants.{Connect, Disconnect, Call as Calls, Hardware as Happens, Tick, Stop}
use Rattle.login_model.specs.declared.mark.Entry.{Entry}
use Rattle.login_model.specs.declared.mark.Notice.TheVariants as notice
use Rattle.login_model.specs.declared.mark.Whom.TheVariants.{All}
use Rattle.login_model.specs.declared.rule.Rule.{Rule}
use Rattle.login_model.specs.declared.rule.Rule.TheVariants.{BadArguments, ClockBackwards, DeviceNotOnSeat, DevicePresent, DeviceTaken, NotInControl, NoSuchSession, OperationInProgress, SessionClosing}
use Rattle.login_model.specs.declared.rule.Verdict.{Verdict}
use Rattle.login_model.specs.declared.rule.Verdict.TheVariants.{Granted, Denied}
use Rattle.login_model.specs.declared.fact.Key.TheVariants as key
use Rattle.login_model.specs.declared.fact.Fact.{Fact}
use Rattle.login_model.specs.declared.fact.Fact.TheVariants as fact
use Rattle.login_model.proofs.Keys.{both, same-bytes}
use Rattle.login_model.proofs.Values.{true-false, value-put}
use Rattle.login_laws.proofs.Holds.{Linked, Opened, none_out, holds-docked, holds-idle, holds-locked, holds-sig}
use Rattle.login_laws.proofs.SessionSteps.{holds-linked}
use Rattle.login_laws.proofs.Loops.{each-keeps, of-sessions_of}
use Rattle.login_laws.proofs.UnusedLaws.{session-given, unused-plain, unused-session}
use Rattle.login_laws.proofs.Giving.{Good, fewer-untake, good-put, good-say, released}
use Rattle.login_laws.proofs.Closing.{shut-does, shut-each}
use Rattle.login_laws.proofs.Settling.{settled}
use Rattle.login_laws.proofs.Accords.{good-sound, sound-good, start-sound}
use Rattle.login_laws.proofs.UserMoves.{good-linger, good-tick}
use Rattle.login_laws.proofs.Ending.{good-close, good-disconnect, good-exit}
use Rattle.login_laws.proofs.Granted.{NoneBroken, granted-rules, holds-rule, not-broken}
use Rattle.login_laws.proofs.Calls.{good-control, good-create}
use Rattle.login_laws.proofs.Turns.{good-activate, good-next, good-previous}
use Rattle.login_laws.proofs.Requests.{good-request}

-- ---- what the rules say of a session

session-there : (t : Trail) (s : SessId) → no_such_session t s ≡ None → is_session_fact (value t (key.Sess s)) ≡ true
session-there t s e = holds-rule (is_session t s) NoSuchSession e

-- neither gone nor closing
open-phase : (p : Phase) → not (is_gone_phase p) ≡ true → is_closing_phase p ≡ false → is_open_phase p ≡ true
open-phase Open a b = refl
open-phase Closing a b = cc
open-phase Gone a b = cc

open-fact : (x : Fact) → is_session_fact x ≡ true → is_closing_fact x ≡ false → is_open_fact x ≡ true
open-fact (fact.Session x) a b = open-phase x.phase a b
open-fact _ a b = cc

session-opened : (t : Trail) (s : SessId) → no_such_session t s ≡ None → session_closing t s ≡ None → Opened (value t) s
session-opened t s a b = open-fact (value t (key.Sess s)) (session-there t s a) (not-broken (is_closing_fact (value t (key.Sess s))) SessionClosing b)

-- what is done to the session of an id
at-some : (o : Option SessId) (f : SessId → Trail → Trail) (rules : SessId → List (Option Rule)) (t : Trail) → NoneBroken (on_session rules o)
    → ((s : SessId) → NoneBroken (rules s) → Good none_out (f s t)) → Good none_out t → Good none_out (if_some f o t)
at-some None f rules t n d g = (let z : Some NoSuchSession ≡ None = n.0 in cc)
at-some (Some s) f rules t n d g = d s n

there-given : (s : SessId) (t : Trail) → is_session_fact (value t (key.Sess s)) ≡ true → Good none_out t → s.0 < fresh_session t
there-given s t e g = session-given (key.Sess s) s t g.unused refl (λ z. (let c : is_session_fact fact.Absent ≡ true = ap is_session_fact (sym z) ∙ e in cc))

pub none-behind : (rs qs : List (Option Rule)) → NoneBroken (rs ++ qs) → NoneBroken qs
none-behind [] qs n = n
none-behind (r ∷ rs) qs n = none-behind rs qs n.1

-- ---- hints and signals

good-idle : (s : SessId) (b : Bool) (t : Trail) → is_session_fact (value t (key.Sess s)) ≡ true → Good none_out t → Good none_out (put (key.Idle s) (fact.Flag b) t)
good-idle s b t e g = good-put none_out (key.Idle s) (fact.Flag b) t (holds-idle none_out s b (value t) g.holds) (unused-session (key.Idle s) (fact.Flag b) s t refl refl (there-given s t e g) g.unused)

good-locked : (s : SessId) (b : Bool) (t : Trail) → is_session_fact (value t (key.Sess s)) ≡ true → Good none_out t → Good none_out (put (key.Locked s) (fact.Flag b) t)
good-locked s b t e g = good-put none_out (key.Locked s) (fact.Flag b) t (holds-locked none_out s b (value t) g.holds) (unused-session (key.Locked s) (fact.Flag b) s t refl refl (there-given s t e g) g.unused)

good-signal : (s : SessId) (who : KillWhom) (n : ℤ) (t : Trail) → is_session_fact (value t (key.Sess s)) ≡ true → Good none_out t → Good none_out (put (key.Sig s) (fact.Signal who n) t)
good-signal s who n t e g = good-put none_out (key.Sig s) (fact.Signal who n) t (holds-sig none_out s (fact.Signal who n) (value t) refl g.holds) (unused-session (key.Sig s) (fact.Signal who n) s t refl refl (there-given s t e g) g.unused)

-- some sessions are sent a signal
pub record Signalled (t u : Trail) : Type 0 where
  pub good : Good none_out u
  pub same : (s : SessId) → value u (key.Sess s) ≡ value t (key.Sess s)

signalled : (uid : ℕ) (who : KillWhom) (n : ℤ) (t : Trail) → Good none_out t → Good none_out (each (λ s v. put (key.Sig s) (fact.Signal who n) v) (sessions_of t uid) t)
signalled uid who n t g =
    (each-keeps (Signalled t) (λ s v. put (key.Sig s) (fact.Signal who n) v) (sessions_of t uid)
    (λ s u i w. record {
      good = good-signal s who n u (ap is_session_fact (w.same s) ∙ (of-sessions_of t uid s i).0) w.good;
      same = λ r. value-put (key.Sig s) (key.Sess r) (fact.Signal who n) u ∙ w.same r;
    }) t (record { good = g; same = λ s. refl })).good

-- ---- devices

-- a device on a seat, which the fact tells
device-on : (seat : Option (List ℕ)) (x : Fact) → is_device_on seat x ≡ true → (kind : DevKind) × (name : List ℕ) × (x ≡ fact.Device kind name) × (seat ≡ Some name)
device-on (Some name) (fact.Device kind seat) e = (kind, seat, refl, ap Some (same-bytes name seat e))
device-on None (fact.Device kind seat) e = cc
device-on _ _ e = cc

pub controller-is : (c : ConnId) (x : Fact) → is_controller_fact c x ≡ true → x ≡ fact.Controller c
controller-is c (fact.Controller b) e = ap fact.Controller (same-conn b c e)
controller-is c _ e = cc

may-take : (c : ConnId) (s : SessId) (d : DevNo) (t : Trail) → NoneBroken (take_rules t c d s) → Good none_out t → MayTake c s d (next_handle t) (value t)
may-take c s d t n g =
    let h = next_handle t in
    let i = device-on (seat_of_session t s) (value t (key.Dev d)) (holds-rule (is_device_on (seat_of_session t s) (value t (key.Dev d))) DeviceNotOnSeat n.1.1.1.1.1.0) in
    record {
      kind = i.0;
      seat = i.1;
      opened = session-opened t s n.0 n.1.0;
      controls = controller-is c (value t (key.Ctl s)) (holds-rule (controls t c s) NotInControl n.1.1.0);
      present = i.2;
      on_seat = i.3;
      free = λ g e. true-false (is_taken t s d) (ap is_handle_fact e) (not-broken (is_taken t s d) DeviceTaken n.1.1.1.1.1.1.0);
      new = fresh-owner t g.unused;
      dead = ap is_set (g.unused.handles (key.Live h) h refl (omega arith));
    }

-- ---- calls

good-call : (U : Setup) (c : ConnId) (x : Call) (t : Trail) → NoneBroken (call_rules U t c x) → Linked (value t) c → Good none_out t → Good none_out (direct_call U c x t)
good-call U c (call.Create x) t r l g = good-create c x t (record { fits = holds-rule (fits_creation x) BadArguments r.0; seat_there = r.1.1.1.0; not_busy = r.1.1.1.1.1.0 }) l g
good-call U c (call.Activate id) t r l g = at-some (session_of id) activate (activate_rules U t c) t r (λ s n. good-activate none_out s t (session-opened t s n.0 n.1.0) g) g
good-call U c (call.ActivateOnSeat id seat) t r l g = at-some (session_of id) activate (activate_on_rules U t c seat) t r (λ s n. good-activate none_out s t (session-opened t s n.0 n.1.1.0) g) g
good-call U c (call.Lock id) t r l g = at-some (session_of id) lock_session (lock_rules U t c) t r (λ s n. good-say none_out All (notice.Lock s) t g) g
good-call U c (call.Unlock id) t r l g = at-some (session_of id) unlock_session (lock_rules U t c) t r (λ s n. good-say none_out All (notice.Unlock s) t g) g
good-call U c call.LockAll t r l g = each-keeps (Good none_out) lock_session (open_sessions t) (λ s u i w. good-say none_out All (notice.Lock s) u w) t g
good-call U c call.UnlockAll t r l g = each-keeps (Good none_out) unlock_session (open_sessions t) (λ s u i w. good-say none_out All (notice.Unlock s) u w) t g
good-call U c (call.Kill id who signal) t r l g =
    at-some (session_of id) (λ s u. put (key.Sig s) (fact.Signal (whom_of who) signal) u) (kill_rules U t c who signal) t r (λ s n. good-signal s (whom_of who) signal t (session-there t s n.0) g) g
good-call U c (call.Terminate id) t r l g = at-some (session_of id) shut (terminate_rules U t c) t r (λ s n. (shut-does none_out s t g).good) g
good-call U c (call.TerminateUser u) t r l g = (shut-each none_out (sessions_of t u.0) t g).good
good-call U c (call.TerminateSeat seat) t r l g = (shut-each none_out (sessions_on t seat) t g).good
good-call U c (call.SetLinger u on) t r l g = good-linger U (record { 0 = meant_user t c u.0 }) on t g
good-call U c (call.SetIdle id on) t r l g =
    at-some (session_of id) (λ s u. put (key.Idle s) (fact.Flag on) u) (hint_rules t c) t r (λ s n. good-idle s on t (session-there t s n.0) g) g
good-call U c (call.SetLocked id on) t r l g =
    at-some (session_of id) (λ s u. put (key.Locked s) (fact.Flag on) u) (hint_rules t c) t r (λ s n. good-locked s on t (session-there t s n.0) g) g
good-call U c (call.Control id force) t r l g = at-some (session_of id) (control c) (control_rules force t c) t r (λ s n. good-control c s t l (session-opened t s n.0 n.1.0) g) g
good-call U c (call.Uncontrol id) t r l g = at-some (session_of id) release (uncontrol_rules t c) t r (λ s n. (released none_out s t g).good) g
good-call U c (call.SwitchTo seat vt) t r l g = good-request none_out vt t (both (bytes_eq seat seat0) (is_vt vt) (holds-rule (bytes_eq seat seat0 && is_vt vt) BadArguments r.1.0)).1 g
good-call U c (call.SwitchToNext seat) t r l g = good-next none_out seat t g
good-call U c (call.SwitchToPrevious seat) t r l g = good-previous none_out seat t g
good-call U c (call.KillUser u signal) t r l g = signalled u.0 whom.All signal t g
good-call U c (call.Close h) t r l g = good-close h t g
good-call U c (call.TakeDevice id d) t r l g = at-some (session_of id) (λ s u. take_device c s d (next_handle u) u) (take_rules t c d) t r (λ s n. good-take none_out c s d t (may-take c s d t n g) g) g
good-call U c (call.ReleaseDevice id d) t r l g = at-some (session_of id) (λ s u. untake s d u) (taken_rules t c d) t r (λ s n. (fewer-untake none_out s d t g).good) g
good-call U c (call.PauseComplete id d) t r l g = at-some (session_of id) (λ s u. acknowledge s d u) (taken_rules t c d) t r (λ s n. good-acknowledge none_out s d t g) g
good-call U c (call.SetMode h mode) t r l g = good-mode (value t (key.Owner h)) none_out mode t g
good-call U c (call.Power k) t r l g = good-ask none_out k (is_blocked t k) t (λ e. e) g
good-call U c (call.Inhibit x) t r l g =
    (let y = asked_lock c (record { 0 = uid_of t c }) x in
    let p = none-behind (word_rules U t c (mode_of x.mode) (what_of x.what)) (lock_in_progress t (what_of x.what) ∷ too_many_locks U t ∷ []) r.1.1 in
    good-inhibit none_out y t l (λ k since e. not-broken (holds_up k y.what) (OperationInProgress k) (ap (λ (z : Fact). meets y.what (under_way_in z)) (sym e) ∙ p.0)) g)
good-call U c _ t r l g = g

-- ---- events

good-docked : (b : Bool) (t : Trail) → Good none_out t → Good none_out (put key.Docked (fact.Flag b) t)
good-docked b t g = good-put none_out key.Docked (fact.Flag b) t (holds-docked none_out b (value t) g.holds) (unused-plain key.Docked (fact.Flag b) t refl refl refl g.unused)

good-press : (x : KeyAction) (t : Trail) → Good none_out t → Good none_out (press x t)
good-press does.Ignore t g = g
good-press does.Lock t g = each-keeps (Good none_out) lock_session (open_sessions t) (λ s u i w. good-say none_out All (notice.Lock s) u w) t g
good-press (does.Operation k) t g = good-ask none_out k (is_blocked t k) t (λ e. e) g

good-happen : (U : Setup) (x : Hardware) (t : Trail) → NoneBroken (hardware_rules U t x) → Good none_out t → Good none_out (happen U x t)
good-happen U (VtKey vt) t r g = good-request none_out vt t (holds-rule (is_vt vt) BadArguments r.0) g
good-happen U (Exit id) t r g = at-some (session_of id) (exit U) (only_session t) t r (λ s n. good-exit U s t (session-there t s n.0) g) g
good-happen U (Add d kind seat) t r g = good-add d kind seat t (not-broken (is_device t d) DevicePresent r.0) g
good-happen U (Remove d) t r g = good-remove d t g
good-happen U (HardKeyPressed k) t r g = good-press (key_action U t k) t g
good-happen U (Dock on) t r g = good-docked on t g
good-happen U JobDone t r g = good-done none_out t g
good-happen U _ t r g = g

pub good-direct : (U : Setup) (before : List Entry) (e : Event) → IsPlaced before e → verdict U (trail_of before) e ≡ Granted → Good none_out (trail_of before) → Good none_out (direct U e (trail_of before))
unfolding direct
good-direct U before (Connect c u) p v g =
    (let t = trail_of before in good-put none_out (key.Conn c) (fact.Connected u) t (holds-linked none_out c u (value t) g.holds) (unused-plain (key.Conn c) (fact.Connected u) t refl refl refl g.unused))
good-direct U before (Disconnect c) p v g = good-disconnect c (trail_of before) g
good-direct U before (Calls r) p v g = good-call U r.who r.call (trail_of before) (granted-rules U (trail_of before) (Calls r) v) p.0.0 g
good-direct U before (Happens x) p v g = good-happen U x (trail_of before) (granted-rules U (trail_of before) (Happens x) v) g
good-direct U before (Tick m) p v g =
    (let t = trail_of before in good-tick U m t (not-broken (nat_lt m.0 (now t)) (ClockBackwards (record { 0 = now t })) (granted-rules U t (Tick m) v).0) g)
good-direct U before Stop p v g = g

-- ---- journals

pub sound-settled : (U : Setup) (t : Trail) → Good none_out t → IsSound U (settle U t)
sound-settled U t g = (let s = settled U none_out t g in record { between = sound-good (settle U t) s.good; settled = s.waits; held = s.held })

sound-step : (U : Setup) (before : List Entry) (e : Event) (v : Verdict) → v ≡ verdict U (trail_of before) e → IsPlaced before e → IsSound U (trail_of before) → IsSound U (stepped U v e (trail_of before))
sound-step U before e Granted q p s = sound-settled U (direct U e (trail_of before)) (good-direct U before e p (sym q) (good-sound (trail_of before) s.between))
sound-step U before e (Denied r) q p s = s

pub after-more : (t : Trail) (es : List Entry) (e : Entry) → after_all t (es ++ e ∷ []) ≡ after (after_all t es) e.marks
after-more t [] e = refl
after-more t (x ∷ es) e = after-more (after t x.marks) es e

pub sound-entry : (U : Setup) (before : List Entry) (e : Entry) → IsLegalEntry U before e → IsSound U (trail_of before) → IsSound U (trail_of (before ++ e ∷ []))
sound-entry U before e l s =
    let P : Trail → Type 0 = λ t. IsSound U t in
    subst P (sym (after-more [] before e ∙ l.marks_are)) (sound-step U before e.event e.verdict l.verdict_is l.placed s)

sound-after : (U : Setup) (before es : List Entry) → IsLegalAfter U before es → IsSound U (trail_of before) → IsSound U (after_all (trail_of before) es)
sound-after U before [] l s = s
sound-after U before (e ∷ es) l s =
    let P : Trail → Type 0 = λ t. IsSound U (after_all t es) in
    subst P (after-more [] before e) (sound-after U (before ++ e ∷ []) es l.1 (sound-entry U before e l.0 s))

pub sound-start : (U : Setup) → IsSound U []
unfolding value
sound-start U = record { between = start-sound; settled = λ e. cc; held = λ k since skip e. cc }

pub sound-journal : (U : Setup) (journal : List Entry) → IsLegal U journal → IsSound U (trail_of journal)
sound-journal U journal l = sound-after U [] journal l (sound-start U)
