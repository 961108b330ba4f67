-- Which of an entry's marks set the terminal: the one with which a switch completes, and no other.
use Rattle.std.proofs.Common.{◌≡◌, ◌==◌, ◌&&◌, not, nat_le, ℕ, Bool, true, false, cond, Option, [], ◌∷◌, refl}
use Rattle.std.specs.Option.{is_some}
use Rattle.login_base.specs.declared.ids.DevNo.{DevNo}
use Rattle.login_base.specs.declared.ids.SessId.{SessId}
use Rattle.login_laws.proofs.Asked.{Adds, adds-behind, adds-put, adds-refl, adds-trans}
use Rattle.login_laws.proofs.Carried.{Carried, Clocked, Comes, Operated, arrive-carried, ask_operation-carried, cond-carried, direct-carried, each-carried, force-carried, if_some-carried, is_plain, job_done-carried, resume-carried, settle_operation-carried, tell_controller-carried, unawait_devices-carried}
use Rattle.login_model.specs.Devices.{is_awaiting, is_live, taken_devices}
use Rattle.login_model.specs.Direct.{direct}
use Rattle.login_model.specs.Facts.{is_number_fact}
use Rattle.login_model.specs.Power.{is_blocked, settle_operation}
use Rattle.login_model.specs.Procedure.{force, if_some, in_phase, resume, tell_controller, yes}
use Rattle.login_model.specs.Settle.{settle}
use Rattle.login_model.specs.Start.{seat0}
use Rattle.login_model.specs.Switching.{arrive, ask_getty, ask_switch, await_device, await_devices, await_handle, complete, move_to, request, settle_switch, unawait_devices, withdraw_switch}
use Rattle.login_model.specs.Trail.{Trail, put, value}
use Rattle.login_model.specs.Where.{active_on, current_vt, session_on}
use Rattle.login_model.specs.declared.conf.Conf.{Conf}
use Rattle.login_model.specs.declared.event.Event.{Event}
use Rattle.login_model.specs.declared.fact.Fact.{Fact}
use Rattle.login_model.specs.declared.fact.Fact.TheVariants as fact
use Rattle.login_model.specs.declared.fact.Key.{Key}
use Rattle.login_model.specs.declared.fact.Key.TheVariants as key
use Rattle.login_model.specs.declared.mark.Mark.{Mark}
use Rattle.login_model.specs.declared.mark.Mark.TheVariants.{Set, Say}
use Rattle.login_model.specs.declared.mark.Notice.TheVariants.{Pause}
use Rattle.login_model.specs.declared.mark.PauseKind.TheVariants as pause
use Rattle.login_model.specs.declared.session.Phase.TheVariants.{Closing, Gone}
use Rattle.login_model.specs.declared.setup.Setup.{Setup}

-- a mark sets the terminal to a fact of which something holds, if it sets it
abbrev pub SetsAs : (Fact → Type 0) → Mark → Type 0
SetsAs C (Set key.Vt x) = C x
SetsAs C _ = Unit {0}

-- the marks behind these do
abbrev pub Sets : (Fact → Type 0) → Trail → Trail → Type 0
Sets C t u = Adds (SetsAs C) t u

plain-sets : (C : Fact → Type 0) (k : Key) (x : Fact) → is_plain k x ≡ true → SetsAs C (Set k x)
plain-sets C key.Vt x e = absurd (let z : false ≡ true = e in cc)
plain-sets C _ x e = tt

abbrev setting : (Fact → Type 0) → Carried
setting C = record {
  R = Sets C;
  refl = adds-refl (SetsAs C);
  trans = adds-trans (SetsAs C);
  put = λ k x t p. adds-put (SetsAs C) k x t (plain-sets C k x p);
  say = λ w n t. record { marks = Say w n ∷ []; leads = refl; all = (tt, tt) };
  closing = λ s t u o p. adds-behind (SetsAs C) (key.Sess s) (in_phase Closing (value u (key.Sess s))) t u tt p;
  gone = λ s t u p. adds-behind (SetsAs C) (key.Sess s) (in_phase Gone (value u (key.Sess s))) t u tt p;
}

setting-clocked : (C : Fact → Type 0) → Clocked (setting C)
setting-clocked C = record {
  now = λ m t. adds-put (SetsAs C) key.Now (fact.Moment m) t tt;
  lock = λ l x t. adds-put (SetsAs C) (key.Lock l) x t tt;
}

setting-comes : (C : Fact → Type 0) → Comes (setting C)
setting-comes C = record { sess = λ s x t. adds-put (SetsAs C) (key.Sess s) x t tt; conn = λ c x t. adds-put (SetsAs C) (key.Conn c) x t tt }

setting-operated : (C : Fact → Type 0) → Operated (setting C)
setting-operated C = record { op = λ o t. adds-put (SetsAs C) key.Op (fact.Operation o) t tt }

-- ---- a request sets none

await-one : (C : Fact → Type 0) (s : SessId) (d : DevNo) (x : Fact) (t : Trail) → Sets C t (await_handle s d x t)
await-one C s d (fact.Handle h) t =
    (let r = setting C in
    let n = Pause s d pause.Pause in
    let u = put (key.Awaited s d) yes t in
    let v = tell_controller (value t (key.Ctl s)) n u in
    cond-carried r (is_live t h) t v t (r.trans t u v (adds-put (SetsAs C) (key.Awaited s d) yes t tt) (tell_controller-carried r (value t (key.Ctl s)) n u)) (r.refl t))
await-one C s d _ t = adds-refl (SetsAs C) t

await-sets : (C : Fact → Type 0) (s : SessId) (t : Trail) → Sets C t (await_devices s t)
unfolding await_devices
await-sets C s t = each-carried (setting C) (await_device s) (λ d u. await-one C s d (value u (key.Taken s d)) u) (taken_devices t s) t

ask-sets : (C : Fact → Type 0) (v : ℕ) (was : Bool) (t : Trail) → Sets C t (ask_switch v was t)
ask-sets C v true t = adds-put (SetsAs C) key.Pending (fact.Number v) t tt
ask-sets C v false t =
    (let r = setting C in
    let u = put key.Pending (fact.Number v) t in
    let o = active_on t seat0 in
    r.trans t u (if_some await_devices o u) (adds-put (SetsAs C) key.Pending (fact.Number v) t tt) (if_some-carried r await_devices (await-sets C) o u))

withdraw-sets : (C : Fact → Type 0) (t : Trail) → Sets C t (withdraw_switch t)
withdraw-sets C t =
    let r = setting C in
    let o = active_on t seat0 in
    let u = put key.Pending fact.Absent t in
    let v = if_some unawait_devices o u in
    r.trans t v (if_some resume o v) (r.trans t u v (adds-put (SetsAs C) key.Pending fact.Absent t tt) (if_some-carried r unawait_devices (unawait_devices-carried r) o u))
    (if_some-carried r resume (resume-carried r) o v)

request-sets : (C : Fact → Type 0) (v : ℕ) (t : Trail) → Sets C t (request v t)
unfolding request
request-sets C v t =
    let r = setting C in
    let b = is_number_fact (value t key.Pending) in
    cond-carried r (v == current_vt t) t (cond b (withdraw_switch t) t) (ask_switch v b t)
    (cond-carried r b t (withdraw_switch t) t (withdraw-sets C t) (r.refl t)) (ask-sets C v b t)

direct-sets : (C : Fact → Type 0) (U : Setup) (e : Event) (t : Trail) → Sets C t (direct U e t)
direct-sets C U e t =
    direct-carried (setting C) (setting-clocked C) (setting-comes C) (Sets C t) U e t (λ d kind seat a. adds-put (SetsAs C) (key.Dev d) (fact.Device kind seat) t tt) (λ u p. p) (λ v a. request-sets C v t)
    (λ k a. ask_operation-carried (setting C) (setting-operated C) k (is_blocked t k) t) (λ a. job_done-carried (setting C) (setting-operated C) t)

-- ---- a switch that completes sets it once

move-sets : (C : Fact → Type 0) (conf : Conf) (v : ℕ) (old : Option SessId) (t : Trail) → C (fact.Number v) → Sets C t (move_to conf v old t)
move-sets C conf v old t h =
    let r = setting C in
    let a = if_some force old t in
    let b = put key.Vt (fact.Number v) a in
    let c = put key.Pending fact.Absent b in
    let d = ask_getty conf v c in
    let p = r.trans t b c (r.trans t a b (if_some-carried r force (force-carried r) old t) (adds-put (SetsAs C) key.Vt (fact.Number v) a h)) (adds-put (SetsAs C) key.Pending fact.Absent b tt) in
    let q = cond-carried r (not (is_some (session_on c v)) && nat_le v conf.auto_vts) c (put (key.Getty v) yes c) c (r.put (key.Getty v) yes c refl) (r.refl c) in
    r.trans t d (arrive old d) (r.trans t c d p q) (arrive-carried r old d)

complete-by : (b : Bool) (C : Fact → Type 0) (conf : Conf) (v : ℕ) (t : Trail) → is_awaiting t ≡ b → (is_awaiting t ≡ false → C (fact.Number v)) → Sets C t (cond b t (move_to conf v (active_on t seat0) t))
complete-by true C conf v t e h = adds-refl (SetsAs C) t
complete-by false C conf v t e h = move-sets C conf v (active_on t seat0) t (h e)

complete-sets : (C : Fact → Type 0) (conf : Conf) (x : Fact) (t : Trail) → ((v : ℕ) → x ≡ fact.Number v → is_awaiting t ≡ false → C (fact.Number v)) → Sets C t (complete conf x t)
complete-sets C conf (fact.Number v) t h = complete-by (is_awaiting t) C conf v t refl (h v refl)
complete-sets C conf _ t h = adds-refl (SetsAs C) t

switch-sets : (C : Fact → Type 0) (conf : Conf) (t : Trail) → ((v : ℕ) → value t key.Pending ≡ fact.Number v → is_awaiting t ≡ false → C (fact.Number v)) → Sets C t (settle_switch conf t)
unfolding settle_switch
switch-sets C conf t h = complete-sets C conf (value t key.Pending) t h

-- the marks of an event that is granted, with what follows from it
pub entry-sets : (C : Fact → Type 0) (U : Setup) (e : Event) (t : Trail) → ((v : ℕ) → value (direct U e t) key.Pending ≡ fact.Number v → is_awaiting (direct U e t) ≡ false → C (fact.Number v))
    → Sets C t (settle U (direct U e t))
entry-sets C U e t h =
    let r = setting C in
    let m = direct U e t in
    let n = settle_switch U.conf m in
    r.trans t n (settle_operation U.conf n) (r.trans t m n (direct-sets C U e t) (switch-sets C U.conf m h)) (settle_operation-carried r (setting-operated C) U n)
