-- A switch that completes makes no more marks than the need counts for it.
use Rattle.std.proofs.Common.{◌≡◌, ◌≤◌, ◌+◌, ◌*◌, ◌&&◌, not, nat_le, ℕ, Bool, true, false, cond, Option, Some, None, List, length, refl, ap, sym, ◌∙◌, arith, inl, inr}
use Rattle.std.specs.Option.{is_some}
use Rattle.login_base.specs.declared.ids.SessId.{SessId}
use Rattle.login_base.specs.declared.ids.HandleNo.{HandleNo}
use Rattle.login_base.specs.declared.ids.DevNo.{DevNo}
use Rattle.login_model.specs.Start.{seat0}
use Rattle.login_model.specs.Trail.{Trail, put, value}
use Rattle.login_model.specs.Fresh.{next_handle}
use Rattle.login_model.specs.Where.{active_on, session_on}
use Rattle.login_model.specs.Devices.{is_awaiting, is_handle_fact, is_live, taken_devices}
use Rattle.login_model.specs.Facts.{is_number_fact}
use Rattle.login_model.specs.Procedure.{force, force_device, force_handle, if_some, no, renew, resume, resume_device, resume_handle, revive, tell_controller, yes}
use Rattle.login_model.specs.Settle.{settle}
use Rattle.login_model.specs.Switching.{arrive, ask_getty, complete, move_to, settle_switch, tell_change}
use Rattle.login_model.specs.declared.conf.Conf.{Conf}
use Rattle.login_model.specs.declared.hardware.DevKind.TheVariants.{Drm, Evdev}
use Rattle.login_model.specs.declared.mark.Notice.{Notice}
use Rattle.login_model.specs.declared.mark.Notice.TheVariants.{Active, Pause, Resume}
use Rattle.login_model.specs.declared.mark.PauseKind.TheVariants as pause
use Rattle.login_model.specs.declared.mark.Whom.TheVariants.{All, One}
use Rattle.login_model.specs.declared.setup.Setup.{Setup}
use Rattle.login_model.specs.declared.fact.Key.{Key}
use Rattle.login_model.specs.declared.fact.Key.TheVariants as key
use Rattle.login_model.specs.declared.fact.Fact.{Fact}
use Rattle.login_model.specs.declared.fact.Fact.TheVariants as fact
use Rattle.login_model.specs.declared.fact.Owner.TheVariants as owner
use Rattle.login_model.proofs.Values.{Facts, upd, value-put, was}
use Rattle.login_laws.proofs.Counts.{taken_length}
use Rattle.login_laws.proofs.Paying.{Falls}
use Rattle.login_model.specs.Power.{is_delayed, is_over, settle_operation, start}
use Rattle.login_model.specs.declared.operation.OpKind.{OpKind}
use Rattle.login_model.specs.declared.operation.Operation.TheVariants.{Waiting, Running}
use Rattle.login_laws.proofs.WithinLaws.{ThereAtMost, Within, active-there, falls-within, owner-within, plain-within, say-within, tell-within, there-later, within-each, within-if, within-later, within-more, within-refl, within-some, within-trans}

-- ---- forcing

put-tell : (h : HandleNo) (x y : Fact) (n : Notice) (t : Trail) → Within 2 t (tell_controller y n (put (key.Live h) x t))
put-tell h x y n t =
    let u = put (key.Live h) x t in within-trans 1 1 t u (tell_controller y n u) (plain-within (key.Live h) x t refl) (tell-within y n u)

force-fact : (x : Fact) (s : SessId) (d : DevNo) (t : Trail) → Within 2 t (force_handle s d x t)
force-fact (fact.Handle h) s d t =
    (let n = Pause s d pause.Force in let y = value t (key.Ctl s) in
    within-if (is_live t h) 2 t (tell_controller y n (put (key.Live h) no t)) t (put-tell h no y n t) (within-refl 2 t))
force-fact _ s d t = within-refl 2 t

pub force-within : (s : SessId) (t : Trail) → Within (2 * taken_length t s) t (force s t)
unfolding force
force-within s t = within-each 2 (force_device s) (λ d u. force-fact (value u (key.Taken s d)) s d u) (taken_devices t s) t

-- of the one that is active on a seat
pub force-active : (seat : List ℕ) (n : ℕ) (t : Trail) → ThereAtMost n t → Within (2 * n) t (if_some force (active_on t seat) t)
force-active seat n t l =
    within-some (2 * n) force (active_on t seat) t
    (λ s e. (let a = l s (active-there t seat s e) in within-more (2 * taken_length t s) (2 * n) t (force s t) (omega arith) (force-within s t)))

-- ---- resuming

falls-renewed : (s : SessId) (d : DevNo) (h n : HandleNo) (f : Facts) → f (key.Taken s d) ≡ fact.Handle h → Falls f (upd (key.Taken s d) (fact.Handle n) f)
falls-renewed s d h n f e = record {
  connected = λ c p. p;
  controls = λ r c p. p;
  opens = λ r p. refl;
  fifos = λ h c r p. p;
  locks = λ l x p. p;
  taken = λ r b p. elim (was is_handle_fact (key.Taken s d) (key.Taken r b) (fact.Handle n) f p) [
    | inl q ↦ ap (λ (k : Key). is_handle_fact (f k)) (sym q.0) ∙ ap is_handle_fact e
    | inr q ↦ q.1
  ];
  there = λ r p. p;
}

renew-by : (x : Fact) (s : SessId) (d : DevNo) (h : HandleNo) (t : Trail) → value t (key.Taken s d) ≡ fact.Handle h → Within 4 t (renew s d (next_handle t) x t)
renew-by (fact.Controller c) s d h t e =
    let n = next_handle t in
    let o = fact.Owned (owner.Device c s d) in
    let p = put (key.Owner n) o t in let q = put (key.Live n) yes p in let u = put (key.Taken s d) (fact.Handle n) q in
    let same : value q (key.Taken s d) ≡ fact.Handle h = value-put (key.Live n) (key.Taken s d) yes p ∙ value-put (key.Owner n) (key.Taken s d) o t ∙ e in
    let w = within-trans 1 1 t p q (owner-within n o t (λ b r z. cc)) (plain-within (key.Live n) yes p refl) in
    let v = within-trans 2 1 t q u w (falls-within (key.Taken s d) (fact.Handle n) q (falls-renewed s d h n (value q) same)) in
    within-trans 3 1 t u (tell_controller (fact.Controller c) (Resume s d n) u) v (say-within (One c) (Resume s d n) u)
renew-by _ s d h t e = within-refl 4 t

revive-by : (x : Fact) (s : SessId) (d : DevNo) (h : HandleNo) (t : Trail) → value t (key.Taken s d) ≡ fact.Handle h → Within 4 t (revive s d h x t)
revive-by (fact.Device Drm seat) s d h t e =
    (let y = value t (key.Ctl s) in let n = Resume s d h in
    within-more 2 4 t (tell_controller y n (put (key.Live h) yes t)) (omega arith) (put-tell h yes y n t))
revive-by (fact.Device Evdev seat) s d h t e = renew-by (value t (key.Ctl s)) s d h t e
revive-by _ s d h t e = within-refl 4 t

resume-fact : (x : Fact) (s : SessId) (d : DevNo) (t : Trail) → value t (key.Taken s d) ≡ x → Within 4 t (resume_handle s d x t)
resume-fact (fact.Handle h) s d t e =
    (let y = value t (key.Ctl s) in let n = Resume s d h in
    within-if (is_live t h) 4 t (tell_controller y n t) (revive s d h (value t (key.Dev d)) t)
    (within-more 1 4 t (tell_controller y n t) (omega arith) (tell-within y n t)) (revive-by (value t (key.Dev d)) s d h t e))
resume-fact _ s d t e = within-refl 4 t

pub resume-within : (s : SessId) (t : Trail) → Within (4 * taken_length t s) t (resume s t)
unfolding resume
resume-within s t = within-each 4 (resume_device s) (λ d u. resume-fact (value u (key.Taken s d)) s d u refl) (taken_devices t s) t

-- ---- moving to a terminal

pub change-within : (a b : Option SessId) (t : Trail) → Within 1 t (tell_change a b t)
change-within None None t = within-refl 1 t
change-within (Some a) b t = say-within All (Active seat0 (Some a) b) t
change-within None (Some b) t = say-within All (Active seat0 None (Some b)) t

-- who is active goes on, after all are told
arrive-by : (old o : Option SessId) (n : ℕ) (t : Trail) → ((s : SessId) → o ≡ Some s → taken_length t s ≤ n) → Within (1 + 4 * n) t (if_some resume o (tell_change old o t))
arrive-by old None n t l = within-more 1 (1 + 4 * n) t (tell_change old None t) (omega arith) (change-within old None t)
arrive-by old (Some s) n t l = within-later 4 resume resume-within s t (tell_change old (Some s) t) 1 n (l s refl) (change-within old (Some s) t)

arrive-within : (old : Option SessId) (n : ℕ) (t : Trail) → ThereAtMost n t → Within (1 + 4 * n) t (arrive old t)
arrive-within old n t l = arrive-by old (active_on t seat0) n t (λ s e. l s (active-there t seat0 s e))

-- up to the new terminal
pub reach-within : (conf : Conf) (v n : ℕ) (t : Trail) → ThereAtMost n t
    → Within (2 * n + 3) t (ask_getty conf v (put key.Pending fact.Absent (put key.Vt (fact.Number v) (if_some force (active_on t seat0) t))))
reach-within conf v n t l =
    let u = if_some force (active_on t seat0) t in
    let a = put key.Vt (fact.Number v) u in
    let b = put key.Pending fact.Absent a in
    let g = put (key.Getty v) yes b in
    let c = ask_getty conf v b in
    let w1 = within-trans (2 * n) 1 t u a (force-active seat0 n t l) (plain-within key.Vt (fact.Number v) u refl) in
    let w2 = within-trans (2 * n + 1) 1 t a b w1 (plain-within key.Pending fact.Absent a refl) in
    let w3 = within-trans (2 * n + 1 + 1) 1 t b c w2 (within-if (not (is_some (session_on b v)) && nat_le v conf.auto_vts) 1 b g b (plain-within (key.Getty v) yes b refl) (within-refl 1 b)) in
    within-more (2 * n + 1 + 1 + 1) (2 * n + 3) t c (omega arith) w3

-- a switch of terminals
pub move-within : (conf : Conf) (v n : ℕ) (t : Trail) → ThereAtMost n t → Within (6 * n + 4) t (move_to conf v (active_on t seat0) t)
move-within conf v n t l =
    let old = active_on t seat0 in
    let c = ask_getty conf v (put key.Pending fact.Absent (put key.Vt (fact.Number v) (if_some force old t))) in
    let w = reach-within conf v n t l in
    let p = within-trans (2 * n + 3) (1 + 4 * n) t c (arrive old c) w (arrive-within old n c (there-later n t c l w.falls)) in
    within-more (2 * n + 3 + (1 + 4 * n)) (6 * n + 4) t (arrive old c) (omega arith) p

complete-within : (x : Fact) (conf : Conf) (n : ℕ) (t : Trail) → ThereAtMost n t → Within (6 * n + 4) t (complete conf x t)
complete-within (fact.Number v) conf n t l =
    within-if (is_awaiting t) (6 * n + 4) t t (move_to conf v (active_on t seat0) t) (within-refl (6 * n + 4) t) (move-within conf v n t l)
complete-within _ conf n t l = within-refl (6 * n + 4) t

settle_switch-within : (conf : Conf) (n : ℕ) (t : Trail) → ThereAtMost n t → Within (6 * n + 4) t (settle_switch conf t)
unfolding settle_switch
settle_switch-within conf n t l = complete-within (value t key.Pending) conf n t l

-- the operation that waits
run-within : (k : OpKind) (t : Trail) → Within 1 t (put key.Op (fact.Operation (Running k)) t)
run-within k t = plain-within key.Op (fact.Operation (Running k)) t refl

pub start-within : (x : Fact) (U : Setup) (t : Trail) → Within 1 t (start U.conf x t)
start-within (fact.Operation (Waiting k since skip)) U t =
    (let u = put key.Op (fact.Operation (Running k)) t in
    within-if (is_delayed t k && not (is_over U.conf t since)) 1 t t u (within-refl 1 t) (run-within k t))
start-within _ U t = within-refl 1 t

pub settle-within : (U : Setup) (n : ℕ) (t : Trail) → ThereAtMost n t → Within (6 * n + 4 + 1) t (settle U t)
unfolding settle_operation
settle-within U n t l =
    let u = settle_switch U.conf t in
    within-trans (6 * n + 4) 1 t u (settle_operation U.conf u) (settle_switch-within U.conf n t l) (start-within (value u key.Op) U u)

-- where no switch is pending, none completes
not-pending : (x : Fact) (conf : Conf) (t : Trail) → is_number_fact x ≡ false → complete conf x t ≡ t
not-pending (fact.Number v) conf t e = absurd (let z : true ≡ false = e in cc)
not-pending _ conf t e = refl

none-completes : (conf : Conf) (t : Trail) → is_number_fact (value t key.Pending) ≡ false → settle_switch conf t ≡ t
unfolding settle_switch
none-completes conf t e = not-pending (value t key.Pending) conf t e

operation-adds : (U : Setup) (t : Trail) → length (settle_operation U.conf t) ≤ length t + 1
unfolding settle_operation
operation-adds U t = (start-within (value t key.Op) U t).marks

settle-at : (b : Bool) (U : Setup) (n : ℕ) (t : Trail) → is_number_fact (value t key.Pending) ≡ b → ThereAtMost n t → length (settle U t) ≤ length t + (cond b (6 * n + 4) 0 + 1)
settle-at true U n t e l = (settle-within U n t l).marks
settle-at false U n t e l =
    (let u = settle_switch U.conf t in
    let s = ap length (none-completes U.conf t e) in
    let o = operation-adds U u in omega arith)

-- what is settled makes the marks of a switch only where one is pending
pub settle-adds : (U : Setup) (n : ℕ) (t : Trail) → ThereAtMost n t → length (settle U t) ≤ length t + (cond (is_number_fact (value t key.Pending)) (6 * n + 4) 0 + 1)
settle-adds U n t l = settle-at (is_number_fact (value t key.Pending)) U n t refl l
