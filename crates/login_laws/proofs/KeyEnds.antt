-- A switch that completes sets no more keys for the first time than are counted for it, and a disconnect none.
use Rattle.std.proofs.Common.{◌≡◌, ◌≤◌, ◌+◌, ◌*◌, ◌&&◌, not, nat_le, ℕ, suc, Bool, true, false, cond, Option, Some, None, refl, ap, sym, ◌∙◌, arith}
use Rattle.std.specs.Prelude.{min}
use Rattle.std.proofs.Math.Nat.{le-min, min-le_left, min-le_right, mul-le-mul_left, suc-min-suc}
use Rattle.std.specs.Option.{is_some}
use Rattle.login_base.specs.declared.ids.ConnId.{ConnId}
use Rattle.login_base.specs.declared.ids.LockNo.{LockNo}
use Rattle.login_base.specs.declared.ids.SessId.{SessId}
use Rattle.login_model.specs.Devices.{is_awaiting}
use Rattle.login_model.specs.Direct.{controlled_by, direct, disconnect, end_sessions, kept_open_by, locks_of, unlock}
use Rattle.login_model.specs.Facts.{is_number_fact}
use Rattle.login_model.specs.Full.{taken_count}
use Rattle.login_model.specs.Legal.{stepped}
use Rattle.login_model.specs.Limits.{taken_limit}
use Rattle.login_model.specs.Power.{is_delayed, is_over, settle_operation, start}
use Rattle.login_model.specs.Procedure.{each, force, if_some, release, resume, shut, yes}
use Rattle.login_model.specs.Settle.{settle}
use Rattle.login_model.specs.Start.{seat0}
use Rattle.login_model.specs.Switching.{arrive, ask_getty, complete, move_to, settle_switch, tell_change}
use Rattle.login_model.specs.Trail.{Trail, put, value}
use Rattle.login_model.specs.Where.{active_on, is_connected, session_on}
use Rattle.login_model.specs.declared.conf.Conf.{Conf}
use Rattle.login_model.specs.declared.event.Event.TheVariants.{Disconnect}
use Rattle.login_model.specs.declared.fact.Fact.{Fact}
use Rattle.login_model.specs.declared.fact.Fact.TheVariants as fact
use Rattle.login_model.specs.declared.fact.Key.TheVariants as key
use Rattle.login_model.specs.declared.mark.Notice.TheVariants.{Active}
use Rattle.login_model.specs.declared.mark.Whom.TheVariants.{All}
use Rattle.login_model.specs.declared.operation.Operation.TheVariants.{Running, Waiting}
use Rattle.login_model.specs.declared.rule.Verdict.TheVariants.{Granted}
use Rattle.login_model.specs.declared.setup.Setup.{Setup}
use Rattle.login_model.proofs.Values.{value-put}
use Rattle.login_laws.specs.Keys.{keys_of_device, keys_of_switch, switch_keys, switch_keys_of}
use Rattle.login_laws.specs.Sound.{IsSound}
use Rattle.login_laws.proofs.Accords.{good-sound}
use Rattle.login_laws.proofs.Calm.{Calm, calm, calm-put, calm-refl}
use Rattle.login_laws.proofs.Carried.{arrive-carried, cond-carried}
use Rattle.login_laws.proofs.EventMarks.{taken-within}
use Rattle.login_laws.proofs.FewTaken.{few-later}
use Rattle.login_laws.proofs.WithinLaws.{taken-there}
use Rattle.login_laws.proofs.ProcedureMarks.{TakenWithin}
use Rattle.login_laws.proofs.Ending.{good-disconnect}
use Rattle.login_laws.specs.Amounts.{OfOthers, Part, counts_in, keys_in}
use Rattle.login_laws.specs.Few.{TakeAtMost, most_taken}
use Rattle.login_laws.proofs.Keying.{Firsts, firsts-if, firsts-later, firsts-more, firsts-refl, firsts-some, firsts-trans, force-none, none-each, put-counts, put-over, put-start, release-none, resume-firsts, say-none, shut-none}
use Rattle.login_laws.proofs.NeedLaws.{start-pending}
use Rattle.login_laws.proofs.Paying.{counted}
use Rattle.login_laws.proofs.PayingEnds.{pays-disconnect}
use Rattle.login_laws.proofs.PayingMoves.{change-within, reach-within, settle-within}

-- ---- how many one session has taken

pub least-more : (m n : ℕ) → m ≤ n + 1 → min m taken_limit ≤ min n taken_limit + 1
least-more m n l =
    let p = min-le_left m taken_limit in
    let q = min-le_right m taken_limit in
    let a = le-min {k = min m taken_limit} {a = suc n} {b = suc taken_limit} (omega arith) (omega arith) in
    let e = suc-min-suc n taken_limit in
    omega arith

least-less : (m n : ℕ) → m ≤ n → min m taken_limit ≤ min n taken_limit
least-less m n l = le-min (let p = min-le_left m taken_limit in omega arith) (min-le_right m taken_limit)

-- ---- a switch

change-none : (which : Part) (a b : Option SessId) (t : Trail) → Firsts which 0 t (tell_change a b t)
change-none which None None t = firsts-refl which 0 t
change-none which (Some a) b t = say-none which All (Active seat0 (Some a) b) t
change-none which None (Some b) t = say-none which All (Active seat0 None (Some b)) t

arrive-firsts : (which : Part) (n : ℕ) (old : Option SessId) (t : Trail) → TakeAtMost n t → Firsts which (keys_of_device which * n) t (arrive old t)
arrive-firsts which n old t l =
    let k = keys_of_device which in
    let o = active_on t seat0 in
    let u = tell_change old o t in
    firsts-more which (0 + k * n) (k * n) t (arrive old t) (omega arith)
    (firsts-later which k resume (resume-firsts which) o t u 0 n (λ r e. l r) (change-within old o t).falls (change-none which old o t))

-- up to the new terminal: the terminal, and a getty
reach-firsts : (which : Part) (conf : Conf) (v : ℕ) (old : Option SessId) (t : Trail) → Firsts which (keys_of_switch which) t (ask_getty conf v (put key.Pending fact.Absent (put key.Vt (fact.Number v) (if_some force old t))))
reach-firsts which conf v old t =
    let k = counts_in which OfOthers in
    let u = if_some force old t in
    let a = put key.Vt (fact.Number v) u in
    let b = put key.Pending fact.Absent a in
    let g = put (key.Getty v) yes b in
    let p = firsts-trans which 0 k t u a (firsts-some which 0 force old t (λ s. force-none which s t)) (put-counts which key.Vt (fact.Number v) u) in
    let q = firsts-trans which (0 + k) 0 t a b p (put-start which key.Pending fact.Absent a refl) in
    firsts-more which (0 + k + 0 + k) (2 * k) t (ask_getty conf v b) (omega arith) (firsts-trans which (0 + k + 0) k t b (ask_getty conf v b) q
    (firsts-if which (not (is_some (session_on b v)) && nat_le v conf.auto_vts) k b g b (put-counts which (key.Getty v) yes b) (firsts-refl which k b)))

move-firsts : (which : Part) (n : ℕ) (conf : Conf) (v : ℕ) (t : Trail) → TakeAtMost n t → Firsts which (keys_of_device which * n + keys_of_switch which) t (move_to conf v (active_on t seat0) t)
move-firsts which n conf v t l =
    let k = keys_of_device which in
    let j = keys_of_switch which in
    let old = active_on t seat0 in
    let c = ask_getty conf v (put key.Pending fact.Absent (put key.Vt (fact.Number v) (if_some force old t))) in
    let w = reach-within conf v n t (λ s e. l s) in
    let m = few-later n t c l w.falls in
    firsts-more which (j + k * n) (k * n + j) t (arrive old c) (omega arith) (firsts-trans which j (k * n) t c (arrive old c) (reach-firsts which conf v old t) (arrive-firsts which n old c m))

-- no switch is pending behind it
move-pending : (conf : Conf) (v : ℕ) (old : Option SessId) (t : Trail) → value (move_to conf v old t) key.Pending ≡ fact.Absent
move-pending conf v old t =
    let a = put key.Vt (fact.Number v) (if_some force old t) in
    let b = put key.Pending fact.Absent a in
    let g = put (key.Getty v) yes b in
    let c = ask_getty conf v b in
    let p : Calm b c = cond-carried calm (not (is_some (session_on b v)) && nat_le v conf.auto_vts) b g b (calm-put (key.Getty v) yes b refl) (calm-refl b) in
    let q : Calm c (arrive old c) = arrive-carried calm old c in
    q.pending ∙ p.pending ∙ value-put key.Pending key.Pending fact.Absent a

keys-on : (which : Part) (n : ℕ) (t : Trail) → is_number_fact (value t key.Pending) ≡ true → switch_keys_of which n t ≡ keys_of_device which * n + keys_of_switch which
keys-on which n t e = ap (λ (b : Bool). cond b (keys_of_device which * n + keys_of_switch which) 0) e

keys-off : (which : Part) (n : ℕ) (t : Trail) → is_number_fact (value t key.Pending) ≡ false → switch_keys_of which n t ≡ 0
keys-off which n t e = ap (λ (b : Bool). cond b (keys_of_device which * n + keys_of_switch which) 0) e

-- the keys so far, and those of the switch that is pending, are no more than before, where no session has taken more
-- devices than so many
abbrev pub Spares : Part → ℕ → Trail → Trail → Type 0
Spares which n t u = keys_in which u + switch_keys_of which n u ≤ keys_in which t + switch_keys_of which n t

spares-trans : (which : Part) (n : ℕ) (t u v : Trail) → Spares which n t u → Spares which n u v → Spares which n t v
spares-trans which n t u v p q = omega arith

complete-at : (which : Part) (n : ℕ) (b : Bool) (conf : Conf) (v : ℕ) (t : Trail) → TakeAtMost n t → value t key.Pending ≡ fact.Number v
    → Spares which n t (cond b t (move_to conf v (active_on t seat0) t))
complete-at which n true conf v t l e = omega arith
complete-at which n false conf v t l e =
    (let u = move_to conf v (active_on t seat0) t in
    let m = move-firsts which n conf v t l in
    let a = keys-on which n t (ap is_number_fact e) in
    let b = keys-off which n u (ap is_number_fact (move-pending conf v (active_on t seat0) t)) in
    omega arith)

complete-spares : (which : Part) (n : ℕ) (x : Fact) (conf : Conf) (t : Trail) → TakeAtMost n t → value t key.Pending ≡ x → Spares which n t (complete conf x t)
complete-spares which n (fact.Number v) conf t l e = complete-at which n (is_awaiting t) conf v t l e
complete-spares which n _ conf t l e = omega arith

switch-spares : (which : Part) (n : ℕ) (conf : Conf) (t : Trail) → TakeAtMost n t → Spares which n t (settle_switch conf t)
unfolding settle_switch
switch-spares which n conf t l = complete-spares which n (value t key.Pending) conf t l refl

-- ---- what leaves a pending switch

left-spares : (which : Part) (n : ℕ) (t u : Trail) → value u key.Pending ≡ value t key.Pending → Firsts which 0 t u → Spares which n t u
left-spares which n t u e p = (let a = ap (λ (x : Fact). cond (is_number_fact x) (keys_of_device which * n + keys_of_switch which) 0) e in omega arith)

-- the operation that waits was set
start-none : (which : Part) (x : Fact) (U : Setup) (t : Trail) → value t key.Op ≡ x → Firsts which 0 t (start U.conf x t)
start-none which (fact.Operation (Waiting k since skip)) U t e =
    (let o = fact.Operation (Running k) in
    firsts-if which (is_delayed t k && not (is_over U.conf t since)) 0 t t (put key.Op o t) (firsts-refl which 0 t) (put-over which key.Op o t (λ z. (let p = sym e ∙ z in cc))))
start-none which _ U t e = firsts-refl which 0 t

operation-spares : (which : Part) (n : ℕ) (U : Setup) (t : Trail) → Spares which n t (settle_operation U.conf t)
unfolding settle_operation
operation-spares which n U t =
    let x = value t key.Op in
    left-spares which n t (start U.conf x t) (start-pending x U t) (start-none which x U t refl)

pub settle-spares : (which : Part) (n : ℕ) (U : Setup) (t : Trail) → TakeAtMost n t → Spares which n t (settle U t)
settle-spares which n U t l =
    let u = settle_switch U.conf t in
    spares-trans which n t u (settle_operation U.conf u) (switch-spares which n U.conf t l) (operation-spares which n U u)

-- a pending switch sets no more where one session may have taken fewer
pub switch-less : (which : Part) (t : Trail) (n : ℕ) → most_taken t ≤ n → switch_keys which t ≤ switch_keys_of which n t
switch-less which t n l = by (is_number_fact (value t key.Pending)) (keys_of_switch which) (mul-le-mul_left (keys_of_device which) l)
  where
    by : (b : Bool) (k : ℕ) {i j : ℕ} → i ≤ j → cond b (i + k) 0 ≤ cond b (j + k) 0
    by true k l = omega arith
    by false k l = omega arith

-- ---- a disconnect

disconnect-none : (which : Part) (c : ConnId) (t : Trail) → Firsts which 0 t (disconnect c t)
unfolding disconnect
disconnect-none which c t =
    let a = each release (controlled_by t c) t in
    let b = end_sessions c a in
    let d = unlock c b in
    let p = firsts-trans which 0 0 t a b (none-each which release (release-none which) (controlled_by t c) t) (none-each which shut (shut-none which) (kept_open_by a c) a) in
    let q = none-each which (λ (l : LockNo) (u : Trail). put (key.Lock l) fact.Absent u) (λ l u. put-start which (key.Lock l) fact.Absent u refl) (locks_of b c) b in
    firsts-trans which 0 0 t d (put (key.Conn c) fact.Absent d) (firsts-trans which 0 0 t b d p q) (put-start which (key.Conn c) fact.Absent d refl)

-- a disconnect sets none but those of the switch that was pending
pub ends : (which : Part) (U : Setup) (t : Trail) (c : ConnId) → IsSound U t → TakeAtMost (most_taken t) t → is_connected t c ≡ true
    → keys_in which (stepped U Granted (Disconnect c) t) + switch_keys which (stepped U Granted (Disconnect c) t) ≤ keys_in which t + switch_keys which t
unfolding direct
ends which U t c s few e =
    let g = good-sound t s.between in
    let n = most_taken t in
    let u = disconnect c t in
    let v = settle U u in
    let p = pays-disconnect c t g (good-disconnect c t g) in
    let w = spares-trans which n t u v (left-spares which n t u p.pending (disconnect-none which c t)) (settle-spares which n U u (few-later n t u few p.falls)) in
    let k = switch-less which v n (least-less (taken_count v) (taken_count t) (let a = (counted t u p.falls).taken in let b = (counted u v (settle-within U (taken_count u) u (taken-there u)).falls).taken in omega arith)) in
    omega arith
