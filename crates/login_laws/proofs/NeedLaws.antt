-- A disconnect makes at most as many marks as the need falls by.
use Rattle.std.proofs.Common.{◌≡◌, ◌≤◌, ◌+◌, ◌*◌, ◌-◌, nat_le, ℕ, Bool, true, false, cond, length, refl, ap, sym, ◌∙◌, arith, ◌⊎◌, inl, inr, ◌&&◌, not}
use Rattle.login_base.specs.declared.ids.ConnId.{ConnId}
use Rattle.login_model.specs.Start.{seat0}
use Rattle.login_model.specs.Trail.{Trail, value}
use Rattle.login_model.specs.Where.{active_on, connections, is_connected, open_sessions}
use Rattle.login_model.specs.Devices.{is_awaiting}
use Rattle.login_model.specs.Direct.{direct, disconnect}
use Rattle.login_model.specs.Full.{controlled_sessions, taken_count}
use Rattle.login_model.specs.Legal.{stepped}
use Rattle.login_laws.specs.Need.{need, switch_need}
use Rattle.login_laws.specs.Sound.{IsSound}
use Rattle.login_model.specs.Switching.{complete, move_to, settle_switch}
use Rattle.login_model.specs.declared.conf.Conf.{Conf}
use Rattle.login_model.specs.declared.event.Event.TheVariants.{Disconnect}
use Rattle.login_model.specs.declared.rule.Verdict.TheVariants.{Granted}
use Rattle.login_model.specs.declared.setup.Setup.{Setup}
use Rattle.login_model.specs.declared.fact.Key.TheVariants as key
use Rattle.login_model.specs.declared.fact.Fact.{Fact}
use Rattle.login_model.specs.declared.fact.Fact.TheVariants as fact
use Rattle.login_model.specs.Facts.{holds_back, is_number_fact}
use Rattle.login_model.specs.Names.{lock_lt}
use Rattle.login_model.specs.Power.{is_delayed, is_over, settle_operation, start}
use Rattle.login_model.specs.Trail.{put}
use Rattle.login_model.specs.Where.{is_lock, is_lock_fact, locks, moment_or_zero}
use Rattle.login_model.specs.declared.lock.LockMode.TheVariants.{Delay}
use Rattle.login_model.specs.declared.operation.OpKind.{OpKind}
use Rattle.login_model.specs.declared.operation.Operation.{Operation}
use Rattle.login_model.specs.declared.operation.Operation.TheVariants.{Waiting, Running}
use Rattle.login_laws.proofs.Counts.{count-gone, count-less, locks-list, put-length}
use Rattle.login_model.proofs.Keys.{test}
use Rattle.login_laws.proofs.Operations.{held-lock, held-some, some-held}
use Rattle.login_laws.proofs.Stays.{LocksFall, disconnect-stays, stays-trans, still-stays, switch-still}
use Rattle.login_model.proofs.Values.{value-put}
use Rattle.login_laws.proofs.WithinLaws.{Within, plain-within, taken-there}
use Rattle.login_laws.proofs.Holds.{none_out}
use Rattle.login_laws.proofs.Loops.{awaiting-none}
use Rattle.login_laws.proofs.Giving.{Good}
use Rattle.login_laws.proofs.Settling.{NoneAwaited, moved}
use Rattle.login_laws.proofs.Accords.{good-sound}
use Rattle.login_laws.proofs.Ending.{good-disconnect}
use Rattle.login_laws.proofs.Paying.{Falls, base, counted, falls-refl, lock-in}
use Rattle.login_laws.proofs.PayingEnds.{pays-disconnect}
use Rattle.login_laws.proofs.PayingMoves.{move-within}

-- ---- the need

pub need-is : (t : Trail) → need t ≡ base t + 3 * length (locks t) + switch_need t
unfolding need
need-is t = need-sum (length (connections t)) (length (controlled_sessions t)) (taken_count t) (length (open_sessions t)) (length (locks t)) (switch_need t)
  where
    need-sum : (a c k o l s : ℕ) → a + c + 4 * k + 4 * o + 4 * l + s ≡ a + c + 4 * k + 4 * o + l + 3 * l + s
    need-sum a c k o l s = omega arith

switch-on : (t : Trail) → is_number_fact (value t key.Pending) ≡ true → switch_need t ≡ 8 * taken_count t + 8
switch-on t e = ap (λ (b : Bool). cond b (8 * taken_count t + 8) 0) e

switch-off : (t : Trail) → is_number_fact (value t key.Pending) ≡ false → switch_need t ≡ 0
switch-off t e = ap (λ (b : Bool). cond b (8 * taken_count t + 8) 0) e

switch-less : (a b : Bool) (x y : ℕ) → a ≡ b → x ≤ y → cond a (8 * x + 8) 0 ≤ cond b (8 * y + 8) 0
switch-less true true x y e l = omega arith
switch-less true false x y e l = cc
switch-less false true x y e l = cc
switch-less false false x y e l = omega arith

locks-less : (t u : Trail) → Falls (value t) (value u) → length (locks u) ≤ length (locks t)
locks-less t u f = (counted t u f).locked

base-less : (t u : Trail) → Falls (value t) (value u) → base u ≤ base t
base-less t u f =
    let c = counted t u f in
    let c1 = c.connected in let c2 = c.controlled in let c3 = c.taken in let c4 = c.opened in let c5 = c.locked in omega arith

-- settling makes no more marks than the need falls by
complete-by : (b : Bool) (conf : Conf) (v : ℕ) (t : Trail) → is_awaiting t ≡ b → value t key.Pending ≡ fact.Number v → Good none_out t
    → length (cond b t (move_to conf v (active_on t seat0) t)) + need (cond b t (move_to conf v (active_on t seat0) t)) ≤ length t + need t
complete-by true conf v t e p g = omega arith
complete-by false conf v t e p g =
    (let u = move_to conf v (active_on t seat0) t in
    let q = (g.holds.terminals.3 v p).0 in
    let n : NoneAwaited t = λ s d z. awaiting-none t s d e z in
    let w = move-within conf v (taken_count t) t (taken-there t) in
    let m = moved conf v none_out t q n g in
    let a = need-is u in let b = need-is t in
    let c = switch-on t (ap is_number_fact p) in
    let d = switch-off u (ap is_number_fact m.pending) in
    let l = base-less t u w.falls in
    let n = locks-less t u w.falls in
    let k = w.marks in omega arith)

complete-fact : (x : Fact) (conf : Conf) (t : Trail) → value t key.Pending ≡ x → Good none_out t → length (complete conf x t) + need (complete conf x t) ≤ length t + need t
complete-fact (fact.Number v) conf t e g = complete-by (is_awaiting t) conf v t refl e g
complete-fact _ conf t e g = omega arith

switch-pays : (conf : Conf) (t : Trail) → Good none_out t → length (settle_switch conf t) + need (settle_switch conf t) ≤ length t + need t
unfolding settle_switch
switch-pays conf t g = complete-fact (value t key.Pending) conf t refl g

-- settling a switch keeps the locks
switch-locks : (conf : Conf) (t : Trail) → length (locks t) ≤ length (locks (settle_switch conf t))
switch-locks conf t =
    let u = settle_switch conf t in
    count-less lock_lt (is_lock t) (is_lock u) (locks t) (locks u) (locks-list t) (locks-list u) (λ l e. ap is_lock_fact ((switch-still conf t).locks l) ∙ e)

locks-fall-less : (t u : Trail) → LocksFall t u → length (locks u) ≤ length (locks t)
locks-fall-less t u f =
    count-less lock_lt (is_lock u) (is_lock t) (locks u) (locks t) (locks-list u) (locks-list t) (λ l z. (let x = lock-in (value u (key.Lock l)) z in ap is_lock_fact (f l x.0 x.1)))

-- what is set of the operation leaves the need
pub op-falls : (o : Operation) (t : Trail) → Within 1 t (put key.Op (fact.Operation o) t)
op-falls o t = plain-within key.Op (fact.Operation o) t refl

start-falls-by : (b c : Bool) (k : OpKind) (t : Trail) → Falls (value t) (value (cond (b && not c) t (put key.Op (fact.Operation (Running k)) t)))
start-falls-by true true k t = (op-falls (Running k) t).falls
start-falls-by true false k t = falls-refl (value t)
start-falls-by false c k t = (op-falls (Running k) t).falls

pub start-falls : (x : Fact) (U : Setup) (t : Trail) → Falls (value t) (value (start U.conf x t))
start-falls (fact.Operation (Waiting k since skip)) U t = start-falls-by (is_delayed t k) (is_over U.conf t since) k t
start-falls _ U t = falls-refl (value t)

start-pending-by : (b c : Bool) (k : OpKind) (t : Trail) → value (cond (b && not c) t (put key.Op (fact.Operation (Running k)) t)) key.Pending ≡ value t key.Pending
start-pending-by true true k t = value-put key.Op key.Pending (fact.Operation (Running k)) t
start-pending-by true false k t = refl
start-pending-by false c k t = value-put key.Op key.Pending (fact.Operation (Running k)) t

pub start-pending : (x : Fact) (U : Setup) (t : Trail) → value (start U.conf x t) key.Pending ≡ value t key.Pending
start-pending (fact.Operation (Waiting k since skip)) U t = start-pending-by (is_delayed t k) (is_over U.conf t since) k t
start-pending _ U t = refl

op-need : (U : Setup) (t : Trail) → need (settle_operation U.conf t) ≤ need t
unfolding settle_operation
op-need U t =
    let u = start U.conf (value t key.Op) t in
    let f = start-falls (value t key.Op) U t in
    let c = counted t u f in
    let c1 = c.connected in let c2 = c.controlled in let c3 = c.taken in let c4 = c.opened in let c5 = c.locked in
    let a = need-is u in let b = need-is t in
    let l = switch-less (is_number_fact (value u key.Pending)) (is_number_fact (value t key.Pending)) (taken_count u) (taken_count t) (ap is_number_fact (start-pending (value t key.Op) U t)) c3 in
    omega arith

disconnect-pays : (c : ConnId) (t : Trail) → Good none_out t
    → (length (disconnect c t) + need (disconnect c t) + 3 * length (locks t) ≤ length t + need t + 3 * length (locks (disconnect c t))) × (length (locks (disconnect c t)) ≤ length (locks t))
disconnect-pays c t g =
    let u = disconnect c t in
    let w = good-disconnect c t g in
    let p = pays-disconnect c t g w in
    let s = p.sum in
    let a = need-is u in let b = need-is t in
    let k = (counted t u p.falls).taken in
    let n = locks-less t u p.falls in
    let l = switch-less (is_number_fact (value u key.Pending)) (is_number_fact (value t key.Pending)) (taken_count u) (taken_count t) (ap is_number_fact p.pending) k in
    (omega arith, n)

-- ---- the operation that waits

run-length : (b c : Bool) (k : OpKind) (t : Trail) → length (cond (b && not c) t (put key.Op (fact.Operation (Running k)) t)) ≤ length t + 1
run-length true true k t = put-length key.Op (fact.Operation (Running k)) t
run-length true false k t = omega arith
run-length false c k t = put-length key.Op (fact.Operation (Running k)) t

pub held-stays : (b c : Bool) (k : OpKind) (t : Trail) → b ≡ true → c ≡ false → length (cond (b && not c) t (put key.Op (fact.Operation (Running k)) t)) ≤ length t
held-stays true false k t e n = omega arith
held-stays true true k t e n = cc
held-stays false c k t e n = cc

-- a lock that delayed is gone, or delays still
gone-or : (t u : Trail) (k : OpKind) → LocksFall t u → is_delayed t k ≡ true → (is_delayed u k ≡ true) ⊎ (length (locks u) + 1 ≤ length (locks t))
gone-or t u k f e =
    let i = some-held t k Delay e in
    elim (test (is_lock u i.0)) [
      | inl q ↦ (let x = lock-in (value u (key.Lock i.0)) q in
          inl (held-some u k Delay (i.0, ap (holds_back k Delay) (x.1 ∙ sym (f i.0 x.0 x.1)) ∙ i.1)))
      | inr n ↦ inr (count-gone lock_lt (is_lock u) (is_lock t) (locks u) (locks t) (locks-list u) (locks-list t)
          (λ l z. (let x = lock-in (value u (key.Lock l)) z in ap is_lock_fact (f l x.0 x.1))) i.0 n (held-lock k Delay (value t (key.Lock i.0)) i.1))
    ]

start-by : (x : Fact) (U : Setup) (t u : Trail) → value u key.Op ≡ x → value u key.Op ≡ value t key.Op → value u key.Now ≡ value t key.Now → LocksFall t u → IsSound U t
    → length (start U.conf x u) + 3 * length (locks u) ≤ length u + 3 * length (locks t)
start-by (fact.Operation (Waiting k since skip)) U t u e o n f s =
    let h = s.held k since skip (sym o ∙ e) in
    let early : is_over U.conf u since ≡ false = ap (λ (x : Fact). nat_le U.conf.inhibit_delay_max.0 (moment_or_zero x - since.0)) n ∙ h.early in
    let m = run-length (is_delayed u k) (is_over U.conf u since) k u in
    let r = locks-fall-less t u f in
    elim (gone-or t u k f h.delayed) [
      | inl d ↦ (let q = held-stays (is_delayed u k) (is_over U.conf u since) k u d early in omega arith)
      | inr g ↦ omega arith
    ]
start-by _ U t u e o n f s = (let r = locks-fall-less t u f in omega arith)

-- a disconnect makes at most as many marks as the need falls by
pub ends : (U : Setup) (t : Trail) (c : ConnId) → IsSound U t → is_connected t c ≡ true
    → length (stepped U Granted (Disconnect c) t) + need (stepped U Granted (Disconnect c) t) ≤ length t + need t
unfolding direct settle_operation
ends U t c s e =
    let g = good-sound t s.between in
    let v = disconnect c t in
    let u = settle_switch U.conf v in
    let w = settle_operation U.conf u in
    let a = disconnect-pays c t g in
    let b = switch-pays U.conf v (good-disconnect c t g) in
    let l = switch-locks U.conf v in
    let x = stays-trans t v u (disconnect-stays c t) (still-stays v u (switch-still U.conf v)) in
    let m = start-by (value u key.Op) U t u refl x.op x.now x.locks s in
    let p = a.0 in let q = a.1 in
    let k = op-need U u in
    omega arith
