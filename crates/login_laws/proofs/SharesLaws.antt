-- Each connection's end fits its share.
use Rattle.std.proofs.Common.{◌≡◌, ◌≤◌, ◌+◌, ◌*◌, ◌-◌, ◌&&◌, nat_le, Bool, true, false, cond, Some, List, [], ◌∷◌, ◌++◌, length, refl, ap, sym, ◌∙◌, subst, arith}
use Rattle.std.specs.List.{AllByRecursion}
use Rattle.login_base.specs.declared.ids.ConnId.{ConnId}
use Rattle.login_base.specs.declared.ids.DevNo.{DevNo}
use Rattle.login_base.specs.declared.ids.LockNo.{LockNo}
use Rattle.login_base.specs.declared.ids.SessId.{SessId}
use Rattle.login_model.specs.Start.{seat0}
use Rattle.login_model.specs.Trail.{Trail, put, value}
use Rattle.login_model.specs.Where.{active_on, is_set, moment_or_zero}
use Rattle.login_model.specs.Devices.{is_awaiting}
use Rattle.login_model.specs.Direct.{controlled_by, direct, disconnect, end_sessions, kept_open_by, locks_of, owns_fifo, unlock}
use Rattle.login_model.specs.Facts.{holds_back, is_number_fact}
use Rattle.login_model.specs.Full.{taken_by, taken_count}
use Rattle.login_model.specs.Legal.{IsLegalAfter, IsLegalEntry, stepped, trail_of}
use Rattle.login_model.specs.Policy.{controls}
use Rattle.login_model.specs.Power.{is_delayed, is_over, settle_operation, start}
use Rattle.login_model.specs.Procedure.{each, release, shut}
use Rattle.login_model.specs.Switching.{complete, move_to, settle_switch}
use Rattle.login_model.specs.declared.conf.Conf.{Conf}
use Rattle.login_model.specs.declared.event.Event.{Event}
use Rattle.login_model.specs.declared.event.Event.TheVariants.{Disconnect}
use Rattle.login_model.specs.declared.fact.Key.TheVariants as key
use Rattle.login_model.specs.declared.fact.Fact.{Fact}
use Rattle.login_model.specs.declared.fact.Fact.TheVariants as fact
use Rattle.login_model.specs.declared.lock.LockMode.TheVariants.{Delay}
use Rattle.login_model.specs.declared.operation.Operation.TheVariants.{Waiting}
use Rattle.login_model.specs.declared.mark.Entry.{Entry}
use Rattle.login_model.specs.declared.rule.Verdict.TheVariants.{Granted}
use Rattle.login_model.specs.declared.setup.Setup.{Setup}
use Rattle.login_model.proofs.InOrder.{IsIn}
use Rattle.login_model.proofs.Values.{true-false, value-put}
use Rattle.login_laws.specs.Need.{AreEnds, IsDisconnect}
use Rattle.login_laws.specs.Shares.{EachEndFits, EndsHaveShares, end_share, has_session, share}
use Rattle.login_laws.specs.Sound.{IsSound}
use Rattle.login_laws.proofs.Accords.{good-sound}
use Rattle.login_laws.proofs.ActiveLaws.{front-found, or-left, or-right}
use Rattle.login_laws.proofs.Counts.{both-true}
use Rattle.login_laws.proofs.Ending.{good-disconnect}
use Rattle.login_laws.proofs.EndsLaws.{end-is}
use Rattle.login_laws.proofs.Giving.{Good}
use Rattle.login_laws.proofs.Holds.{none_out}
use Rattle.login_laws.proofs.JournalLaws.{length-after}
use Rattle.login_laws.proofs.Lessening.{follows-falls, lessens-each, lessens-end, lessens-release, lessens-shut, lessens-trans, locks-less, of-controlled_by, of-kept_open_by, share-less}
use Rattle.login_laws.proofs.Loops.{awaiting-some, some-awaiting}
use Rattle.login_laws.proofs.NeedLaws.{held-stays}
use Rattle.login_laws.proofs.Operations.{held-some, some-held}
use Rattle.login_laws.proofs.PayingEnds.{pays-disconnect}
use Rattle.login_laws.proofs.PayingMoves.{start-within}
use Rattle.login_laws.proofs.Quieting.{disconnect-awaited, disconnect-quiet}
use Rattle.login_laws.proofs.SoundLaws.{sound-entry, sound-journal}
use Rattle.login_laws.proofs.Spending.{disconnect-spends, switch-few}
use Rattle.login_laws.proofs.Stays.{Still, freed-still, still-trans, switch-still}

-- ---- the operation that waits

-- it waits on where all locks stand
start-none : (x : Fact) (U : Setup) (t u : Trail) → value u key.Op ≡ x → Still t u → IsSound U t → length (start U.conf x u) ≤ length u
start-none (fact.Operation (Waiting k since skip)) U t u e p s =
    let h = s.held k since skip (sym p.op ∙ e) in
    let early : is_over U.conf u since ≡ false = ap (λ (x : Fact). nat_le U.conf.inhibit_delay_max.0 (moment_or_zero x - since.0)) p.now ∙ h.early in
    let i = some-held t k Delay h.delayed in
    held-stays (is_delayed u k) (is_over U.conf u since) k u (held-some u k Delay (i.0, ap (holds_back k Delay) (p.locks i.0) ∙ i.1)) early
start-none _ U t u e p s = omega arith

start-by : (ls : List LockNo) (U : Setup) (t u : Trail) → (ls ≡ [] → Still t u) → IsSound U t → length (settle_operation U.conf u) ≤ length u + length ls
unfolding settle_operation
start-by [] U t u p s = (let m = start-none (value u key.Op) U t u refl (p refl) s in omega arith)
start-by (l ∷ ls) U t u p s = (let m = (start-within (value u key.Op) U u).marks in omega arith)

abbrev freed : ConnId → Trail → Trail
freed c t = end_sessions c (each release (controlled_by t c) t)

-- where no lock goes
none-gone : (c : ConnId) (t : Trail) → locks_of t c ≡ [] → unlock c t ≡ t
unfolding each
none-gone c t e = ap (λ (ls : List LockNo). each (λ l u. put (key.Lock l) fact.Absent u) ls t) e

still-conn : (c : ConnId) (t : Trail) → Still t (put (key.Conn c) fact.Absent t)
still-conn c t = record {
  op = value-put (key.Conn c) key.Op fact.Absent t;
  now = value-put (key.Conn c) key.Now fact.Absent t;
  locks = λ l. value-put (key.Conn c) (key.Lock l) fact.Absent t;
}

still-disconnect : (c : ConnId) (t : Trail) → locks_of (freed c t) c ≡ [] → Still t (disconnect c t)
unfolding disconnect
still-disconnect c t e =
    let t2 = freed c t in
    let t3 = unlock c t2 in
    let P : Trail → Type 0 = λ v. Still t v in
    let b : Still t t3 = subst P (sym (none-gone c t2 e)) (freed-still c t) in
    still-trans t t3 (put (key.Conn c) fact.Absent t3) b (still-conn c t3)

operation-few : (U : Setup) (t : Trail) (c : ConnId) → IsSound U t
    → length (settle_operation U.conf (settle_switch U.conf (disconnect c t))) ≤ length (settle_switch U.conf (disconnect c t)) + length (locks_of t c)
operation-few U t c s =
    let v = disconnect c t in
    let u = settle_switch U.conf v in
    let g = good-sound t s.between in
    let t1 = each release (controlled_by t c) t in
    let l1 = lessens-each release lessens-release (controlled_by t c) t g in
    let l2 = lessens-each shut lessens-shut (kept_open_by t1 c) t1 l1.good in
    let k = locks-less c t (freed c t) (follows-falls c t (freed c t) (lessens-trans t t1 (freed c t) l1 l2).falls).locks in
    let m = start-by (locks_of (freed c t) c) U t u (λ e. still-trans t v u (still-disconnect c t e) (switch-still U.conf v)) s in
    omega arith

-- ---- a switch that goes on waiting

switch-none : (x : Fact) (conf : Conf) (t : Trail) → (is_number_fact x ≡ true → is_awaiting t ≡ true) → complete conf x t ≡ t
switch-none (fact.Number v) conf t w = ap (λ (b : Bool). cond b t (move_to conf v (active_on t seat0) t)) (w refl)
switch-none _ conf t w = refl

settles-none : (conf : Conf) (t : Trail) → (is_number_fact (value t key.Pending) ≡ true → is_awaiting t ≡ true) → settle_switch conf t ≡ t
unfolding settle_switch
settles-none conf t w = switch-none (value t key.Pending) conf t w

-- ---- the end of a connection

-- whether a connection's end may complete the switch
abbrev may_complete : ConnId → Trail → Bool
may_complete c t = is_number_fact (value t key.Pending) && has_session t c (active_on t seat0)

-- whose pauses are awaited: it has the session then
awaited-has : (t : Trail) (c : ConnId) (s : SessId) (d : DevNo) → Good none_out t → is_set (value t (key.Awaited s d)) ≡ true → has_session t c (Some s) ≡ true → may_complete c t ≡ true
awaited-has t c s d g e h =
    let i = g.holds.awaits s d e in
    both-true (is_number_fact (value t key.Pending)) (has_session t c (active_on t seat0)) i.4 (ap (has_session t c) (front-found none_out t s g.holds i.3) ∙ h)

controlled-has : (t : Trail) (c : ConnId) (s : SessId) → IsIn s (controlled_by t c) → has_session t c (Some s) ≡ true
controlled-has t c s i = or-left (controls t c s) (owns_fifo t c s) (of-controlled_by t c s i).1

kept-has : (t : Trail) (c : ConnId) (s : SessId) → IsIn s (kept_open_by t c) → has_session t c (Some s) ≡ true
kept-has t c s i = or-right (controls t c s) (owns_fifo t c s) (of-kept_open_by t c s i).1

-- it stays pending, where it was and the connection has not its session
still-waits : (U : Setup) (t : Trail) (c : ConnId) → IsSound U t → may_complete c t ≡ false → is_number_fact (value (disconnect c t) key.Pending) ≡ true → is_awaiting (disconnect c t) ≡ true
still-waits U t c s n e =
    let g = good-sound t s.between in
    let v = disconnect c t in
    let p = ap is_number_fact (sym (pays-disconnect c t g (good-disconnect c t g)).pending) ∙ e in
    let i = awaiting-some t (s.settled p) in
    let never = λ (h : has_session t c (Some i.0) ≡ true). (let z : ⊥ = true-false (may_complete c t) (awaited-has t c i.0 i.1 g i.2 h) n in z) in
    some-awaiting v (i.0, i.1, ap is_set (disconnect-awaited c i.0 i.1 t g (λ q. never (controlled-has t c i.0 q)) (λ q. never (kept-has t c i.0 q))) ∙ i.2)

end-by : (b : Bool) (U : Setup) (t : Trail) (c : ConnId) → IsSound U t → may_complete c t ≡ b
    → length (settle_switch U.conf (disconnect c t)) ≤ length t + 1 + length (controlled_by t c) + 4 * length (kept_open_by t c) + length (locks_of t c)
    + 2 * taken_by t (controlled_by t c) + 2 * taken_by t (kept_open_by t c) + cond b (4 * taken_count t + 4) 0
end-by true U t c s e =
    (let g = good-sound t s.between in
    let w = good-disconnect c t g in
    let a = disconnect-spends c t g w in
    let b = switch-few U.conf (disconnect c t) w in omega arith)
end-by false U t c s e =
    (let g = good-sound t s.between in
    let v = disconnect c t in
    let never = λ (r : SessId) (h : has_session t c (Some r) ≡ true) (d : DevNo) (z : is_set (value t (key.Awaited r d)) ≡ true). (let y : ⊥ = true-false (may_complete c t) (awaited-has t c r d g z h) e in y) in
    let a = disconnect-quiet c t g (λ r i. never r (controlled-has t c r i)) (λ r i. never r (kept-has t c r i)) in
    let b = ap length (settles-none U.conf v (still-waits U t c s e)) in omega arith)

end-fits : (U : Setup) (t : Trail) (c : ConnId) → IsSound U t → length (stepped U Granted (Disconnect c) t) ≤ length t + share c t
unfolding direct share
end-fits U t c s = (let a = end-by (may_complete c t) U t c s refl in let b = operation-few U t c s in omega arith)

pub ends-have-shares : (U : Setup) → EndsHaveShares U
ends-have-shares U = record {
  fits = λ t c s. end-fits U t c s;
  others = λ t c d s. (let g = good-sound t s.between in share-less t (stepped U Granted (Disconnect d) t) g (lessens-end U t d g) c);
}

-- ---- behind a legal journal

-- one end, where no share is above those before all of them
one-fits : (U : Setup) (t : Trail) (before : List Entry) (e : Entry) (v : Event) → e.event ≡ v → IsDisconnect v → ((c : ConnId) → share c (trail_of before) ≤ share c t) → IsSound U (trail_of before)
    → IsLegalEntry U before e → (length e.marks ≤ end_share v t) × ((c : ConnId) → share c (trail_of (before ++ e ∷ [])) ≤ share c t)
one-fits U t before e (Disconnect d) is n f s l =
    (let u = trail_of before in
    let i = end-is U before e d is l in
    let w = ends-have-shares U in
    let m = ap length i.made in
    let k = length-after u e.marks in
    let h = w.fits u d s in
    let a = f d in
    (omega arith, (λ c. (let p = ap (share c) i.next in let q = w.others u c d s in let b = f c in omega arith))))
one-fits U t before e _ is n f s l = absurd n

all-fit : (U : Setup) (t : Trail) (before es : List Entry) → ((c : ConnId) → share c (trail_of before) ≤ share c t) → IsSound U (trail_of before) → IsLegalAfter U before es → AreEnds es
    → AllByRecursion (λ (e : Entry). length e.marks ≤ end_share e.event t) es
all-fit U t before [] f s l a = tt
all-fit U t before (e ∷ es) f s l a =
    let p = one-fits U t before e e.event refl a.0 f s l.0 in
    (p.0, all-fit U t (before ++ e ∷ []) es p.1 (sound-entry U before e l.0 s) l.1 a.1)

pub each-end-fits : EachEndFits
each-end-fits U before es l m a = all-fit U (trail_of before) before es (λ c. omega arith) (sound-journal U before l) m a
