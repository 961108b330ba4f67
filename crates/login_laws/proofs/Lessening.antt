-- What no connection's end raises of another one's share.
use Rattle.std.proofs.Common.{◌≡◌, ◌≤◌, ◌+◌, ◌*◌, ◌&&◌, ◌||◌, not, ℕ, Bool, true, false, cond, Option, Some, None, List, length, refl, ap, sym, ◌∙◌, arith, ◌⊎◌, inl, inr}
use Rattle.login_base.specs.declared.ids.ConnId.{ConnId}
use Rattle.login_base.specs.declared.ids.LockNo.{LockNo}
use Rattle.login_base.specs.declared.ids.SessId.{SessId}
use Rattle.login_model.specs.Fresh.{is_open_fact}
use Rattle.login_model.specs.Names.{lock_lt, session_lt}
use Rattle.login_model.specs.Start.{seat0}
use Rattle.login_model.specs.Trail.{Trail, put, value}
use Rattle.login_model.specs.Where.{active_on, is_lock, is_lock_fact, is_on_terminal, is_open, is_session, locks, open_sessions, sessions}
use Rattle.login_model.specs.Devices.{is_awaiting}
use Rattle.login_model.specs.Direct.{controlled_by, direct, disconnect, end_sessions, fifo_in, is_fifo_of, is_lock_of, kept_open_by, locks_of, owns_fifo, unlock}
use Rattle.login_model.specs.Facts.{is_number_fact}
use Rattle.login_model.specs.Full.{taken_by, taken_count}
use Rattle.login_model.specs.Legal.{stepped}
use Rattle.login_model.specs.Policy.{controls, is_controller_fact}
use Rattle.login_model.specs.Power.{is_delayed, is_over, settle_operation, start}
use Rattle.login_model.specs.Procedure.{each, release, shut}
use Rattle.login_model.specs.Settle.{settle}
use Rattle.login_model.specs.Switching.{complete, move_to, settle_switch}
use Rattle.login_model.specs.declared.conf.Conf.{Conf}
use Rattle.login_model.specs.declared.event.Event.TheVariants.{Disconnect}
use Rattle.login_model.specs.declared.fact.Key.TheVariants as key
use Rattle.login_model.specs.declared.fact.Fact.{Fact}
use Rattle.login_model.specs.declared.fact.Fact.TheVariants as fact
use Rattle.login_model.specs.declared.fact.Owner.TheVariants as owner
use Rattle.login_model.specs.declared.operation.OpKind.{OpKind}
use Rattle.login_model.specs.declared.operation.Operation.TheVariants.{Running, Waiting}
use Rattle.login_model.specs.declared.rule.Verdict.TheVariants.{Granted}
use Rattle.login_model.specs.declared.setup.Setup.{Setup}
use Rattle.login_model.proofs.FactLaws.{same-conn}
use Rattle.login_model.proofs.InOrder.{Ascending, IsIn, filter-ascending, filter-gives, filter-in, filter-keeps}
use Rattle.login_model.proofs.Keys.{both}
use Rattle.login_model.proofs.NameLaws.{lock_order, session_order}
use Rattle.login_model.proofs.Values.{same-refl, value-put}
use Rattle.login_laws.specs.Shares.{has_session, share, switch_share}
use Rattle.login_laws.proofs.ActiveLaws.{front-found, front-some, or-left, or-right}
use Rattle.login_laws.proofs.Closing.{shut-all-refl, shut-one}
use Rattle.login_laws.proofs.Counting.{length-less}
use Rattle.login_laws.proofs.Counts.{both-true, length-taken-less, locks-list, open-list, sessions-ascending, taken-among, taken-less, taken_length}
use Rattle.login_laws.proofs.Ending.{good-disconnect, unlocked-one, unlocked-refl}
use Rattle.login_laws.proofs.Giving.{Good, released}
use Rattle.login_laws.proofs.Holds.{Fronted, none_out}
use Rattle.login_laws.proofs.Loops.{awaiting-none, each-keeps, in-sessions, of-sessions}
use Rattle.login_laws.proofs.NeedLaws.{op-falls}
use Rattle.login_laws.proofs.Operations.{started}
use Rattle.login_laws.proofs.Paying.{Falls, falls-refl, falls-trans, lock-in, open-session}
use Rattle.login_laws.proofs.PayingEnds.{falls-conn, falls-lock}
use Rattle.login_laws.proofs.PayingMoves.{move-within}
use Rattle.login_laws.proofs.ProcedureMarks.{release-within, shut-within}
use Rattle.login_laws.proofs.SessionSteps.{on-terminal-open}
use Rattle.login_laws.proofs.Settling.{moved}
use Rattle.login_laws.proofs.SoundLaws.{controller-is}
use Rattle.login_laws.proofs.WithinLaws.{falls-put, taken-there}

-- no more than before, and so with the front of seat0 while a switch is pending
pub record Lessens (t u : Trail) : Type 0 where
  pub good : Good none_out u
  pub falls : Falls (value t) (value u)
  pub front : is_number_fact (value u key.Pending) ≡ true → (is_number_fact (value t key.Pending) ≡ true) × (value u key.Vt ≡ value t key.Vt)

pub lessens-refl : (t : Trail) → Good none_out t → Lessens t t
lessens-refl t g = record { good = g; falls = falls-refl (value t); front = λ e. (e, refl) }

pub lessens-trans : (t u v : Trail) → Lessens t u → Lessens u v → Lessens t v
lessens-trans t u v p q = record {
  good = q.good;
  falls = falls-trans (value t) (value u) (value v) p.falls q.falls;
  front = λ e. (let a = q.front e in let b = p.front a.0 in (b.0, a.1 ∙ b.1));
}

pub lessens-each : {A : Type 0} (f : A → Trail → Trail) → ((x : A) (t : Trail) → Good none_out t → Lessens t (f x t)) → (xs : List A) (t : Trail) → Good none_out t → Lessens t (each f xs t)
lessens-each f step xs t g = each-keeps (Lessens t) f xs (λ x u i w. lessens-trans t u (f x u) w (step x u w.good)) t (lessens-refl t g)

-- ---- the end of a connection

pub lessens-release : (s : SessId) (t : Trail) → Good none_out t → Lessens t (release s t)
lessens-release s t g =
    let r = released none_out s t g in
    let k = r.keeps.facts in
    record {
      good = r.good;
      falls = (release-within s t).falls;
      front = λ e. (ap is_number_fact (sym (k key.Pending refl)) ∙ e, k key.Vt refl);
    }

pub lessens-shut : (s : SessId) (t : Trail) → Good none_out t → Lessens t (shut s t)
lessens-shut s t g =
    let d = shut-one none_out s t t (shut-all-refl none_out t g) in
    let k = d.keeps.facts in
    record {
      good = d.good;
      falls = (shut-within s t).falls;
      front = λ e. (ap is_number_fact (sym (k key.Pending refl)) ∙ e, k key.Vt refl);
    }

lessens-lock : (l : LockNo) (t : Trail) → Good none_out t → Lessens t (put (key.Lock l) fact.Absent t)
lessens-lock l t g =
    let d = unlocked-one l t t (unlocked-refl t g) in
    let k = d.keeps.facts in
    record {
      good = d.good;
      falls = falls-put (key.Lock l) fact.Absent t (falls-lock l (value t));
      front = λ e. (ap is_number_fact (sym (k key.Pending refl)) ∙ e, k key.Vt refl);
    }

pub lessens-unlock : (c : ConnId) (t : Trail) → Good none_out t → Lessens t (unlock c t)
lessens-unlock c t g = lessens-each (λ l u. put (key.Lock l) fact.Absent u) lessens-lock (locks_of t c) t g

lessens-conn : (c : ConnId) (t : Trail) → Good none_out (put (key.Conn c) fact.Absent t) → Lessens t (put (key.Conn c) fact.Absent t)
lessens-conn c t g = record {
  good = g;
  falls = falls-put (key.Conn c) fact.Absent t (falls-conn c (value t));
  front = λ e. (ap is_number_fact (sym (value-put (key.Conn c) key.Pending fact.Absent t)) ∙ e, value-put (key.Conn c) key.Vt fact.Absent t);
}

pub lessens-disconnect : (c : ConnId) (t : Trail) → Good none_out t → Good none_out (disconnect c t) → Lessens t (disconnect c t)
unfolding disconnect
lessens-disconnect c t g w =
    let t1 = each release (controlled_by t c) t in
    let a = lessens-each release lessens-release (controlled_by t c) t g in
    let t2 = end_sessions c t1 in
    let b = lessens-each shut lessens-shut (kept_open_by t1 c) t1 a.good in
    let t3 = unlock c t2 in
    let d = lessens-unlock c t2 b.good in
    lessens-trans t t3 (put (key.Conn c) fact.Absent t3) (lessens-trans t t2 t3 (lessens-trans t t1 t2 a b) d) (lessens-conn c t3 w)

-- ---- what it settles

complete-by : (b : Bool) (conf : Conf) (v : ℕ) (t : Trail) → is_awaiting t ≡ b → value t key.Pending ≡ fact.Number v → Good none_out t
    → Lessens t (cond b t (move_to conf v (active_on t seat0) t))
complete-by true conf v t e p g = lessens-refl t g
complete-by false conf v t e p g =
    (let m = moved conf v none_out t (g.holds.terminals.3 v p).0 (λ s d z. awaiting-none t s d e z) g in
    record {
      good = m.good;
      falls = (move-within conf v (taken_count t) t (taken-there t)).falls;
      front = λ z. absurd (let y : is_number_fact fact.Absent ≡ true = ap is_number_fact (sym m.pending) ∙ z in cc);
    })

complete-fact : (x : Fact) (conf : Conf) (t : Trail) → value t key.Pending ≡ x → Good none_out t → Lessens t (complete conf x t)
complete-fact (fact.Number v) conf t e g = complete-by (is_awaiting t) conf v t refl e g
complete-fact _ conf t e g = lessens-refl t g

pub lessens-switch : (conf : Conf) (t : Trail) → Good none_out t → Lessens t (settle_switch conf t)
unfolding settle_switch
lessens-switch conf t g = complete-fact (value t key.Pending) conf t refl g

lessens-run : (k : OpKind) (t : Trail) → Good none_out (put key.Op (fact.Operation (Running k)) t) → Lessens t (put key.Op (fact.Operation (Running k)) t)
lessens-run k t g =
    let x = fact.Operation (Running k) in
    record {
      good = g;
      falls = (op-falls (Running k) t).falls;
      front = λ e. (ap is_number_fact (sym (value-put key.Op key.Pending x t)) ∙ e, value-put key.Op key.Vt x t);
    }

run-by : (b c : Bool) (k : OpKind) (t : Trail) → Good none_out t → Good none_out (cond (b && not c) t (put key.Op (fact.Operation (Running k)) t))
    → Lessens t (cond (b && not c) t (put key.Op (fact.Operation (Running k)) t))
run-by true true k t g w = lessens-run k t w
run-by true false k t g w = lessens-refl t g
run-by false c k t g w = lessens-run k t w

start-fact : (x : Fact) (U : Setup) (t : Trail) → Good none_out t → Good none_out (start U.conf x t) → Lessens t (start U.conf x t)
start-fact (fact.Operation (Waiting k since skip)) U t g w = run-by (is_delayed t k) (is_over U.conf t since) k t g w
start-fact _ U t g w = lessens-refl t g

lessens-operation : (U : Setup) (t : Trail) → Good none_out t → Good none_out (settle_operation U.conf t) → Lessens t (settle_operation U.conf t)
unfolding settle_operation
lessens-operation U t g w = start-fact (value t key.Op) U t g w

pub lessens-settle : (U : Setup) (t : Trail) → Good none_out t → Lessens t (settle U t)
lessens-settle U t g =
    let u = settle_switch U.conf t in
    let a = lessens-switch U.conf t g in
    lessens-trans t u (settle_operation U.conf u) a (lessens-operation U u a.good (started U none_out u a.good).good)

pub lessens-end : (U : Setup) (t : Trail) (c : ConnId) → Good none_out t → Lessens t (stepped U Granted (Disconnect c) t)
unfolding direct
lessens-end U t c g =
    let v = disconnect c t in
    let a = lessens-disconnect c t g (good-disconnect c t g) in
    lessens-trans t v (settle U v) a (lessens-settle U v a.good)

-- ---- whose the sessions and locks are

pub in-controlled_by : (t : Trail) (c : ConnId) (s : SessId) → is_session t s ≡ true → controls t c s ≡ true → IsIn s (controlled_by t c)
unfolding controlled_by
in-controlled_by t c s a e = filter-keeps (controls t c) s (sessions t) e (in-sessions t s a)

pub of-controlled_by : (t : Trail) (c : ConnId) (s : SessId) → IsIn s (controlled_by t c) → (is_session t s ≡ true) × (controls t c s ≡ true)
unfolding controlled_by
of-controlled_by t c s i = (of-sessions t s (filter-in (controls t c) s (sessions t) i), filter-gives (controls t c) s (sessions t) i)

pub controlled-ascending : (t : Trail) (c : ConnId) → Ascending session_lt (controlled_by t c)
unfolding controlled_by
controlled-ascending t c = filter-ascending session_lt (controls t c) (sessions t) (sessions-ascending t)

pub in-kept_open_by : (t : Trail) (c : ConnId) (s : SessId) → is_open t s ≡ true → owns_fifo t c s ≡ true → IsIn s (kept_open_by t c)
unfolding kept_open_by
in-kept_open_by t c s o e = filter-keeps (owns_fifo t c) s (open_sessions t) e ((open-list t (open-session t)).has s o)

pub of-kept_open_by : (t : Trail) (c : ConnId) (s : SessId) → IsIn s (kept_open_by t c) → (is_open t s ≡ true) × (owns_fifo t c s ≡ true)
unfolding kept_open_by
of-kept_open_by t c s i =
    ((open-list t (open-session t)).gives s (filter-in (owns_fifo t c) s (open_sessions t) i), filter-gives (owns_fifo t c) s (open_sessions t) i)

pub kept-ascending : (t : Trail) (c : ConnId) → Ascending session_lt (kept_open_by t c)
unfolding kept_open_by
kept-ascending t c = filter-ascending session_lt (owns_fifo t c) (open_sessions t) (open-list t (open-session t)).ascending

pub in-locks_of : (t : Trail) (c : ConnId) (l : LockNo) → is_lock t l ≡ true → is_lock_of c (value t (key.Lock l)) ≡ true → IsIn l (locks_of t c)
unfolding locks_of
in-locks_of t c l a e = filter-keeps (λ r. is_lock_of c (value t (key.Lock r))) l (locks t) e ((locks-list t).has l a)

pub of-locks_of : (t : Trail) (c : ConnId) (l : LockNo) → IsIn l (locks_of t c) → (is_lock t l ≡ true) × (is_lock_of c (value t (key.Lock l)) ≡ true)
unfolding locks_of
of-locks_of t c l i = ((locks-list t).gives l (filter-in (λ r. is_lock_of c (value t (key.Lock r))) l (locks t) i), filter-gives (λ r. is_lock_of c (value t (key.Lock r))) l (locks t) i)

pub locks-ascending : (t : Trail) (c : ConnId) → Ascending lock_lt (locks_of t c)
unfolding locks_of
locks-ascending t c = filter-ascending lock_lt (λ r. is_lock_of c (value t (key.Lock r))) (locks t) (locks-list t).ascending

-- ---- what is a connection's was so before

-- what it controls
abbrev pub Rules : ConnId → Trail → Trail → Type 0
Rules c t u = (s : SessId) → is_session u s ≡ true → controls u c s ≡ true → (is_session t s ≡ true) × (controls t c s ≡ true)

-- what it keeps open
abbrev pub KeepsOpen : ConnId → Trail → Trail → Type 0
KeepsOpen c t u = (s : SessId) → is_open u s ≡ true → owns_fifo u c s ≡ true → (value u (key.Sess s) ≡ value t (key.Sess s)) × (owns_fifo t c s ≡ true)

abbrev pub HoldsLocks : ConnId → Trail → Trail → Type 0
HoldsLocks c t u = (l : LockNo) → is_lock u l ≡ true → is_lock_of c (value u (key.Lock l)) ≡ true → value u (key.Lock l) ≡ value t (key.Lock l)

-- what its sessions have taken
abbrev pub TakesLess : ConnId → Trail → Trail → Type 0
TakesLess c t u = (s : SessId) → IsIn s (controlled_by u c) ⊎ IsIn s (kept_open_by u c) → taken_length u s ≤ taken_length t s

pub record Follows (c : ConnId) (t u : Trail) : Type 0 where
  pub rules : Rules c t u
  pub same : (s : SessId) → is_open u s ≡ true → controls u c s ≡ true → value u (key.Sess s) ≡ value t (key.Sess s)
  pub kept : KeepsOpen c t u
  pub locks : HoldsLocks c t u
  pub takes : TakesLess c t u

fifo-is : (c : ConnId) (x : Fact) → is_fifo_of c x ≡ true → (s : SessId) × (x ≡ fact.Owned (owner.Fifo c s))
fifo-is c (fact.Owned (owner.Fifo b s)) e = (s, ap (λ (d : ConnId). fact.Owned (owner.Fifo d s)) (same-conn b c e))
fifo-is c _ e = cc

-- where there is no more than before, it is so for each connection
pub follows-falls : (c : ConnId) (t u : Trail) → Falls (value t) (value u) → Follows c t u
follows-falls c t u w = record {
  rules = λ s p e. (w.there s p, ap (is_controller_fact c) (w.controls s c (controller-is c (value u (key.Ctl s)) e)) ∙ same-refl c.0);
  same = λ s o e. w.opens s o;
  kept = λ s o e. (let i = fifo-is c (value u (key.Owner (fifo_in (value u (key.Sess s))))) e in (
    w.opens s o,
    ap (λ (x : Fact). is_fifo_of c (value t (key.Owner (fifo_in x)))) (sym (w.opens s o)) ∙ ap (is_fifo_of c) (w.fifos (fifo_in (value u (key.Sess s))) c i.0 i.1) ∙ same-refl c.0,
  ));
  locks = λ l p e. (let y = lock-in (value u (key.Lock l)) p in y.1 ∙ sym (w.locks l y.0 y.1));
  takes = λ s i. length-taken-less t u s (w.taken s);
}

pub controlled-in : (c : ConnId) (t u : Trail) → Rules c t u → (s : SessId) → IsIn s (controlled_by u c) → IsIn s (controlled_by t c)
controlled-in c t u w s i = (let p = of-controlled_by u c s i in let q = w s p.0 p.1 in in-controlled_by t c s q.0 q.1)

pub kept-in : (c : ConnId) (t u : Trail) → KeepsOpen c t u → (s : SessId) → IsIn s (kept_open_by u c) → IsIn s (kept_open_by t c)
kept-in c t u w s i = (let p = of-kept_open_by u c s i in let q = w s p.0 p.1 in in-kept_open_by t c s (ap is_open_fact (sym q.0) ∙ p.0) q.1)

locks-in : (c : ConnId) (t u : Trail) → HoldsLocks c t u → (l : LockNo) → IsIn l (locks_of u c) → IsIn l (locks_of t c)
locks-in c t u w l i = (let p = of-locks_of u c l i in let q = w l p.0 p.1 in in-locks_of t c l (ap is_lock_fact (sym q) ∙ p.0) (ap (is_lock_of c) (sym q) ∙ p.1))

pub controlled-less : (c : ConnId) (t u : Trail) → Rules c t u → length (controlled_by u c) ≤ length (controlled_by t c)
controlled-less c t u w = length-less session_lt session_order (controlled_by u c) (controlled_by t c) (controlled-ascending u c) (controlled-ascending t c) (controlled-in c t u w)

pub kept-less : (c : ConnId) (t u : Trail) → KeepsOpen c t u → length (kept_open_by u c) ≤ length (kept_open_by t c)
kept-less c t u w = length-less session_lt session_order (kept_open_by u c) (kept_open_by t c) (kept-ascending u c) (kept-ascending t c) (kept-in c t u w)

pub locks-less : (c : ConnId) (t u : Trail) → HoldsLocks c t u → length (locks_of u c) ≤ length (locks_of t c)
locks-less c t u w = length-less lock_lt lock_order (locks_of u c) (locks_of t c) (locks-ascending u c) (locks-ascending t c) (locks-in c t u w)

pub controlled-taken-less : (c : ConnId) (t u : Trail) → Rules c t u → TakesLess c t u → taken_by u (controlled_by u c) ≤ taken_by t (controlled_by t c)
controlled-taken-less c t u w l =
    taken-among t u (controlled_by u c) (controlled_by t c) (controlled-ascending u c) (controlled-ascending t c) (λ s i. l s (inl i)) (λ s i. inr (controlled-in c t u w s i))

pub kept-taken-less : (c : ConnId) (t u : Trail) → KeepsOpen c t u → TakesLess c t u → taken_by u (kept_open_by u c) ≤ taken_by t (kept_open_by t c)
kept-taken-less c t u w l =
    taken-among t u (kept_open_by u c) (kept_open_by t c) (kept-ascending u c) (kept-ascending t c) (λ s i. l s (inr i)) (λ s i. inr (kept-in c t u w s i))

pub follows-trans : (c : ConnId) (t u v : Trail) → Follows c t u → Follows c u v → Follows c t v
follows-trans c t u v p q = record {
  rules = λ s a e. (let x = q.rules s a e in p.rules s x.0 x.1);
  same = λ s o e. (let y = q.same s o e in let x = q.rules s (open-session v s o) e in y ∙ p.same s (ap is_open_fact (sym y) ∙ o) x.1);
  kept = λ s o e. (let x = q.kept s o e in let y = p.kept s (ap is_open_fact (sym x.0) ∙ o) x.1 in (x.0 ∙ y.0, y.1));
  locks = λ l a e. (let x = q.locks l a e in x ∙ p.locks l (ap is_lock_fact (sym x) ∙ a) (ap (is_lock_of c) (sym x) ∙ e));
  takes = λ s i. (let a = q.takes s i in
      let b = p.takes s (elim i [ inl x ↦ inl (controlled-in c u v q.rules s x) | inr x ↦ inr (kept-in c u v q.kept s x) ]) in omega arith);
}

-- a share but for a switch, and for the mark of the end itself
abbrev pub own : ConnId → Trail → ℕ
own c t =
    length (controlled_by t c) + 4 * length (kept_open_by t c) + 2 * length (locks_of t c)
    + 2 * taken_by t (controlled_by t c) + 2 * taken_by t (kept_open_by t c)

pub own-less : (c : ConnId) (t u : Trail) → Follows c t u → own c u ≤ own c t
own-less c t u w =
    let a = controlled-less c t u w.rules in let b = kept-less c t u w.kept in let l = locks-less c t u w.locks in
    let k = controlled-taken-less c t u w.rules w.takes in let m = kept-taken-less c t u w.kept w.takes in
    omega arith

-- ---- and so with who may complete a switch

pub either : {X : Type 0} (a b : Bool) → (a ≡ true → X) → (b ≡ true → X) → (a || b) ≡ true → X
either true b f g e = f refl
either false true f g e = g refl
either false false f g e = cc

-- who has the front had it before
pub has-front : (o : Option SessId) (c : ConnId) (t u : Trail) → Good none_out t → Good none_out u → Follows c t u → value u key.Vt ≡ value t key.Vt → active_on u seat0 ≡ o
    → has_session u c o ≡ true → has_session t c (active_on t seat0) ≡ true
has-front None c t u g n w v e h = cc
has-front (Some s) c t u g n w v e h =
    let f = front-some none_out u s n.holds e in
    let o = on-terminal-open (value u key.Vt) (value u (key.Sess s)) f in
    let same : value u (key.Sess s) ≡ value t (key.Sess s) = either (controls u c s) (owns_fifo u c s) (λ p. w.same s o p) (λ p. (w.kept s o p).0) h in
    let q : Fronted (value t) s = ap (λ (x : Fact). is_on_terminal x (value t (key.Sess s))) (sym v) ∙ ap (is_on_terminal (value u key.Vt)) (sym same) ∙ f in
    ap (has_session t c) (front-found none_out t s g.holds q)
    ∙ either (controls u c s) (owns_fifo u c s) (λ p. or-left (controls t c s) (owns_fifo t c s) (w.rules s (open-session u s o) p).1) (λ p. or-right (controls t c s) (owns_fifo t c s) (w.kept s o p).1) h

may-less : (a b : Bool) (m n : ℕ) → (a ≡ true → b ≡ true) → m ≤ n → cond a (4 * m + 4) 0 ≤ cond b (4 * n + 4) 0
may-less true true m n f l = omega arith
may-less true false m n f l = (let z : false ≡ true = f refl in cc)
may-less false true m n f l = omega arith
may-less false false m n f l = omega arith

switch-less : (t u : Trail) → Good none_out t → Lessens t u → (c : ConnId) → switch_share c u ≤ switch_share c t
switch-less t u g w c =
    may-less (is_number_fact (value u key.Pending) && has_session u c (active_on u seat0)) (is_number_fact (value t key.Pending) && has_session t c (active_on t seat0)) (taken_count u) (taken_count t)
    (λ e. (let p = both (is_number_fact (value u key.Pending)) (has_session u c (active_on u seat0)) e in
    let f = w.front p.0 in
    both-true (is_number_fact (value t key.Pending)) (has_session t c (active_on t seat0)) f.0 (has-front (active_on u seat0) c t u g w.good (follows-falls c t u w.falls) f.1 refl p.1)))
    (taken-less t u w.falls.there w.falls.taken)

pub share-less : (t u : Trail) → Good none_out t → Lessens t u → (c : ConnId) → share c u ≤ share c t
unfolding share
share-less t u g w c = (let a = own-less c t u (follows-falls c t u w.falls) in let s = switch-less t u g w c in omega arith)
