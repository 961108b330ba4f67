-- What the end of a connection does by itself makes at most as many marks as the need falls by.
use Rattle.std.proofs.Common.{◌≡◌, ◌≤◌, ◌+◌, ◌*◌, ◌||◌, ℕ, Bool, true, false, List, length, refl, ap, sym, ◌∙◌, subst, arith}
use Rattle.login_base.specs.declared.ids.SessId.{SessId}
use Rattle.login_base.specs.declared.ids.ConnId.{ConnId}
use Rattle.login_base.specs.declared.ids.HandleNo.{HandleNo}
use Rattle.login_base.specs.declared.ids.LockNo.{LockNo}
use Rattle.login_base.specs.declared.ids.DevNo.{DevNo}
use Rattle.login_model.specs.Names.{conn_lt, lock_lt, session_lt}
use Rattle.login_model.specs.Trail.{Trail, put, value}
use Rattle.login_model.specs.Where.{connections, is_connected, is_connected_fact, is_lock, is_lock_fact, is_open, is_session, is_session_fact, is_set, locks, open_sessions}
use Rattle.login_model.specs.Fresh.{is_open_fact}
use Rattle.login_model.specs.Devices.{is_handle_fact, is_taken}
use Rattle.login_model.specs.Full.{controlled_sessions, is_controlled_fact, taken_count}
use Rattle.login_laws.specs.Shapes.{is_absent, is_flag}
use Rattle.login_model.specs.Procedure.{each, kill, no, untake}
use Rattle.login_model.specs.declared.fact.Key.TheVariants as key
use Rattle.login_model.specs.declared.fact.Fact.{Fact}
use Rattle.login_model.specs.declared.fact.Fact.TheVariants as fact
use Rattle.login_model.specs.declared.fact.Owner.TheVariants as owner
use Rattle.login_model.specs.declared.lock.Lock.{Lock}
use Rattle.login_model.proofs.Keys.{both}
use Rattle.login_model.proofs.Values.{Facts, true-false}
use Rattle.login_laws.proofs.Holds.{none_out}
use Rattle.login_laws.proofs.SessionSteps.{open-there}
use Rattle.login_laws.proofs.Loops.{each-keeps}
use Rattle.login_laws.proofs.UnusedLaws.{at-most}
use Rattle.login_laws.proofs.Giving.{Good, Less, fewer-untake, untake-gone}
use Rattle.login_laws.proofs.Counts.{both-true, connections-list, count-less, is_controlled, is_ruled, locks-list, open-list, put-length, put-none, ruled-list, taken-gone, taken-less}

-- no more connect, control, keep open, lock and take than before
pub record Falls (f g : Facts) : Type 0 where
  pub connected : (c : ConnId) → is_connected_fact (g (key.Conn c)) ≡ true → is_connected_fact (f (key.Conn c)) ≡ true
  pub controls : (s : SessId) (c : ConnId) → g (key.Ctl s) ≡ fact.Controller c → f (key.Ctl s) ≡ fact.Controller c
  pub opens : (s : SessId) → is_open_fact (g (key.Sess s)) ≡ true → g (key.Sess s) ≡ f (key.Sess s)
  pub fifos : (h : HandleNo) (c : ConnId) (s : SessId) → g (key.Owner h) ≡ fact.Owned (owner.Fifo c s) → f (key.Owner h) ≡ fact.Owned (owner.Fifo c s)
  pub locks : (l : LockNo) (x : Lock) → g (key.Lock l) ≡ fact.Lock x → f (key.Lock l) ≡ fact.Lock x
  pub taken : (s : SessId) (d : DevNo) → is_handle_fact (g (key.Taken s d)) ≡ true → is_handle_fact (f (key.Taken s d)) ≡ true
  pub there : (s : SessId) → is_session_fact (g (key.Sess s)) ≡ true → is_session_fact (f (key.Sess s)) ≡ true

pub falls-refl : (f : Facts) → Falls f f
falls-refl f = record { connected = λ c e. e; controls = λ s c e. e; opens = λ s e. refl; fifos = λ h c s e. e; locks = λ l x e. e; taken = λ s d e. e; there = λ s e. e }

pub falls-opened : (f g : Facts) → Falls f g → (s : SessId) → is_open_fact (g (key.Sess s)) ≡ true → is_open_fact (f (key.Sess s)) ≡ true
falls-opened f g w s e = ap is_open_fact (sym (w.opens s e)) ∙ e

controller-in : (x : Fact) → is_controlled_fact x ≡ true → (c : ConnId) × (x ≡ fact.Controller c)
controller-in (fact.Controller c) e = (c, refl)
controller-in _ e = cc

pub falls-controlled : (f g : Facts) → Falls f g → (s : SessId) → is_controlled_fact (g (key.Ctl s)) ≡ true → is_controlled_fact (f (key.Ctl s)) ≡ true
falls-controlled f g w s e = (let i = controller-in (g (key.Ctl s)) e in ap is_controlled_fact (w.controls s i.0 i.1))

pub lock-in : (x : Fact) → is_lock_fact x ≡ true → (y : Lock) × (x ≡ fact.Lock y)
lock-in (fact.Lock y) e = (y, refl)
lock-in _ e = cc

pub falls-locked : (f g : Facts) → Falls f g → (l : LockNo) → is_lock_fact (g (key.Lock l)) ≡ true → is_lock_fact (f (key.Lock l)) ≡ true
falls-locked f g w l e = (let i = lock-in (g (key.Lock l)) e in ap is_lock_fact (w.locks l i.0 i.1))

pub falls-trans : (f g h : Facts) → Falls f g → Falls g h → Falls f h
falls-trans f g h p q = record {
  connected = λ c e. p.connected c (q.connected c e);
  controls = λ s c e. p.controls s c (q.controls s c e);
  opens = λ s e. q.opens s e ∙ p.opens s (falls-opened g h q s e);
  fifos = λ n c s e. p.fifos n c s (q.fifos n c s e);
  locks = λ l x e. p.locks l x (q.locks l x e);
  taken = λ s d e. p.taken s d (q.taken s d e);
  there = λ s e. p.there s (q.there s e);
}

pub handle-in : (x : Fact) → is_handle_fact x ≡ true → (h : HandleNo) × (x ≡ fact.Handle h)
handle-in (fact.Handle h) e = (h, refl)
handle-in _ e = cc

pub falls-less : (f g : Facts) → Less f g → Falls f g
falls-less f g l = (let k = l.keeps.facts in record {
  connected = λ c e. ap is_connected_fact (sym (k (key.Conn c) refl)) ∙ e;
  controls = λ s c e. sym (k (key.Ctl s) refl) ∙ e;
  opens = λ s e. k (key.Sess s) refl;
  fifos = λ h c s e. sym (k (key.Owner h) refl) ∙ e;
  locks = λ n x e. sym (k (key.Lock n) refl) ∙ e;
  taken = λ s d e. (let i = handle-in (g (key.Taken s d)) e in ap is_handle_fact (l.taken s d i.0 i.1));
  there = λ s e. ap is_session_fact (sym (k (key.Sess s) refl)) ∙ e;
})

-- what the need is made of, but for a switch and for what a lock's going may start
abbrev pub base : Trail → ℕ
base t = length (connections t) + length (controlled_sessions t) + 4 * taken_count t + 4 * length (open_sessions t) + length (locks t)

pub record Pays (t u : Trail) : Type 0 where
  pub good : Good none_out u
  pub falls : Falls (value t) (value u)
  pub sum : length u + base u ≤ length t + base t
  pub pending : value u key.Pending ≡ value t key.Pending

pub pays-refl : (t : Trail) → Good none_out t → Pays t t
pays-refl t g = record { good = g; falls = falls-refl (value t); sum = omega arith; pending = refl }

pub pays-trans : (t u v : Trail) → Pays t u → Pays u v → Pays t v
pays-trans t u v p q = (let a = p.sum in let b = q.sum in record { good = q.good; falls = falls-trans (value t) (value u) (value v) p.falls q.falls; sum = at-most (length v + base v) (length u + base u) (length t + base t) b a; pending = q.pending ∙ p.pending })

-- the counts, each no more than before
pub record Counted (t u : Trail) : Type 0 where
  pub connected : length (connections u) ≤ length (connections t)
  pub controlled : length (controlled_sessions u) ≤ length (controlled_sessions t)
  pub taken : taken_count u ≤ taken_count t
  pub opened : length (open_sessions u) ≤ length (open_sessions t)
  pub locked : length (locks u) ≤ length (locks t)

pub open-session : (t : Trail) (s : SessId) → is_open t s ≡ true → is_session t s ≡ true
open-session t s e = open-there (value t (key.Sess s)) e

pub controlled-session : (t : Trail) → Good none_out t → (s : SessId) → is_controlled t s ≡ true → is_session t s ≡ true
controlled-session t g s e = (let i = controller-in (value t (key.Ctl s)) e in open-there (value t (key.Sess s)) (g.holds.controls s i.0 i.1).1)

ruled-less : (t u : Trail) → Falls (value t) (value u) → (s : SessId) → is_ruled u s ≡ true → is_ruled t s ≡ true
ruled-less t u f s e = (let p = both (is_session u s) (is_controlled u s) e in both-true (is_session t s) (is_controlled t s) (f.there s p.0) (falls-controlled (value t) (value u) f s p.1))

pub counted : (t u : Trail) → Falls (value t) (value u) → Counted t u
counted t u f = record {
  connected = count-less conn_lt (is_connected u) (is_connected t) (connections u) (connections t) (connections-list u) (connections-list t) f.connected;
  controlled = count-less session_lt (is_ruled u) (is_ruled t) (controlled_sessions u) (controlled_sessions t) (ruled-list u) (ruled-list t) (ruled-less t u f);
  taken = taken-less t u f.there f.taken;
  opened = count-less session_lt (is_open u) (is_open t) (open_sessions u) (open_sessions t) (open-list u (open-session u)) (open-list t (open-session t)) (falls-opened (value t) (value u) f);
  locked = count-less lock_lt (is_lock u) (is_lock t) (locks u) (locks t) (locks-list u) (locks-list t) (falls-locked (value t) (value u) f);
}

-- ---- one device

pub absent-or : (a b : Bool) → (a || b) ≡ true → b ≡ false → a ≡ true
absent-or true b e n = refl
absent-or false b e n = absurd (true-false b e n)

pub absent-in : (x : Fact) → is_absent x ≡ true → x ≡ fact.Absent
absent-in fact.Absent e = refl
absent-in _ e = cc

pub unset-in : (x : Fact) → is_flag x ≡ true → is_set x ≡ false → x ≡ no
unset-in (fact.Flag true) e n = cc
unset-in (fact.Flag false) e n = refl
unset-in _ e n = cc

pub not-set : (b : Bool) → (b ≡ true → ⊥) → b ≡ false
not-set true n = absurd (n refl)
not-set false n = refl

pub untake-none : (s : SessId) (d : DevNo) (t : Trail) → Good none_out t → is_taken t s d ≡ false → untake s d t ≡ t
untake-none s d t g n =
    let a : value t (key.Taken s d) ≡ fact.Absent =
    absent-in (value t (key.Taken s d)) (absent-or (is_absent (value t (key.Taken s d))) (is_taken t s d) (g.holds.shaped (key.Taken s d)) n) in
    let b : value t (key.Awaited s d) ≡ no =
    unset-in (value t (key.Awaited s d)) (g.holds.shaped (key.Awaited s d)) (not-set (is_set (value t (key.Awaited s d))) (λ e.
    (let i = g.holds.awaits s d e in true-false (is_taken t s d) (ap is_handle_fact i.1) n))) in
    ap (λ (x : Fact). put (key.Taken s d) fact.Absent (put (key.Awaited s d) no (kill x t))) a
    ∙ ap (λ (u : Trail). put (key.Taken s d) fact.Absent u) (put-none (key.Awaited s d) no t b refl)
    ∙ put-none (key.Taken s d) fact.Absent t a refl

pub kill-length : (x : Fact) (t : Trail) → length (kill x t) ≤ length t + 1
kill-length (fact.Handle h) t = put-length (key.Live h) no t
kill-length _ t = omega arith

-- one less is taken
pub untake-fewer : (s : SessId) (d : DevNo) (t : Trail) → Good none_out t → is_taken t s d ≡ true → taken_count (untake s d t) + 1 ≤ taken_count t
untake-fewer s d t g e =
    let u = untake s d t in
    let w = fewer-untake none_out s d t g in
    let i = handle-in (value t (key.Taken s d)) e in
    let there : is_session t s ≡ true = open-there (value t (key.Sess s)) (g.holds.takes s d i.0 i.1).3 in
    let gone = not-set (is_taken u s d) (λ z. (let j = handle-in (value u (key.Taken s d)) z in untake-gone s d t j.0 j.1)) in
    taken-gone t u (λ r. ap is_session_fact (w.less.keeps.facts (key.Sess r) refl)) (falls-less (value t) (value u) w.less).taken s d there gone e

untake-some : (s : SessId) (d : DevNo) (t : Trail) → Good none_out t → is_taken t s d ≡ true → Pays t (untake s d t)
untake-some s d t g e =
    let u = untake s d t in
    let w = fewer-untake none_out s d t g in
    let f = falls-less (value t) (value u) w.less in
    let c = counted t u f in
    let c1 = c.connected in let c2 = c.controlled in let c4 = c.opened in let c5 = c.locked in
    let c3 = untake-fewer s d t g e in
    let a = kill (value t (key.Taken s d)) t in
    let b = put (key.Awaited s d) no a in
    let m1 = kill-length (value t (key.Taken s d)) t in let m2 = put-length (key.Awaited s d) no a in let m3 = put-length (key.Taken s d) fact.Absent b in
    record { good = w.good; falls = f; sum = omega arith; pending = w.less.keeps.facts key.Pending refl }

untake-by : (b : Bool) (s : SessId) (d : DevNo) (t : Trail) → is_taken t s d ≡ b → Good none_out t → Pays t (untake s d t)
untake-by true s d t e g = untake-some s d t g e
untake-by false s d t e g = (let P : Trail → Type 0 = λ u. Pays t u in subst P (sym (untake-none s d t g e)) (pays-refl t g))

pub pays-untake : (s : SessId) (d : DevNo) (t : Trail) → Good none_out t → Pays t (untake s d t)
pays-untake s d t g = untake-by (is_taken t s d) s d t refl g

pub pays-each : {A : Type 0} (f : A → Trail → Trail) → ((x : A) (t : Trail) → Good none_out t → Pays t (f x t)) → (xs : List A) (t : Trail) → Good none_out t → Pays t (each f xs t)
pays-each f step xs t g = each-keeps (Pays t) f xs (λ x u i w. pays-trans t u (f x u) w (step x u w.good)) t (pays-refl t g)
