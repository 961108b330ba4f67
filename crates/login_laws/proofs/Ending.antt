-- Handles that are closed, sessions that end, and connections that do.
use Rattle.std.proofs.Common.{◌≡◌, ℕ, ◌==◌, Bool, true, false, cond, refl, ap, sym, ◌∙◌, arith, inl, inr}
use Rattle.login_base.specs.declared.ids.SessId.{SessId}
use Rattle.login_base.specs.declared.ids.ConnId.{ConnId}
use Rattle.login_base.specs.declared.ids.HandleNo.{HandleNo}
use Rattle.login_base.specs.declared.ids.LockNo.{LockNo}
use Rattle.login_base.specs.declared.ids.DevNo.{DevNo}
use Rattle.login_base.specs.declared.ids.Uid.{Uid}
use Rattle.login_model.specs.Trail.{Trail, value, put, tell_all}
use Rattle.login_model.specs.Fresh.{is_open_fact}
use Rattle.login_model.specs.Where.{is_lock, is_lock_fact, is_session_fact, is_session_of, locks, open_sessions, sessions}
use Rattle.login_model.specs.Names.{lock_in, lock_lt, names}
use Rattle.login_model.specs.Facts.{holds_back}
use Rattle.login_model.specs.declared.lock.Lock.{Lock}
use Rattle.login_model.specs.declared.lock.LockMode.TheVariants.{Block}
use Rattle.login_model.specs.Policy.{controls, is_controller_fact}
use Rattle.login_model.specs.Procedure.{each, in_phase, release, shut, untake}
use Rattle.login_model.specs.Direct.{close, close_handle, close_owned, controlled_by, disconnect, end_sessions, exit, fifo_in, is_fifo_of, is_lock_of, is_this_handle, kept_open_by, locks_of, owns_fifo, user_or_root, unlock}
use Rattle.login_model.specs.declared.setup.Setup.{Setup}
use Rattle.login_model.specs.declared.session.Phase.TheVariants.{Gone}
use Rattle.login_model.specs.declared.mark.Notice.TheVariants.{SessionRemoved}
use Rattle.login_model.specs.declared.mark.Whom.TheVariants.{All}
use Rattle.login_model.specs.declared.fact.Key.{Key}
use Rattle.login_model.specs.declared.fact.Key.TheVariants as key
use Rattle.login_model.specs.declared.fact.Fact.{Fact}
use Rattle.login_model.specs.declared.fact.Fact.TheVariants as fact
use Rattle.login_model.specs.declared.fact.Owner.{Owner}
use Rattle.login_model.specs.declared.fact.Owner.TheVariants as owner
use Rattle.login_model.proofs.Keys.{same-number, same-session, test}
use Rattle.login_model.proofs.InOrder.{IsIn, filter-keeps, locks-enumerated}
use Rattle.login_model.proofs.Values.{Facts, upd, upd-same, upd-other, was, given, apart, owner-one, same-refl, true-false, value-put, values-put, values-say}
use Rattle.login_laws.proofs.Holds.{Exempt, none_out, Opened, Holds, holds-all, holds-more, shaped-put}
use Rattle.login_laws.proofs.SessionSteps.{KeptBy, holds-shut, holds-unlinked, open-there, phase-fits}
use Rattle.login_laws.proofs.Loops.{each-does, each-keeps, in-open_sessions, in-sessions}
use Rattle.login_laws.proofs.UnusedLaws.{handle-given, put-handles, session-given, unused-handle, unused-session, unused-start}
use Rattle.login_laws.proofs.Giving.{Fewer, Good, Keeps, fewer-refl, fewer-untake, untake-gone, good-put, good-say, keeps-put, keeps-refl, keeps-trans, released}
use Rattle.login_laws.proofs.Closing.{ShutAll, shut-all-refl, shut-does, shut-one}
use Rattle.login_laws.proofs.UserMoves.{but_user, good-but, left}

-- ---- a handle is closed

-- a handle that no session has a device taken with
abbrev pub Idle : Facts → HandleNo → Type 0
Idle f h = (s : SessId) (d : DevNo) → f (key.Taken s d) ≡ fact.Handle h → ⊥

closed-other : (f : Facts) (h g : HandleNo) (x : Fact) → (h ≡ g → ⊥) → upd (key.Owner h) x f (key.Owner g) ≡ f (key.Owner g)
closed-other f h g x n = upd-other (key.Owner h) (key.Owner g) x f (apart (key.Owner h) (key.Owner g) (λ z. n (owner-one h g z)))

-- only the exempt have it as their fifo
holds-handle-closed : (out : Exempt) (h : HandleNo) (f : Facts) → Idle f h → ((s : SessId) → out.0 s ≡ false → (c : ConnId) → f (key.Owner h) ≡ fact.Owned (owner.Fifo c s) → ⊥)
    → ((l : LockNo) (x : Lock) → f (key.Lock l) ≡ fact.Lock x → f (key.Owner h) ≡ fact.Owned (owner.Lock x.holder l) → ⊥)
    → Holds out f → Holds out (upd (key.Owner h) (fact.Owned owner.Closed) f)
holds-handle-closed out h f n m k w =
    let x = fact.Owned owner.Closed in
    record {
      shaped = shaped-put (key.Owner h) x f w.shaped refl;
      controls = w.controls;
      fifos = λ s o e. (let i = w.fifos s o e in
          (i.0, closed-other f h (fifo_in (f (key.Sess s))) x (λ z. m s e i.0 (ap (λ (g : HandleNo). f (key.Owner g)) z ∙ i.1)) ∙ i.1, i.2));
      takes = λ s d g e. (let i = w.takes s d g e in
          (i.0, i.1, i.2, i.3, i.4, i.5, i.6, closed-other f h g x (λ z. n s d (e ∙ ap fact.Handle (sym z))) ∙ i.7));
      lives = λ g e. (let i = w.lives g e in
          (i.0, i.1, i.2, closed-other f h g x (λ z. n i.1 i.2 (i.4 ∙ ap fact.Handle (sym z))) ∙ i.3, i.4, i.5));
      awaits = w.awaits;
      terminals = w.terminals;
      seats = w.seats;
      locks = λ l y e. (let i = w.locks l y e in
          (i.0, i.1, closed-other f h i.1 x (λ z. k l y e (ap (λ (g : HandleNo). f (key.Owner g)) z ∙ i.2)) ∙ i.2));
      operation = w.operation;
      users = w.users;
    }

good-handle-closed : (out : Exempt) (h : HandleNo) (o : Owner) (t : Trail) → value t (key.Owner h) ≡ fact.Owned o → Idle (value t) h
    → ((s : SessId) → out.0 s ≡ false → (c : ConnId) → value t (key.Owner h) ≡ fact.Owned (owner.Fifo c s) → ⊥)
    → ((l : LockNo) (x : Lock) → value t (key.Lock l) ≡ fact.Lock x → value t (key.Owner h) ≡ fact.Owned (owner.Lock x.holder l) → ⊥) → Good out t → Good out (close_handle h t)
good-handle-closed out h o t e n m k g =
    let below = handle-given (key.Owner h) h t g.unused refl (λ z. (let c = sym z ∙ e in cc)) in
    let more = put-handles (key.Owner h) (fact.Owned owner.Closed) t in
    good-put out (key.Owner h) (fact.Owned owner.Closed) t (holds-handle-closed out h (value t) n m k g.holds)
    (unused-handle (key.Owner h) (fact.Owned owner.Closed) h t refl refl (omega arith) below g.unused)

-- all but one session
abbrev pub but_session : SessId → Exempt
but_session s = ((λ r. s.0 == r.0), (λ u. false), (λ n. false))

fifo-one : (c b : ConnId) (s r : SessId) → fact.Owned (owner.Fifo c s) ≡ fact.Owned (owner.Fifo b r) → s ≡ r
fifo-one c b s r e = cc

-- the session of a fifo is shut
close-fifo : (h : HandleNo) (c : ConnId) (s : SessId) (t : Trail) → value t (key.Owner h) ≡ fact.Owned (owner.Fifo c s) → Good none_out t → Good none_out (shut s (close_handle h t))
close-fifo h c s t e g =
    let out = but_session s in
    let w : Good out t = record { holds = holds-more none_out out (value t) (λ r x. refl) (λ u x. refl) (λ n x. refl) g.holds; unused = g.unused } in
    let v = close_handle h t in
    let a = good-handle-closed out h (owner.Fifo c s) t e
    (λ r d x. (let i = g.holds.takes r d h x in let z = sym e ∙ i.7 in cc))
    (λ r x b y. true-false (s.0 == r.0) (ap (λ (m : SessId). s.0 == m.0) (sym (fifo-one c b s r (sym e ∙ y))) ∙ same-refl s.0) x)
    (λ l x a y. (let z = sym e ∙ y in cc)) w in
    let d = shut-does out s v a in
    record {
      holds = holds-all out (value (shut s v))
          (λ r x o. absurd (d.closed (ap (λ (m : SessId). is_open_fact (value (shut s v) (key.Sess m))) (same-session s r x) ∙ o)))
          (λ u x. absurd (let z : false ≡ true = x in cc)) (λ n x. absurd (let z : false ≡ true = x in cc)) d.good.holds;
      unused = d.good.unused;
    }

-- a device that is taken with it is not taken
untake-by : (b : Bool) (h : HandleNo) (s : SessId) (d : DevNo) (t : Trail) → is_this_handle h (value t (key.Taken s d)) ≡ b → Good none_out t → Fewer none_out t (cond b (untake s d t) t)
untake-by true h s d t e g = fewer-untake none_out s d t g
untake-by false h s d t e g = fewer-refl none_out t g

handle-is : (h : HandleNo) (x : Fact) → x ≡ fact.Handle h → is_this_handle h x ≡ true
handle-is h x e = ap (is_this_handle h) e ∙ same-refl h.0

untaken-by : (b : Bool) (h : HandleNo) (s : SessId) (d : DevNo) (t : Trail) → is_this_handle h (value t (key.Taken s d)) ≡ b → value (cond b (untake s d t) t) (key.Taken s d) ≡ fact.Handle h → ⊥
untaken-by true h s d t e p = untake-gone s d t h p
untaken-by false h s d t e p = true-false (is_this_handle h (value t (key.Taken s d))) (handle-is h (value t (key.Taken s d)) p) e

close-device : (h : HandleNo) (c : ConnId) (s : SessId) (d : DevNo) (t : Trail) → value t (key.Owner h) ≡ fact.Owned (owner.Device c s d) → Good none_out t
    → Good none_out (close_handle h (cond (is_this_handle h (value t (key.Taken s d))) (untake s d t) t))
close-device h c s d t e g =
    let b = is_this_handle h (value t (key.Taken s d)) in
    let v = cond b (untake s d t) t in
    let w = untake-by b h s d t refl g in
    let o : value v (key.Owner h) ≡ fact.Owned (owner.Device c s d) = w.less.keeps.facts (key.Owner h) refl ∙ e in
    good-handle-closed none_out h (owner.Device c s d) v o
    (λ r q x. (let i = w.good.holds.takes r q h x in
    let z : fact.Owned (owner.Device c s d) ≡ fact.Owned (owner.Device i.0 r q) = sym o ∙ i.7 in
    let k : key.Taken r q ≡ key.Taken s d = cc in
    untaken-by b h s d t refl (ap (value v) (sym k) ∙ x)))
    (λ r x a y. (let z = sym o ∙ y in cc)) (λ l x a y. (let z = sym o ∙ y in cc)) w.good

holds-lock-gone : (out : Exempt) (l : LockNo) (f : Facts) → Holds out f → Holds out (upd (key.Lock l) fact.Absent f)
holds-lock-gone out l f h = record {
  shaped = shaped-put (key.Lock l) fact.Absent f h.shaped refl;
  controls = h.controls;
  fifos = h.fifos;
  takes = h.takes;
  lives = h.lives;
  awaits = h.awaits;
  terminals = h.terminals;
  seats = h.seats;
  locks = λ r x e. elim (given (key.Lock l) (key.Lock r) fact.Absent (fact.Lock x) f e) [ inl q ↦ (let z = q.1 in cc) | inr q ↦ h.locks r x q.1 ];
  operation = (h.operation.0, λ k since e i. h.operation.1 k since e (elim (was (holds_back k Block) (key.Lock l) (key.Lock i.0) fact.Absent f i.1) [ inl q ↦ (let z = q.1 in cc) | inr q ↦ (i.0, q.1) ]));
  users = h.users;
}

pub good-lock-gone : (out : Exempt) (l : LockNo) (t : Trail) → Good out t → Good out (put (key.Lock l) fact.Absent t)
good-lock-gone out l t g = good-put out (key.Lock l) fact.Absent t (holds-lock-gone out l (value t) g.holds) (unused-start (key.Lock l) t tt g.unused)

lock-one : (c b : ConnId) (l k : LockNo) → fact.Owned (owner.Lock c l) ≡ fact.Owned (owner.Lock b k) → l ≡ k
lock-one c b l k e = cc

-- a lock that is gone is no other
lock-left : (l k : LockNo) (x : Lock) (t : Trail) → value (put (key.Lock l) fact.Absent t) (key.Lock k) ≡ fact.Lock x → l ≡ k → ⊥
lock-left l k x t e q =
    (let z : fact.Absent ≡ fact.Lock x = sym (upd-same (key.Lock l) fact.Absent (value t)) ∙ ap (λ (r : LockNo). upd (key.Lock l) fact.Absent (value t) (key.Lock r)) q ∙ sym (value-put (key.Lock l) (key.Lock k) fact.Absent t) ∙ e in cc)

close-lock : (h : HandleNo) (c : ConnId) (l : LockNo) (t : Trail) → value t (key.Owner h) ≡ fact.Owned (owner.Lock c l) → Good none_out t → Good none_out (close_handle h (put (key.Lock l) fact.Absent t))
close-lock h c l t e g =
    let v = put (key.Lock l) fact.Absent t in
    let w = good-lock-gone none_out l t g in
    let o : value v (key.Owner h) ≡ fact.Owned (owner.Lock c l) = value-put (key.Lock l) (key.Owner h) fact.Absent t ∙ e in
    good-handle-closed none_out h (owner.Lock c l) v o
    (λ r q x. (let i = w.holds.takes r q h x in let z = sym o ∙ i.7 in cc)) (λ r x a y. (let z = sym o ∙ y in cc)) (λ k x a y. lock-left l k x t a (lock-one c x.holder l k (sym o ∙ y))) w

close-by : (x : Fact) (h : HandleNo) (t : Trail) → value t (key.Owner h) ≡ x → Good none_out t → Good none_out (close_owned h x t)
close-by (fact.Owned (owner.Fifo c s)) h t e g = close-fifo h c s t e g
close-by (fact.Owned (owner.Lock c l)) h t e g = close-lock h c l t e g
close-by (fact.Owned (owner.Device c s d)) h t e g = close-device h c s d t e g
close-by _ h t e g = g

pub good-close : (h : HandleNo) (t : Trail) → Good none_out t → Good none_out (close h t)
unfolding close
good-close h t g = close-by (value t (key.Owner h)) h t refl g

-- ---- the last process of a session is gone

gone-there : (x : Fact) → is_session_fact (in_phase Gone x) ≡ true → ⊥
gone-there (fact.Session x) e = cc
gone-there _ e = cc

gone-open : (x : Fact) → is_open_fact (in_phase Gone x) ≡ true → ⊥
gone-open (fact.Session x) e = cc
gone-open _ e = cc

user-of : (n : ℕ) (x : Fact) → is_session_of n x ≡ true → (user_or_root x).0 ≡ n
user-of n (fact.Session x) e = same-number x.uid.0 n e
user-of n _ e = cc

of-user : (x : Fact) → is_session_fact x ≡ true → is_session_of (user_or_root x).0 x ≡ true
of-user (fact.Session x) e = same-refl x.uid.0
of-user _ e = cc

pub good-exit : (U : Setup) (s : SessId) (t : Trail) → is_session_fact (value t (key.Sess s)) ≡ true → Good none_out t → Good none_out (exit U s t)
unfolding exit
good-exit U s t there g =
    let u = user_or_root (value t (key.Sess s)) in
    let v = shut s t in
    let d = shut-does none_out s t g in
    let f = value v in
    let a = good-but u v d.good in
    let y = in_phase Gone (f (key.Sess s)) in
    let p = put (key.Sess s) y v in
    let m = SessionRemoved s in
    let here : is_session_fact (f (key.Sess s)) ≡ true = d.there ∙ there in
    let given_out = session-given (key.Sess s) s v d.good.unused refl (λ z. (let c : is_session_fact fact.Absent ≡ true = ap is_session_fact (sym z) ∙ here in cc)) in
    let mine = λ (w : Uid) (e : (but_user u).1 w ≡ false) (k : KeptBy (f (key.Sess s)) w). (let z : ⊥ =
    true-false (u.0 == w.0) (ap (λ (n : ℕ). u.0 == n) (sym (user-of w.0 (value t (key.Sess s)) (sym (d.theirs w.0) ∙ k.1))) ∙ same-refl u.0) e in z) in
    let b = good-put (but_user u) (key.Sess s) y v
    (holds-shut (but_user u) s y f (λ q h e. d.closed (d.good.holds.takes s q h e).3) (λ c e. d.closed (d.good.holds.controls s c e).1) (λ seat e. d.closed (d.good.holds.seats.3 seat s e).0)
    (gone-open (f (key.Sess s))) (phase-fits s Gone (f (key.Sess s)) here)
    (λ w e. ((λ k. absurd (gone-there (f (key.Sess s)) k.0)), (λ k. absurd (mine w e k)))) a.holds)
    (unused-session (key.Sess s) y s v refl refl given_out d.good.unused) in
    let path : value (tell_all m p) ≡ upd (key.Sess s) y f = values-say All m p ∙ values-put (key.Sess s) y v in
    let known_before : f (key.User u) ≡ fact.Known = d.good.holds.users.0 u refl (inl (s, here, d.theirs u.0 ∙ of-user (value t (key.Sess s)) there)) in
    left U u (tell_all m p) (λ k. ap (λ (h : Facts). h (key.User u)) path ∙ known_before) (good-say (but_user u) All m p b)

-- ---- a connection ends

abbrev pub NoControl : ConnId → Facts → Type 0
NoControl c f = (s : SessId) → f (key.Ctl s) ≡ fact.Controller c → ⊥

-- some gave up control
pub record Freed (t u : Trail) : Type 0 where
  pub good : Good none_out u
  pub falls : (s : SessId) (c : ConnId) → value u (key.Ctl s) ≡ fact.Controller c → value t (key.Ctl s) ≡ fact.Controller c

pub freed-one : (s : SessId) (t u : Trail) → Freed t u → Freed t (release s u)
freed-one s t u w =
    let r = released none_out s u w.good in
    record {
      good = r.good;
      falls = λ q c e. elim (test (s.0 == q.0)) [
        | inl z ↦ (let x : fact.Absent ≡ fact.Controller c = sym r.controller ∙ ap (λ (m : SessId). value (release s u) (key.Ctl m)) (same-session s q z) ∙ e in cc)
        | inr n ↦ w.falls q c (sym (r.others q (λ z. true-false (s.0 == q.0) (ap (λ (m : SessId). s.0 == m.0) (sym z) ∙ same-refl s.0) n)) ∙ e)
      ];
    }

in-controlled : (t : Trail) (c : ConnId) (s : SessId) → is_session_fact (value t (key.Sess s)) ≡ true → value t (key.Ctl s) ≡ fact.Controller c → IsIn s (controlled_by t c)
unfolding controlled_by
in-controlled t c s a e = filter-keeps (controls t c) s (sessions t) (ap (is_controller_fact c) e ∙ same-refl c.0) (in-sessions t s a)

all-freed : (c : ConnId) (t : Trail) → Good none_out t → Freed t (each release (controlled_by t c) t)
all-freed c t g = each-keeps (Freed t) release (controlled_by t c) (λ s u i w. freed-one s t u w) t (record { good = g; falls = λ s b e. e })

none-controlled : (c : ConnId) (t : Trail) → Good none_out t → NoControl c (value (each release (controlled_by t c) t))
none-controlled c t g s e =
    let old = (all-freed c t g).falls s c e in
    each-does (Freed t) (λ x u. value u (key.Ctl x) ≡ fact.Controller c → ⊥) release
    (λ x u w. freed-one x t u w)
    (λ x u w p. (let r = released none_out x u w.good in let z : fact.Absent ≡ fact.Controller c = sym r.controller ∙ p in cc))
    (λ x y u w n p. n ((freed-one y u u (record { good = w.good; falls = λ q b z. z })).falls x c p))
    (controlled_by t c) t (record { good = g; falls = λ q b z. z }) s
    (in-controlled t c s (open-there (value t (key.Sess s)) (g.holds.controls s c old).1) old) e

in-kept : (t : Trail) (c : ConnId) (s : SessId) → Opened (value t) s → value t (key.Owner (fifo_in (value t (key.Sess s)))) ≡ fact.Owned (owner.Fifo c s) → IsIn s (kept_open_by t c)
unfolding kept_open_by
in-kept t c s o e =
    filter-keeps (owns_fifo t c) s (open_sessions t) (ap (is_fifo_of c) e ∙ same-refl c.0)
    (in-open_sessions t s (open-there (value t (key.Sess s)) o) o)

-- no open session is kept so
abbrev pub NoFifo : ConnId → Facts → Type 0
NoFifo c f = (s : SessId) → Opened f s → f (key.Owner (fifo_in (f (key.Sess s)))) ≡ fact.Owned (owner.Fifo c s) → ⊥

none-kept : (c : ConnId) (t : Trail) → Good none_out t → NoFifo c (value (end_sessions c t))
none-kept c t g s o e =
    let v = end_sessions c t in
    let all : ShutAll none_out t v = each-keeps (ShutAll none_out t) shut (kept_open_by t c) (λ x u i w. shut-one none_out x t u w) t (shut-all-refl none_out t g) in
    let w = all.opens s o in
    let old : value t (key.Owner (fifo_in (value t (key.Sess s)))) ≡ fact.Owned (owner.Fifo c s) =
    sym (all.keeps.facts (key.Owner (fifo_in (value t (key.Sess s)))) refl) ∙ ap (λ (x : Fact). value v (key.Owner (fifo_in x))) (sym w.1) ∙ e in
    each-does (ShutAll none_out t) (λ x u. Opened (value u) x → ⊥) shut
    (λ x u k. shut-one none_out x t u k)
    (λ x u k. (shut-does none_out x u k.good).closed)
    (λ x y u k n p. n ((shut-one none_out y u u (shut-all-refl none_out u k.good)).opens x p).0)
    (kept_open_by t c) t (shut-all-refl none_out t g) s (in-kept t c s w.0 old) o

-- the locks that go
abbrev pub is_lock_key : Key → Bool
is_lock_key (key.Lock l) = true
is_lock_key _ = false

pub record Unlocked (t u : Trail) : Type 0 where
  pub good : Good none_out u
  pub keeps : Keeps is_lock_key (value t) (value u)
  pub falls : (l : LockNo) (x : Lock) → value u (key.Lock l) ≡ fact.Lock x → value t (key.Lock l) ≡ fact.Lock x

pub unlocked-one : (l : LockNo) (t u : Trail) → Unlocked t u → Unlocked t (put (key.Lock l) fact.Absent u)
unlocked-one l t u w =
    record {
      good = good-lock-gone none_out l u w.good;
      keeps = keeps-trans is_lock_key (value t) (value u) (value (put (key.Lock l) fact.Absent u)) w.keeps (keeps-put is_lock_key (key.Lock l) fact.Absent u refl);
      falls = λ r x e. elim (given (key.Lock l) (key.Lock r) fact.Absent (fact.Lock x) (value u) (sym (value-put (key.Lock l) (key.Lock r) fact.Absent u) ∙ e)) [ inl q ↦ (let z = q.1 in cc) | inr q ↦ w.falls r x q.1 ];
    }

pub unlocked-refl : (t : Trail) → Good none_out t → Unlocked t t
unlocked-refl t g = record { good = g; keeps = keeps-refl is_lock_key (value t); falls = λ l x e. e }

unlocked : (c : ConnId) (t : Trail) → Good none_out t → Unlocked t (unlock c t)
unlocked c t g = each-keeps (Unlocked t) (λ l u. put (key.Lock l) fact.Absent u) (locks_of t c) (λ l u i w. unlocked-one l t u w) t (unlocked-refl t g)

in-locks_of : (t : Trail) (c : ConnId) (l : LockNo) (x : Lock) → value t (key.Lock l) ≡ fact.Lock x → c ≡ x.holder → IsIn l (locks_of t c)
unfolding locks_of locks
in-locks_of t c l x e q =
    filter-keeps (λ r. is_lock_of c (value t (key.Lock r))) l (locks t) (ap (is_lock_of c) e ∙ ap (λ (b : ConnId). x.holder.0 == b.0) q ∙ same-refl x.holder.0)
    (filter-keeps (is_lock t) l (names lock_lt lock_in t) (ap is_lock_fact e) ((locks-enumerated t).complete l (ap is_lock_fact e)))

-- none of its locks stands
none-locked : (c : ConnId) (t : Trail) → Good none_out t → (l : LockNo) (x : Lock) → value (unlock c t) (key.Lock l) ≡ fact.Lock x → c ≡ x.holder → ⊥
none-locked c t g l x e q =
    each-does (Unlocked t) (λ r u. (y : Lock) → value u (key.Lock r) ≡ fact.Lock y → ⊥) (λ r u. put (key.Lock r) fact.Absent u)
    (λ r u w. unlocked-one r t u w)
    (λ r u w y z. lock-left r r y u z refl)
    (λ r s u w n y z. n y ((unlocked-one s u u (unlocked-refl u w.good)).falls r y z))
    (locks_of t c) t (unlocked-refl t g) l (in-locks_of t c l x ((unlocked c t g).falls l x e) q) x e

pub good-disconnect : (c : ConnId) (t : Trail) → Good none_out t → Good none_out (disconnect c t)
unfolding disconnect
good-disconnect c t g =
    let t1 = each release (controlled_by t c) t in
    let a = all-freed c t g in
    let t2 = end_sessions c t1 in
    let all : ShutAll none_out t1 t2 = each-keeps (ShutAll none_out t1) shut (kept_open_by t1 c) (λ x u i w. shut-one none_out x t1 u w) t1 (shut-all-refl none_out t1 a.good) in
    let t3 = unlock c t2 in
    let w = unlocked c t2 all.good in
    let k = w.keeps.facts in
    good-put none_out (key.Conn c) fact.Absent t3
    (holds-unlinked none_out c (value t3)
    (λ s e. none-controlled c t g s (all.controls s c (sym (k (key.Ctl s) refl) ∙ e)))
    (λ s o x i z. none-kept c t1 a.good s (ap is_open_fact (sym (k (key.Sess s) refl)) ∙ o)
    (ap (λ (y : Fact). value t2 (key.Owner (fifo_in y))) (sym (k (key.Sess s) refl)) ∙ sym (k (key.Owner (fifo_in (value t3 (key.Sess s)))) refl) ∙ i.1 ∙ ap (λ (b : ConnId). fact.Owned (owner.Fifo b s)) (sym z)))
    (none-locked c t2 all.good)
    w.good.holds)
    (unused-start (key.Conn c) t3 tt w.good.unused)
