-- The end of a connection pays for its marks.
use Rattle.std.proofs.Common.{◌≡◌, ◌≤◌, ◌+◌, ℕ, Bool, true, false, cond, Option, Some, None, List, length, ◌==◌, refl, ap, sym, ◌∙◌, subst, arith, inl, inr}
use Rattle.std.specs.Str.{bytes_eq}
use Rattle.login_base.specs.declared.ids.SessId.{SessId}
use Rattle.login_base.specs.declared.ids.ConnId.{ConnId}
use Rattle.login_base.specs.declared.ids.LockNo.{LockNo}
use Rattle.login_model.specs.Names.{conn_lt, lock_lt, session_lt}
use Rattle.login_model.specs.Start.{seat0}
use Rattle.login_model.specs.Trail.{Trail, put, value}
use Rattle.login_model.specs.Where.{connections, is_active, is_connected, is_connected_fact, is_lock, is_lock_fact, is_open, is_session_fact, locks, open_sessions, seat_of_session}
use Rattle.login_model.specs.Fresh.{is_open_fact}
use Rattle.login_model.specs.Devices.{is_handle_fact, taken_devices}
use Rattle.login_model.specs.Full.{controlled_sessions, is_controlled_fact}
use Rattle.login_laws.specs.Shapes.{is_absent}
use Rattle.login_model.specs.Procedure.{each, if_some, in_phase, leave_seat, release, set_phase, shut, untake}
use Rattle.login_model.specs.Direct.{controlled_by, disconnect, end_sessions, kept_open_by, locks_of, unlock}
use Rattle.login_model.specs.declared.session.Phase.TheVariants.{Closing}
use Rattle.login_model.specs.declared.mark.Notice.TheVariants as notice
use Rattle.login_model.specs.declared.mark.Whom.TheVariants.{All}
use Rattle.login_model.specs.declared.fact.Key.{Key}
use Rattle.login_model.specs.declared.fact.Key.TheVariants as key
use Rattle.login_model.specs.declared.fact.Fact.TheVariants as fact
use Rattle.login_model.proofs.Keys.{same-session, test}
use Rattle.login_model.proofs.Values.{Facts, given, same-refl, true-false, upd, upd-same, value-put, values-put, values-say, was}
use Rattle.login_laws.proofs.Holds.{none_out}
use Rattle.login_laws.proofs.Giving.{Good, Keeps, keeps-put, keeps-trans, released}
use Rattle.login_laws.proofs.Closing.{Shut, shut-does}
use Rattle.login_laws.proofs.Ending.{good-lock-gone}
use Rattle.login_laws.proofs.Counts.{connections-list, controlled-list, count-gone, is_controlled, locks-list, open-list, put-length, put-none}
use Rattle.login_laws.proofs.Paying.{Falls, Pays, absent-in, absent-or, controlled-session, counted, falls-controlled, falls-locked, falls-opened, not-set, open-session, pays-each, pays-refl, pays-trans, pays-untake}

-- ---- control

pub falls-control : (s : SessId) (f : Facts) → Falls f (upd (key.Ctl s) fact.Absent f)
falls-control s f = record {
  connected = λ c e. e;
  controls = λ r b e. elim (given (key.Ctl s) (key.Ctl r) fact.Absent (fact.Controller b) f e) [ inl q ↦ (let z = q.1 in cc) | inr q ↦ q.1 ];
  opens = λ r e. refl;
  fifos = λ h b r e. e;
  locks = λ l x e. e;
  taken = λ r d e. e;
  there = λ r e. e;
}

control-some : (s : SessId) (t : Trail) → Good none_out t → Good none_out (put (key.Ctl s) fact.Absent t) → is_controlled t s ≡ true → Pays t (put (key.Ctl s) fact.Absent t)
control-some s t g w e =
    let u = put (key.Ctl s) fact.Absent t in
    let P : Facts → Type 0 = λ f. Falls (value t) f in
    let f : Falls (value t) (value u) = subst P (sym (values-put (key.Ctl s) fact.Absent t)) (falls-control s (value t)) in
    let c = counted t u f in
    let c1 = c.connected in let c3 = c.taken in let c4 = c.opened in let c5 = c.locked in
    let gone : is_controlled u s ≡ false = ap is_controlled_fact (value-put (key.Ctl s) (key.Ctl s) fact.Absent t ∙ upd-same (key.Ctl s) fact.Absent (value t)) in
    let c2 = count-gone session_lt (is_controlled u) (is_controlled t) (controlled_sessions u) (controlled_sessions t) (controlled-list u (controlled-session u w)) (controlled-list t (controlled-session t g)) (falls-controlled (value t) (value u) f) s gone e in
    let m = put-length (key.Ctl s) fact.Absent t in
    record { good = w; falls = f; sum = omega arith; pending = value-put (key.Ctl s) key.Pending fact.Absent t }

control-by : (b : Bool) (s : SessId) (t : Trail) → is_controlled t s ≡ b → Good none_out t → Good none_out (put (key.Ctl s) fact.Absent t) → Pays t (put (key.Ctl s) fact.Absent t)
control-by true s t e g w = control-some s t g w e
control-by false s t e g w =
    (let P : Trail → Type 0 = λ u. Pays t u in
    let a = absent-in (value t (key.Ctl s)) (absent-or (is_absent (value t (key.Ctl s))) (is_controlled t s) (g.holds.shaped (key.Ctl s)) e) in
    subst P (sym (put-none (key.Ctl s) fact.Absent t a refl)) (pays-refl t g))

pub pays-release : (s : SessId) (t : Trail) → Good none_out t → Pays t (release s t)
unfolding release
pays-release s t g =
    let u = each (untake s) (taken_devices t s) t in
    let p = pays-each (untake s) (λ d v w. pays-untake s d v w) (taken_devices t s) t g in
    pays-trans t u (put (key.Ctl s) fact.Absent u) p (control-by (is_controlled u s) s u refl p.good (released none_out s t g).good)

-- ---- sessions

-- what closing adds behind giving back
abbrev pub is_close_key : Key → Bool
is_close_key (key.Sess s) = true
is_close_key (key.Act seat) = true
is_close_key _ = false

pub record AddsClosing (v u : Trail) : Type 0 where
  pub marks : length u ≤ length v + 3
  pub keeps : Keeps is_close_key (value v) (value u)

vacate-by : (b : Bool) (s : SessId) (seat : List ℕ) (v : Trail) → (length (cond b (set_phase s Closing v) (put (key.Act seat) fact.Absent (set_phase s Closing v))) ≤ length v + 2)
    × Keeps is_close_key (value v) (value (cond b (set_phase s Closing v) (put (key.Act seat) fact.Absent (set_phase s Closing v))))
vacate-by true s seat v =
    (let y = in_phase Closing (value v (key.Sess s)) in let m = put-length (key.Sess s) y v in
    (omega arith, keeps-put is_close_key (key.Sess s) y v refl))
vacate-by false s seat v =
    (let y = in_phase Closing (value v (key.Sess s)) in let p = put (key.Sess s) y v in
    let m = put-length (key.Sess s) y v in let n = put-length (key.Act seat) fact.Absent p in
    (omega arith, keeps-trans is_close_key (value v) (value p) (value (put (key.Act seat) fact.Absent p)) (keeps-put is_close_key (key.Sess s) y v refl) (keeps-put is_close_key (key.Act seat) fact.Absent p refl)))

pub adds-by : (o : Option (List ℕ)) (s : SessId) (v : Trail) → AddsClosing v (if_some (leave_seat s) o (set_phase s Closing v))
adds-by None s v =
    (let y = in_phase Closing (value v (key.Sess s)) in let m = put-length (key.Sess s) y v in
    record { marks = omega arith; keeps = keeps-put is_close_key (key.Sess s) y v refl })
adds-by (Some seat) s v =
    (let w = vacate-by (bytes_eq seat seat0) s seat v in
    let u = cond (bytes_eq seat seat0) (set_phase s Closing v) (put (key.Act seat) fact.Absent (set_phase s Closing v)) in
    let m = w.0 in
    record {
      marks = omega arith;
      keeps = record { facts = λ k e. ap (λ (f : Facts). f k) (values-say All (notice.Active seat (Some s) None) u) ∙ w.1.facts k e };
    })

shut-some : (s : SessId) (t u : Trail) → Good none_out t → is_open t s ≡ true → Shut none_out s t u → AddsClosing (release s t) u → Pays t u
shut-some s t u g o d a =
    let v = release s t in
    let p = pays-release s t g in
    let r = released none_out s t g in
    let k = a.keeps.facts in
    let e = λ (q : SessId). (let z : value v (key.Sess q) ≡ value t (key.Sess q) = r.keeps.facts (key.Sess q) refl in z) in
    let same = λ (q : SessId). (let z : is_session_fact (value u (key.Sess q)) ≡ is_session_fact (value t (key.Sess q)) = by-test q in z) in
    let f : Falls (value v) (value u) = record {
      connected = λ c x. ap is_connected_fact (sym (k (key.Conn c) refl)) ∙ x;
      controls = λ q c x. sym (k (key.Ctl q) refl) ∙ x;
      opens = λ q x. d.others q (λ z. d.closed (ap (λ (n : SessId). is_open_fact (value u (key.Sess n))) z ∙ x)) ∙ sym (e q);
      fifos = λ h c q x. sym (k (key.Owner h) refl) ∙ x;
      locks = λ l y x. sym (k (key.Lock l) refl) ∙ x;
      taken = λ q n x. ap is_handle_fact (sym (k (key.Taken q n) refl)) ∙ x;
      there = λ q x. ap is_session_fact (e q) ∙ sym (same q) ∙ x;
    } in
    let c = counted v u f in
    let c1 = c.connected in let c2 = c.controlled in let c3 = c.taken in let c5 = c.locked in
    let c4 = count-gone session_lt (is_open u) (is_open v) (open_sessions u) (open_sessions v) (open-list u (open-session u)) (open-list v (open-session v)) (falls-opened (value v) (value u) f) s
    (not-set (is_open u s) d.closed) (ap is_open_fact (e s) ∙ o) in
    let m = a.marks in
    pays-trans t v u p (record { good = d.good; falls = f; sum = omega arith; pending = k key.Pending refl })
  where
    by-test : (q : SessId) → is_session_fact (value u (key.Sess q)) ≡ is_session_fact (value t (key.Sess q))
    by-test q = elim (test (s.0 == q.0)) [
      | inl z ↦ (let P : SessId → Type 0 = λ n. is_session_fact (value u (key.Sess n)) ≡ is_session_fact (value t (key.Sess n)) in subst P (same-session s q z) d.there)
      | inr n ↦ ap is_session_fact (d.others q (λ z. true-false (s.0 == q.0) (ap (λ (m : SessId). s.0 == m.0) (sym z) ∙ same-refl s.0) n))
    ]

shut-by : (b : Bool) (s : SessId) (t : Trail) → is_open t s ≡ b → Good none_out t
    → Shut none_out s t (cond b (if_some (leave_seat s) (cond (is_active t s) (seat_of_session t s) None) (set_phase s Closing (release s t))) t)
    → Pays t (cond b (if_some (leave_seat s) (cond (is_active t s) (seat_of_session t s) None) (set_phase s Closing (release s t))) t)
shut-by true s t e g d =
    shut-some s t (if_some (leave_seat s) (cond (is_active t s) (seat_of_session t s) None) (set_phase s Closing (release s t))) g e d
    (adds-by (cond (is_active t s) (seat_of_session t s) None) s (release s t))
shut-by false s t e g d = pays-refl t g

as-written : (s : SessId) (t : Trail) → Shut none_out s t (shut s t)
    → Shut none_out s t (cond (is_open t s) (if_some (leave_seat s) (cond (is_active t s) (seat_of_session t s) None) (set_phase s Closing (release s t))) t)
unfolding shut
as-written s t d = d

pub pays-shut : (s : SessId) (t : Trail) → Good none_out t → Pays t (shut s t)
unfolding shut
pays-shut s t g = shut-by (is_open t s) s t refl g (as-written s t (shut-does none_out s t g))

-- ---- locks

pub falls-lock : (l : LockNo) (f : Facts) → Falls f (upd (key.Lock l) fact.Absent f)
falls-lock l f = record {
  connected = λ c e. e;
  controls = λ s c e. e;
  opens = λ s e. refl;
  fifos = λ h c s e. e;
  locks = λ n x e. elim (given (key.Lock l) (key.Lock n) fact.Absent (fact.Lock x) f e) [ inl q ↦ (let z = q.1 in cc) | inr q ↦ q.1 ];
  taken = λ s d e. e;
  there = λ s e. e;
}

lock-by : (b : Bool) (l : LockNo) (t : Trail) → is_lock t l ≡ b → Good none_out t → Pays t (put (key.Lock l) fact.Absent t)
lock-by true l t e g =
    (let u = put (key.Lock l) fact.Absent t in
    let w = good-lock-gone none_out l t g in
    let P : Facts → Type 0 = λ f. Falls (value t) f in
    let f : Falls (value t) (value u) = subst P (sym (values-put (key.Lock l) fact.Absent t)) (falls-lock l (value t)) in
    let c = counted t u f in
    let c1 = c.connected in let c2 = c.controlled in let c3 = c.taken in let c4 = c.opened in
    let gone : is_lock u l ≡ false = ap is_lock_fact (value-put (key.Lock l) (key.Lock l) fact.Absent t ∙ upd-same (key.Lock l) fact.Absent (value t)) in
    let c5 = count-gone lock_lt (is_lock u) (is_lock t) (locks u) (locks t) (locks-list u) (locks-list t) (falls-locked (value t) (value u) f) l gone e in
    let m = put-length (key.Lock l) fact.Absent t in
    record { good = w; falls = f; sum = omega arith; pending = value-put (key.Lock l) key.Pending fact.Absent t })
lock-by false l t e g =
    (let P : Trail → Type 0 = λ u. Pays t u in
    let a = absent-in (value t (key.Lock l)) (absent-or (is_absent (value t (key.Lock l))) (is_lock t l) (g.holds.shaped (key.Lock l)) e) in
    subst P (sym (put-none (key.Lock l) fact.Absent t a refl)) (pays-refl t g))

pays-unlock : (c : ConnId) (t : Trail) → Good none_out t → Pays t (unlock c t)
pays-unlock c t g = pays-each (λ l u. put (key.Lock l) fact.Absent u) (λ l u w. lock-by (is_lock u l) l u refl w) (locks_of t c) t g

-- ---- the connection

pub falls-conn : (c : ConnId) (f : Facts) → Falls f (upd (key.Conn c) fact.Absent f)
falls-conn c f = record {
  connected = λ b e. elim (was is_connected_fact (key.Conn c) (key.Conn b) fact.Absent f e) [ inl q ↦ (let z = q.1 in cc) | inr q ↦ q.1 ];
  controls = λ s b e. e;
  opens = λ s e. refl;
  fifos = λ h b s e. e;
  locks = λ l x e. e;
  taken = λ s d e. e;
  there = λ s e. e;
}

conn-by : (b : Bool) (c : ConnId) (t : Trail) → is_connected t c ≡ b → Good none_out t → Good none_out (put (key.Conn c) fact.Absent t) → Pays t (put (key.Conn c) fact.Absent t)
conn-by true c t e g w =
    (let u = put (key.Conn c) fact.Absent t in
    let P : Facts → Type 0 = λ f. Falls (value t) f in
    let f : Falls (value t) (value u) = subst P (sym (values-put (key.Conn c) fact.Absent t)) (falls-conn c (value t)) in
    let n = counted t u f in
    let c2 = n.controlled in let c3 = n.taken in let c4 = n.opened in let c5 = n.locked in
    let gone : is_connected u c ≡ false = ap is_connected_fact (value-put (key.Conn c) (key.Conn c) fact.Absent t ∙ upd-same (key.Conn c) fact.Absent (value t)) in
    let c1 = count-gone conn_lt (is_connected u) (is_connected t) (connections u) (connections t) (connections-list u) (connections-list t) f.connected c gone e in
    let m = put-length (key.Conn c) fact.Absent t in
    record { good = w; falls = f; sum = omega arith; pending = value-put (key.Conn c) key.Pending fact.Absent t })
conn-by false c t e g w =
    (let P : Trail → Type 0 = λ u. Pays t u in
    let a = absent-in (value t (key.Conn c)) (absent-or (is_absent (value t (key.Conn c))) (is_connected t c) (g.holds.shaped (key.Conn c)) e) in
    subst P (sym (put-none (key.Conn c) fact.Absent t a refl)) (pays-refl t g))

pub pays-disconnect : (c : ConnId) (t : Trail) → Good none_out t → Good none_out (disconnect c t) → Pays t (disconnect c t)
unfolding disconnect
pays-disconnect c t g w =
    let t1 = each release (controlled_by t c) t in
    let a = pays-each release pays-release (controlled_by t c) t g in
    let t2 = end_sessions c t1 in
    let b = pays-each shut pays-shut (kept_open_by t1 c) t1 a.good in
    let t3 = unlock c t2 in
    let d = pays-unlock c t2 b.good in
    let p = pays-trans t t1 t3 a (pays-trans t1 t2 t3 b d) in
    pays-trans t t3 (put (key.Conn c) fact.Absent t3) p (conn-by (is_connected t3 c) c t3 refl d.good w)
