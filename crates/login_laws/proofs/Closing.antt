-- Closing a session.
use Rattle.std.proofs.Common.{◌≡◌, ℕ, ◌&&◌, Bool, true, false, cond, Option, Some, None, List, ◌∷◌, refl, ap, sym, ◌∙◌, subst, inl, inr}
use Rattle.std.specs.Str.{bytes_eq}
use Rattle.login_base.specs.declared.ids.SessId.{SessId}
use Rattle.login_base.specs.declared.ids.ConnId.{ConnId}
use Rattle.login_model.specs.Same.{same_key}
use Rattle.login_model.specs.Start.{seat0}
use Rattle.login_model.specs.Trail.{Trail, value, put}
use Rattle.login_model.specs.Fresh.{is_open_fact, is_open_phase}
use Rattle.login_model.specs.Where.{is_active, is_this_number, is_on_terminal, is_open, is_seat0, is_session_fact, is_session_of, seat_in_fact, seat_of_session}
use Rattle.login_model.specs.Procedure.{each, if_some, in_phase, leave_seat, release, set_phase, shut, vacate}
use Rattle.login_model.specs.declared.mark.Notice.{Notice}
use Rattle.login_model.specs.declared.mark.Notice.TheVariants as notice
use Rattle.login_model.specs.declared.mark.Mark.TheVariants.{Say}
use Rattle.login_model.specs.declared.mark.Whom.TheVariants.{All}
use Rattle.login_model.specs.declared.session.Phase.TheVariants.{Closing}
use Rattle.login_model.specs.declared.fact.Key.{Key}
use Rattle.login_model.specs.declared.fact.Key.TheVariants as key
use Rattle.login_model.specs.declared.fact.Fact.{Fact}
use Rattle.login_model.specs.declared.fact.Fact.TheVariants as fact
use Rattle.login_model.proofs.Keys.{both, same_key-true, test}
use Rattle.login_model.proofs.Values.{Facts, upd, upd-same, upd-other, bytes-refl, same-refl, true-false, swap, value-put, values-put, values-say}
use Rattle.login_laws.proofs.Holds.{Exempt, Opened, Fronted, Activated, Holds}
use Rattle.login_laws.proofs.SessionSteps.{HasNone, activated-along, closing-not-open, closing-there, holds-acting, holds-closed, open-there, phase-user, sess-other}
use Rattle.login_laws.proofs.Loops.{each-keeps}
use Rattle.login_laws.proofs.UnusedLaws.{unused-start, unused-session}
use Rattle.login_laws.proofs.ActiveLaws.{active-gives, active-is}
use Rattle.login_laws.proofs.Giving.{Good, Keeps, keeps-more, keeps-put, keeps-refl, keeps-trans, good-put, good-say, is_control_key, opened-given, released}

-- the keys that closing a session touches
abbrev pub is_shut_key : Key → Bool
is_shut_key (key.Sess s) = true
is_shut_key (key.Act seat) = true
is_shut_key (key.Ctl s) = true
is_shut_key (key.Live h) = true
is_shut_key (key.Taken s d) = true
is_shut_key (key.Awaited s d) = true
is_shut_key _ = false

shut-control : (k : Key) → is_shut_key k ≡ false → is_control_key k ≡ false
shut-control (key.Sess s) e = refl
shut-control (key.Act seat) e = refl
shut-control (key.Ctl s) e = cc
shut-control (key.Live h) e = cc
shut-control (key.Taken s d) e = cc
shut-control (key.Awaited s d) e = cc
shut-control _ e = refl

-- a session is not open, and the others' facts are as before
pub record Shut (out : Exempt) (s : SessId) (t u : Trail) : Type 0 where
  pub good : Good out u
  pub closed : Opened (value u) s → ⊥
  pub keeps : Keeps is_shut_key (value t) (value u)
  pub others : (r : SessId) → (s ≡ r → ⊥) → value u (key.Sess r) ≡ value t (key.Sess r)
  pub controls : (r : SessId) (c : ConnId) → value u (key.Ctl r) ≡ fact.Controller c → value t (key.Ctl r) ≡ fact.Controller c
  pub there : is_session_fact (value u (key.Sess s)) ≡ is_session_fact (value t (key.Sess s))
  pub theirs : (n : ℕ) → is_session_of n (value u (key.Sess s)) ≡ is_session_of n (value t (key.Sess s))

-- what the setting of the phase leaves, after what was given back
abbrev pub closed_in : SessId → Facts → Facts
closed_in s g = upd (key.Sess s) (in_phase Closing (g (key.Sess s))) g

-- the marks of closing that follow
pub record Closes (out : Exempt) (s : SessId) (v u : Trail) : Type 0 where
  pub good : Good out u
  pub keeps : Keeps is_shut_key (value v) (value u)
  pub sess : (r : SessId) → value u (key.Sess r) ≡ closed_in s (value v) (key.Sess r)
  pub ctl : (r : SessId) → value u (key.Ctl r) ≡ value v (key.Ctl r)

pub not-in-front : (f : Facts) (s : SessId) (seat : List ℕ) → seat_in_fact (f (key.Sess s)) ≡ Some seat → bytes_eq seat seat0 ≡ false → Fronted f s → ⊥
not-in-front f s seat e n a = by (f key.Vt) (f (key.Sess s)) e a where
  by : (v x : Fact) → seat_in_fact x ≡ Some seat → is_on_terminal v x ≡ true → ⊥
  by v (fact.Session x) e a =
      let p = (both (is_open_phase x.phase && is_seat0 x.seat) (is_this_number x.vt v) a).0 in
      let q = (both (is_open_phase x.phase) (is_seat0 x.seat) p).1 in
      let z : bytes_eq seat seat0 ≡ true = ap is_seat0 (sym e) ∙ q in
      true-false (bytes_eq seat seat0) z n
  by v _ e a = cc

-- the session's fact first, and its seat's then
set-phase : (out : Exempt) (s : SessId) (v : Trail) → Good out v → HasNone (value v) s → value v (key.Ctl s) ≡ fact.Absent
    → ((seat : List ℕ) → value v (key.Act seat) ≡ fact.Active s → ⊥) → Opened (value v) s → Closes out s v (set_phase s Closing v)
set-phase out s v g none free idle o =
    let y = in_phase Closing (value v (key.Sess s)) in
    record {
      good = good-put out (key.Sess s) y v
          (holds-closed out s (value v) none (λ c e. (let z : fact.Absent ≡ fact.Controller c = sym free ∙ e in cc)) idle o g.holds)
          (unused-session (key.Sess s) y s v refl refl (opened-given s v g.unused o) g.unused);
      keeps = keeps-put is_shut_key (key.Sess s) y v refl;
      sess = λ r. value-put (key.Sess s) (key.Sess r) y v;
      ctl = λ r. value-put (key.Sess s) (key.Ctl r) y v;
    }

vacated : (out : Exempt) (s : SessId) (seat : List ℕ) (v : Trail) → Good out v → HasNone (value v) s → value v (key.Ctl s) ≡ fact.Absent
    → bytes_eq seat seat0 ≡ false → value v (key.Act seat) ≡ fact.Active s → Opened (value v) s → Closes out s v (put (key.Act seat) fact.Absent (set_phase s Closing v))
vacated out s seat v g none free other mine o =
    let f = value v in
    let y = in_phase Closing (f (key.Sess s)) in
    let p = put (key.Sess s) y v in
    let b = upd (key.Act seat) fact.Absent f in
    let path : value (put (key.Act seat) fact.Absent p) ≡ upd (key.Sess s) y b =
    values-put (key.Act seat) fact.Absent p ∙ ap (upd (key.Act seat) fact.Absent) (values-put (key.Sess s) y v) ∙ swap (key.Act seat) (key.Sess s) fact.Absent y f refl in
    let one = holds-acting out seat fact.Absent f
    (λ h i e a. (let z : fact.Active s ≡ fact.Active i.1 = sym mine ∙ a in let q : s ≡ i.1 = cc in none i.2 h (ap (λ (r : SessId). f (key.Taken r i.2)) q ∙ i.4))) refl (λ r e. cc) g.holds in
    let two = holds-closed out s b none (λ c e. (let z : fact.Absent ≡ fact.Controller c = sym free ∙ e in cc))
    (λ name a. elim (test (same_key (key.Act seat) (key.Act name))) [
      | inl t ↦ (let z : fact.Absent ≡ fact.Active s = sym (ap (λ (c : Bool). cond c fact.Absent (f (key.Act name))) t) ∙ a in cc)
      | inr n ↦ (let z = g.holds.seats.3 name s (sym (upd-other (key.Act seat) (key.Act name) fact.Absent f n) ∙ a) in
          let w = g.holds.seats.3 seat s mine in
          let q : Some name ≡ Some seat = sym z.1 ∙ w.1 in
          let k : name ≡ seat = cc in
          true-false (same_key (key.Act seat) (key.Act name)) (ap (bytes_eq seat) k ∙ bytes-refl seat) n)
    ])
    o one in
    let P : Facts → Type 0 = λ h. Holds out h in
    record {
      good = record {
        holds = subst P (sym path) two;
        unused = unused-start (key.Act seat) p tt (unused-session (key.Sess s) y s v refl refl (opened-given s v g.unused o) g.unused);
      };
      keeps = keeps-trans is_shut_key f (value p) (value (put (key.Act seat) fact.Absent p)) (keeps-put is_shut_key (key.Sess s) y v refl) (keeps-put is_shut_key (key.Act seat) fact.Absent p refl);
      sess = λ r. value-put (key.Act seat) (key.Sess r) fact.Absent p ∙ value-put (key.Sess s) (key.Sess r) y v;
      ctl = λ r. value-put (key.Act seat) (key.Ctl r) fact.Absent p ∙ value-put (key.Sess s) (key.Ctl r) y v;
    }

closes-say : (out : Exempt) (s : SessId) (n : Notice) (v u : Trail) → Closes out s v u → Closes out s v (Say All n ∷ u)
closes-say out s n v u c =
    let e = λ (k : Key). (let z : value (Say All n ∷ u) k ≡ value u k = ap (λ (f : Facts). f k) (values-say All n u) in z) in
    record {
      good = good-say out All n u c.good;
      keeps = record { facts = λ k q. e k ∙ c.keeps.facts k q };
      sess = λ r. e (key.Sess r) ∙ c.sess r;
      ctl = λ r. e (key.Ctl r) ∙ c.ctl r;
    }

-- what closes where
leave-by : (b : Bool) (out : Exempt) (s : SessId) (seat : List ℕ) (v : Trail) → bytes_eq seat seat0 ≡ b → Good out v → HasNone (value v) s → value v (key.Ctl s) ≡ fact.Absent
    → Activated (value v) s → seat_in_fact (value v (key.Sess s)) ≡ Some seat → Opened (value v) s
    → Closes out s v (cond b (set_phase s Closing v) (put (key.Act seat) fact.Absent (set_phase s Closing v)))
leave-by true out s seat v e g none free a on o = set-phase out s v g none free
    (λ name m. (let i = g.holds.seats.3 name s m in let z : Some name ≡ Some seat = sym i.1 ∙ on in let k : name ≡ seat = cc in
    true-false (bytes_eq seat seat0) e (ap (λ (n : List ℕ). bytes_eq n seat0) (sym k) ∙ i.2))) o
leave-by false out s seat v e g none free (inl a) on o = absurd (not-in-front (value v) s seat on e a)
leave-by false out s seat v e g none free (inr a) on o =
    vacated out s seat v g none free e
    (let z : Some a.0 ≡ Some seat = sym a.2 ∙ on in let k : a.0 ≡ seat = cc in ap (λ (n : List ℕ). value v (key.Act n)) (sym k) ∙ a.4) o

-- closing, after giving back; whether it was active and where is as before
seat-by : (seat : Option (List ℕ)) (out : Exempt) (s : SessId) (v : Trail) → Good out v → HasNone (value v) s → value v (key.Ctl s) ≡ fact.Absent
    → Activated (value v) s → seat_in_fact (value v (key.Sess s)) ≡ seat → Opened (value v) s → Closes out s v (if_some (leave_seat s) seat (set_phase s Closing v))
seat-by None out s v g none free a on o = set-phase out s v g none free
    (λ name m. (let i = g.holds.seats.3 name s m in let z : Some name ≡ None = sym i.1 ∙ on in cc)) o
seat-by (Some seat) out s v g none free a on o =
    closes-say out s (notice.Active seat (Some s) None) v (vacate seat (set_phase s Closing v)) (leave-by (bytes_eq seat seat0) out s seat v refl g none free a on o)

active-by : (b : Bool) (seat : Option (List ℕ)) (out : Exempt) (s : SessId) (v : Trail) → Good out v → HasNone (value v) s → value v (key.Ctl s) ≡ fact.Absent
    → (b ≡ true → Activated (value v) s) → (b ≡ false → Activated (value v) s → ⊥) → seat_in_fact (value v (key.Sess s)) ≡ seat → Opened (value v) s
    → Closes out s v (if_some (leave_seat s) (cond b seat None) (set_phase s Closing v))
active-by true seat out s v g none free a n on o = seat-by seat out s v g none free (a refl) on o
active-by false seat out s v g none free a n on o = set-phase out s v g none free
    (λ name m. n refl (inr (let i = g.holds.seats.3 name s m in (name, i.0, i.1, i.2, m)))) o

activated-back : (f g : Facts) (s : SessId) → Keeps is_control_key f g → Activated g s → Activated f s
activated-back f g s k a =
    activated-along g f s (sym (k.facts (key.Sess s) refl)) (sym (k.facts key.Vt refl)) (λ seat. sym (k.facts (key.Act seat) refl)) a

activated-on : (f g : Facts) (s : SessId) → Keeps is_control_key f g → Activated f s → Activated g s
activated-on f g s k a = activated-along f g s (k.facts (key.Sess s) refl) (k.facts key.Vt refl) (λ seat. k.facts (key.Act seat) refl) a

shut-at : (out : Exempt) (s : SessId) (t : Trail) → Good out t → Opened (value t) s
    → Shut out s t (if_some (leave_seat s) (cond (is_active t s) (seat_of_session t s) None) (set_phase s Closing (release s t)))
shut-at out s t g o =
    let v = release s t in
    let r = released out s t g in
    let k = r.keeps in
    let e = k.facts (key.Sess s) refl in
    let c = active-by (is_active t s) (seat_of_session t s) out s v r.good r.none r.controller
    (λ b. activated-on (value t) (value v) s k (active-gives t s b))
    (λ b a. true-false (is_active t s) (active-is t s (activated-back (value t) (value v) s k a)) b)
    (ap seat_in_fact e) (ap is_open_fact e ∙ o) in
    let u = if_some (leave_seat s) (cond (is_active t s) (seat_of_session t s) None) (set_phase s Closing v) in
    let mine : value u (key.Sess s) ≡ in_phase Closing (value t (key.Sess s)) = c.sess s ∙ upd-same (key.Sess s) (in_phase Closing (value v (key.Sess s))) (value v) ∙ ap (in_phase Closing) e in
    record {
      good = c.good;
      closed = λ p. closing-not-open (value t (key.Sess s)) (ap is_open_fact (sym mine) ∙ p);
      keeps = keeps-trans is_shut_key (value t) (value v) (value u) (keeps-more is_control_key is_shut_key (value t) (value v) shut-control k) c.keeps;
      others = λ q n. c.sess q ∙ sess-other s q (in_phase Closing (value v (key.Sess s))) (value v) n ∙ k.facts (key.Sess q) refl;
      controls = λ q b p. elim (test (same_key (key.Ctl s) (key.Ctl q))) [
        | inl z ↦ (let w : fact.Absent ≡ fact.Controller b = sym r.controller ∙ ap (value v) (same_key-true (key.Ctl s) (key.Ctl q) z) ∙ sym (c.ctl q) ∙ p in cc)
        | inr n ↦ sym (r.others q (λ z. true-false (same_key (key.Ctl s) (key.Ctl q)) (ap (λ (m : SessId). same_key (key.Ctl s) (key.Ctl m)) (sym z) ∙ same-refl s.0) n)) ∙ sym (c.ctl q) ∙ p
      ];
      there = ap is_session_fact mine ∙ closing-there (value t (key.Sess s)) o ∙ sym (open-there (value t (key.Sess s)) o);
      theirs = λ n. ap (is_session_of n) mine ∙ phase-user Closing n (value t (key.Sess s));
    }

shut-by : (b : Bool) (out : Exempt) (s : SessId) (t : Trail) → is_open t s ≡ b → Good out t
    → Shut out s t (cond b (if_some (leave_seat s) (cond (is_active t s) (seat_of_session t s) None) (set_phase s Closing (release s t))) t)
shut-by true out s t e g = shut-at out s t g e
shut-by false out s t e g = record {
  good = g;
  closed = λ p. true-false (is_open t s) p e;
  keeps = keeps-refl is_shut_key (value t);
  others = λ r n. refl;
  controls = λ r c p. p;
  there = refl;
  theirs = λ n. refl;
}

pub shut-does : (out : Exempt) (s : SessId) (t : Trail) → Good out t → Shut out s t (shut s t)
unfolding shut
shut-does out s t g = shut-by (is_open t s) out s t refl g

-- what is open behind it was so before
pub shut-open : (out : Exempt) (s r : SessId) (t u : Trail) → Shut out s t u → Opened (value u) r → Opened (value t) r
shut-open out s r t u w o = ap is_open_fact (sym (w.others r (λ z. w.closed (ap (λ (v : SessId). is_open_fact (value u (key.Sess v))) z ∙ o)))) ∙ o

-- each of some sessions
pub record ShutAll (out : Exempt) (t u : Trail) : Type 0 where
  pub good : Good out u
  pub keeps : Keeps is_shut_key (value t) (value u)
  pub opens : (r : SessId) → Opened (value u) r → (Opened (value t) r) × (value u (key.Sess r) ≡ value t (key.Sess r))
  pub controls : (r : SessId) (c : ConnId) → value u (key.Ctl r) ≡ fact.Controller c → value t (key.Ctl r) ≡ fact.Controller c

pub shut-all-refl : (out : Exempt) (t : Trail) → Good out t → ShutAll out t t
shut-all-refl out t g = record { good = g; keeps = keeps-refl is_shut_key (value t); opens = λ r o. (o, refl); controls = λ r c e. e }

pub shut-one : (out : Exempt) (s : SessId) (t u : Trail) → ShutAll out t u → ShutAll out t (shut s u)
shut-one out s t u w =
    let v = shut s u in
    let d = shut-does out s u w.good in
    record {
      good = d.good;
      keeps = keeps-trans is_shut_key (value t) (value u) (value v) w.keeps d.keeps;
      opens = λ r o. (let p = w.opens r (shut-open out s r u v d o) in
          (p.0, d.others r (λ z. d.closed (ap (λ (m : SessId). is_open_fact (value v (key.Sess m))) z ∙ o)) ∙ p.1));
      controls = λ r c e. w.controls r c (d.controls r c e);
    }

pub shut-each : (out : Exempt) (xs : List SessId) (t : Trail) → Good out t → ShutAll out t (each shut xs t)
shut-each out xs t g = each-keeps (ShutAll out t) shut xs (λ s u i w. shut-one out s t u w) t (shut-all-refl out t g)
