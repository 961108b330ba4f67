-- The facts of users, of a session that is made, and of terminals.
use Rattle.std.proofs.Common.{◌≡◌, ◌≤◌, ℕ, ◌==◌, ◌&&◌, Bool, true, false, Some, List, refl, ap, sym, ◌∙◌, subst, inl, inr}
use Rattle.login_base.specs.declared.ids.SessId.{SessId}
use Rattle.login_base.specs.declared.ids.ConnId.{ConnId}
use Rattle.login_base.specs.declared.ids.HandleNo.{HandleNo}
use Rattle.login_base.specs.declared.ids.DevNo.{DevNo}
use Rattle.login_base.specs.declared.ids.Uid.{Uid}
use Rattle.login_base.specs.declared.ids.Millis.{Millis}
use Rattle.login_model.specs.Fresh.{is_open_fact, is_open_phase}
use Rattle.login_model.specs.Where.{is_on_terminal, is_seat_fact, is_seat0, is_session_fact, is_set, moment_or_zero, number_or_zero, seat_in_fact}
use Rattle.login_model.specs.Policy.{is_vt}
use Rattle.login_model.specs.Direct.{fifo_in}
use Rattle.login_laws.specs.Shapes.{fits_key}
use Rattle.login_model.specs.declared.session.Phase.TheVariants.{Open}
use Rattle.login_model.specs.declared.session.Session.{Session}
use Rattle.login_model.specs.declared.fact.Key.TheVariants as key
use Rattle.login_model.specs.declared.fact.Fact.{Fact}
use Rattle.login_model.specs.declared.fact.Fact.TheVariants as fact
use Rattle.login_model.specs.declared.fact.Owner.{Owner}
use Rattle.login_model.specs.declared.fact.Owner.TheVariants as owner
use Rattle.login_model.proofs.Keys.{same-number, both}
use Rattle.login_model.proofs.Values.{Facts, upd, upd-same, upd-other, was, given, apart, sess-one, user-one, linger-one, true-false}
use Rattle.login_laws.proofs.Holds.{Exempt, Opened, Linked, OnVt, Fronted, Living, KeptOpen, Holds, shaped-put}
use Rattle.login_laws.proofs.DeviceSteps.{Fresh, owner-kept}
use Rattle.login_laws.proofs.SessionSteps.{KeptBy, sess-other, activated-along, staying-before, staying-after}

-- a user is another's
user-apart : (out : Exempt) (u v : Uid) → out.1 u ≡ true → out.1 v ≡ false → key.User u ≡ key.User v → ⊥
user-apart out u v a b e = true-false (out.1 u) a (ap out.1 (user-one u v e) ∙ b)

-- an exempt user is known, leaves or is absent
pub holds-user : (out : Exempt) (u : Uid) (x : Fact) (f : Facts) → out.1 u ≡ true → fits_key (key.User u) x ≡ true
    → ((since : Millis) → x ≡ fact.Leaving since → since.0 ≤ moment_or_zero (f key.Now)) → Holds out f → Holds out (upd (key.User u) x f)
holds-user out u x f free p past w =
    let other = λ (v : Uid) (e : out.1 v ≡ false). (let z : upd (key.User u) x f (key.User v) ≡ f (key.User v) = upd-other (key.User u) (key.User v) x f (apart (key.User u) (key.User v) (user-apart out u v free e)) in z) in
    record {
      shaped = shaped-put (key.User u) x f w.shaped p;
      controls = w.controls;
      fifos = w.fifos;
      takes = w.takes;
      lives = w.lives;
      awaits = w.awaits;
      terminals = w.terminals;
      seats = w.seats;
      locks = w.locks;
      operation = w.operation;
      users = (
        (λ v e k. other v e ∙ w.users.0 v e k),
        (λ v e k. w.users.1 v e (sym (other v e) ∙ k)),
        (λ v since e. elim (given (key.User u) (key.User v) x (fact.Leaving since) f e) [ inl q ↦ past since q.1 | inr q ↦ w.users.2 v since q.1 ]),
      );
    }

-- an exempt user lingers, or does not
pub holds-linger : (out : Exempt) (u : Uid) (b : Bool) (f : Facts) → out.1 u ≡ true → Holds out f → Holds out (upd (key.Linger u) (fact.Flag b) f)
holds-linger out u b f free w =
    let x = fact.Flag b in
    let other = λ (v : Uid) (e : out.1 v ≡ false). (let z : upd (key.Linger u) x f (key.Linger v) ≡ f (key.Linger v) =
    upd-other (key.Linger u) (key.Linger v) x f (apart (key.Linger u) (key.Linger v) (λ q. true-false (out.1 u) free (ap out.1 (linger-one u v q) ∙ e))) in z) in
    record {
      shaped = shaped-put (key.Linger u) x f w.shaped refl;
      controls = w.controls;
      fifos = w.fifos;
      takes = w.takes;
      lives = w.lives;
      awaits = w.awaits;
      terminals = w.terminals;
      seats = w.seats;
      locks = w.locks;
      operation = w.operation;
      users = (
        (λ v e k. w.users.0 v e (elim k [ inl i ↦ inl i | inr l ↦ inr (ap is_set (sym (other v e)) ∙ l) ])),
        (λ v e k. elim (w.users.1 v e k) [ inl i ↦ inl i | inr l ↦ inr (ap is_set (other v e) ∙ l) ]),
        w.users.2,
      );
    }

-- the clock goes on
pub holds-now : (out : Exempt) (m : Millis) (f : Facts) → moment_or_zero (f key.Now) ≤ m.0 → ((a b c : ℕ) → a ≤ b → b ≤ c → a ≤ c) → Holds out f → Holds out (upd key.Now (fact.Moment m) f)
holds-now out m f later trans w = record {
  shaped = shaped-put key.Now (fact.Moment m) f w.shaped refl;
  controls = w.controls;
  fifos = w.fifos;
  takes = w.takes;
  lives = w.lives;
  awaits = w.awaits;
  terminals = w.terminals;
  seats = w.seats;
  locks = w.locks;
  operation = ((λ k since skip e. trans since.0 (moment_or_zero (f key.Now)) m.0 (w.operation.0 k since skip e) later), w.operation.1);
  users = (w.users.0, w.users.1, λ u since e. trans since.0 (moment_or_zero (f key.Now)) m.0 (w.users.2 u since e) later);
}

-- ---- a session that is made

-- what a new session's fact has to be, over these facts
pub record IsNew (out : Exempt) (c : ConnId) (s : SessId) (x : Session) (f : Facts) : Type 0 where
  pub opens : x.phase ≡ Open
  pub absent : f (key.Sess s) ≡ fact.Absent
  pub handle : Fresh f x.fifo
  pub linked : Linked f c
  pub free : (r : SessId) → is_seat0 x.seat ≡ true → OnVt f r x.vt → ⊥
  pub terminal : is_seat0 x.seat ≡ true → is_vt x.vt ≡ true
  pub there : (seat : List ℕ) → x.seat ≡ Some seat → is_seat_fact (f (key.Seat seat)) ≡ true
  pub exempt : out.1 x.uid ≡ true

abbrev pub made : ConnId → SessId → Session → Facts → Facts
made c s x f = upd (key.Sess s) (fact.Session x) (upd (key.Owner x.fifo) (fact.Owned (owner.Fifo c s)) f)

session-one : (x : Session) (f : Facts) (s r : SessId) → f (key.Sess s) ≡ fact.Absent → is_open_fact (f (key.Sess r)) ≡ true → s ≡ r → ⊥
session-one x f s r a o e = (let z : is_open_fact fact.Absent ≡ true = ap is_open_fact (sym a ∙ ap (λ (v : SessId). f (key.Sess v)) e) ∙ o in cc)

-- where a session's fact is on a terminal
on-its-own : (x : Session) (v : ℕ) → is_on_terminal (fact.Number v) (fact.Session x) ≡ true → (is_seat0 x.seat ≡ true) × (x.vt ≡ v)
on-its-own x v e =
    let p = both (is_open_phase x.phase && is_seat0 x.seat) (x.vt == v) e in
    ((both (is_open_phase x.phase) (is_seat0 x.seat) p.0).1, same-number x.vt v p.1)

not-of : (x : Session) (u : Uid) (out : Exempt) → out.1 x.uid ≡ true → out.1 u ≡ false → KeptBy (fact.Session x) u → ⊥
not-of x u out a b k = true-false (out.1 x.uid) a (ap (λ (n : ℕ). out.1 (let r : Uid = record { 0 = n } in r)) (same-number x.uid.0 u.0 k.1) ∙ b)

not-by-absent : (x : Fact) (u : Uid) → x ≡ fact.Absent → KeptBy x u → ⊥
not-by-absent x u e k = (let z : is_session_fact fact.Absent ≡ true = ap is_session_fact (sym e) ∙ k.0 in cc)

pub holds-made : (out : Exempt) (c : ConnId) (s : SessId) (x : Session) (f : Facts) → IsNew out c s x f → Holds out f → Holds out (made c s x f)
holds-made out c s x f n w =
    let o = fact.Owned (owner.Fifo c s) in
    let y = fact.Session x in
    let g = upd (key.Owner x.fifo) o f in
    let kept = λ (h : HandleNo) (q : Owner) (e : f (key.Owner h) ≡ fact.Owned q). owner-kept f x.fifo h o q n.handle e in
    let other = λ (r : SessId) (p : Opened f r). (let z : upd (key.Sess s) y f (key.Sess r) ≡ f (key.Sess r) = sess-other s r y f (session-one x f s r n.absent p) in z) in
    record {
      shaped = shaped-put (key.Sess s) y g (shaped-put (key.Owner x.fifo) o f w.shaped refl) refl;
      controls = λ r b e. (let i = w.controls r b e in (i.0, ap is_open_fact (other r i.1) ∙ i.1));
      fifos = λ r p q. elim (was is_open_fact (key.Sess s) (key.Sess r) y f p) [
        | inl z ↦ (let e = sess-one s r z.0 in
            let mine : KeptOpen (made c s x f) s = (c, ap (λ (v : Fact). g (key.Owner (fifo_in v))) (upd-same (key.Sess s) y f) ∙ upd-same (key.Owner x.fifo) o f, n.linked) in
            let P : SessId → Type 0 = λ v. KeptOpen (made c s x f) v in subst P e mine)
        | inr z ↦ (let i = w.fifos r z.1 q in
            (i.0, ap (λ (v : Fact). g (key.Owner (fifo_in v))) (upd-other (key.Sess s) (key.Sess r) y f z.0) ∙ kept (fifo_in (f (key.Sess r))) (owner.Fifo i.0 r) i.1, i.2))
      ];
      takes = λ r d h e. (let i = w.takes r d h e in let z = other r i.3 in
          (i.0, i.1, i.2, ap is_open_fact z ∙ i.3, i.4, i.5, ap seat_in_fact z ∙ i.6, kept h (owner.Device i.0 r d) i.7));
      lives = λ h e. (let i = w.lives h e in
          (i.0, i.1, i.2, kept h (owner.Device i.0 i.1 i.2) i.3, i.4, activated-along f (made c s x f) i.1 (other i.1 (w.takes i.1 i.2 h i.4).3) refl (λ seat. refl) i.5));
      awaits = λ r d e. (let i = w.awaits r d e in (i.0, i.1, i.2, ap (is_on_terminal (f key.Vt)) (other r (w.takes r d i.0 i.1).3) ∙ i.3, i.4));
      terminals = (
        (λ r q v a b. elim (was (is_on_terminal (fact.Number v)) (key.Sess s) (key.Sess r) y f a) [
          | inl z ↦ elim (was (is_on_terminal (fact.Number v)) (key.Sess s) (key.Sess q) y f b) [
            | inl m ↦ sess-one r q (sym z.0 ∙ m.0)
            | inr m ↦ (let i = on-its-own x v z.1 in absurd (n.free q i.0 (ap (λ (l : ℕ). is_on_terminal (fact.Number l) (f (key.Sess q))) i.1 ∙ m.1)))
          ]
          | inr z ↦ elim (was (is_on_terminal (fact.Number v)) (key.Sess s) (key.Sess q) y f b) [
            | inl m ↦ (let i = on-its-own x v m.1 in absurd (n.free r i.0 (ap (λ (l : ℕ). is_on_terminal (fact.Number l) (f (key.Sess r))) i.1 ∙ z.1)))
            | inr m ↦ w.terminals.0 r q v z.1 m.1
          ]
        ]),
        (λ r v a. elim (was (is_on_terminal (fact.Number v)) (key.Sess s) (key.Sess r) y f a) [
          | inl z ↦ (let i = on-its-own x v z.1 in ap is_vt (sym i.1) ∙ n.terminal i.0)
          | inr z ↦ w.terminals.1 r v z.1
        ]),
        w.terminals.2,
        w.terminals.3,
      );
      seats = (
        w.seats.0,
        w.seats.1,
        (λ r seat p e. elim (was is_open_fact (key.Sess s) (key.Sess r) y f p) [
          | inl z ↦ n.there seat (ap seat_in_fact (sym (upd-same (key.Sess s) y f)) ∙ ap (λ (v : SessId). seat_in_fact (upd (key.Sess s) y f (key.Sess v))) (sess-one s r z.0) ∙ e)
          | inr z ↦ w.seats.2 r seat z.1 (ap seat_in_fact (sym (upd-other (key.Sess s) (key.Sess r) y f z.0)) ∙ e)
        ]),
        (λ seat r e. (let i = w.seats.3 seat r e in let z = other r i.0 in (ap is_open_fact z ∙ i.0, ap seat_in_fact z ∙ i.1, i.2))),
      );
      locks = λ l q e. (let i = w.locks l q e in (i.0, i.1, kept i.1 (owner.Lock q.holder l) i.2));
      operation = w.operation;
      users = (
        (λ u e k. w.users.0 u e (staying-before s y f u (λ z. absurd (not-of x u out n.exempt e z)) k)),
        (λ u e k. staying-after s y f u (λ z. absurd (not-by-absent (f (key.Sess s)) u n.absent z)) (w.users.1 u e k)),
        w.users.2,
      );
    }

-- ---- terminals

number-one : (a b : ℕ) → fact.Number a ≡ fact.Number b → a ≡ b
number-one a b e = cc

absent-number : (a : ℕ) → fact.Absent ≡ fact.Number a → ⊥
absent-number a e = cc

-- a switch to another terminal is pending
pub holds-pending : (out : Exempt) (v : ℕ) (f : Facts) → is_vt v ≡ true → (v ≡ number_or_zero (f key.Vt) → ⊥) → Holds out f → Holds out (upd key.Pending (fact.Number v) f)
holds-pending out v f p n w = record {
  shaped = shaped-put key.Pending (fact.Number v) f w.shaped refl;
  controls = w.controls;
  fifos = w.fifos;
  takes = w.takes;
  lives = w.lives;
  awaits = λ s d e. (let i = w.awaits s d e in (i.0, i.1, i.2, i.3, refl));
  terminals = (
    w.terminals.0,
    w.terminals.1,
    w.terminals.2,
    λ m e. (let z = number-one v m e in (ap is_vt (sym z) ∙ p, λ q. n (z ∙ q))),
  );
  seats = w.seats;
  locks = w.locks;
  operation = w.operation;
  users = w.users;
}

-- none is pending, where nothing is awaited
pub holds-unpending : (out : Exempt) (f : Facts) → ((s : SessId) (d : DevNo) → is_set (f (key.Awaited s d)) ≡ true → ⊥) → Holds out f → Holds out (upd key.Pending fact.Absent f)
holds-unpending out f n w = record {
  shaped = shaped-put key.Pending fact.Absent f w.shaped refl;
  controls = w.controls;
  fifos = w.fifos;
  takes = w.takes;
  lives = w.lives;
  awaits = λ s d e. absurd (n s d e);
  terminals = (w.terminals.0, w.terminals.1, w.terminals.2, λ m e. absurd (absent-number m e));
  seats = w.seats;
  locks = w.locks;
  operation = w.operation;
  users = w.users;
}

-- the terminal is another, and no switch is pending, where nothing of seat0 is live or awaited
pub holds-moved : (out : Exempt) (v : ℕ) (f : Facts) → is_vt v ≡ true → ((s : SessId) (d : DevNo) → is_set (f (key.Awaited s d)) ≡ true → ⊥)
    → ((h : HandleNo) (i : Living f h) → is_set (f (key.Live h)) ≡ true → Fronted f i.1 → ⊥) → Holds out f
    → Holds out (upd key.Pending fact.Absent (upd key.Vt (fact.Number v) f))
holds-moved out v f p n dead w = record {
  shaped = shaped-put key.Pending fact.Absent (upd key.Vt (fact.Number v) f) (shaped-put key.Vt (fact.Number v) f w.shaped refl) refl;
  controls = w.controls;
  fifos = w.fifos;
  takes = w.takes;
  lives = λ h e. (let i = w.lives h e in (i.0, i.1, i.2, i.3, i.4, elim i.5 [ inl a ↦ absurd (dead h i e a) | inr a ↦ inr a ]));
  awaits = λ s d e. absurd (n s d e);
  terminals = (w.terminals.0, w.terminals.1, p, λ m e. absurd (absent-number m e));
  seats = w.seats;
  locks = w.locks;
  operation = w.operation;
  users = w.users;
}
