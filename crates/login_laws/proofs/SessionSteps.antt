-- The facts of connections and sessions: what connecting, controlling, activating and closing keep.
use Rattle.std.proofs.Common.{◌≡◌, ℕ, ◌&&◌, Bool, true, false, cond, Some, List, refl, ap, sym, ◌∙◌, inl, inr}
use Rattle.std.specs.Str.{bytes_eq}
use Rattle.login_base.specs.declared.ids.SessId.{SessId}
use Rattle.login_base.specs.declared.ids.ConnId.{ConnId}
use Rattle.login_base.specs.declared.ids.HandleNo.{HandleNo}
use Rattle.login_base.specs.declared.ids.LockNo.{LockNo}
use Rattle.login_model.specs.declared.lock.Lock.{Lock}
use Rattle.login_base.specs.declared.ids.DevNo.{DevNo}
use Rattle.login_base.specs.declared.ids.Uid.{Uid}
use Rattle.login_model.specs.Same.{same_key}
use Rattle.login_model.specs.Start.{seat0}
use Rattle.login_model.specs.Procedure.{in_phase}
use Rattle.login_model.specs.Fresh.{is_open_fact, is_open_phase}
use Rattle.login_model.specs.Where.{is_connected_fact, is_this_number, is_on_terminal, is_seat0, is_session_fact, is_set, is_session_of, seat_in_fact}
use Rattle.login_laws.specs.Shapes.{fits_key}
use Rattle.login_model.specs.Direct.{fifo_in}
use Rattle.login_model.specs.declared.session.Phase.{Phase}
use Rattle.login_model.specs.declared.session.Phase.TheVariants.{Open, Closing, Gone}
use Rattle.login_model.specs.declared.fact.Key.TheVariants as key
use Rattle.login_model.specs.declared.fact.Fact.{Fact}
use Rattle.login_model.specs.declared.fact.Fact.TheVariants as fact
use Rattle.login_model.proofs.Keys.{same_key-true, test, both}
use Rattle.login_model.proofs.Values.{Facts, upd, upd-same, upd-other, was, given, apart, sess-one, ctl-one, conn-one, act-one}
use Rattle.login_laws.proofs.Holds.{Exempt, Opened, Linked, OnSeat, Acts, Activated, Living, KeptOpen, Staying, Holds, shaped-put}

-- a session has no device
abbrev pub HasNone : Facts → SessId → Type 0
HasNone f s = (d : DevNo) (h : HandleNo) → f (key.Taken s d) ≡ fact.Handle h → ⊥

-- a connection comes
pub holds-linked : (out : Exempt) (c : ConnId) (u : Uid) (f : Facts) → Holds out f → Holds out (upd (key.Conn c) (fact.Connected u) f)
holds-linked out c u f w = record {
  shaped = shaped-put (key.Conn c) (fact.Connected u) f w.shaped refl;
  controls = λ s b e. (let i = w.controls s b e in (still b i.0, i.1));
  fifos = λ s o n. (let i = w.fifos s o n in (i.0, i.1, still i.0 i.2));
  takes = w.takes;
  lives = w.lives;
  awaits = w.awaits;
  terminals = w.terminals;
  seats = w.seats;
  locks = λ l x e. (let i = w.locks l x e in (still x.holder i.0, i.1, i.2));
  operation = w.operation;
  users = w.users;
}
  where
    one-of : (b : Bool) (x : Fact) → is_connected_fact x ≡ true → is_connected_fact (cond b (fact.Connected u) x) ≡ true
    one-of true x e = refl
    one-of false x e = e

    still : (b : ConnId) → Linked f b → is_connected_fact (cond (same_key (key.Conn c) (key.Conn b)) (fact.Connected u) (f (key.Conn b))) ≡ true
    still b e = one-of (same_key (key.Conn c) (key.Conn b)) (f (key.Conn b)) e

-- a connection that controls nothing and keeps nothing open goes
pub holds-unlinked : (out : Exempt) (c : ConnId) (f : Facts) → ((s : SessId) → f (key.Ctl s) ≡ fact.Controller c → ⊥)
    → ((s : SessId) → Opened f s → out.0 s ≡ false → (i : KeptOpen f s) → c ≡ i.0 → ⊥)
    → ((l : LockNo) (x : Lock) → f (key.Lock l) ≡ fact.Lock x → c ≡ x.holder → ⊥) → Holds out f → Holds out (upd (key.Conn c) fact.Absent f)
holds-unlinked out c f m n q w = record {
  shaped = shaped-put (key.Conn c) fact.Absent f w.shaped refl;
  controls = λ s b e. (let i = w.controls s b e in
      (ap is_connected_fact (upd-other (key.Conn c) (key.Conn b) fact.Absent f (apart (key.Conn c) (key.Conn b) (λ z. m s (e ∙ ap fact.Controller (sym (conn-one c b z)))))) ∙ i.0, i.1));
  fifos = λ s o x. (let i = w.fifos s o x in
      (i.0, i.1, ap is_connected_fact (upd-other (key.Conn c) (key.Conn i.0) fact.Absent f (apart (key.Conn c) (key.Conn i.0) (λ z. n s o x i (conn-one c i.0 z)))) ∙ i.2));
  takes = w.takes;
  lives = w.lives;
  awaits = w.awaits;
  terminals = w.terminals;
  seats = w.seats;
  locks = λ l x e. (let i = w.locks l x e in
      (ap is_connected_fact (upd-other (key.Conn c) (key.Conn x.holder) fact.Absent f (apart (key.Conn c) (key.Conn x.holder) (λ z. q l x e (conn-one c x.holder z)))) ∙ i.0, i.1, i.2));
  operation = w.operation;
  users = w.users;
}

-- a session without devices has another controller, or none
pub holds-controlled : (out : Exempt) (s : SessId) (x : Fact) (f : Facts) → HasNone f s → fits_key (key.Ctl s) x ≡ true
    → ((c : ConnId) → x ≡ fact.Controller c → Linked f c × Opened f s) → Holds out f → Holds out (upd (key.Ctl s) x f)
holds-controlled out s x f none p ok w = record {
  shaped = shaped-put (key.Ctl s) x f w.shaped p;
  controls = λ r c e. elim (given (key.Ctl s) (key.Ctl r) x (fact.Controller c) f e) [
    | inl q ↦ (let i = ok c q.1 in (i.0, ap (λ (v : SessId). is_open_fact (f (key.Sess v))) (sym (ctl-one s r q.0)) ∙ i.1))
    | inr q ↦ w.controls r c q.1
  ];
  fifos = w.fifos;
  takes = λ r d h e. (let i = w.takes r d h e in (
    i.0,
    i.1,
    i.2,
    i.3,
    upd-other (key.Ctl s) (key.Ctl r) x f (apart (key.Ctl s) (key.Ctl r) (λ z. none d h (ap (λ (v : SessId). f (key.Taken v d)) (ctl-one s r z) ∙ e))) ∙ i.4,
    i.5,
    i.6,
    i.7,
  ));
  lives = w.lives;
  awaits = w.awaits;
  terminals = w.terminals;
  seats = w.seats;
  locks = w.locks;
  operation = w.operation;
  users = w.users;
}

-- ---- a seat's active session

-- whoever is active on the seat so far has no live device
abbrev pub Idle : Facts → List ℕ → Type 0
Idle f seat = (h : HandleNo) (i : Living f h) → is_set (f (key.Live h)) ≡ true → f (key.Act seat) ≡ fact.Active i.1 → ⊥

acts-still : (f : Facts) (seat : List ℕ) (x : Fact) (s : SessId) → (f (key.Act seat) ≡ fact.Active s → ⊥) → Acts f s → Acts (upd (key.Act seat) x f) s
acts-still f seat x s n i =
    (i.0, i.1, i.2, i.3, upd-other (key.Act seat) (key.Act i.0) x f (apart (key.Act seat) (key.Act i.0) (λ z. n (ap f z ∙ i.4))) ∙ i.4)

activated-still : (f : Facts) (seat : List ℕ) (x : Fact) (s : SessId) → (f (key.Act seat) ≡ fact.Active s → ⊥) → Activated f s → Activated (upd (key.Act seat) x f) s
activated-still f seat x s n (inl a) = inl a
activated-still f seat x s n (inr a) = inr (acts-still f seat x s n a)

-- it is another session, or none
pub holds-acting : (out : Exempt) (seat : List ℕ) (x : Fact) (f : Facts) → Idle f seat → fits_key (key.Act seat) x ≡ true
    → ((s : SessId) → x ≡ fact.Active s → Opened f s × OnSeat f s seat × (bytes_eq seat seat0 ≡ false)) → Holds out f → Holds out (upd (key.Act seat) x f)
holds-acting out seat x f idle p ok w = record {
  shaped = shaped-put (key.Act seat) x f w.shaped p;
  controls = w.controls;
  fifos = w.fifos;
  takes = w.takes;
  lives = λ h e. (let i = w.lives h e in (i.0, i.1, i.2, i.3, i.4, activated-still f seat x i.1 (idle h i e) i.5));
  awaits = w.awaits;
  terminals = w.terminals;
  seats = (
    w.seats.0,
    w.seats.1,
    w.seats.2,
    λ name s e. elim (given (key.Act seat) (key.Act name) x (fact.Active s) f e) [
      | inl q ↦ (let i = ok s q.1 in let k = act-one seat name q.0 in
          (i.0, i.1 ∙ ap Some k, ap (λ (v : List ℕ). bytes_eq v seat0) (sym k) ∙ i.2))
      | inr q ↦ w.seats.3 name s q.1
    ],
  );
  locks = w.locks;
  operation = w.operation;
  users = w.users;
}

-- ---- a session that closes

pub phase-user : (p : Phase) (u : ℕ) (x : Fact) → is_session_of u (in_phase p x) ≡ is_session_of u x
phase-user p u (fact.Session x) = refl
phase-user p u _ = refl

pub closing-not-open : (x : Fact) → is_open_fact (in_phase Closing x) ≡ true → ⊥
closing-not-open (fact.Session x) e = cc
closing-not-open _ e = cc

pub closing-there : (x : Fact) → is_open_fact x ≡ true → is_session_fact (in_phase Closing x) ≡ true
closing-there (fact.Session x) e = refl
closing-there _ e = cc

pub open-there : (x : Fact) → is_open_fact x ≡ true → is_session_fact x ≡ true
open-there (fact.Session x) e = there x.phase e where
  there : (p : Phase) → is_open_phase p ≡ true → is_session_fact (fact.Session (record x { phase = p })) ≡ true
  there Open e = refl
  there Closing e = cc
  there Gone e = cc
open-there _ e = cc

pub on-terminal-open : (v x : Fact) → is_on_terminal v x ≡ true → is_open_fact x ≡ true
on-terminal-open v (fact.Session x) e =
    (both (is_open_phase x.phase) (is_seat0 x.seat) (both (is_open_phase x.phase && is_seat0 x.seat) (is_this_number x.vt v) e).0).0
on-terminal-open v _ e = cc

-- a fact of a session where it was made is that of one
pub phase-fits : (s : SessId) (p : Phase) (x : Fact) → is_session_fact x ≡ true → fits_key (key.Sess s) (in_phase p x) ≡ true
phase-fits s p (fact.Session x) e = refl
phase-fits s p _ e = cc

-- ---- a session's fact is another

-- other sessions' facts stay
pub sess-other : (s r : SessId) (y : Fact) (f : Facts) → (s ≡ r → ⊥) → upd (key.Sess s) y f (key.Sess r) ≡ f (key.Sess r)
sess-other s r y f n = upd-other (key.Sess s) (key.Sess r) y f (apart (key.Sess s) (key.Sess r) (λ z. n (sess-one s r z)))

pub activated-along : (f g : Facts) (s : SessId) → g (key.Sess s) ≡ f (key.Sess s) → g key.Vt ≡ f key.Vt → ((seat : List ℕ) → g (key.Act seat) ≡ f (key.Act seat)) → Activated f s → Activated g s
activated-along f g s e v a (inl i) = inl (ap (λ (x : Fact). is_on_terminal x (g (key.Sess s))) v ∙ ap (is_on_terminal (f key.Vt)) e ∙ i)
activated-along f g s e v a (inr i) = inr (i.0, ap is_open_fact e ∙ i.1, ap seat_in_fact e ∙ i.2, i.3, a i.0 ∙ i.4)

-- a user whom a session's fact keeps
abbrev pub KeptBy : Fact → Uid → Type 0
KeptBy x u = (is_session_fact x ≡ true) × (is_session_of u.0 x ≡ true)

staying-at : (b : Bool) (s r : SessId) (y : Fact) (f : Facts) (u : Uid) → same_key (key.Sess s) (key.Sess r) ≡ b → (KeptBy y u → KeptBy (f (key.Sess s)) u)
    → KeptBy (cond b y (f (key.Sess r))) u → Staying f u
staying-at true s r y f u e fore k = (let i = fore k in inl (s, i.0, i.1))
staying-at false s r y f u e fore k = inl (r, k.0, k.1)

pub staying-before : (s : SessId) (y : Fact) (f : Facts) (u : Uid) → (KeptBy y u → KeptBy (f (key.Sess s)) u) → Staying (upd (key.Sess s) y f) u → Staying f u
staying-before s y f u fore (inl i) = staying-at (same_key (key.Sess s) (key.Sess i.0)) s i.0 y f u refl fore (i.1, i.2)
staying-before s y f u fore (inr l) = inr l

pub staying-after : (s : SessId) (y : Fact) (f : Facts) (u : Uid) → (KeptBy (f (key.Sess s)) u → KeptBy y u) → Staying f u → Staying (upd (key.Sess s) y f) u
staying-after s y f u back (inl i) = elim (test (same_key (key.Sess s) (key.Sess i.0))) [
  | inl t ↦ (let z = sess-one s i.0 (same_key-true (key.Sess s) (key.Sess i.0) t) in
      let k = back (ap (λ (v : SessId). is_session_fact (f (key.Sess v))) z ∙ i.1, ap (λ (v : SessId). is_session_of u.0 (f (key.Sess v))) z ∙ i.2) in
      inl (s, ap is_session_fact (upd-same (key.Sess s) y f) ∙ k.0, ap (is_session_of u.0) (upd-same (key.Sess s) y f) ∙ k.1))
  | inr n ↦ inl (i.0, ap is_session_fact (upd-other (key.Sess s) (key.Sess i.0) y f n) ∙ i.1, ap (is_session_of u.0) (upd-other (key.Sess s) (key.Sess i.0) y f n) ∙ i.2)
]
staying-after s y f u back (inr l) = inr l

-- a session without devices and controller, active nowhere, is no more open
pub holds-shut : (out : Exempt) (s : SessId) (y : Fact) (f : Facts) → HasNone f s → ((c : ConnId) → f (key.Ctl s) ≡ fact.Controller c → ⊥)
    → ((seat : List ℕ) → f (key.Act seat) ≡ fact.Active s → ⊥) → (is_open_fact y ≡ true → ⊥) → fits_key (key.Sess s) y ≡ true
    → ((u : Uid) → out.1 u ≡ false → (KeptBy y u → KeptBy (f (key.Sess s)) u) × (KeptBy (f (key.Sess s)) u → KeptBy y u))
    → Holds out f → Holds out (upd (key.Sess s) y f)
holds-shut out s y f none free idle closed p same w =
    let had = λ (r : SessId) (d : DevNo) (h : HandleNo) (e : f (key.Taken r d) ≡ fact.Handle h). (let z : upd (key.Sess s) y f (key.Sess r) ≡ f (key.Sess r) =
    sess-other s r y f (λ q. none d h (ap (λ (v : SessId). f (key.Taken v d)) q ∙ e)) in z) in
    let off = λ (v : ℕ) (e : is_on_terminal (fact.Number v) y ≡ true). closed (on-terminal-open (fact.Number v) y e) in
    record {
      shaped = shaped-put (key.Sess s) y f w.shaped p;
      controls = λ r c e. (let i = w.controls r c e in
          (i.0, ap is_open_fact (sess-other s r y f (λ q. free c (ap (λ (v : SessId). f (key.Ctl v)) q ∙ e))) ∙ i.1));
      fifos = λ r o x. elim (was is_open_fact (key.Sess s) (key.Sess r) y f o) [
        | inl q ↦ absurd (closed q.1)
        | inr q ↦ (let i = w.fifos r q.1 x in
            (i.0, ap (λ (z : Fact). f (key.Owner (fifo_in z))) (upd-other (key.Sess s) (key.Sess r) y f q.0) ∙ i.1, i.2))
      ];
      takes = λ r d h e. (let i = w.takes r d h e in let z = had r d h e in
          (i.0, i.1, i.2, ap is_open_fact z ∙ i.3, i.4, i.5, ap seat_in_fact z ∙ i.6, i.7));
      lives = λ h e. (let i = w.lives h e in
          (i.0, i.1, i.2, i.3, i.4, activated-along f (upd (key.Sess s) y f) i.1 (had i.1 i.2 h i.4) refl (λ seat. refl) i.5));
      awaits = λ r d e. (let i = w.awaits r d e in (i.0, i.1, i.2, ap (is_on_terminal (f key.Vt)) (had r d i.0 i.1) ∙ i.3, i.4));
      terminals = (
        (λ r q v a b. elim (was (is_on_terminal (fact.Number v)) (key.Sess s) (key.Sess r) y f a) [
          | inl z ↦ absurd (off v z.1)
          | inr z ↦ elim (was (is_on_terminal (fact.Number v)) (key.Sess s) (key.Sess q) y f b) [ inl x ↦ absurd (off v x.1) | inr x ↦ w.terminals.0 r q v z.1 x.1 ]
        ]),
        (λ r v a. elim (was (is_on_terminal (fact.Number v)) (key.Sess s) (key.Sess r) y f a) [ inl z ↦ absurd (off v z.1) | inr z ↦ w.terminals.1 r v z.1 ]),
        w.terminals.2,
        w.terminals.3,
      );
      seats = (
        w.seats.0,
        w.seats.1,
        (λ r seat o e. elim (was is_open_fact (key.Sess s) (key.Sess r) y f o) [
          | inl q ↦ absurd (closed q.1)
          | inr q ↦ w.seats.2 r seat q.1 (ap seat_in_fact (sym (upd-other (key.Sess s) (key.Sess r) y f q.0)) ∙ e)
        ]),
        (λ seat r e. (let i = w.seats.3 seat r e in let z = sess-other s r y f (λ q. idle seat (e ∙ ap fact.Active (sym q))) in
            (ap is_open_fact z ∙ i.0, ap seat_in_fact z ∙ i.1, i.2))),
      );
      locks = w.locks;
      operation = w.operation;
      users = ((λ u e k. w.users.0 u e (staying-before s y f u (same u e).0 k)), (λ u e k. staying-after s y f u (same u e).1 (w.users.1 u e k)), w.users.2);
    }

-- a session closes: its user's fact stays
pub closing-keeps : (x : Fact) (u : Uid) → is_open_fact x ≡ true → (KeptBy (in_phase Closing x) u → KeptBy x u) × (KeptBy x u → KeptBy (in_phase Closing x) u)
closing-keeps x u e = ((λ k. (open-there x e, sym (phase-user Closing u.0 x) ∙ k.1)), (λ k. (closing-there x e, phase-user Closing u.0 x ∙ k.1)))

pub holds-closed : (out : Exempt) (s : SessId) (f : Facts) → HasNone f s → ((c : ConnId) → f (key.Ctl s) ≡ fact.Controller c → ⊥)
    → ((seat : List ℕ) → f (key.Act seat) ≡ fact.Active s → ⊥) → Opened f s → Holds out f → Holds out (upd (key.Sess s) (in_phase Closing (f (key.Sess s))) f)
holds-closed out s f none free idle o w =
    holds-shut out s (in_phase Closing (f (key.Sess s))) f none free idle (closing-not-open (f (key.Sess s))) (phase-fits s Closing (f (key.Sess s)) (open-there (f (key.Sess s)) o))
    (λ u e. closing-keeps (f (key.Sess s)) u o) w
