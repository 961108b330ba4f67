-- Sessions that are made, controlled, brought to their seats and killed.
use Rattle.std.proofs.Common.{◌≡◌, ◌<◌, ◌≤◌, ℕ, ◌==◌, ◌&&◌, Bool, true, false, cond, Option, Some, None, List, [], ◌∷◌, refl, ap, sym, ◌∙◌, subst, arith, inl, inr}
use Rattle.std.specs.Str.{bytes_eq}
use Rattle.login_base.specs.declared.ids.SessId.{SessId}
use Rattle.login_base.specs.declared.ids.ConnId.{ConnId}
use Rattle.login_base.specs.declared.ids.Uid.{Uid}
use Rattle.login_base.specs.Seat.{is_seat_name}
use Rattle.login_model.specs.Start.{seat0}
use Rattle.login_model.specs.Trail.{Trail, value, put, tell_all}
use Rattle.login_model.specs.Fresh.{fresh_handle, fresh_session, is_open_fact, next_handle, next_session}
use Rattle.login_model.specs.Where.{active_on, is_active, is_seat, is_seat0, is_connected_fact, is_session_fact, is_session_of, seat_in_fact, session_on}
use Rattle.login_model.specs.Policy.{fits_creation, fits_seat, is_class, is_seat_or_none, is_type, is_vt, no_such_seat_of, vt_busy, vt_busy_on}
use Rattle.login_model.specs.Full.{is_controlled_fact}
use Rattle.login_model.specs.Procedure.{know, oust, take_seat, tell_new_user}
use Rattle.login_model.specs.Creating.{appear_on, create, created_session, seat_of}
use Rattle.login_model.specs.Direct.{control, control_from}
use Rattle.login_model.specs.declared.call.Creation.{Creation}
use Rattle.login_model.specs.declared.rule.Rule.TheVariants.{NoSuchSeat, VtBusy}
use Rattle.login_model.specs.declared.mark.Notice.TheVariants as notice
use Rattle.login_model.specs.declared.mark.Whom.TheVariants.{All}
use Rattle.login_model.specs.declared.fact.Key.TheVariants as key
use Rattle.login_model.specs.declared.fact.Fact.{Fact}
use Rattle.login_model.specs.declared.fact.Fact.TheVariants as fact
use Rattle.login_model.specs.declared.fact.Owner.TheVariants as owner
use Rattle.login_model.proofs.Keys.{both}
use Rattle.login_model.proofs.Values.{Facts, upd, same-refl, upd-same, value-put, values-put, values-say}
use Rattle.login_laws.proofs.Holds.{Exempt, none_out, Linked, Opened, OnSeat, Staying, Holds}
use Rattle.login_laws.proofs.SessionSteps.{HasNone, holds-controlled, on-terminal-open, open-there}
use Rattle.login_laws.proofs.UserSteps.{IsNew, made, holds-made}
use Rattle.login_laws.proofs.Loops.{session_on-none}
use Rattle.login_laws.proofs.UnusedLaws.{Unused, handle-new, put-sessions, same-handles, session-new, unused-handle, unused-put, unused-session}
use Rattle.login_laws.proofs.Giving.{Good, good-put, good-say, opened-given, ousted}
use Rattle.login_laws.proofs.SeatMoves.{seat-taken}
use Rattle.login_laws.proofs.UserMoves.{but_user, good-all, good-but, known, this-user, values-know}
use Rattle.login_laws.proofs.Granted.{holds-rule, none-found}

-- ---- a session that is made

-- what the rules of a creation say
pub record MayCreate (x : Creation) (t : Trail) : Type 0 where
  pub fits : fits_creation x ≡ true
  pub seat_there : no_such_seat_of t x.seat ≡ None
  pub not_busy : vt_busy_on t x.seat x.vt ≡ None

-- the seat of a text, where it is one
seat-by : (b : Bool) (text seat : List ℕ) → is_seat_name text ≡ b → cond b (Some text) None ≡ Some seat → (is_seat_name text ≡ true) × (text ≡ seat)
seat-by true text seat e p = (e, cc)
seat-by false text seat e p = cc

seat-named : (text seat : List ℕ) → seat_of text ≡ Some seat → (is_seat_name text ≡ true) × (text ≡ seat)
seat-named text seat e = seat-by (is_seat_name text) text seat refl e

no-seat-named : is_seat_name [] ≡ true → ⊥
no-seat-named e = cc

seat-is-there : (t : Trail) (text : List ℕ) → is_seat_name text ≡ true → no_such_seat_of t text ≡ None → is_seat t text ≡ true
seat-is-there t [] n e = absurd (no-seat-named n)
seat-is-there t (b ∷ bs) n e = (both (is_seat_name (b ∷ bs)) (is_seat t (b ∷ bs)) (holds-rule (is_seat_name (b ∷ bs) && is_seat t (b ∷ bs)) NoSuchSeat e)).1

-- on seat0 its terminal is in range and free
on-seat0 : (o : Option (List ℕ)) (text : List ℕ) → ((seat : List ℕ) → o ≡ Some seat → text ≡ seat) → is_seat0 o ≡ true → bytes_eq text seat0 ≡ true
on-seat0 None text f e = cc
on-seat0 (Some seat) text f e = ap (λ (v : List ℕ). bytes_eq v seat0) (f seat refl) ∙ e

terminal-fits : (seat : List ℕ) (vt : ℕ) → fits_seat seat vt ≡ true → bytes_eq seat seat0 ≡ true → is_vt vt ≡ true
terminal-fits seat vt e s = ap (λ (b : Bool). cond b (is_vt vt) (vt == 0)) (sym s) ∙ e

terminal-free : (t : Trail) (seat : List ℕ) (vt : ℕ) → vt_busy_on t seat vt ≡ None → bytes_eq seat seat0 ≡ true → session_on t vt ≡ None
terminal-free t seat vt e s = none-found VtBusy (session_on t vt) (ap (λ (b : Bool). cond b (vt_busy t vt) None) (sym s) ∙ e)

pub may-be-new : (c : ConnId) (x : Creation) (t : Trail) → Good none_out t → MayCreate x t → Linked (value t) c
    → IsNew (but_user x.uid) c (next_session t) (created_session c x (next_handle t)) (upd (key.User x.uid) fact.Known (value t))
may-be-new c x t g m l =
    let s = next_session t in
    let h = next_handle t in
    let p = both (is_type x.session_type && is_class x.class && is_seat_or_none x.seat) (fits_seat x.seat x.vt) m.fits in
    let named = λ (seat : List ℕ) (q : seat_of x.seat ≡ Some seat). (let z : x.seat ≡ seat = (seat-named x.seat seat q).1 in z) in
    record {
      opens = refl;
      absent = g.unused.sessions (key.Sess s) s refl (omega arith);
      handle = g.unused.handles (key.Owner h) h refl (omega arith);
      linked = l;
      free = λ r q v. session_on-none t x.vt r (terminal-free t x.seat x.vt m.not_busy (on-seat0 (seat_of x.seat) x.seat named q))
          (open-there (value t (key.Sess r)) (on-terminal-open (fact.Number x.vt) (value t (key.Sess r)) v)) v;
      terminal = λ q. terminal-fits x.seat x.vt p.1 (on-seat0 (seat_of x.seat) x.seat named q);
      there = λ seat q. (let k = seat-named x.seat seat q in ap (λ (v : List ℕ). is_seat t v) (sym k.1) ∙ seat-is-there t x.seat k.0 m.seat_there);
      exempt = this-user x.uid;
    }

-- where a new session appears
appear-by : (b c : Bool) (seat : List ℕ) (s : SessId) (t : Trail) → bytes_eq seat seat0 ≡ b → Opened (value t) s → OnSeat (value t) s seat → Good none_out t
    → Good none_out (cond b (cond c (tell_all (notice.Active seat0 None (Some s)) t) t) (take_seat seat s (active_on t seat) t))
appear-by true true seat s t e o on g = good-say none_out All (notice.Active seat0 None (Some s)) t g
appear-by true false seat s t e o on g = g
appear-by false c seat s t e o on g = (seat-taken none_out seat s t e o on g).good

appeared : (o : Option (List ℕ)) (s : SessId) (t : Trail) → Opened (value t) s → seat_in_fact (value t (key.Sess s)) ≡ o → Good none_out t → Good none_out (appear_on o s t)
appeared None s t p q g = g
appeared (Some seat) s t p q g = appear-by (bytes_eq seat seat0) (is_active t s) seat s t refl p q g

-- what becoming known counts
know-at : (x : Fact) (u : Uid) (t : Trail) → (fresh_handle (tell_new_user u x t) ≡ fresh_handle t) × (fresh_session (tell_new_user u x t) ≡ fresh_session t)
unfolding fresh_handle fresh_session
know-at fact.Absent u t = (refl, refl)
know-at _ u t = (refl, refl)

know-fresh : (u : Uid) (t : Trail) → (fresh_handle t ≡ fresh_handle (know u t)) × (fresh_session t ≤ fresh_session (know u t))
unfolding know
know-fresh u t =
    let p = put (key.User u) fact.Known t in
    let k = know-at (value t (key.User u)) u p in
    let a = same-handles (key.User u) fact.Known t refl in
    let b = put-sessions (key.User u) fact.Known t in
    (sym (k.0 ∙ a), let h = k.1 in omega arith)

-- a session's number that was just given out
unused-new : (s : SessId) (x : Fact) (t : Trail) → s.0 < fresh_session (put (key.Sess s) x t) → Unused t → Unused (put (key.Sess s) x t)
unused-new s x t l w = unused-put (key.Sess s) x t (record {
  session = λ r e. inr (let z : Some s ≡ Some r = e in let y : s ≡ r = cc in let q : s.0 ≡ r.0 = ap (λ (v : SessId). v.0) y in omega arith);
  handle = λ h e. cc;
  lock = λ l e. (let z : None ≡ Some l = e in cc);
}) tt w

pub good-create : (c : ConnId) (x : Creation) (t : Trail) → MayCreate x t → Linked (value t) c → Good none_out t → Good none_out (create c x (next_session t) (next_handle t) t)
unfolding create
good-create c x t m l g =
    let s = next_session t in
    let h = next_handle t in
    let y = created_session c x h in
    let out = but_user x.uid in
    let o = fact.Owned (owner.Fifo c s) in
    let t1 = know x.uid t in
    let t2 = put (key.Owner h) o t1 in
    let t3 = put (key.Sess s) (fact.Session y) t2 in
    let f = upd (key.User x.uid) fact.Known (value t) in
    let k = known x.uid t (good-but x.uid t g) in
    let path1 = values-know x.uid t in
    let new = may-be-new c x t g m l in
    let path : value t3 ≡ made c s y f =
    values-put (key.Sess s) (fact.Session y) t2 ∙ ap (upd (key.Sess s) (fact.Session y)) (values-put (key.Owner h) o t1 ∙ ap (upd (key.Owner h) o) path1) in
    let P : Facts → Type 0 = λ v. Holds out v in
    let held : Holds out (made c s y f) = holds-made out c s y f new (subst P path1 k.holds) in
    let grown = handle-new h o t1 (ap (λ (v : Facts). v (key.Owner h)) path1 ∙ new.handle) refl refl in
    let later = know-fresh x.uid t in
    let later_h = later.0 in
    let later_s = later.1 in
    let u2 = unused-handle (key.Owner h) o h t1 refl refl (omega arith) later_h k.unused in
    let absent2 : value t2 (key.Sess s) ≡ fact.Absent = value-put (key.Owner h) (key.Sess s) o t1 ∙ ap (λ (v : Facts). v (key.Sess s)) path1 ∙ new.absent in
    let opened = session-new s (fact.Session y) t2 absent2 refl refl in
    let same2 = put-sessions (key.Owner h) o t1 in
    let u3 = unused-new s (fact.Session y) t2 (omega arith) u2 in
    let w : Good out t3 = record { holds = subst P (sym path) held; unused = u3 } in
    let t4 = tell_all (notice.SessionNew s) t3 in
    let path4 : value t4 ≡ made c s y f = values-say All (notice.SessionNew s) t3 ∙ path in
    let a : Good out t4 = good-say out All (notice.SessionNew s) t3 w in
    let Q : Facts → Type 0 = λ v. (Staying v x.uid → v (key.User x.uid) ≡ fact.Known) × (v (key.User x.uid) ≡ fact.Known → Staying v x.uid) × (v (key.Sess s) ≡ fact.Session y) in
    let q : Q (value t4) = subst Q (sym path4) (
      (λ z. upd-same (key.User x.uid) fact.Known (value t)),
      (λ z. inl (s, ap is_session_fact (upd-same (key.Sess s) (fact.Session y) f), ap (is_session_of x.uid.0) (upd-same (key.Sess s) (fact.Session y) f) ∙ same-refl x.uid.0)),
      upd-same (key.Sess s) (fact.Session y) f,
    ) in
    let b = good-all x.uid t4 q.0 q.1 a in
    appeared (seat_of x.seat) s t4 (ap is_open_fact q.2) (ap seat_in_fact q.2) b

-- ---- control

controls-not : (x : Fact) (c : ConnId) → x ≡ fact.Controller c → is_controlled_fact x ≡ false → ⊥
controls-not x c e n = (let z : true ≡ false = ap is_controlled_fact (sym e) ∙ n in cc)

-- a session that nobody controls has no device
free-none : (out : Exempt) (s : SessId) (t : Trail) → is_controlled_fact (value t (key.Ctl s)) ≡ false → Good out t → HasNone (value t) s
free-none out s t n g d h e = (let i = g.holds.takes s d h e in controls-not (value t (key.Ctl s)) i.0 i.4 n)

take-control : (c : ConnId) (s : SessId) (t : Trail) → is_controlled_fact (value t (key.Ctl s)) ≡ false → Linked (value t) c → Opened (value t) s → Good none_out t
    → Good none_out (put (key.Ctl s) (fact.Controller c) t)
take-control c s t n l o g = good-put none_out (key.Ctl s) (fact.Controller c) t
    (holds-controlled none_out s (fact.Controller c) (value t) (free-none none_out s t n g) refl
    (λ b e. (let z : c ≡ b = cc in (ap (λ (v : ConnId). is_connected_fact (value t (key.Conn v))) (sym z) ∙ l, o))) g.holds)
    (unused-session (key.Ctl s) (fact.Controller c) s t refl refl (opened-given s t g.unused o) g.unused)

control-or : (b : Bool) (c : ConnId) (s : SessId) (t : Trail) → Linked (value t) c → Opened (value t) s → Good none_out t → Good none_out (cond b t (oust s c t))
control-or true c s t l o g = g
control-or false c s t l o g = (ousted none_out s c t g l o).good

control-by : (x : Fact) (c : ConnId) (s : SessId) (t : Trail) → value t (key.Ctl s) ≡ x → Linked (value t) c → Opened (value t) s → Good none_out t → Good none_out (control_from x c s t)
control-by (fact.Controller b) c s t e l o g = control-or (b.0 == c.0) c s t l o g
control-by _ c s t e l o g = take-control c s t (ap is_controlled_fact e) l o g

pub good-control : (c : ConnId) (s : SessId) (t : Trail) → Linked (value t) c → Opened (value t) s → Good none_out t → Good none_out (control c s t)
unfolding control
good-control c s t l o g = control-by (value t (key.Ctl s)) c s t refl l o g
