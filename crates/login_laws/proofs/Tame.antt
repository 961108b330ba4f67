-- What events leave of connections and sessions.
use Rattle.std.proofs.Common.{◌≡◌, Bool, true, false, cond, refl, sym, ap, ◌∙◌, subst, ◌==◌, ◌∷◌, not}
use Rattle.login_base.specs.declared.ids.SessId.{SessId}
use Rattle.login_base.specs.declared.ids.ConnId.{ConnId}
use Rattle.login_model.specs.Trail.{Trail, value, put}
use Rattle.login_model.specs.Fresh.{is_open_fact, is_open_phase}
use Rattle.login_model.specs.Same.{same_key}
use Rattle.login_model.specs.Where.{is_session_fact, is_gone_phase}
use Rattle.login_model.specs.Procedure.{in_phase}
use Rattle.login_model.specs.declared.event.Event.{Event}
use Rattle.login_model.specs.declared.fact.Key.{Key}
use Rattle.login_model.specs.declared.fact.Key.TheVariants as key
use Rattle.login_model.specs.declared.fact.Fact.{Fact}
use Rattle.login_model.specs.declared.fact.Fact.TheVariants as fact
use Rattle.login_model.specs.declared.mark.Mark.TheVariants.{Say}
use Rattle.login_model.specs.declared.mark.Notice.{Notice}
use Rattle.login_model.specs.declared.mark.Whom.{Whom}
use Rattle.login_model.specs.declared.session.Phase.{Phase}
use Rattle.login_model.specs.declared.session.Phase.TheVariants.{Open, Closing, Gone}
use Rattle.login_model.proofs.MadeWith.{texts_in}
use Rattle.login_model.specs.Procedure.{yes}
pub use Rattle.login_laws.proofs.Carried.{other}
use Rattle.login_laws.proofs.Carried.{Arrives, Carried, Clocked, Operated, Switched, is_plain, Unlocks}
use Rattle.login_model.proofs.Keys.{same-session}
use Rattle.login_model.proofs.Values.{Facts, value-put, values-say}

-- a session's fact that comes later: it is open only if it was, and not gone only if it was not, and its
-- texts are the same
pub record Later (before after : Fact) : Type 0 where
  pub opened : is_open_fact after ≡ true → is_open_fact before ≡ true
  pub here : is_session_fact after ≡ true → is_session_fact before ≡ true
  pub texts : texts_in after ≡ texts_in before

-- no connection comes or goes, and no session comes
pub record Tame (t u : Trail) : Type 0 where
  pub connections : (c : ConnId) → value u (key.Conn c) ≡ value t (key.Conn c)
  pub sessions : (s : SessId) → Later (value t (key.Sess s)) (value u (key.Sess s))

later-refl : (x : Fact) → Later x x
later-refl x = record { opened = λ e. e; here = λ e. e; texts = refl }

pub later-along : (x y : Fact) → y ≡ x → Later x y
later-along x y e = subst (Later x) (sym e) (later-refl x)

pub later-trans : (x y z : Fact) → Later x y → Later y z → Later x z
later-trans x y z p q = record { opened = λ e. p.opened (q.opened e); here = λ e. p.here (q.here e); texts = q.texts ∙ p.texts }

pub tame-refl : (t : Trail) → Tame t t
tame-refl t = record { connections = λ c. refl; sessions = λ s. later-refl (value t (key.Sess s)) }

pub tame-trans : (t u v : Trail) → Tame t u → Tame u v → Tame t v
tame-trans t u v p q = record {
  connections = λ c. q.connections c ∙ p.connections c;
  sessions = λ s. later-trans (value t (key.Sess s)) (value u (key.Sess s)) (value v (key.Sess s)) (p.sessions s) (q.sessions s);
}

-- a plain key is none of a connection, and none of a session
plain-conn : (k : Key) (x : Fact) (c : ConnId) → is_plain k x ≡ true → same_key k (key.Conn c) ≡ false
plain-conn (key.Conn b) x c e = absurd (let z : false ≡ true = e in cc)
plain-conn (key.Sess s) x c e = refl
plain-conn _ x c e = refl

plain-sess : (k : Key) (x : Fact) (s : SessId) → is_plain k x ≡ true → same_key k (key.Sess s) ≡ false
plain-sess (key.Sess r) x s e = absurd (let z : false ≡ true = e in cc)
plain-sess (key.Conn c) x s e = refl
plain-sess _ x s e = refl

-- a setting of a key that is no connection and no session
pub tame-other : (k : Key) (x : Fact) (t : Trail) → ((c : ConnId) → same_key k (key.Conn c) ≡ false) → ((s : SessId) → same_key k (key.Sess s) ≡ false) → Tame t (put k x t)
tame-other k x t a b = record {
  connections = λ c. other k (key.Conn c) x t (a c);
  sessions = λ s. later-along (value t (key.Sess s)) (value (put k x t) (key.Sess s)) (other k (key.Sess s) x t (b s));
}

pub tame-put : (k : Key) (x : Fact) (t : Trail) → is_plain k x ≡ true → Tame t (put k x t)
tame-put k x t e = tame-other k x t (λ c. plain-conn k x c e) (λ s. plain-sess k x s e)

pub tame-say : (w : Whom) (n : Notice) (t : Trail) → Tame t (Say w n ∷ t)
tame-say w n t = record {
  connections = λ c. ap (λ (f : Facts). f (key.Conn c)) (values-say w n t);
  sessions = λ s. later-along (value t (key.Sess s)) (value (Say w n ∷ t) (key.Sess s)) (ap (λ (f : Facts). f (key.Sess s)) (values-say w n t));
}

phase-texts : (p : Phase) (x : Fact) → texts_in (in_phase p x) ≡ texts_in x
phase-texts p (fact.Session x) = refl
phase-texts p _ = refl

pub open-here : (x : Fact) → is_open_fact x ≡ true → is_session_fact x ≡ true
open-here (fact.Session x) e = by x.phase e
  where
    by : (p : Phase) → is_open_phase p ≡ true → not (is_gone_phase p) ≡ true
    by Open e = refl
    by Closing e = refl
    by Gone e = absurd (let z : false ≡ true = e in cc)
open-here _ e = absurd (let z : false ≡ true = e in cc)

closing-never : (x : Fact) → is_open_fact (in_phase Closing x) ≡ true → is_open_fact x ≡ true
closing-never (fact.Session x) e = absurd (let z : false ≡ true = e in cc)
closing-never _ e = e

gone-never : (x : Fact) → is_open_fact (in_phase Gone x) ≡ true → is_open_fact x ≡ true
gone-never (fact.Session x) e = absurd (let z : false ≡ true = e in cc)
gone-never _ e = e

gone-not : (x : Fact) → is_session_fact (in_phase Gone x) ≡ true → is_session_fact x ≡ true
gone-not (fact.Session x) e = absurd (let z : false ≡ true = e in cc)
gone-not _ e = e

pub later-closing : (x y : Fact) → is_open_fact x ≡ true → Later x y → Later x (in_phase Closing y)
later-closing x y o p = record {
  opened = λ e. p.opened (closing-never y e);
  here = λ e. open-here x o;
  texts = phase-texts Closing y ∙ p.texts;
}

pub later-gone : (x y : Fact) → Later x y → Later x (in_phase Gone y)
later-gone x y p = record {
  opened = λ e. p.opened (gone-never y e);
  here = λ e. p.here (gone-not y e);
  texts = phase-texts Gone y ∙ p.texts;
}

-- one session's fact is set
at-session : (s r : SessId) (x y : Fact) (t u : Trail) → Later (value t (key.Sess s)) y → Later (value t (key.Sess r)) (value u (key.Sess r))
    → (b : Bool) → (s.0 == r.0) ≡ b → Later (value t (key.Sess r)) (cond b y (value u (key.Sess r)))
at-session s r x y t u p q true e =
    let P : SessId → Type 0 = λ z. Later (value t (key.Sess z)) y in
    subst P (same-session s r e) p
at-session s r x y t u p q false e = q

pub tame-set : (s : SessId) (y : Fact) (t u : Trail) → Later (value t (key.Sess s)) y → Tame t u → Tame t (put (key.Sess s) y u)
tame-set s y t u p q = record {
  connections = λ c. other (key.Sess s) (key.Conn c) y u refl ∙ q.connections c;
  sessions = λ r.
      let P : Fact → Type 0 = Later (value t (key.Sess r)) in
      subst P (sym (value-put (key.Sess s) (key.Sess r) y u)) (at-session s r y y t u p (q.sessions r) (s.0 == r.0) refl);
}

abbrev pub tame : Carried
tame = record {
  R = Tame;
  refl = tame-refl;
  trans = tame-trans;
  put = tame-put;
  say = tame-say;
  closing = λ s t u e q. tame-set s (in_phase Closing (value u (key.Sess s))) t u (later-closing (value t (key.Sess s)) (value u (key.Sess s)) e (q.sessions s)) q;
  gone = λ s t u q. tame-set s (in_phase Gone (value u (key.Sess s))) t u (later-gone (value t (key.Sess s)) (value u (key.Sess s)) (q.sessions s)) q;
}

pub tame-switched : Switched tame
tame-switched = record {
  awaited = λ s d t. tame-other (key.Awaited s d) yes t (λ c. refl) (λ r. refl);
  pending = λ x t. tame-other key.Pending x t (λ c. refl) (λ r. refl);
  vt = λ x t. tame-other key.Vt x t (λ c. refl) (λ r. refl);
}

pub tame-operated : Operated tame
tame-operated = record { op = λ o t. tame-other key.Op (fact.Operation o) t (λ c. refl) (λ r. refl) }

pub tame-clocked : Clocked tame
tame-clocked = record {
  now = λ m t. tame-other key.Now (fact.Moment m) t (λ c. refl) (λ r. refl);
  lock = λ l x t. tame-other (key.Lock l) x t (λ c. refl) (λ r. refl);
}

pub tame-arrives : (t : Trail) (e : Event) → Arrives tame t e
tame-arrives t e d kind seat q = tame-other (key.Dev d) (fact.Device kind seat) t (λ c. refl) (λ s. refl)

pub tame-unlocks : Unlocks tame
tame-unlocks l t = tame-clocked.lock l fact.Absent t
