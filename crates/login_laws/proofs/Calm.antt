-- What sets no terminal, asks for none and awaits no more.
use Rattle.std.proofs.Common.{◌≡◌, ℕ, not, true, false, Some, refl, ap, sym, ◌∙◌, ◌∷◌, ◌⊎◌, inl, inr}
use Rattle.login_base.specs.declared.ids.ConnId.{ConnId}
use Rattle.login_base.specs.declared.ids.DevNo.{DevNo}
use Rattle.login_base.specs.declared.ids.SessId.{SessId}
use Rattle.login_laws.specs.Asking.{asked_vt}
use Rattle.login_model.specs.Direct.{direct}
use Rattle.login_model.specs.Power.{is_blocked}
use Rattle.login_model.specs.Procedure.{in_phase}
use Rattle.login_model.specs.Same.{same_key}
use Rattle.login_model.specs.Switching.{request}
use Rattle.login_model.specs.Trail.{Trail, put, value}
use Rattle.login_model.specs.Where.{is_set}
use Rattle.login_model.specs.declared.event.Event.{Event}
use Rattle.login_model.specs.declared.fact.Fact.{Fact}
use Rattle.login_model.specs.declared.fact.Fact.TheVariants as fact
use Rattle.login_model.specs.declared.fact.Key.{Key}
use Rattle.login_model.specs.declared.fact.Key.TheVariants as key
use Rattle.login_model.specs.declared.mark.Mark.TheVariants.{Say}
use Rattle.login_model.specs.declared.mark.Notice.{Notice}
use Rattle.login_model.specs.declared.mark.Whom.{Whom}
use Rattle.login_model.specs.declared.operation.Operation.{Operation}
use Rattle.login_model.specs.declared.session.Phase.TheVariants.{Closing, Gone}
use Rattle.login_model.specs.declared.setup.Setup.{Setup}
use Rattle.login_laws.proofs.Carried.{Carried, Clocked, Comes, Operated, ask_operation-carried, direct-carried, is_plain, job_done-carried, other}
use Rattle.login_model.proofs.Values.{Facts, value-put, values-say, was}

pub record Calm (t u : Trail) : Type 0 where
  pub vt : value u key.Vt ≡ value t key.Vt
  pub pending : value u key.Pending ≡ value t key.Pending
  pub awaited : (s : SessId) (d : DevNo) → is_set (value u (key.Awaited s d)) ≡ true → is_set (value t (key.Awaited s d)) ≡ true

pub calm-refl : (t : Trail) → Calm t t
calm-refl t = record { vt = refl; pending = refl; awaited = λ s d e. e }

pub calm-trans : (t u v : Trail) → Calm t u → Calm u v → Calm t v
calm-trans t u v p q = record { vt = q.vt ∙ p.vt; pending = q.pending ∙ p.pending; awaited = λ s d e. p.awaited s d (q.awaited s d e) }

plain-vt : (k : Key) (x : Fact) → is_plain k x ≡ true → same_key k key.Vt ≡ false
plain-vt key.Vt x e = absurd (let z : false ≡ true = e in cc)
plain-vt _ x e = refl

plain-pending : (k : Key) (x : Fact) → is_plain k x ≡ true → same_key k key.Pending ≡ false
plain-pending key.Pending x e = absurd (let z : false ≡ true = e in cc)
plain-pending _ x e = refl

not-both : (x : Fact) → not (is_set x) ≡ true → is_set x ≡ true → ⊥
not-both x e p = (let z : not true ≡ true = ap not (sym p) ∙ e in cc)

pub calm-put : (k : Key) (x : Fact) (t : Trail) → is_plain k x ≡ true → Calm t (put k x t)
calm-put k x t e = record {
  vt = other k key.Vt x t (plain-vt k x e);
  pending = other k key.Pending x t (plain-pending k x e);
  awaited = λ s d p. elim (was is_set k (key.Awaited s d) x (value t) (ap is_set (sym (value-put k (key.Awaited s d) x t)) ∙ p)) [
    | inl q ↦ absurd (not-both x (ap (λ (j : Key). is_plain j x) (sym q.0) ∙ e) q.1)
    | inr q ↦ q.1
  ];
}

pub calm-say : (w : Whom) (n : Notice) (t : Trail) → Calm t (Say w n ∷ t)
calm-say w n t = record {
  vt = ap (λ (f : Facts). f key.Vt) (values-say w n t);
  pending = ap (λ (f : Facts). f key.Pending) (values-say w n t);
  awaited = λ s d e. ap (λ (f : Facts). is_set (f (key.Awaited s d))) (sym (values-say w n t)) ∙ e;
}

pub calm-sess : (s : SessId) (x : Fact) (t : Trail) → Calm t (put (key.Sess s) x t)
calm-sess s x t = record {
  vt = value-put (key.Sess s) key.Vt x t;
  pending = value-put (key.Sess s) key.Pending x t;
  awaited = λ r d e. ap is_set (sym (value-put (key.Sess s) (key.Awaited r d) x t)) ∙ e;
}

calm-conn : (c : ConnId) (x : Fact) (t : Trail) → Calm t (put (key.Conn c) x t)
calm-conn c x t = record {
  vt = value-put (key.Conn c) key.Vt x t;
  pending = value-put (key.Conn c) key.Pending x t;
  awaited = λ r d e. ap is_set (sym (value-put (key.Conn c) (key.Awaited r d) x t)) ∙ e;
}

abbrev pub calm : Carried
calm = record {
  R = Calm;
  refl = calm-refl;
  trans = calm-trans;
  put = calm-put;
  say = calm-say;
  closing = λ s t u o p. calm-trans t u (put (key.Sess s) (in_phase Closing (value u (key.Sess s))) u) p (calm-sess s (in_phase Closing (value u (key.Sess s))) u);
  gone = λ s t u p. calm-trans t u (put (key.Sess s) (in_phase Gone (value u (key.Sess s))) u) p (calm-sess s (in_phase Gone (value u (key.Sess s))) u);
}

pub calm-op : (o : Operation) (t : Trail) → Calm t (put key.Op (fact.Operation o) t)
calm-op o t = record {
  vt = value-put key.Op key.Vt (fact.Operation o) t;
  pending = value-put key.Op key.Pending (fact.Operation o) t;
  awaited = λ r d e. ap is_set (sym (value-put key.Op (key.Awaited r d) (fact.Operation o) t)) ∙ e;
}

pub calm-operated : Operated calm
calm-operated = record { op = calm-op }

calm-at : (k : Key) (x : Fact) (t : Trail) → same_key k key.Vt ≡ false → same_key k key.Pending ≡ false → ((s : SessId) (d : DevNo) → same_key k (key.Awaited s d) ≡ false) → Calm t (put k x t)
calm-at k x t a b c = record {
  vt = other k key.Vt x t a;
  pending = other k key.Pending x t b;
  awaited = λ s d e. ap is_set (sym (other k (key.Awaited s d) x t (c s d))) ∙ e;
}

calm-clocked : Clocked calm
calm-clocked = record {
  now = λ m t. calm-at key.Now (fact.Moment m) t refl refl (λ s d. refl);
  lock = λ l x t. calm-at (key.Lock l) x t refl refl (λ s d. refl);
}

calm-comes : Comes calm
calm-comes = record { sess = calm-sess; conn = calm-conn }

-- an event is calm, or asks for a terminal
abbrev pub CalmOr : Trail → Event → Trail → Type 0
CalmOr t e u = Calm t u ⊎ ((v : ℕ) × (asked_vt t e ≡ Some v) × (u ≡ request v t))

pub direct-calm : (U : Setup) (e : Event) (t : Trail) → CalmOr t e (direct U e t)
direct-calm U e t =
    direct-carried calm calm-clocked calm-comes (CalmOr t e) U e t (λ d kind seat q. calm-at (key.Dev d) (fact.Device kind seat) t refl refl (λ s g. refl)) (λ u p. inl p) (λ v q. inr (v, q, refl))
    (λ k q. inl (ask_operation-carried calm calm-operated k (is_blocked t k) t)) (λ q. inl (job_done-carried calm calm-operated t))
