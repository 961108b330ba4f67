-- What keeps the clock and the operation, and lets locks go at most.
use Rattle.std.proofs.Common.{◌≡◌, ◌∷◌, true, false, refl, ap, sym, ◌∙◌, inl, inr}
use Rattle.login_base.specs.declared.ids.ConnId.{ConnId}
use Rattle.login_base.specs.declared.ids.LockNo.{LockNo}
use Rattle.login_base.specs.declared.ids.SessId.{SessId}
use Rattle.login_model.specs.Direct.{controlled_by, disconnect, end_sessions, kept_open_by, unlock}
use Rattle.login_model.specs.Procedure.{each, in_phase, release, shut, yes}
use Rattle.login_model.specs.Same.{same_key}
use Rattle.login_model.specs.Switching.{settle_switch}
use Rattle.login_model.specs.Trail.{Trail, put, value}
use Rattle.login_model.specs.declared.conf.Conf.{Conf}
use Rattle.login_model.specs.declared.fact.Fact.{Fact}
use Rattle.login_model.specs.declared.fact.Fact.TheVariants as fact
use Rattle.login_model.specs.declared.fact.Key.{Key}
use Rattle.login_model.specs.declared.fact.Key.TheVariants as key
use Rattle.login_model.specs.declared.lock.Lock.{Lock}
use Rattle.login_model.specs.declared.mark.Mark.TheVariants.{Say}
use Rattle.login_model.specs.declared.mark.Notice.{Notice}
use Rattle.login_model.specs.declared.mark.Whom.{Whom}
use Rattle.login_model.specs.declared.session.Phase.TheVariants.{Closing, Gone}
use Rattle.login_laws.proofs.Carried.{Carried, Switched, each-carried, ends-carried, release-carried, shut-carried, is_plain, settle_switch-carried, other}
use Rattle.login_model.proofs.Values.{Facts, given, value-put, values-say}

-- a lock that stands stood
abbrev pub LocksFall : Trail → Trail → Type 0
LocksFall t u = (l : LockNo) (x : Lock) → value u (key.Lock l) ≡ fact.Lock x → value t (key.Lock l) ≡ fact.Lock x

pub record Stays (t u : Trail) : Type 0 where
  pub op : value u key.Op ≡ value t key.Op
  pub now : value u key.Now ≡ value t key.Now
  pub locks : LocksFall t u

pub stays-trans : (t u v : Trail) → Stays t u → Stays u v → Stays t v
stays-trans t u v p q = record { op = q.op ∙ p.op; now = q.now ∙ p.now; locks = λ l x e. p.locks l x (q.locks l x e) }

-- and all locks
pub record Still (t u : Trail) : Type 0 where
  pub op : value u key.Op ≡ value t key.Op
  pub now : value u key.Now ≡ value t key.Now
  pub locks : (l : LockNo) → value u (key.Lock l) ≡ value t (key.Lock l)

pub still-stays : (t u : Trail) → Still t u → Stays t u
still-stays t u s = record { op = s.op; now = s.now; locks = λ l x e. sym (s.locks l) ∙ e }

pub still-trans : (t u v : Trail) → Still t u → Still u v → Still t v
still-trans t u v p q = record { op = q.op ∙ p.op; now = q.now ∙ p.now; locks = λ l. q.locks l ∙ p.locks l }

still-at : (k : Key) (x : Fact) (t : Trail) → same_key k key.Op ≡ false → same_key k key.Now ≡ false → ((l : LockNo) → same_key k (key.Lock l) ≡ false) → Still t (put k x t)
still-at k x t a b c = record { op = other k key.Op x t a; now = other k key.Now x t b; locks = λ l. other k (key.Lock l) x t (c l) }

plain-op : (k : Key) (x : Fact) → is_plain k x ≡ true → same_key k key.Op ≡ false
plain-op key.Op x e = absurd (let z : false ≡ true = e in cc)
plain-op _ x e = refl

plain-now : (k : Key) (x : Fact) → is_plain k x ≡ true → same_key k key.Now ≡ false
plain-now key.Now x e = absurd (let z : false ≡ true = e in cc)
plain-now _ x e = refl

plain-lock : (k : Key) (x : Fact) (l : LockNo) → is_plain k x ≡ true → same_key k (key.Lock l) ≡ false
plain-lock (key.Lock r) x l e = absurd (let z : false ≡ true = e in cc)
plain-lock _ x l e = refl

still-say : (w : Whom) (n : Notice) (t : Trail) → Still t (Say w n ∷ t)
still-say w n t = record {
  op = ap (λ (f : Facts). f key.Op) (values-say w n t);
  now = ap (λ (f : Facts). f key.Now) (values-say w n t);
  locks = λ l. ap (λ (f : Facts). f (key.Lock l)) (values-say w n t);
}

still-sess : (s : SessId) (x : Fact) (t : Trail) → Still t (put (key.Sess s) x t)
still-sess s x t = still-at (key.Sess s) x t refl refl (λ l. refl)

abbrev still : Carried
still = record {
  R = Still;
  refl = λ t. record { op = refl; now = refl; locks = λ l. refl };
  trans = still-trans;
  put = λ k x t e. still-at k x t (plain-op k x e) (plain-now k x e) (λ l. plain-lock k x l e);
  say = still-say;
  closing = λ s t u o p. still-trans t u (put (key.Sess s) (in_phase Closing (value u (key.Sess s))) u) p (still-sess s (in_phase Closing (value u (key.Sess s))) u);
  gone = λ s t u p. still-trans t u (put (key.Sess s) (in_phase Gone (value u (key.Sess s))) u) p (still-sess s (in_phase Gone (value u (key.Sess s))) u);
}

still-switched : Switched still
still-switched = record {
  awaited = λ s d t. still-at (key.Awaited s d) yes t refl refl (λ l. refl);
  pending = λ x t. still-at key.Pending x t refl refl (λ l. refl);
  vt = λ x t. still-at key.Vt x t refl refl (λ l. refl);
}

pub switch-still : (conf : Conf) (t : Trail) → Still t (settle_switch conf t)
switch-still conf t = settle_switch-carried still still-switched conf t

-- what goes before the locks at a connection's end
pub freed-still : (c : ConnId) (t : Trail) → Still t (end_sessions c (each release (controlled_by t c) t))
freed-still c t =
    let u = each release (controlled_by t c) t in
    still-trans t u (end_sessions c u) (each-carried still release (release-carried still) (controlled_by t c) t) (each-carried still shut (shut-carried still) (kept_open_by u c) u)

abbrev stays : Carried
stays = record {
  R = Stays;
  refl = λ t. record { op = refl; now = refl; locks = λ l x e. e };
  trans = stays-trans;
  put = λ k x t e. still-stays t (put k x t) (still-at k x t (plain-op k x e) (plain-now k x e) (λ l. plain-lock k x l e));
  say = λ w n t. still-stays t (Say w n ∷ t) (still-say w n t);
  closing = λ s t u o p. stays-trans t u (put (key.Sess s) (in_phase Closing (value u (key.Sess s))) u) p (still-stays u (put (key.Sess s) (in_phase Closing (value u (key.Sess s))) u) (still-sess s (in_phase Closing (value u (key.Sess s))) u));
  gone = λ s t u p. stays-trans t u (put (key.Sess s) (in_phase Gone (value u (key.Sess s))) u) p (still-stays u (put (key.Sess s) (in_phase Gone (value u (key.Sess s))) u) (still-sess s (in_phase Gone (value u (key.Sess s))) u));
}

unlock-stays : (l : LockNo) (t : Trail) → Stays t (put (key.Lock l) fact.Absent t)
unlock-stays l t = record {
  op = value-put (key.Lock l) key.Op fact.Absent t;
  now = value-put (key.Lock l) key.Now fact.Absent t;
  locks = λ r x e. elim (given (key.Lock l) (key.Lock r) fact.Absent (fact.Lock x) (value t) (sym (value-put (key.Lock l) (key.Lock r) fact.Absent t) ∙ e)) [ inl q ↦ (let z = q.1 in cc) | inr q ↦ q.1 ];
}

pub disconnect-stays : (c : ConnId) (t : Trail) → Stays t (disconnect c t)
unfolding disconnect
disconnect-stays c t =
    let u = unlock c (end_sessions c (each release (controlled_by t c) t)) in
    stays-trans t u (put (key.Conn c) fact.Absent u) (ends-carried stays unlock-stays c t) (still-stays u (put (key.Conn c) fact.Absent u) (still-at (key.Conn c) fact.Absent u refl refl (λ l. refl)))
