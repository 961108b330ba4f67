-- The facts of devices that are taken: what giving back, forcing, resuming and awaiting them keeps.
use Rattle.std.proofs.Common.{◌≡◌, Bool, true, false, cond, refl, ap, sym, ◌∙◌, subst, inl, inr}
use Rattle.login_base.specs.declared.ids.SessId.{SessId}
use Rattle.login_base.specs.declared.ids.ConnId.{ConnId}
use Rattle.login_base.specs.declared.ids.HandleNo.{HandleNo}
use Rattle.login_base.specs.declared.ids.DevNo.{DevNo}
use Rattle.login_model.specs.Same.{same_key}
use Rattle.login_model.specs.Procedure.{yes, no}
use Rattle.login_model.specs.Facts.{is_number_fact}
use Rattle.login_model.specs.Where.{is_set}
use Rattle.login_model.specs.declared.fact.Key.TheVariants as key
use Rattle.login_model.specs.declared.fact.Fact.{Fact}
use Rattle.login_model.specs.declared.fact.Fact.TheVariants as fact
use Rattle.login_model.specs.declared.fact.Owner.{Owner}
use Rattle.login_model.specs.declared.fact.Owner.TheVariants as owner
use Rattle.login_model.proofs.Values.{Facts, upd, upd-same, upd-other, was, given, apart, key-refl, taken-one, live-one, true-false}
use Rattle.login_laws.proofs.Holds.{Exempt, Fronted, Activated, Having, Awaited, Living, Holds, shaped-put}

-- the facts with the handle of a taken device dead
abbrev pub killed : Fact → Facts → Facts
killed (fact.Handle h) f = upd (key.Live h) no f
killed _ f = f

pub handle-one : (g h : HandleNo) → fact.Handle g ≡ fact.Handle h → g ≡ h
handle-one g h e = cc

owned-one : (c b : ConnId) (s r : SessId) (d e : DevNo) → fact.Owned (owner.Device c s d) ≡ fact.Owned (owner.Device b r e) → key.Taken s d ≡ key.Taken r e
owned-one c b s r d e p = cc

-- what is taken with one handle is one
pub one-taken : (out : Exempt) (f : Facts) (s r : SessId) (d e : DevNo) (h : HandleNo) → Holds out f
    → f (key.Taken s d) ≡ fact.Handle h → f (key.Taken r e) ≡ fact.Handle h → key.Taken s d ≡ key.Taken r e
one-taken out f s r d e h w p q =
    let a = w.takes s d h p in let b = w.takes r e h q in
    owned-one a.0 b.0 s r d e (sym a.7 ∙ b.7)

no-not-set : is_set no ≡ true → ⊥
no-not-set e = cc

absent-not : (h : HandleNo) → fact.Absent ≡ fact.Handle h → ⊥
absent-not h e = cc

-- a device is not awaited, and not taken, and its handle is dead
pub holds-untaken : (out : Exempt) (s : SessId) (d : DevNo) (x : Fact) (f : Facts) → f (key.Taken s d) ≡ x → Holds out f
    → Holds out (upd (key.Taken s d) fact.Absent (upd (key.Awaited s d) no (killed x f)))
holds-untaken out s d (fact.Handle h) f at w = record {
  shaped = shaped-put (key.Taken s d) fact.Absent (upd (key.Awaited s d) no (upd (key.Live h) no f))
      (shaped-put (key.Awaited s d) no (upd (key.Live h) no f) (shaped-put (key.Live h) no f w.shaped refl) refl) refl;
  controls = w.controls;
  fifos = w.fifos;
  takes = λ r e g p. elim (given (key.Taken s d) (key.Taken r e) fact.Absent (fact.Handle g) f p) [
    | inl q ↦ absurd (absent-not g q.1)
    | inr q ↦ w.takes r e g q.1
  ];
  lives = λ g p. elim (was is_set (key.Live h) (key.Live g) no f p) [
    | inl q ↦ absurd (no-not-set q.1)
    | inr q ↦ (let i = w.lives g q.1 in (
      i.0,
      i.1,
      i.2,
      i.3,
      upd-other (key.Taken s d) (key.Taken i.1 i.2) fact.Absent f (apart (key.Taken s d) (key.Taken i.1 i.2) (λ z.
          true-false (same_key (key.Live h) (key.Live g))
          (key-refl (key.Live h) (key.Live g) (ap key.Live (handle-one h g (sym at ∙ ap f z ∙ i.4)))) q.0)) ∙ i.4,
      i.5,
    ))
  ];
  awaits = λ r e p. elim (was is_set (key.Awaited s d) (key.Awaited r e) no f p) [
    | inl q ↦ absurd (no-not-set q.1)
    | inr q ↦ (let i = w.awaits r e q.1 in (
      i.0,
      upd-other (key.Taken s d) (key.Taken r e) fact.Absent f q.0 ∙ i.1,
      ap is_set (upd-other (key.Live h) (key.Live i.0) no f (apart (key.Live h) (key.Live i.0) (λ z.
          true-false (same_key (key.Taken s d) (key.Taken r e))
          (key-refl (key.Taken s d) (key.Taken r e) (one-taken out f s r d e h w at (i.1 ∙ ap fact.Handle (sym (live-one h i.0 z))))) q.0))) ∙ i.2,
      i.3,
      i.4,
    ))
  ];
  terminals = w.terminals;
  seats = w.seats;
  locks = w.locks;
  operation = w.operation;
  users = w.users;
}
holds-untaken out s d _ f at w = record {
  shaped = shaped-put (key.Taken s d) fact.Absent (upd (key.Awaited s d) no f) (shaped-put (key.Awaited s d) no f w.shaped refl) refl;
  controls = w.controls;
  fifos = w.fifos;
  takes = λ r e g p. elim (given (key.Taken s d) (key.Taken r e) fact.Absent (fact.Handle g) f p) [
    | inl q ↦ absurd (absent-not g q.1)
    | inr q ↦ w.takes r e g q.1
  ];
  lives = λ g p. (let i = w.lives g p in (
    i.0,
    i.1,
    i.2,
    i.3,
    upd-other (key.Taken s d) (key.Taken i.1 i.2) fact.Absent f (apart (key.Taken s d) (key.Taken i.1 i.2) (λ z.
        (let c = sym at ∙ ap f z ∙ i.4 in cc))) ∙ i.4,
    i.5,
  ));
  awaits = λ r e p. elim (was is_set (key.Awaited s d) (key.Awaited r e) no f p) [
    | inl q ↦ absurd (no-not-set q.1)
    | inr q ↦ (let i = w.awaits r e q.1 in
        (i.0, upd-other (key.Taken s d) (key.Taken r e) fact.Absent f q.0 ∙ i.1, i.2, i.3, i.4))
  ];
  terminals = w.terminals;
  seats = w.seats;
  locks = w.locks;
  operation = w.operation;
  users = w.users;
}

-- the handle of a device that is not awaited dies
pub holds-dead : (out : Exempt) (s : SessId) (d : DevNo) (h : HandleNo) (f : Facts) → f (key.Taken s d) ≡ fact.Handle h → (is_set (f (key.Awaited s d)) ≡ true → ⊥)
    → Holds out f → Holds out (upd (key.Live h) no f)
holds-dead out s d h f at n w = record {
  shaped = shaped-put (key.Live h) no f w.shaped refl;
  controls = w.controls;
  fifos = w.fifos;
  takes = w.takes;
  lives = λ g p. elim (was is_set (key.Live h) (key.Live g) no f p) [ inl q ↦ absurd (no-not-set q.1) | inr q ↦ w.lives g q.1 ];
  awaits = λ r e p. (let i = w.awaits r e p in (
    i.0,
    i.1,
    ap is_set (upd-other (key.Live h) (key.Live i.0) no f (apart (key.Live h) (key.Live i.0) (λ z.
        (let k = taken-one s r d e (one-taken out f s r d e h w at (i.1 ∙ ap fact.Handle (sym (live-one h i.0 z)))) in
        n (ap (λ (v : SessId). is_set (f (key.Awaited v d))) k.0 ∙ ap (λ (v : DevNo). is_set (f (key.Awaited r v))) k.1 ∙ p))))) ∙ i.2,
    i.3,
    i.4,
  ));
  terminals = w.terminals;
  seats = w.seats;
  locks = w.locks;
  operation = w.operation;
  users = w.users;
}

still-set : (b : Bool) (x : Fact) → is_set x ≡ true → is_set (cond b yes x) ≡ true
still-set true x e = refl
still-set false x e = e

-- the handle of a device of an active session comes to life
pub holds-live : (out : Exempt) (s : SessId) (d : DevNo) (h : HandleNo) (f : Facts) → f (key.Taken s d) ≡ fact.Handle h → Activated f s
    → Holds out f → Holds out (upd (key.Live h) yes f)
holds-live out s d h f at a w = record {
  shaped = shaped-put (key.Live h) yes f w.shaped refl;
  controls = w.controls;
  fifos = w.fifos;
  takes = w.takes;
  lives = λ g p. elim (was is_set (key.Live h) (key.Live g) yes f p) [
    | inl q ↦ (let i = w.takes s d h at in
        let mine : Living f h = (i.0, s, d, i.7, at, a) in
        let P : HandleNo → Type 0 = λ v. Living f v in subst P (live-one h g q.0) mine)
    | inr q ↦ w.lives g q.1
  ];
  awaits = λ r e p. (let i = w.awaits r e p in (i.0, i.1, still-set (same_key (key.Live h) (key.Live i.0)) (f (key.Live i.0)) i.2, i.3, i.4));
  terminals = w.terminals;
  seats = w.seats;
  locks = w.locks;
  operation = w.operation;
  users = w.users;
}

-- a pause is awaited no more
pub holds-unawaited : (out : Exempt) (s : SessId) (d : DevNo) (f : Facts) → Holds out f → Holds out (upd (key.Awaited s d) no f)
holds-unawaited out s d f w = record {
  shaped = shaped-put (key.Awaited s d) no f w.shaped refl;
  controls = w.controls;
  fifos = w.fifos;
  takes = w.takes;
  lives = w.lives;
  awaits = λ r e p. elim (was is_set (key.Awaited s d) (key.Awaited r e) no f p) [ inl q ↦ absurd (no-not-set q.1) | inr q ↦ w.awaits r e q.1 ];
  terminals = w.terminals;
  seats = w.seats;
  locks = w.locks;
  operation = w.operation;
  users = w.users;
}

awaited-one : (s r : SessId) (d e : DevNo) → key.Awaited s d ≡ key.Awaited r e → (s ≡ r) × (d ≡ e)
awaited-one s r d e p = (cc, cc)

-- the pause of a live device of seat0's active session is awaited
pub holds-awaited : (out : Exempt) (s : SessId) (d : DevNo) (h : HandleNo) (f : Facts) → f (key.Taken s d) ≡ fact.Handle h → is_set (f (key.Live h)) ≡ true
    → Fronted f s → is_number_fact (f key.Pending) ≡ true → Holds out f → Holds out (upd (key.Awaited s d) yes f)
holds-awaited out s d h f at l a p w = record {
  shaped = shaped-put (key.Awaited s d) yes f w.shaped refl;
  controls = w.controls;
  fifos = w.fifos;
  takes = w.takes;
  lives = w.lives;
  awaits = λ r e q. elim (was is_set (key.Awaited s d) (key.Awaited r e) yes f q) [
    | inl z ↦ (let k = awaited-one s r d e z.0 in
        let mine : Awaited f s d = (h, at, l, a, p) in
        let P : SessId → Type 0 = λ v. Awaited f v d in let Q : DevNo → Type 0 = λ v. Awaited f r v in subst Q k.1 (subst P k.0 mine))
    | inr z ↦ w.awaits r e z.1
  ];
  terminals = w.terminals;
  seats = w.seats;
  locks = w.locks;
  operation = w.operation;
  users = w.users;
}

-- ---- a fresh handle

-- nothing is known of a handle
abbrev pub Fresh : Facts → HandleNo → Type 0
Fresh f n = f (key.Owner n) ≡ fact.Absent

pub owner-apart : (f : Facts) (n h : HandleNo) (o : Owner) → Fresh f n → f (key.Owner h) ≡ fact.Owned o → same_key (key.Owner n) (key.Owner h) ≡ false
owner-apart f n h o e p = apart (key.Owner n) (key.Owner h) (λ z. (let c = sym e ∙ ap f z ∙ p in cc))

pub owner-kept : (f : Facts) (n h : HandleNo) (x : Fact) (o : Owner) → Fresh f n → f (key.Owner h) ≡ fact.Owned o → upd (key.Owner n) x f (key.Owner h) ≡ fact.Owned o
owner-kept f n h x o e p = upd-other (key.Owner n) (key.Owner h) x f (owner-apart f n h o e p) ∙ p

-- a dead device of an active session has a fresh handle, which is live
abbrev pub renewed : ConnId → SessId → DevNo → HandleNo → Facts → Facts
renewed c s d n f = upd (key.Taken s d) (fact.Handle n) (upd (key.Live n) yes (upd (key.Owner n) (fact.Owned (owner.Device c s d)) f))

controller-one : (b x : ConnId) → fact.Controller b ≡ fact.Controller x → b ≡ x
controller-one b x e = cc

pub holds-renewed : (out : Exempt) (c : ConnId) (s : SessId) (d : DevNo) (h n : HandleNo) (f : Facts) → f (key.Taken s d) ≡ fact.Handle h → (is_set (f (key.Live h)) ≡ true → ⊥)
    → f (key.Ctl s) ≡ fact.Controller c → Activated f s → Fresh f n → Holds out f → Holds out (renewed c s d n f)
holds-renewed out c s d h n f at dead by a new w =
    let o = fact.Owned (owner.Device c s d) in
    let g = upd (key.Owner n) (fact.Owned (owner.Device c s d)) f in
    let u = renewed c s d n f in
    let i = w.takes s d h at in
    record {
      shaped = shaped-put (key.Taken s d) (fact.Handle n) (upd (key.Live n) yes g) (shaped-put (key.Live n) yes g (shaped-put (key.Owner n) o f w.shaped refl) refl) refl;
      controls = w.controls;
      fifos = λ r p q. (let i = w.fifos r p q in (i.0, owner-kept f n _ o (owner.Fifo i.0 r) new i.1, i.2));
      takes = λ r e v p. elim (given (key.Taken s d) (key.Taken r e) (fact.Handle n) (fact.Handle v) f p) [
        | inl q ↦ (let k = taken-one s r d e q.0 in
            let P : SessId → Type 0 = λ x. Having u x d n in let Q : DevNo → Type 0 = λ x. Having u r x n in let R : HandleNo → Type 0 = λ x. Having u r e x in
            subst R (handle-one n v q.1) (subst Q k.1 (subst P k.0 (
              i.0,
              i.1,
              i.2,
              i.3,
              i.4,
              i.5,
              i.6,
              (let z : upd (key.Owner n) o f (key.Owner n) ≡ fact.Owned (owner.Device i.0 s d) = upd-same (key.Owner n) o f ∙ ap (λ (y : ConnId). fact.Owned (owner.Device y s d)) (controller-one c i.0 (sym by ∙ i.4)) in z),
            ))))
        | inr q ↦ (let j = w.takes r e v q.1 in (j.0, j.1, j.2, j.3, j.4, j.5, j.6, owner-kept f n v o (owner.Device j.0 r e) new j.7))
      ];
      lives = λ v p. elim (was is_set (key.Live n) (key.Live v) yes f p) [
        | inl q ↦ (let mine : Living u n = (c, s, d, upd-same (key.Owner n) o f, upd-same (key.Taken s d) (fact.Handle n) f, a) in
            let P : HandleNo → Type 0 = λ x. Living u x in subst P (live-one n v q.0) mine)
        | inr q ↦ (let j = w.lives v q.1 in (
          j.0,
          j.1,
          j.2,
          owner-kept f n v o (owner.Device j.0 j.1 j.2) new j.3,
          upd-other (key.Taken s d) (key.Taken j.1 j.2) (fact.Handle n) f (apart (key.Taken s d) (key.Taken j.1 j.2) (λ z.
              dead (ap (λ (x : HandleNo). is_set (f (key.Live x))) (handle-one h v (sym at ∙ ap f z ∙ j.4)) ∙ q.1))) ∙ j.4,
          j.5,
        ))
      ];
      awaits = λ r e p. (let j = w.awaits r e p in (
        j.0,
        upd-other (key.Taken s d) (key.Taken r e) (fact.Handle n) f (apart (key.Taken s d) (key.Taken r e) (λ z.
            dead (ap (λ (x : HandleNo). is_set (f (key.Live x))) (handle-one h j.0 (sym at ∙ ap f z ∙ j.1)) ∙ j.2))) ∙ j.1,
        still-set (same_key (key.Live n) (key.Live j.0)) (f (key.Live j.0)) j.2,
        j.3,
        j.4,
      ));
      terminals = w.terminals;
      seats = w.seats;
      locks = λ l x e. (let j = w.locks l x e in (j.0, j.1, owner-kept f n j.1 o (owner.Lock x.holder l) new j.2));
      operation = w.operation;
      users = w.users;
    }
