-- Which sessions a setting tells of: any other makes at the end of a connection what it made.
use Rattle.std.proofs.Common.{◌≡◌, ◌+◌, ◌*◌, ◌==◌, ℕ, Bool, true, false, cond, Option, Some, None, ◌∷◌, length, refl, ap, sym, ◌∙◌, ◌⊎◌, inl, inr}
use Rattle.login_base.specs.declared.ids.ConnId.{ConnId}
use Rattle.login_base.specs.declared.ids.HandleNo.{HandleNo}
use Rattle.login_base.specs.declared.ids.SessId.{SessId}
use Rattle.login_model.specs.declared.fact.Key.{Key}
use Rattle.login_model.specs.declared.fact.Key.TheVariants as key
use Rattle.login_model.specs.declared.fact.Fact.{Fact}
use Rattle.login_model.specs.declared.mark.Mark.TheVariants.{Set}
use Rattle.login_model.specs.Devices.{is_handle_fact, taken_devices}
use Rattle.login_model.specs.Direct.{fifo_in}
use Rattle.login_model.specs.Facts.{controller_in, fifo_owner, fifo_session, is_open_fact, is_session_fact}
use Rattle.login_model.specs.Same.{same_key}
use Rattle.login_model.specs.Trail.{Trail, value}
use Rattle.login_model.proofs.Keys.{chosen, same-session, same_key-true, test}
use Rattle.login_model.proofs.Values.{same-refl, true-false}
use Rattle.login_facts.specs.declared.owing.Touched.{Touched}
use Rattle.login_facts.specs.declared.owing.Touched.TheVariants as touched
use Rattle.login_facts.specs.Dues.{taker_at, taker_in, touched_by}
use Rattle.login_facts.specs.Owing.{charge, due_at, is_one, keeper_in, other_than}
use Rattle.login_facts.proofs.CountLaws.{no-name, one-name, other-value, own-value}
use Rattle.login_facts.proofs.OwedSums.{one-is}
use Rattle.login_facts.proofs.TakenLaws.{taken-same}

-- ---- which sessions a setting tells of

second-one : (o p : Option SessId) (s : SessId) → is_one o s ≡ false → is_one p s ≡ true → other_than o p ≡ Some s
second-one None None s n e = cc
second-one None (Some r) s n e = ap Some (same-session r s e)
second-one (Some q) None s n e = cc
second-one (Some q) (Some r) s n e =
    let z = same-session r s e in
    ap (λ (b : Bool). cond b None (Some r)) (ap (λ (v : SessId). q.0 == v.0) z ∙ n) ∙ ap Some z

two-apart : (o p : Option SessId) (s : SessId) → o ≡ Some s → other_than o p ≡ Some s → ⊥
two-apart None p s e f = no-name e
two-apart (Some q) None s e f = no-name f
two-apart (Some q) (Some r) s e f = elim (chosen (q.0 == r.0) None (Some r) (Some s) f) [
  | inl h ↦ no-name h.1
  | inr h ↦ true-false (q.0 == r.0) (ap (λ (v : SessId). q.0 == v.0) (one-name h.1 ∙ sym (one-name e)) ∙ same-refl q.0) h.0
]

-- the first and the second session that are touched
abbrev pub first_of : Touched → Option SessId
first_of (touched.Sessions o p) = o
first_of (touched.Lock l) = None

abbrev pub second_of : Touched → Option SessId
second_of (touched.Sessions o p) = p
second_of (touched.Lock l) = None

pub touched-apart : (k : Key) (x y : Fact) (s : SessId) → first_of (touched_by k x y) ≡ Some s → second_of (touched_by k x y) ≡ Some s → ⊥
touched-apart (key.Owner h) x y s e f = two-apart (fifo_session x) (fifo_session y) s e f
touched-apart _ x y s e f = no-name f

-- ---- what a session makes is the same where a setting doesn't tell of it

charge-same : (u t : Trail) (c : ConnId) (s : SessId) → value u (key.Sess s) ≡ value t (key.Sess s) → value u (key.Ctl s) ≡ value t (key.Ctl s)
    → ((h : HandleNo) → keeper_in s (value u (key.Owner h)) ≡ keeper_in s (value t (key.Owner h)))
    → length (taken_devices u s) ≡ length (taken_devices t s) → charge u c s ≡ charge t c s
charge-same u t c s a b f d =
    let g : Fact → Fact → Option ConnId → ℕ → ℕ = λ x z o n. cond (is_session_fact x) (due_at (controller_in z) (1 + 2 * n) c + due_at (cond (is_open_fact x) o None) (4 + 2 * n) c) 0 in
    let kept = ap (λ (x : Fact). keeper_in s (value u (key.Owner (fifo_in x)))) a ∙ f (fifo_in (value t (key.Sess s))) in
    λ i. g (a i) (b i) (kept i) (d i)

untouched : (k : Key) (y : Fact) (t : Trail) (c : ConnId) (s : SessId) → same_key k (key.Sess s) ≡ false → same_key k (key.Ctl s) ≡ false → ((h : HandleNo) → same_key k (key.Owner h) ≡ false)
    → ((x : Fact) → taker_at (taker_in k x) s ≡ 0) → charge (Set k y ∷ t) c s ≡ charge t c s
untouched k y t c s a b f none =
    charge-same (Set k y ∷ t) t c s (other-value (key.Sess s) k y t a) (other-value (key.Ctl s) k y t b) (λ h. ap (keeper_in s) (other-value (key.Owner h) k y t (f h)))
    (taken-same k y t s none)

-- what keeps another session open, or none, doesn't keep this one
not-for : (s : SessId) (x : Fact) → is_one (fifo_session x) s ≡ false → keeper_in s x ≡ None
not-for s x e = ap (λ (z : Bool). cond z (fifo_owner x) None) e

handle-same : (h : HandleNo) (y : Fact) (t : Trail) (s : SessId) → is_one (fifo_session (value t (key.Owner h))) s ≡ false → is_one (fifo_session y) s ≡ false
    → (g : HandleNo) → keeper_in s (value (Set (key.Owner h) y ∷ t) (key.Owner g)) ≡ keeper_in s (value t (key.Owner g))
handle-same h y t s n m g = elim (test (same_key (key.Owner h) (key.Owner g))) [
  | inl e ↦ (let z = same_key-true (key.Owner h) (key.Owner g) e in
      ap (keeper_in s) (own-value (key.Owner g) (key.Owner h) y t z) ∙ not-for s y m
      ∙ sym (sym (ap (λ (k : Key). keeper_in s (value t k)) z) ∙ not-for s (value t (key.Owner h)) n))
  | inr e ↦ ap (keeper_in s) (other-value (key.Owner g) (key.Owner h) y t e)
]

-- another session's device is not this one's
not-taker : (b : Bool) (r s : SessId) → (r.0 == s.0) ≡ false → taker_at (cond b (Some r) None) s ≡ 0
not-taker true r s e = ap (λ (z : Bool). cond z 1 0) e
not-taker false r s e = refl

-- a session is one of the two that the setting tells of, or makes what it made
abbrev pub Told : Key → Fact → Trail → ConnId → SessId → Type 0
Told k y t c s = (first_of (touched_by k (value t k) y) ≡ Some s) ⊎ ((second_of (touched_by k (value t k) y) ≡ Some s) ⊎ (charge (Set k y ∷ t) c s ≡ charge t c s))

pub told : (k : Key) (y : Fact) (t : Trail) (c : ConnId) (s : SessId) → Told k y t c s
told (key.Ctl r) y t c s = elim (test (r.0 == s.0)) [
  | inl e ↦ inl (ap Some (same-session r s e))
  | inr e ↦ inr (inr (untouched (key.Ctl r) y t c s refl e (λ h. refl) (λ x. refl)))
]
told (key.Sess r) y t c s = elim (test (r.0 == s.0)) [
  | inl e ↦ inl (ap Some (same-session r s e))
  | inr e ↦ inr (inr (untouched (key.Sess r) y t c s e refl (λ h. refl) (λ x. refl)))
]
told (key.Taken r d) y t c s = elim (test (r.0 == s.0)) [
  | inl e ↦ inl (ap Some (same-session r s e))
  | inr e ↦ inr (inr (untouched (key.Taken r d) y t c s refl refl (λ h. refl) (λ x. not-taker (is_handle_fact x) r s e)))
]
told (key.Owner h) y t c s =
    let x = value t (key.Owner h) in
    let k = key.Owner h in
    elim (test (is_one (fifo_session x) s)) [
      | inl e ↦ inl (one-is (fifo_session x) s e)
      | inr n ↦ elim (test (is_one (fifo_session y) s)) [
        | inl e ↦ inr (inl (second-one (fifo_session x) (fifo_session y) s n e))
        | inr m ↦ inr (inr (charge-same (Set k y ∷ t) t c s (other-value (key.Sess s) k y t refl) (other-value (key.Ctl s) k y t refl) (handle-same h y t s n m)
            (taken-same k y t s (λ z. refl))))
      ]
    ]
told k y t c s = inr (inr (untouched k y t c s refl refl (λ h. refl) (λ x. refl)))
