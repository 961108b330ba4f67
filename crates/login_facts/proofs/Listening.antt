-- What handles hear, behind the marks so far, and that there are rings for all of them.
use Rattle.std.proofs.Common.{◌≡◌, ℕ, zero, suc, ◌+◌, ◌<◌, ◌≤◌, ◌==◌, ◌||◌, Bool, true, false, cond, Option, Some, None, IsSome, is_some, List, [], ◌∷◌, ◌++◌, length, map, get_or, take, refl, ap, sym, ◌∙◌, subst, arith, inl, inr, ◌⊎◌}
use Rattle.std.proofs.lemmas.Bool.Decides.{nat_tests}
use Rattle.std.proofs.lemmas.List.{take_more}
use Rattle.std.proofs.lemmas.Map.Keys.{IsDistinct-cons}
use Rattle.std.specs.List.{AllByRecursion, IsDistinct}
use Rattle.login_base.specs.declared.ids.HandleNo.{HandleNo}
use Rattle.login_model.specs.Devices.{is_live}
use Rattle.login_model.specs.Trail.{Trail}
use Rattle.login_model.specs.declared.fact.Key.TheVariants as key
use Rattle.login_model.specs.declared.mark.Mark.{Mark}
use Rattle.login_model.specs.declared.mark.Mark.TheVariants.{Set, Say}
use Rattle.login_model.proofs.Keys.{same-handle, test}
use Rattle.login_model.proofs.Values.{same-refl}
use Rattle.device_model.specs.Ears.{AreOnce, DeviceList, heard_of, is_ear_of}
use Rattle.device_model.specs.declared.ears.Ear.{Ear}
use Rattle.login_laws.specs.Few.{same_handle}
use Rattle.login_laws.specs.Hearing.{Heard, is_turned}
use Rattle.login_facts.specs.Ears.{AreEnough, KeepsRings, ListenLive, turned_by}
use Rattle.login_facts.specs.Rings.{ring_count}

-- ---- marks that make a handle live or dead

-- whether the handle that a mark makes live or dead is this one
abbrev pub turns : HandleNo → Option HandleNo → Bool
turns h None = false
turns h (Some g) = g.0 == h.0

pub or-false : (b : Bool) → b || false ≡ b
or-false true = refl
or-false false = refl

or-true : (b : Bool) → b || true ≡ true
or-true true = refl
or-true false = refl

or-or : (a b c : Bool) → a || (b || c) ≡ (a || b) || c
or-or true b c = refl
or-or false b c = refl

turned-first : (h : HandleNo) (m : Mark) (ms : List Mark) → is_turned h (m ∷ ms) ≡ turns h (turned_by m) || is_turned h ms
turned-first h (Set (key.Live g) x) ms = refl
turned-first h (Set _ x) ms = refl
turned-first h (Say w n) ms = refl

turned-last : (h : HandleNo) (ms : List Mark) (m : Mark) → is_turned h (ms ++ m ∷ []) ≡ is_turned h ms || turns h (turned_by m)
turned-last h [] m = turned-first h m [] ∙ or-false (turns h (turned_by m))
turned-last h (x ∷ ms) m =
    turned-first h x (ms ++ m ∷ [])
    ∙ ap (λ (b : Bool). turns h (turned_by x) || b) (turned-last h ms m)
    ∙ or-or (turns h (turned_by x)) (is_turned h ms) (turns h (turned_by m))
    ∙ ap (λ (b : Bool). b || turns h (turned_by m)) (sym (turned-first h x ms))

-- with one mark more
pub turned-next : (h : HandleNo) (ms : List Mark) (i : ℕ) (m : Mark) (z : Option HandleNo) → i < length ms → m ≡ get_or ms i m → turned_by m ≡ z
    → is_turned h (take (i + 1) ms) ≡ is_turned h (take i ms) || turns h z
turned-next h ms i m z l e t =
    ap (is_turned h) (take_more ms i m l ∙ ap (λ (x : Mark). take i ms ++ x ∷ []) (sym e))
    ∙ turned-last h (take i ms) m
    ∙ ap (λ (y : Option HandleNo). is_turned h (take i ms) || turns h y) t

-- what one of them turns all of them do
pub turned-at : (h : HandleNo) (ms : List Mark) (i : ℕ) (m : Mark) → i < length ms → m ≡ get_or ms i m → turns h (turned_by m) ≡ true → is_turned h ms ≡ true
turned-at h [] i m l e t = absurd (omega arith)
turned-at h (x ∷ ms) zero m l e t =
    turned-first h x ms ∙ ap (λ (b : Bool). b || is_turned h ms) (ap (λ (y : Mark). turns h (turned_by y)) (sym e) ∙ t)
turned-at h (x ∷ ms) (suc i) m l e t =
    turned-first h x ms ∙ ap (λ (b : Bool). turns h (turned_by x) || b) (turned-at h ms i m (omega arith) e t) ∙ or-true (turns h (turned_by x))

-- ---- one handle, and the others

flipped : (g h : HandleNo) → (g.0 == h.0) ≡ false → (h.0 == g.0) ≡ false
flipped g h n = grind (arith, nat_tests)

-- one handle listens no more
pub deaf-next : (old new : HandleNo → Option Heard) (g : HandleNo) → new g ≡ None → ((h : HandleNo) → (h.0 == g.0) ≡ false → new h ≡ old h)
    → (h : HandleNo) (b : Bool) (o : Option Heard) → old h ≡ cond b None o → new h ≡ cond (b || turns h (Some g)) None o
deaf-next old new g own others h b o e = elim (test (g.0 == h.0)) [
  | inl y ↦ ap new (sym (same-handle g h y)) ∙ own ∙ sym (ap (λ (c : Bool). cond (b || c) None o) y ∙ ap (λ (c : Bool). cond c None o) (or-true b))
  | inr n ↦ others h (flipped g h n) ∙ e ∙ sym (ap (λ (c : Bool). cond (b || c) None o) n ∙ ap (λ (c : Bool). cond c None o) (or-false b))
]

anew : (old new z : Option Heard) → (old ≡ None → new ≡ z) → (IsSome old → new ≡ old) → (old ≡ z) ⊎ (old ≡ None) → new ≡ z
anew None new z own kept e = own refl
anew (Some x) new z own kept (inl e) = kept refl ∙ e
anew (Some x) new z own kept (inr n) = absurd cc

before : (b : Bool) (x z o : Option Heard) → x ≡ cond b z o → o ≡ None → (x ≡ z) ⊎ (x ≡ None)
before true x z o e n = inl e
before false x z o e n = inr (e ∙ n)

-- one handle begins anew, with what these begin with, unless it does already
pub begin-next : (old new starts : HandleNo → Option Heard) (g : HandleNo) → (old g ≡ None → new g ≡ starts g) → (IsSome (old g) → new g ≡ old g)
    → ((h : HandleNo) → (h.0 == g.0) ≡ false → new h ≡ old h)
    → (h : HandleNo) (b : Bool) (o : Option Heard) → (turns h (Some g) ≡ true → o ≡ None) → old h ≡ cond b (starts h) o → new h ≡ cond (b || turns h (Some g)) (starts h) o
begin-next old new starts g own kept others h b o deaf e = elim (test (g.0 == h.0)) [
  | inl y ↦ (let i = same-handle g h y in
      let P : HandleNo → Type 0 = λ k. (old k ≡ None → new k ≡ starts k) × (IsSome (old k) → new k ≡ old k) in
      let p = subst P i (own, kept) in
      anew (old h) (new h) (starts h) p.0 p.1 (before b (old h) (starts h) o e (deaf y))
      ∙ sym (ap (λ (c : Bool). cond (b || c) (starts h) o) y ∙ ap (λ (c : Bool). cond c (starts h) o) (or-true b)))
  | inr n ↦ others h (flipped g h n) ∙ e ∙ sym (ap (λ (c : Bool). cond (b || c) (starts h) o) n ∙ ap (λ (c : Bool). cond c (starts h) o) (or-false b))
]

-- ---- there is a ring for each live handle

first-heard : (e : Ear) (es : List Ear) → IsSome (heard_of (e ∷ es) e.handle)
unfolding heard_of
first-heard e es = ap (λ (b : Bool). is_some (cond b (Some (e.device, e.inputs)) (heard_of es e.handle))) (same-refl e.handle.0)

more-heard : (e : Ear) (es : List Ear) (h : HandleNo) → IsSome (heard_of es h) → IsSome (heard_of (e ∷ es) h)
unfolding heard_of
more-heard e es h s = by (is_ear_of h e)
  where
    by : (b : Bool) → IsSome (cond b (Some (e.device, e.inputs)) (heard_of es h))
    by true = refl
    by false = s

live-ears : (es : List Ear) (t : Trail) → ListenLive es t → AllByRecursion (λ h. is_live t h ≡ true) (map (λ e. e.handle) es)
live-ears [] t w = tt
live-ears (e ∷ es) t w = (w e.handle (first-heard e es), live-ears es t (λ h s. w h (more-heard e es h s)))

first-apart : (e : Ear) (es : List Ear) (h : HandleNo) → heard_of (e ∷ es) h ≡ None → (is_ear_of h e ≡ false) × (heard_of es h ≡ None)
unfolding heard_of
first-apart e es h n = by (is_ear_of h e) n
  where
    by : (b : Bool) → cond b (Some (e.device, e.inputs)) (heard_of es h) ≡ None → (b ≡ false) × (heard_of es h ≡ None)
    by true m = absurd cc
    by false m = (refl, m)

apart-ears : (h : HandleNo) (es : List Ear) → heard_of es h ≡ None → AllByRecursion (λ g. same_handle h g ≡ false) (map (λ e. e.handle) es)
apart-ears h [] n = tt
apart-ears h (e ∷ es) n = let p = first-apart e es h n in (flipped e.handle h p.0, apart-ears h es p.1)

distinct-ears : (es : List Ear) → AreOnce es → IsDistinct same_handle (map (λ e. e.handle) es)
unfolding AreOnce IsDistinct
distinct-ears [] o = tt
distinct-ears (e ∷ es) o = (apart-ears e.handle es o.0, distinct-ears es o.1)

handle-count : (es : List Ear) → length (map (λ (e : Ear). e.handle) es) ≡ length es
handle-count [] = refl
handle-count (e ∷ es) = ap suc (handle-count es)

-- what a test finds not to be there
pub not-heard : (z : Option Heard) → is_some z ≡ false → z ≡ None
not-heard None n = refl
not-heard (Some p) n = absurd cc

-- where a live handle does not listen a ring is spare
pub ring-spare : (es : List Ear) (rings : ℕ) (t : Trail) (h : HandleNo) → AreEnough (ring_count es rings) t → AreOnce es → ListenLive es t → heard_of es h ≡ None → is_live t h ≡ true → 0 < rings
ring-spare es rings t h enough once w n l =
    let hs = map (λ (e : Ear). e.handle) es in
    let all : length (h ∷ hs) ≤ length es + rings = enough (h ∷ hs) (IsDistinct-cons same_handle h hs (apart-ears h es n) (distinct-ears es once)) (l, live-ears es t w) in
    let c = handle-count es in
    omega arith

-- no ring comes or goes in two steps
pub keeps-both : (a b c : DeviceList) → KeepsRings a b → KeepsRings b c → KeepsRings a c
keeps-both a b c p q = record { trail = q.trail ∙ p.trail; spare = q.spare ∙ p.spare; rings = q.rings ∙ p.rings }
