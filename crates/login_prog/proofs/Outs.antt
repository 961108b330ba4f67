-- Links that are out, and the places for ends.
use Rattle.std.proofs.Common.{◌≡◌, ◌≢◌, ℕ, zero, suc, ◌+◌, ◌-◌, ◌==◌, ◌<◌, ◌≤◌, ◌⊎◌, inl, inr, ⊎_elim, Bool, true, false, cond, List, [], ◌∷◌, ◌++◌, length, map, Option, Some, None, IfSome, refl, ap, sym, ◌∙◌, subst, arith, append_assoc, append-nil, length-append, zero-add}
use Rattle.std.proofs.lemmas.Bool.{eq-eqb, eqb-true}
use Rattle.std.proofs.lemmas.Option.{none-some, same_Some, slice_get_within, slice_get_past}
use Rattle.std.specs.List.{AllByRecursion, slice_get, slice_set}
use Rattle.login_edge.specs.Register.{Arrived, Register, back_behind}
use Rattle.login_office.specs.declared.end.LinkEnd.{LinkEnd}
use Rattle.login_prog.specs.Served.{dropped_among}
use Rattle.login_prog.specs.inner.Accepting.{AreOut, CameAs, Held, IsHeld, count_of}

-- ---- lists

module _ {A : Type 0} where
  pub all-append : (P : A → Type 0) (xs ys : List A) → AllByRecursion P xs → AllByRecursion P ys → AllByRecursion P (xs ++ ys)
  all-append P [] ys p q = q
  all-append P (x ∷ xs) ys p q = (p.0, all-append P xs ys p.1 q)

  pub all-front : (P : A → Type 0) (xs ys : List A) → AllByRecursion P (xs ++ ys) → AllByRecursion P xs
  all-front P [] ys p = tt
  all-front P (x ∷ xs) ys p = (p.0, all-front P xs ys p.1)

  pub all-back : (P : A → Type 0) (xs ys : List A) → AllByRecursion P (xs ++ ys) → AllByRecursion P ys
  all-back P [] ys p = p
  all-back P (x ∷ xs) ys p = all-back P xs ys p.1

  pub all-on : (P Q : A → Type 0) (xs : List A) → ((x : A) → P x → Q x) → AllByRecursion P xs → AllByRecursion Q xs
  all-on P Q [] on p = tt
  all-on P Q (x ∷ xs) on p = (on x p.0, all-on P Q xs on p.1)

  pub get-snoc : (xs : List A) (x : A) → slice_get (xs ++ x ∷ []) (length xs) ≡ Some x
  get-snoc [] x = refl
  get-snoc (y ∷ xs) x = get-snoc xs x

  pub get-front : (xs ys : List A) (k : ℕ) → k < length xs → slice_get (xs ++ ys) k ≡ slice_get xs k
  get-front [] ys k below = absurd (omega (arith, below))
  get-front (x ∷ xs) ys zero below = refl
  get-front (x ∷ xs) ys (suc k) below = get-front xs ys k (omega (arith, below))

  pub get-set : (xs : List A) (k : ℕ) (x : A) → k < length xs → slice_get (slice_set xs k x) k ≡ Some x
  get-set [] k x below = absurd (omega (arith, below))
  get-set (y ∷ xs) zero x below = refl
  get-set (y ∷ xs) (suc k) x below = get-set xs k x (omega (arith, below))

  pub get-set-other : (xs : List A) (j k : ℕ) (x : A) → j ≢ k → slice_get (slice_set xs j x) k ≡ slice_get xs k
  get-set-other [] j k x other = refl
  get-set-other (y ∷ xs) zero zero x other = absurd (other refl)
  get-set-other (y ∷ xs) zero (suc k) x other = refl
  get-set-other (y ∷ xs) (suc j) zero x other = refl
  get-set-other (y ∷ xs) (suc j) (suc k) x other = get-set-other xs j k x (λ e. other (ap suc e))

  pub long-set : (xs : List A) (k : ℕ) (x : A) → length (slice_set xs k x) ≡ length xs
  long-set [] k x = refl
  long-set (y ∷ xs) zero x = refl
  long-set (y ∷ xs) (suc k) x = ap suc (long-set xs k x)

  -- setting what stands there changes nothing
  pub set-same : (xs : List A) (k : ℕ) (x : A) → slice_get xs k ≡ Some x → slice_set xs k x ≡ xs
  set-same [] k x e = refl
  set-same (y ∷ xs) zero x e = ap (λ (z : A). z ∷ xs) (sym (same_Some y x e))
  set-same (y ∷ xs) (suc k) x e = ap (λ (z : List A). y ∷ z) (set-same xs k x e)

-- ---- links that were dropped

pub dropped-append : (xs ys : List (Option LinkEnd)) → dropped_among (xs ++ ys) ≡ dropped_among xs + dropped_among ys
dropped-append [] ys = omega arith
dropped-append (Some e ∷ xs) ys = dropped-append xs ys
dropped-append (None ∷ xs) ys = let h = dropped-append xs ys in omega (arith, h)

-- one that had no end has one
pub dropped-set : (xs : List (Option LinkEnd)) (k : ℕ) (e : LinkEnd) → slice_get xs k ≡ Some None → dropped_among (slice_set xs k (Some e)) + 1 ≡ dropped_among xs
dropped-set [] k e is = absurd (let n : _ = none-some None is in n)
dropped-set (None ∷ xs) zero e is = omega arith
dropped-set (Some d ∷ xs) zero e is = absurd (let k : ⊥ = cc in k)
dropped-set (None ∷ xs) (suc k) e is = let h = dropped-set xs k e is in omega (arith, h)
dropped-set (Some d ∷ xs) (suc k) e is = dropped-set xs k e is

-- ---- links that are out

count-by : (b : Bool) (n : ℕ) → n ≤ cond b 1 0 + n
count-by true n = omega arith
count-by false n = omega arith

module _ {L : Type 0} where
  pub count-append : (c : ℕ) (xs ys : List (Held L)) → count_of c (xs ++ ys) ≡ count_of c xs + count_of c ys
  count-append c [] ys = omega arith
  count-append c (h ∷ xs) ys = let e = count-append c xs ys in omega (arith, e)

  pub count-one : (c : ℕ) (h : Held L) (hs : List (Held L)) → h.who ≡ c → count_of c (h ∷ hs) ≡ 1 + count_of c hs
  count-one c h hs e = ap (λ (b : Bool). cond b 1 0 + count_of c hs) (eq-eqb h.who c e)

  count-tail : (c : ℕ) (h : Held L) (hs : List (Held L)) → count_of c hs ≤ count_of c (h ∷ hs)
  count-tail c h hs = count-by (h.who == c) (count_of c hs)

  pub count-other : (c : ℕ) (h : Held L) (hs : List (Held L)) → h.who ≢ c → count_of c (h ∷ hs) ≡ count_of c hs
  count-other c h hs other = by (h.who == c) refl
    where
      by : (b : Bool) → (h.who == c) ≡ b → cond (h.who == c) 1 0 + count_of c hs ≡ count_of c hs
      by true e = absurd (other (eqb-true h.who c e))
      by false e = ap (λ (b : Bool). cond b 1 0 + count_of c hs) e ∙ zero-add (count_of c hs)

  -- none has this number
  pub all-apart : (P : Held L → Type 0) (c : ℕ) (hs : List (Held L)) → count_of c hs ≡ 0 → AllByRecursion P hs → AllByRecursion (λ h. P h × (h.who ≢ c)) hs
  all-apart P c [] none p = tt
  all-apart P c (h ∷ hs) none p =
      ((p.0, λ e. let one = count-one c h hs e in absurd (omega (arith, one, none))), all-apart P c hs (let less = count-tail c h hs in omega (arith, less, none)) p.1)

  -- without one of them
  pub count-without : (c : ℕ) (xs : List (Held L)) (h : Held L) (ys : List (Held L)) → h.who ≢ c → count_of c (xs ++ (h ∷ ys)) ≡ count_of c (xs ++ ys)
  count-without c xs h ys other = count-append c xs (h ∷ ys) ∙ (ap (λ (n : ℕ). count_of c xs + n) (count-other c h ys other) ∙ sym (count-append c xs ys))

  pub long-without : (xs : List (Held L)) (h : Held L) (ys : List (Held L)) → length (xs ++ (h ∷ ys)) ≡ length (xs ++ ys) + 1
  long-without [] h ys = omega arith
  long-without (x ∷ xs) h ys = let e = long-without xs h ys in omega (arith, e)

  module _ (ends : List (Option LinkEnd)) (register : Option (Register L)) (xs : List (Held L)) (h : Held L) (ys : List (Held L)) (o : AreOut ends register (xs ++ (h ∷ ys))) where
    pub the-held : IsHeld ends register h
    the-held = (all-back (IsHeld ends register) xs (h ∷ ys) o.each).0

    others-apart : count_of h.who (xs ++ ys) ≡ 0
    others-apart =
        let all = count-append h.who xs (h ∷ ys) in
        let one = count-one h.who h ys refl in
        let rest = count-append h.who xs ys in
        let most = o.distinct h.who in
        omega (arith, all, one, rest, most)

    others-held : AllByRecursion (λ k. IsHeld ends register k × (k.who ≢ h.who)) (xs ++ ys)
    others-held =
        all-apart (IsHeld ends register) h.who (xs ++ ys) others-apart
        (all-append (IsHeld ends register) xs ys (all-front (IsHeld ends register) xs (h ∷ ys) o.each) (all-back (IsHeld ends register) xs (h ∷ ys) o.each).1)

    count-less : (c : ℕ) → count_of c (xs ++ ys) ≤ 1
    count-less c =
        let all = count-append c xs (h ∷ ys) in
        let rest = count-append c xs ys in
        let less = count-tail c h ys in
        let most = o.distinct c in
        omega (arith, all, rest, less, most)

    -- the others are out after a change that leaves those alone that have another number
    pub out-without : (now : List (Option LinkEnd)) (later : Option (Register L)) → ((k : Held L) → IsHeld ends register k → k.who ≢ h.who → IsHeld now later k) → AreOut now later (xs ++ ys)
    out-without now later still = record {
      each = all-on (λ k. IsHeld ends register k × (k.who ≢ h.who)) (IsHeld now later) (xs ++ ys) (λ k p. still k p.0 p.1) others-held;
      distinct = count-less;
    }

  -- all are out after a change that leaves each alone
  pub out-still : (ends now : List (Option LinkEnd)) (register later : Option (Register L)) (hs : List (Held L)) → ((k : Held L) → IsHeld ends register k → IsHeld now later k)
      → AreOut ends register hs → AreOut now later hs
  out-still ends now register later hs still o = record { each = all-on (IsHeld ends register) (IsHeld now later) hs still o.each; distinct = o.distinct }

  -- one more is out, whose number none of them has
  pub out-one-more : (ends : List (Option LinkEnd)) (register : Option (Register L)) (xs : List (Held L)) (h : Held L) → count_of h.who xs ≡ 0 → IsHeld ends register h
      → AreOut ends register xs → AreOut ends register (xs ++ h ∷ [])
  out-one-more ends register xs h none is o = record {
    each = all-append (IsHeld ends register) xs (h ∷ []) o.each (is, tt);
    distinct = λ c. by c (h.who == c) refl;
  }
    where
      by : (c : ℕ) (b : Bool) → (h.who == c) ≡ b → count_of c (xs ++ h ∷ []) ≤ 1
      by c true e =
          let same : h.who ≡ c = eqb-true h.who c e in
          let all = count-append c xs (h ∷ []) in
          let one = count-one c h [] same in
          let no : count_of c xs ≡ 0 = subst (λ (n : ℕ). count_of n xs ≡ 0) same none in
          omega (arith, all, one, no)
      by c false e =
          let all = count-append c xs (h ∷ []) in
          let one : count_of c (h ∷ []) ≡ 0 = ap (λ (b : Bool). cond b 1 0 + 0) e in
          let most = o.distinct c in
          omega (arith, all, one, most)

  -- a number above all places is nobody's
  pub count-past : (ends : List (Option LinkEnd)) (register : Option (Register L)) (c : ℕ) (hs : List (Held L)) → length ends < c → AllByRecursion (IsHeld ends register) hs → count_of c hs ≡ 0
  count-past ends register c [] past p = refl
  count-past ends register c (h ∷ hs) past p =
      count-other c h hs (λ e. let w = p.0.within in absurd (omega (arith, e, past, w))) ∙ count-past ends register c hs past p.1

-- ---- links that the listener told

module _ {L : Type 0} where
  pub back-here : (n : ℕ) (link : L) (xs : List (Arrived L)) (a : Arrived L) → slice_get xs n ≡ Some a
      → slice_get (back_behind n link xs) n ≡ Some (record { link = a.link; uid = a.uid; back = Some link })
  back-here n link [] a e = absurd (none-some a e)
  back-here zero link (b ∷ xs) a e = ap (λ (z : Arrived L). Some (record { link = z.link; uid = z.uid; back = Some link })) (same_Some b a e)
  back-here (suc n) link (b ∷ xs) a e = back-here n link xs a e

  pub back-other : (n k : ℕ) (link : L) (xs : List (Arrived L)) → n ≢ k → slice_get (back_behind n link xs) k ≡ slice_get xs k
  back-other n k link [] apart = refl
  back-other zero zero link (a ∷ xs) apart = absurd (apart refl)
  back-other zero (suc k) link (a ∷ xs) apart = refl
  back-other (suc n) zero link (a ∷ xs) apart = refl
  back-other (suc n) (suc k) link (a ∷ xs) apart = back-other n k link xs (λ e. apart (ap suc e))

  pub long-back : (n : ℕ) (link : L) (xs : List (Arrived L)) → length (back_behind n link xs) ≡ length xs
  long-back n link [] = refl
  long-back zero link (a ∷ xs) = refl
  long-back (suc n) link (a ∷ xs) = ap suc (long-back n link xs)

  -- the last one
  pub back-last : (link : L) (xs : List (Arrived L)) (a : Arrived L) → back_behind (length xs) link (xs ++ a ∷ []) ≡ xs ++ record { link = a.link; uid = a.uid; back = Some link } ∷ []
  back-last link [] a = refl
  back-last link (x ∷ xs) a = ap (λ (z : List (Arrived L)). x ∷ z) (back-last link xs a)
