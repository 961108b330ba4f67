-- The next device that a session has taken, among keys that ascend.
use Rattle.std.proofs.Common.{◌≡◌, ℕ, zero, suc, ◌==◌, ◌||◌, Bool, true, false, cond, not, Option, Some, None, List, [], ◌∷◌, drop, refl, ap, sym, arith, ◌∙◌, subst, inl, inr}
use Rattle.std.proofs.lemmas.Bool.Decides.{nat_tests}
use Rattle.std.specs.Option.{option_and_then}
use Rattle.login_base.specs.declared.ids.SessId.{SessId}
use Rattle.login_base.specs.declared.ids.DevNo.{DevNo}
use Rattle.login_model.specs.declared.fact.Key.{Key}
use Rattle.login_model.specs.declared.fact.Key.TheVariants.{Taken}
use Rattle.login_model.specs.Devices.{taken_in}
use Rattle.login_model.specs.Same.{same_key}
use Rattle.login_model.specs.Names.{IsNext, device_lt, is_above}
use Rattle.login_model.proofs.Keys.{same_key-true, test}
use Rattle.login_model.proofs.NameLaws.{device_order, taken_keys}
use Rattle.login_model.proofs.Values.{key-refl}
use Rattle.login_table.specs.KeyOrder.{key_lt, pair_lt}
use Rattle.login_table.specs.inner.Keys.{has, is_taken_passed, KeysAscendFrom}
use Rattle.login_table.specs.Listed.{first}
use Rattle.login_table.specs.inner.Fronts.{IsFront}
use Rattle.login_table.proofs.KeyOrder.{no-test}
use Rattle.login_table.proofs.Keys.{keys-lower, keys-anyhow}
use Rattle.login_table.proofs.NextKey.{no-some, some-is}

-- of one session by the device alone
one-session : (s : SessId) (a b : DevNo) → pair_lt s a s b ≡ device_lt a b
one-session s a b = grind (arith, nat_tests)

none-least : (s : SessId) (e : DevNo) → pair_lt s e s (record { major = 0; minor = 0 }) ≡ false
none-least s e = grind (arith, nat_tests)

-- the key of a device that is above is not passed, and the other way round
above-passed : (s : SessId) (above : Option DevNo) (e : DevNo) → is_above device_lt above e ≡ true → is_taken_passed s above (Taken s e) ≡ false
above-passed s None e h = none-least s e
above-passed s (Some d) e h = ap not (one-session s d e ∙ h)

pub true-from : (b : Bool) → not b ≡ false → b ≡ true
true-from true h = refl
true-from false h = let z : true ≡ false = h in cc

passed-above : (s : SessId) (above : Option DevNo) (e : DevNo) → is_taken_passed s above (Taken s e) ≡ false → is_above device_lt above e ≡ true
passed-above s None e h = refl
passed-above s (Some d) e h = sym (one-session s d e) ∙ true-from (pair_lt s d s e) h

pub or-first : (a b : Bool) → a ≡ true → (a || b) ≡ true
or-first true b h = refl
or-first false b h = let z : false ≡ true = h in cc

pub or-second : (a b : Bool) → b ≡ true → (a || b) ≡ true
or-second true b h = refl
or-second false b h = h

-- a key that is not passed is behind
behind : (p : Key → Bool) (k : Key) (n : ℕ) (xs : List Key) → p k ≡ false → IsFront p n xs → has k xs ≡ true → has k (drop n xs) ≡ true
behind p k zero [] m f h = h
behind p k (suc n) [] m f h = absurd f
behind p k zero (x ∷ xs) m f h = h
behind p k (suc n) (x ∷ xs) m f h = elim (test (same_key x k)) [
  | inl y ↦ absurd (no-test f.0 (ap p (same_key-true x k y) ∙ m))
  | inr o ↦ behind p k n xs m f.1 (sym (ap (λ (b : Bool). b || has k xs) o) ∙ h)
]

from-behind : (p : Key → Bool) (k : Key) (n : ℕ) (xs : List Key) → IsFront p n xs → has k (drop n xs) ≡ true → has k xs ≡ true
from-behind p k zero [] f h = h
from-behind p k (suc n) [] f h = absurd f
from-behind p k zero (x ∷ xs) f h = h
from-behind p k (suc n) (x ∷ xs) f h = or-second (same_key x k) (has k xs) (from-behind p k n xs f.1 h)

pub dropped-ascend : (b : Option Key) (n : ℕ) (xs : List Key) → KeysAscendFrom b xs → KeysAscendFrom None (drop n xs)
dropped-ascend b zero [] a = tt
dropped-ascend b (suc n) [] a = tt
dropped-ascend b zero (x ∷ xs) a = keys-anyhow b (x ∷ xs) a
dropped-ascend b (suc n) (x ∷ xs) a = dropped-ascend (Some x) n xs a.1

-- the first key is not passed
abbrev pub Stops : (Key → Bool) → List Key → Type 0
Stops p [] = Unit {0}
Stops p (x ∷ xs) = p x ≡ false

pub stops : (p : Key → Bool) (n : ℕ) (xs : List Key) → IsFront p n xs → Stops p (drop n xs)
stops p zero [] f = tt
stops p (suc n) [] f = absurd f
stops p zero (x ∷ xs) f = f
stops p (suc n) (x ∷ xs) f = stops p n xs f.1

-- the keys behind one are above it
has-above : (j k : Key) (xs : List Key) → KeysAscendFrom (Some j) xs → has k xs ≡ true → key_lt j k ≡ true
has-above j k [] a h = absurd (let z : false ≡ true = h in cc)
has-above j k (x ∷ xs) a h = elim (test (same_key x k)) [
  | inl y ↦ ap (key_lt j) (sym (same_key-true x k y)) ∙ a.0
  | inr o ↦ has-above j k xs (keys-lower j x xs a.0 a.1) (sym (ap (λ (b : Bool). b || has k xs) o) ∙ h)
]

sessions-apart : (r s : SessId) (b e : DevNo) → pair_lt r b s (record { major = 0; minor = 0 }) ≡ false → pair_lt r b s e ≡ true → (r.0 == s.0) ≡ true
sessions-apart r s b e p q = grind (arith, nat_tests)

sessions-same : (r s : SessId) (d b e : DevNo) → pair_lt s d r b ≡ true → pair_lt r b s e ≡ true → (r.0 == s.0) ≡ true
sessions-same r s d b e p q = grind (arith, nat_tests)

named : (r s : SessId) (b : DevNo) → (r.0 == s.0) ≡ true → taken_in s (Taken r b) ≡ None → ⊥
named r s b y n = let z : Some b ≡ None = sym (ap (λ (c : Bool). cond c (Some b) None) y) ∙ n in cc

-- between the place and a key of the session there are keys of the session alone
between : (s : SessId) (above : Option DevNo) (x : Key) (e : DevNo) → is_taken_passed s above x ≡ false → key_lt x (Taken s e) ≡ true → taken_in s x ≡ None → ⊥
between s None (Taken r b) e p q n = named r s b (sessions-apart r s b e p q) n
between s None _ e p q n = no-test q p
between s (Some d) (Taken r b) e p q n = named r s b (sessions-same r s d b e (true-from (pair_lt s d r b) p) q) n
between s (Some d) _ e p q n = cc

-- the device of the first key
abbrev pub first_taken : SessId → List Key → Option DevNo
first_taken s xs = option_and_then (taken_in s) (first xs)

asym : (a b : DevNo) → device_lt a b ≡ true → device_lt b a ≡ false
asym a b h = elim (test (device_lt b a)) [
  | inl y ↦ absurd (no-test (device_order.transitive a b a h y) (device_order.irreflexive a))
  | inr n ↦ n
]

module _ (s : SessId) (above : Option DevNo) where
  -- where the first key is none of the session's, no key is
  none : (ys : List Key) (e : DevNo) → KeysAscendFrom None ys → Stops (is_taken_passed s above) ys → first_taken s ys ≡ None → has (Taken s e) ys ≡ true → ⊥
  none [] e a f n h = let z : false ≡ true = h in cc
  none (x ∷ xs) e a f n h = elim (test (same_key x (Taken s e))) [
    | inl y ↦ no-some n (ap (taken_in s) (same_key-true x (Taken s e) y) ∙ (taken_keys s).named e)
    | inr o ↦ between s above x e f (has-above x (Taken s e) xs a.1 (sym (ap (λ (b : Bool). b || has (Taken s e) xs) o) ∙ h)) n
  ]

  -- and where it is, it is the least
  least : (ys : List Key) (d e : DevNo) → KeysAscendFrom None ys → first_taken s ys ≡ Some d → has (Taken s e) ys ≡ true → device_lt e d ≡ false
  least [] d e a n h = absurd (no-some refl n)
  least (x ∷ xs) d e a n h =
      let own = (taken_keys s).own x d n in
      elim (test (same_key x (Taken s e))) [
        | inl y ↦
            (let same : d ≡ e = some-is (sym n ∙ ap (taken_in s) (same_key-true x (Taken s e) y) ∙ (taken_keys s).named e) in
            ap (λ (z : DevNo). device_lt z d) (sym same) ∙ device_order.irreflexive d)
        | inr o ↦
            asym d e (sym (one-session s d e) ∙ ap (λ (z : Key). key_lt z (Taken s e)) (sym own)
            ∙ has-above x (Taken s e) xs a.1 (sym (ap (λ (b : Bool). b || has (Taken s e) xs) o) ∙ h))
      ]

  there : (ys : List Key) (d : DevNo) → first_taken s ys ≡ Some d → has (Taken s d) ys ≡ true
  there [] d n = absurd (no-some refl n)
  there (x ∷ xs) d n = or-first (same_key x (Taken s d)) (has (Taken s d) xs) (key-refl x (Taken s d) ((taken_keys s).own x d n))

  is-above : (ys : List Key) (d : DevNo) → Stops (is_taken_passed s above) ys → first_taken s ys ≡ Some d → is_above device_lt above d ≡ true
  is-above [] d f n = absurd (no-some refl n)
  is-above (x ∷ xs) d f n = passed-above s above d (ap (is_taken_passed s above) (sym ((taken_keys s).own x d n)) ∙ f)

  -- the device of the first key behind is the next
  pub next-taken : (n : ℕ) (xs : List Key) (z : Option DevNo) → KeysAscendFrom None xs → IsFront (is_taken_passed s above) n xs → first_taken s (drop n xs) ≡ z
      → IsNext device_lt (λ d. has (Taken s d) xs) above z
  next-taken n xs None a f e = λ d p q.
      none (drop n xs) d (dropped-ascend None n xs a) (stops (is_taken_passed s above) n xs f) e (behind (is_taken_passed s above) (Taken s d) n xs (above-passed s above d q) f p)
  next-taken n xs (Some d) a f e = (
    from-behind (is_taken_passed s above) (Taken s d) n xs f (there (drop n xs) d e),
    is-above (drop n xs) d (stops (is_taken_passed s above) n xs f) e,
    λ b p q. least (drop n xs) d b (dropped-ascend None n xs a) e (behind (is_taken_passed s above) (Taken s b) n xs (above-passed s above b q) f p),
  )

-- the front of the keys that a match tells
pub front-some : (s : SessId) (above : Option DevNo) (d : DevNo) (n : ℕ) (xs : List Key) → above ≡ Some d → IsFront (λ (x : Key). not (key_lt (Taken s d) x)) n xs → IsFront (is_taken_passed s above) n xs
front-some s above d n xs e f = let P : Option DevNo → Type 0 = λ a. IsFront (is_taken_passed s a) n xs in subst P (sym e) f

pub front-none : (s : SessId) (above : Option DevNo) (n : ℕ) (xs : List Key) → above ≡ None → IsFront (λ (x : Key). key_lt x (Taken s (record { major = 0; minor = 0 }))) n xs → IsFront (is_taken_passed s above) n xs
front-none s above n xs e f = let P : Option DevNo → Type 0 = λ a. IsFront (is_taken_passed s a) n xs in subst P (sym e) f
