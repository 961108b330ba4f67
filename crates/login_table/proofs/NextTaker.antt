-- The next session that has a device taken, among keys that ascend.
use Rattle.std.proofs.Common.{◌≡◌, ℕ, zero, suc, ◌==◌, ◌<◌, ◌≤◌, ◌||◌, Bool, true, false, cond, not, Option, Some, None, List, [], ◌∷◌, length, filter, drop, refl, ap, sym, arith, ◌∙◌, inl, inr}
use Rattle.std.proofs.lemmas.Bool.Decides.{nat_tests}
use Rattle.std.specs.Option.{option_and_then}
use Rattle.login_base.specs.declared.ids.SessId.{SessId}
use Rattle.login_base.specs.declared.ids.DevNo.{DevNo}
use Rattle.login_model.specs.declared.fact.Key.{Key}
use Rattle.login_model.specs.declared.fact.Key.TheVariants.{Taken}
use Rattle.login_model.specs.Same.{same_device, same_key}
use Rattle.login_model.specs.Names.{IsNext, session_lt, is_above}
use Rattle.login_model.proofs.Keys.{both, same-session, test}
use Rattle.login_model.proofs.NameLaws.{session_order}
use Rattle.login_table.specs.declared.key_order.TheConstants.{TAKES}
use Rattle.login_table.specs.KeyOrder.{key_lt, pair_lt}
use Rattle.login_table.specs.inner.Keys.{has, holder_in, is_held_by, is_holder, is_holder_passed, KeysAscendFrom}
use Rattle.login_table.specs.Listed.{first}
use Rattle.login_table.specs.inner.Fronts.{IsFront}
use Rattle.login_table.proofs.KeyOrder.{rank-below, no-test}
use Rattle.login_table.proofs.Keys.{keys-lower}
use Rattle.login_table.proofs.NextKey.{no-some, some-is}
use Rattle.login_table.proofs.NextTaken.{dropped-ascend, or-first, or-second, stops, Stops, true-from}

-- whoever is past a key is past those below it
pair-down : (above r q : SessId) (a b : DevNo) → pair_lt r a q b ≡ true → not (session_lt above q) ≡ true → not (session_lt above r) ≡ true
pair-down above r q a b h e = grind (arith, nat_tests)

taken-down : (above : Option SessId) (r q : SessId) (a b : DevNo) → pair_lt r a q b ≡ true → not (is_above session_lt above q) ≡ true → not (is_above session_lt above r) ≡ true
taken-down None r q a b h e = e
taken-down (Some s) r q a b h e = pair-down s r q a b h e

pub holder-down : (above : Option SessId) (x y : Key) → key_lt x y ≡ true → is_holder_passed above y ≡ true → is_holder_passed above x ≡ true
holder-down above (Taken r a) (Taken q b) h e = taken-down above r q a b h e
holder-down above (Taken r a) _ h e = cc
holder-down above _ (Taken q b) h e = h
holder-down above x y h e = rank-below TAKES x y h e

-- the key of a session and a device is that session's
held-itself : (s : SessId) (d : DevNo) (x : Key) → same_key x (Taken s d) ≡ true → is_held_by s x ≡ true
held-itself s d (Taken r b) h = (both (r.0 == s.0) (same_device b d) h).0
held-itself s d _ h = h

-- what is not in front is behind
skip : (b c : Bool) → b ≡ false → (b || c) ≡ true → c ≡ true
skip b c n h = sym (ap (λ (a : Bool). a || c) n) ∙ h

pub has-holder : (s : SessId) (d : DevNo) (xs : List Key) → has (Taken s d) xs ≡ true → is_holder s xs ≡ true
has-holder s d [] h = h
has-holder s d (x ∷ xs) h = elim (test (same_key x (Taken s d))) [
  | inl y ↦ or-first (is_held_by s x) (is_holder s xs) (held-itself s d x y)
  | inr n ↦ or-second (is_held_by s x) (is_holder s xs) (has-holder s d xs (skip (same_key x (Taken s d)) (has (Taken s d) xs) n h))
]

-- the session of a key
held-named : (s : SessId) (x : Key) → is_held_by s x ≡ true → holder_in x ≡ Some s
held-named s (Taken r a) h = ap Some (same-session r s h)
held-named s _ h = cc

same-self : (n : ℕ) → (n == n) ≡ true
same-self n = grind (arith, nat_tests)

named-held : (r : SessId) (x : Key) → holder_in x ≡ Some r → is_held_by r x ≡ true
named-held r (Taken q a) e = ap (λ (z : SessId). q.0 == z.0) (sym (some-is e)) ∙ same-self q.0
named-held r _ e = cc

-- the keys of sessions that are above are not passed, and the other way round
above-passed : (above : Option SessId) (s : SessId) (x : Key) → is_held_by s x ≡ true → is_above session_lt above s ≡ true → is_holder_passed above x ≡ false
above-passed above s (Taken r a) h e = ap not (ap (is_above session_lt above) (same-session r s h) ∙ e)
above-passed above s _ h e = cc

passed-above : (above : Option SessId) (x : Key) (r : SessId) → is_holder_passed above x ≡ false → holder_in x ≡ Some r → is_above session_lt above r ≡ true
passed-above above (Taken q a) r f e = ap (is_above session_lt above) (sym (some-is e)) ∙ true-from (is_above session_lt above q) f
passed-above above _ r f e = cc

-- they are behind
behind : (above : Option SessId) (s : SessId) (n : ℕ) (xs : List Key) → is_above session_lt above s ≡ true → IsFront (is_holder_passed above) n xs → is_holder s xs ≡ true → is_holder s (drop n xs) ≡ true
behind above s zero [] e f h = h
behind above s (suc n) [] e f h = absurd f
behind above s zero (x ∷ xs) e f h = h
behind above s (suc n) (x ∷ xs) e f h = elim (test (is_held_by s x)) [
  | inl y ↦ absurd (no-test f.0 (above-passed above s x y e))
  | inr o ↦ behind above s n xs e f.1 (skip (is_held_by s x) (is_holder s xs) o h)
]

from-behind : (above : Option SessId) (s : SessId) (n : ℕ) (xs : List Key) → IsFront (is_holder_passed above) n xs → is_holder s (drop n xs) ≡ true → is_holder s xs ≡ true
from-behind above s zero [] f h = h
from-behind above s (suc n) [] f h = absurd f
from-behind above s zero (x ∷ xs) f h = h
from-behind above s (suc n) (x ∷ xs) f h = or-second (is_held_by s x) (is_holder s xs) (from-behind above s n xs f.1 h)

-- the sessions of keys do not fall
pair-up : (q p : SessId) (a b : DevNo) → pair_lt q a p b ≡ true → session_lt p q ≡ false
pair-up q p a b h = grind (arith, nat_tests)

later : (j x : Key) (r s : SessId) → holder_in j ≡ Some r → is_held_by s x ≡ true → key_lt j x ≡ true → session_lt s r ≡ false
later (Taken q a) (Taken p b) r s e y h =
    ap (λ (z : SessId). session_lt z r) (sym (same-session p s y)) ∙ ap (session_lt p) (sym (some-is e)) ∙ pair-up q p a b h
later (Taken q a) _ r s e y h = cc
later _ _ r s e y h = cc

not-below : (j : Key) (r s : SessId) (xs : List Key) → holder_in j ≡ Some r → KeysAscendFrom (Some j) xs → is_holder s xs ≡ true → session_lt s r ≡ false
not-below j r s [] e a h = absurd (let z : false ≡ true = h in cc)
not-below j r s (x ∷ xs) e a h = elim (test (is_held_by s x)) [
  | inl y ↦ later j x r s e y a.0
  | inr o ↦ not-below j r s xs e (keys-lower j x xs a.0 a.1) (skip (is_held_by s x) (is_holder s xs) o h)
]

-- behind a key of none that is not passed there are no keys of sessions
gap : (above : Option SessId) (x y : Key) (s : SessId) → is_holder_passed above x ≡ false → holder_in x ≡ None → is_held_by s y ≡ true → key_lt x y ≡ true → ⊥
gap above (Taken r a) y s f n t h = no-some n refl
gap above _ (Taken r b) s f n t h = no-test h f
gap above _ _ s f n t h = cc

none-after : (above : Option SessId) (x : Key) (s : SessId) (xs : List Key) → is_holder_passed above x ≡ false → holder_in x ≡ None → KeysAscendFrom (Some x) xs → is_holder s xs ≡ true → ⊥
none-after above x s [] f n a h = let z : false ≡ true = h in cc
none-after above x s (y ∷ ys) f n a h = elim (test (is_held_by s y)) [
  | inl t ↦ gap above x y s f n t a.0
  | inr o ↦ none-after above x s ys f n (keys-lower x y ys a.0 a.1) (skip (is_held_by s y) (is_holder s ys) o h)
]

-- the session of the first key
abbrev pub first_holder : List Key → Option SessId
first_holder xs = option_and_then holder_in (first xs)

-- where the first key is no session's, none is
none : (above : Option SessId) (ys : List Key) (s : SessId) → KeysAscendFrom None ys → Stops (is_holder_passed above) ys → first_holder ys ≡ None → is_holder s ys ≡ true → ⊥
none above [] s a f n h = let z : false ≡ true = h in cc
none above (x ∷ xs) s a f n h = elim (test (is_held_by s x)) [
  | inl y ↦ no-some n (held-named s x y)
  | inr o ↦ none-after above x s xs f n a.1 (skip (is_held_by s x) (is_holder s xs) o h)
]

-- and where it is one's, that is the least
least : (ys : List Key) (r s : SessId) → KeysAscendFrom None ys → first_holder ys ≡ Some r → is_holder s ys ≡ true → session_lt s r ≡ false
least [] r s a n h = absurd (no-some refl n)
least (x ∷ xs) r s a n h = elim (test (is_held_by s x)) [
  | inl y ↦ (let same : r ≡ s = some-is (sym n ∙ held-named s x y) in ap (λ (z : SessId). session_lt z r) (sym same) ∙ session_order.irreflexive r)
  | inr o ↦ not-below x r s xs n a.1 (skip (is_held_by s x) (is_holder s xs) o h)
]

there : (ys : List Key) (r : SessId) → first_holder ys ≡ Some r → is_holder r ys ≡ true
there [] r n = absurd (no-some refl n)
there (x ∷ xs) r n = or-first (is_held_by r x) (is_holder r xs) (named-held r x n)

first-above : (above : Option SessId) (ys : List Key) (r : SessId) → Stops (is_holder_passed above) ys → first_holder ys ≡ Some r → is_above session_lt above r ≡ true
first-above above [] r f n = absurd (no-some refl n)
first-above above (x ∷ xs) r f n = passed-above above x r f n

-- the session of the first key behind is the next
pub next-holder : (above : Option SessId) (n : ℕ) (xs : List Key) (z : Option SessId) → KeysAscendFrom None xs → IsFront (is_holder_passed above) n xs → first_holder (drop n xs) ≡ z
    → IsNext session_lt (λ s. is_holder s xs) above z
next-holder above n xs None a f e = λ s p q. none above (drop n xs) s (dropped-ascend None n xs a) (stops (is_holder_passed above) n xs f) e (behind above s n xs q f p)
next-holder above n xs (Some r) a f e = (
  from-behind above r n xs f (there (drop n xs) r e),
  first-above above (drop n xs) r (stops (is_holder_passed above) n xs f) e,
  λ s p q. least (drop n xs) r s (dropped-ascend None n xs a) e (behind above s n xs q f p),
)

-- ---- going from one session to the next

-- none that has the device was passed over
pub record Searched (meets : SessId → Bool) (above from : Option SessId) : Type 0 where
  pub left : (s : SessId) → meets s ≡ true → is_above session_lt above s ≡ true → is_above session_lt from s ≡ true
  pub within : (s : SessId) → is_above session_lt from s ≡ true → is_above session_lt above s ≡ true

pub searched-start : (meets : SessId → Bool) (above : Option SessId) → Searched meets above above
searched-start meets above = record { left = λ s e h. h; within = λ s h. h }

further : (from : Option SessId) (r s : SessId) → is_above session_lt from r ≡ true → session_lt r s ≡ true → is_above session_lt from s ≡ true
further None r s p q = refl
further (Some c) r s p q = session_order.transitive c r s p q

beyond : (meets : SessId → Bool) (r s : SessId) → meets r ≡ false → meets s ≡ true → session_lt s r ≡ false → session_lt r s ≡ true
beyond meets r s e f n = elim (test (session_lt r s)) [
  | inl y ↦ y
  | inr x ↦ absurd (no-test f (ap meets (session_order.total s r n x) ∙ e))
]

module _ (d : DevNo) (xs : List Key) (above from : Option SessId) (p : Searched (λ s. has (Taken s d) xs) above from) where
  pub searched-more : (r : SessId) → IsNext session_lt (λ s. is_holder s xs) from (Some r) → has (Taken r d) xs ≡ false → Searched (λ s. has (Taken s d) xs) above (Some r)
  searched-more r n e = record {
    left = λ s h k. beyond (λ z. has (Taken z d) xs) r s e h (n.2 s (has-holder s d xs h) (p.left s h k));
    within = λ s h. p.within s (further from r s n.1 h);
  }

  pub searched-found : (r : SessId) → IsNext session_lt (λ s. is_holder s xs) from (Some r) → has (Taken r d) xs ≡ true → IsNext session_lt (λ s. has (Taken s d) xs) above (Some r)
  searched-found r n e = (e, p.within r n.1, λ s h k. n.2 s (has-holder s d xs h) (p.left s h k))

  pub searched-none : IsNext session_lt (λ s. is_holder s xs) from None → IsNext session_lt (λ s. has (Taken s d) xs) above None
  searched-none n = λ s h k. n s (has-holder s d xs h) (p.left s h k)

-- the keys of sessions above that one
abbrev is_ahead : Option SessId → Key → Bool
is_ahead from (Taken s d) = is_above session_lt from s
is_ahead from x = false

abbrev pub ahead : Option SessId → List Key → List Key
ahead from xs = filter (is_ahead from) xs

narrows : (from : Option SessId) (r : SessId) (x : Key) → is_above session_lt from r ≡ true → is_ahead (Some r) x ≡ true → is_ahead from x ≡ true
narrows from r (Taken s d) e h = further from r s e h
narrows from r _ e h = h

at-end : (r : SessId) (x : Key) → is_held_by r x ≡ true → is_ahead (Some r) x ≡ false
at-end r (Taken s d) h = ap (session_lt r) (same-session s r h) ∙ session_order.irreflexive r
at-end r _ h = refl

at-front : (from : Option SessId) (r : SessId) (x : Key) → is_above session_lt from r ≡ true → is_held_by r x ≡ true → is_ahead from x ≡ true
at-front from r (Taken s d) e h = ap (is_above session_lt from) (same-session s r h) ∙ e
at-front from r _ e h = h

count-step : (b c : Bool) (x : Key) (ys zs : List Key) → (b ≡ true → c ≡ true) → length ys ≤ length zs → length (cond b (x ∷ ys) ys) ≤ length (cond c (x ∷ zs) zs)
count-step true true x ys zs f h = omega arith
count-step true false x ys zs f h = absurd (no-test refl (sym (f refl)))
count-step false true x ys zs f h = omega arith
count-step false false x ys zs f h = h

less-step : (b c : Bool) (x : Key) (ys zs : List Key) → (b ≡ true → c ≡ true) → length ys < length zs → length (cond b (x ∷ ys) ys) < length (cond c (x ∷ zs) zs)
less-step true true x ys zs f h = omega arith
less-step true false x ys zs f h = absurd (no-test refl (sym (f refl)))
less-step false true x ys zs f h = omega arith
less-step false false x ys zs f h = h

drop-step : (b c : Bool) (x : Key) (ys zs : List Key) → b ≡ false → c ≡ true → length ys ≤ length zs → length (cond b (x ∷ ys) ys) < length (cond c (x ∷ zs) zs)
drop-step true c x ys zs e f h = absurd (no-test refl e)
drop-step false false x ys zs e f h = absurd (no-test refl (sym f))
drop-step false true x ys zs e f h = omega arith

no-more : (from : Option SessId) (r : SessId) (xs : List Key) → is_above session_lt from r ≡ true → length (ahead (Some r) xs) ≤ length (ahead from xs)
no-more from r [] e = omega arith
no-more from r (x ∷ xs) e = count-step (is_ahead (Some r) x) (is_ahead from x) x (ahead (Some r) xs) (ahead from xs) (narrows from r x e) (no-more from r xs e)

fewer : (from : Option SessId) (r : SessId) (xs : List Key) → is_above session_lt from r ≡ true → is_holder r xs ≡ true → length (ahead (Some r) xs) < length (ahead from xs)
fewer from r [] e h = absurd (let z : false ≡ true = h in cc)
fewer from r (x ∷ xs) e h = elim (test (is_held_by r x)) [
  | inl y ↦ drop-step (is_ahead (Some r) x) (is_ahead from x) x (ahead (Some r) xs) (ahead from xs) (at-end r x y) (at-front from r x e y) (no-more from r xs e)
  | inr o ↦ less-step (is_ahead (Some r) x) (is_ahead from x) x (ahead (Some r) xs) (ahead from xs) (narrows from r x e) (fewer from r xs e (skip (is_held_by r x) (is_holder r xs) o h))
]

-- fewer of them are left with each session
pub searched-less : (from : Option SessId) (r : SessId) (xs : List Key) → IsNext session_lt (λ s. is_holder s xs) from (Some r) → length (ahead (Some r) xs) < length (ahead from xs)
searched-less from r xs n = fewer from r xs n.1 n.0
