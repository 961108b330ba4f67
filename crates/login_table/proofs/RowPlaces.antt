-- The places of rows: which keys stand there, and what a row put in makes of them.
use Rattle.std.proofs.Common.{◌≡◌, ℕ, zero, suc, nat_lt, ◌==◌, ◌<◌, ◌≤◌, ◌+◌, ◌-◌, ◌||◌, Bool, true, false, cond, Option, Some, None, List, [], ◌∷◌, ◌++◌, length, get_or, map, take, drop, set, refl, ap, sym, ◌∙◌, subst, arith, inl, inr, Result, Ok, Err}
use Rattle.std.proofs.lemmas.Bool.{cases_lt}
use Rattle.std.proofs.lemmas.List.{append-nil, drop_all, take-append-drop, take_at, take_rest}
use Rattle.std.proofs.lemmas.Bool.Decides.{nat_tests}
use Rattle.std.proofs.lemmas.List.Sorted.{searched}
use Rattle.std.specs.List.Sorted.{IsBinarySearchResult, IsPartitionedBy}
use Rattle.std.specs.Ordering.{nat_cmp}
use Rattle.std.specs.Result.{MatchResult}
use Rattle.login_model.specs.declared.fact.Key.{Key}
use Rattle.login_model.specs.declared.fact.Fact.{Fact}
use Rattle.login_model.specs.Same.{same_key}
use Rattle.login_model.proofs.Keys.{same_key-true}
use Rattle.login_table.specs.KeyOrder.{key_lt}
use Rattle.login_table.specs.inner.Keys.{has, KeysAscend, KeysAscendFrom}
use Rattle.login_table.specs.inner.Ordered.{is_row_of, with_fact}
use Rattle.login_table.specs.inner.Places.{key_at, keys_at, PlacesAscend, PlacesFrom, put_place, raised, raised_by, with_front}
use Rattle.login_table.specs.Listed.{first}
use Rattle.login_table.specs.Rows.{Ascend, AscendFrom}
use Rattle.login_table.specs.inner.Fronts.{IsFront}
use Rattle.login_table.specs.declared.rows.Row.{Row}
use Rattle.login_table.proofs.Ascending.{opened, lower}
use Rattle.login_table.proofs.KeyOrder.{below-apart, no-test}
use Rattle.login_table.proofs.Keys.{keys-closed, keys-opened, keys-parted, none-below}

-- ascending places, opened
pub places-opened : (n : ℕ) (ps : List ℕ) → PlacesAscend n ps → PlacesFrom 0 n ps
unfolding PlacesAscend
places-opened n ps a = a

-- and closed again
pub places-closed : (n : ℕ) (ps : List ℕ) → PlacesFrom 0 n ps → PlacesAscend n ps
unfolding PlacesAscend
places-closed n ps a = a

wider : (low m n : ℕ) (ps : List ℕ) → m ≤ n → PlacesFrom low m ps → PlacesFrom low n ps
wider low m n [] h a = tt
wider low m n (p ∷ ps) h a = (a.0, omega (arith, a.1), wider (suc p) m n ps h a.2)

-- what are places of some rows are places of more
pub places-wider : (m n : ℕ) (ps : List ℕ) → m ≤ n → PlacesAscend m ps → PlacesAscend n ps
places-wider m n ps h a = places-closed n ps (wider 0 m n ps h (places-opened m ps a))

-- ---- the keys at places

-- the key at a place that is behind another is above
first-row-below : (k : Key) (xs : List Row) (j : ℕ) → AscendFrom (Some k) xs → j < length xs → key_lt k (key_at xs j) ≡ true
first-row-below k [] j a h = absurd (omega arith)
first-row-below k (x ∷ xs) zero a h = a.0
first-row-below k (x ∷ xs) (suc j) a h = first-row-below k xs j (lower k x.key xs a.0 a.1) (omega arith)

row-below : (b : Option Key) (xs : List Row) (i j : ℕ) → AscendFrom b xs → i < j → j < length xs → key_lt (key_at xs i) (key_at xs j) ≡ true
row-below b [] i j a l h = absurd (omega arith)
row-below b (x ∷ xs) zero zero a l h = absurd (omega arith)
row-below b (x ∷ xs) (suc i) zero a l h = absurd (omega arith)
row-below b (x ∷ xs) zero (suc j) a l h = first-row-below x.key xs j a.1 (omega arith)
row-below b (x ∷ xs) (suc i) (suc j) a l h = row-below (Some x.key) xs i j a.1 (omega arith) (omega arith)

module _ (xs : List Row) (up : AscendFrom None xs) where
  keys-behind : (i low : ℕ) (ps : List ℕ) → i < low → PlacesFrom low (length xs) ps → KeysAscendFrom (Some (key_at xs i)) (keys_at xs ps)
  keys-behind i low [] h a = tt
  keys-behind i low (p ∷ ps) h a = (row-below None xs i p up (omega (arith, a.0)) a.1, keys-behind p (suc p) ps (omega arith) a.2)

  keys-from : (low : ℕ) (ps : List ℕ) → PlacesFrom low (length xs) ps → KeysAscendFrom None (keys_at xs ps)
  keys-from low [] a = tt
  keys-from low (p ∷ ps) a = (refl, keys-behind p (suc p) ps (omega arith) a.2)

-- the keys at the places of what is there ascend
pub keys-ascend : (xs : List Row) (ps : List ℕ) → Ascend xs → PlacesAscend (length xs) ps → KeysAscend (keys_at xs ps)
keys-ascend xs ps up a = keys-closed (keys_at xs ps) (keys-from xs (opened xs up) 0 ps (places-opened (length xs) ps a))

pub length-keys : (xs : List Row) (ps : List ℕ) → length (keys_at xs ps) ≡ length ps
length-keys xs [] = refl
length-keys xs (p ∷ ps) = ap suc (length-keys xs ps)

pub drop-keys : (xs : List Row) (n : ℕ) (ps : List ℕ) → drop n (keys_at xs ps) ≡ keys_at xs (drop n ps)
drop-keys xs zero [] = refl
drop-keys xs (suc n) [] = refl
drop-keys xs zero (p ∷ ps) = refl
drop-keys xs (suc n) (p ∷ ps) = drop-keys xs n ps

key-of : (xs : List Row) (ps : List ℕ) (i d : ℕ) → get_or (keys_at xs ps) i (key_at xs d) ≡ key_at xs (get_or ps i d)
key-of xs [] i d = refl
key-of xs (p ∷ ps) zero d = refl
key-of xs (p ∷ ps) (suc i) d = key-of xs ps i d

-- the key of a place that is gone over
pub key-read : (xs : List Row) (ps : List ℕ) (i d : ℕ) (k : Key) → i < length ps → k ≡ key_at xs (get_or ps i d) → k ≡ get_or (keys_at xs ps) i k
key-read xs [] i d k h e = absurd (omega arith)
key-read xs (p ∷ ps) zero d k h e = e
key-read xs (p ∷ ps) (suc i) d k h e = key-read xs ps i d k (omega arith) e

-- the first key from a place on, and that there is none behind the last
pub key-first : (xs : List Row) (ps : List ℕ) (i d : ℕ) → i < length ps → first (drop i (keys_at xs ps)) ≡ Some (key_at xs (get_or ps i d))
key-first xs [] i d h = absurd (omega arith)
key-first xs (p ∷ ps) zero d h = refl
key-first xs (p ∷ ps) (suc i) d h = key-first xs ps i d (omega arith)

pub key-past : (xs : List Row) (ps : List ℕ) (i : ℕ) → length ps ≤ i → first (drop i (keys_at xs ps)) ≡ None
key-past xs [] zero h = refl
key-past xs [] (suc i) h = refl
key-past xs (p ∷ ps) zero h = absurd (omega arith)
key-past xs (p ∷ ps) (suc i) h = key-past xs ps i (omega arith)

-- a test that parts the keys parts the places
pub places-parted : (p : Key → Bool) (xs : List Row) (ps : List ℕ) → ((x y : Key) → key_lt x y ≡ true → p y ≡ true → p x ≡ true) → KeysAscend (keys_at xs ps) → IsPartitionedBy (λ q. p (key_at xs q)) ps
places-parted p xs ps c a i j d le lt h =
    ap p (sym (key-of xs ps i d))
    ∙ keys-parted p c None (keys_at xs ps) (keys-opened (keys_at xs ps) a) i j (key_at xs d) le (omega (arith, lt, length-keys xs ps)) (ap p (key-of xs ps j d) ∙ h)

pub keys-front : (p : Key → Bool) (xs : List Row) (n : ℕ) (ps : List ℕ) → IsFront (λ q. p (key_at xs q)) n ps → IsFront p n (keys_at xs ps)
keys-front p xs zero [] f = tt
keys-front p xs (suc n) [] f = absurd f
keys-front p xs zero (q ∷ ps) f = f
keys-front p xs (suc n) (q ∷ ps) f = (f.0, keys-front p xs n ps f.1)

-- ---- a row put in

below : (p at : ℕ) → p < at → nat_lt p at ≡ true
below p at h = grind (arith, nat_tests)

not-below : (p at : ℕ) → at ≤ p → nat_lt p at ≡ false
not-below p at h = grind (arith, nat_tests)

from-below : (p at : ℕ) → nat_lt p at ≡ true → p < at
from-below p at h = grind (arith, nat_tests)

from-not-below : (p at : ℕ) → nat_lt p at ≡ false → at ≤ p
from-not-below p at h = grind (arith, nat_tests)

raise-low : (at p : ℕ) → p < at → raised_by at p ≡ p
raise-low at p h = ap (λ (b : Bool). cond b p (suc p)) (below p at h)

raise-high : (at p : ℕ) → at ≤ p → raised_by at p ≡ suc p
raise-high at p h = ap (λ (b : Bool). cond b p (suc p)) (not-below p at h)

behind-raised : (at low n : ℕ) (ps : List ℕ) → at ≤ low → PlacesFrom low n ps → PlacesFrom (suc low) (suc n) (raised at ps)
behind-raised at low n [] h a = tt
behind-raised at low n (p ∷ ps) h a =
    let P : ℕ → Type 0 = λ q. (suc low ≤ q) × (q < suc n) × PlacesFrom (suc q) (suc n) (raised at ps) in
    subst P (sym (raise-high at p (omega (arith, a.0)))) (omega (arith, a.0), omega (arith, a.1), behind-raised at (suc p) n ps (omega (arith, a.0)) a.2)

from-raised : (at low n : ℕ) (ps : List ℕ) → PlacesFrom low n ps → PlacesFrom low (suc n) (raised at ps)
from-raised at low n [] a = tt
from-raised at low n (p ∷ ps) a =
    let P : ℕ → Type 0 = λ q. (low ≤ q) × (q < suc n) × PlacesFrom (suc q) (suc n) (raised at ps) in
    elim (cases_lt p at) [
      | inl h ↦ subst P (sym (raise-low at p h)) (a.0, omega (arith, a.1), from-raised at (suc p) n ps a.2)
      | inr h ↦ subst P (sym (raise-high at p h)) (omega (arith, a.0), omega (arith, a.1), behind-raised at (suc p) n ps (omega arith) a.2)
    ]

-- the places behind a row that is put in, raised, are places of one row more
pub raised-ascend : (at n : ℕ) (ps : List ℕ) → PlacesAscend n ps → PlacesAscend (suc n) (raised at ps)
raised-ascend at n ps a = places-closed (suc n) (raised at ps) (from-raised at 0 n ps (places-opened n ps a))

-- at a raised place stands what stood there
key-low : (r : Row) (at p : ℕ) (xs : List Row) → p < at → p < length xs → key_at (take at xs ++ r ∷ drop at xs) p ≡ key_at xs p
key-low r at p [] h l = absurd (omega arith)
key-low r zero p (x ∷ xs) h l = absurd (omega arith)
key-low r (suc at) zero (x ∷ xs) h l = refl
key-low r (suc at) (suc p) (x ∷ xs) h l = key-low r at p xs (omega arith) (omega arith)

key-high : (r : Row) (at p : ℕ) (xs : List Row) → at ≤ p → p < length xs → key_at (take at xs ++ r ∷ drop at xs) (suc p) ≡ key_at xs p
key-high r at p [] h l = absurd (omega arith)
key-high r zero p (x ∷ xs) h l = refl
key-high r (suc at) zero (x ∷ xs) h l = absurd (omega arith)
key-high r (suc at) (suc p) (x ∷ xs) h l = key-high r at p xs (omega arith) (omega arith)

key-raised : (r : Row) (at p : ℕ) (xs : List Row) → p < length xs → key_at (take at xs ++ r ∷ drop at xs) (raised_by at p) ≡ key_at xs p
key-raised r at p xs l =
    let ys = take at xs ++ r ∷ drop at xs in
    elim (cases_lt p at) [
      | inl h ↦ ap (key_at ys) (raise-low at p h) ∙ key-low r at p xs h l
      | inr h ↦ ap (key_at ys) (raise-high at p h) ∙ key-high r at p xs h l
    ]

raised-from : (r : Row) (at low : ℕ) (xs : List Row) (ps : List ℕ) → PlacesFrom low (length xs) ps → keys_at (take at xs ++ r ∷ drop at xs) (raised at ps) ≡ keys_at xs ps
raised-from r at low xs [] a = refl
raised-from r at low xs (p ∷ ps) a =
    let ys = take at xs ++ r ∷ drop at xs in
    ap (λ (k : Key). k ∷ keys_at ys (raised at ps)) (key-raised r at p xs a.1) ∙ ap (λ (ks : List Key). key_at xs p ∷ ks) (raised-from r at (suc p) xs ps a.2)

-- so the keys of what is there are the same
pub raised-keys : (r : Row) (at : ℕ) (xs : List Row) (ps : List ℕ) → PlacesAscend (length xs) ps → keys_at (take at xs ++ r ∷ drop at xs) (raised at ps) ≡ keys_at xs ps
raised-keys r at xs ps a = raised-from r at 0 xs ps (places-opened (length xs) ps a)

pub key-inserted : (r : Row) (at : ℕ) (xs : List Row) → at ≤ length xs → key_at (take at xs ++ r ∷ drop at xs) at ≡ r.key
key-inserted r zero [] h = refl
key-inserted r (suc at) [] h = absurd (omega arith)
key-inserted r zero (x ∷ xs) h = refl
key-inserted r (suc at) (x ∷ xs) h = key-inserted r at xs (omega arith)

pub length-inserted : {A : Type 0} (r : A) (at : ℕ) (xs : List A) → length (take at xs ++ r ∷ drop at xs) ≡ suc (length xs)
length-inserted r zero [] = refl
length-inserted r (suc at) [] = refl
length-inserted r zero (x ∷ xs) = refl
length-inserted r (suc at) (x ∷ xs) = ap suc (length-inserted r at xs)

-- ---- a fact exchanged

pub key-exchanged : (f : Fact) (xs : List Row) (i p : ℕ) → key_at (with_fact i f xs) p ≡ key_at xs p
key-exchanged f [] i p = refl
key-exchanged f (x ∷ xs) zero zero = refl
key-exchanged f (x ∷ xs) zero (suc p) = refl
key-exchanged f (x ∷ xs) (suc i) zero = refl
key-exchanged f (x ∷ xs) (suc i) (suc p) = key-exchanged f xs i p

pub exchanged-keys : (f : Fact) (xs : List Row) (i : ℕ) (ps : List ℕ) → keys_at (with_fact i f xs) ps ≡ keys_at xs ps
exchanged-keys f xs i [] = refl
exchanged-keys f xs i (p ∷ ps) =
    ap (λ (k : Key). k ∷ keys_at (with_fact i f xs) ps) (key-exchanged f xs i p) ∙ ap (λ (ks : List Key). key_at xs p ∷ ks) (exchanged-keys f xs i ps)

pub length-exchanged : (f : Fact) (xs : List Row) (i : ℕ) → length (with_fact i f xs) ≡ length xs
length-exchanged f [] i = refl
length-exchanged f (x ∷ xs) zero = refl
length-exchanged f (x ∷ xs) (suc i) = ap suc (length-exchanged f xs i)

-- the key of a key's row
pub row-key : (k : Key) (xs : List Row) (i : ℕ) → is_row_of k i xs ≡ true → key_at xs i ≡ k
row-key k [] i e = absurd (no-test e refl)
row-key k (x ∷ xs) zero e = same_key-true x.key k e
row-key k (x ∷ xs) (suc i) e = row-key k xs i e

-- ---- a place put in or taken out

put-low : (at p : ℕ) (b : Bool) (ps : List ℕ) → p < at → put_place at b (p ∷ ps) ≡ p ∷ put_place at b ps
put-low at p b ps h = ap (λ (c : Bool). cond c (p ∷ put_place at b ps) (with_front b at (cond (p == at) ps (p ∷ ps)))) (below p at h)

same-number : (p at : ℕ) → p ≡ at → (p == at) ≡ true
same-number p at h = grind (arith, nat_tests)

other-number : (p at : ℕ) → at < p → (p == at) ≡ false
other-number p at h = grind (arith, nat_tests)

put-same : (at p : ℕ) (b : Bool) (ps : List ℕ) → p ≡ at → put_place at b (p ∷ ps) ≡ with_front b at ps
put-same at p b ps h =
    ap (λ (c : Bool). cond c (p ∷ put_place at b ps) (with_front b at (cond (p == at) ps (p ∷ ps)))) (not-below p at (omega (arith, h)))
    ∙ ap (λ (c : Bool). with_front b at (cond c ps (p ∷ ps))) (same-number p at h)

put-high : (at p : ℕ) (b : Bool) (ps : List ℕ) → at < p → put_place at b (p ∷ ps) ≡ with_front b at (p ∷ ps)
put-high at p b ps h =
    ap (λ (c : Bool). cond c (p ∷ put_place at b ps) (with_front b at (cond (p == at) ps (p ∷ ps)))) (not-below p at (omega arith))
    ∙ ap (λ (c : Bool). with_front b at (cond c ps (p ∷ ps))) (other-number p at h)

from-put : (at low n : ℕ) (b : Bool) (ps : List ℕ) → low ≤ at → at < n → PlacesFrom low n ps → PlacesFrom low n (put_place at b ps)
from-put at low n true [] l h a = (l, h, tt)
from-put at low n false [] l h a = tt
from-put at low n b (p ∷ ps) l h a =
    let P : List ℕ → Type 0 = λ qs. PlacesFrom low n qs in
    elim (cases_lt p at) [
      | inl c ↦ subst P (sym (put-low at p b ps c)) (a.0, a.1, from-put at (suc p) n b ps (omega arith) h a.2)
      | inr c ↦ elim (cases_lt at p) [
        | inl d ↦ subst P (sym (put-high at p b ps d)) (front-from at low n p b ps l h d a)
        | inr d ↦
            let same : p ≡ at = omega arith in
            subst P (sym (put-same at p b ps same)) (same-from at low n p b ps l h same a)
      ]
    ]
  where
    front-from : (at low n p : ℕ) (b : Bool) (ps : List ℕ) → low ≤ at → at < n → at < p → PlacesFrom low n (p ∷ ps) → PlacesFrom low n (with_front b at (p ∷ ps))
    front-from at low n p true ps l h d a = (l, h, (omega arith, a.1, a.2))
    front-from at low n p false ps l h d a = a

    lowered : (low more n : ℕ) (ps : List ℕ) → low ≤ more → PlacesFrom more n ps → PlacesFrom low n ps
    lowered low more n [] l a = tt
    lowered low more n (p ∷ ps) l a = (omega (arith, a.0), a.1, a.2)

    same-from : (at low n p : ℕ) (b : Bool) (ps : List ℕ) → low ≤ at → at < n → p ≡ at → PlacesFrom low n (p ∷ ps) → PlacesFrom low n (with_front b at ps)
    same-from at low n p true ps l h e a = let Q : ℕ → Type 0 = λ q. PlacesFrom (suc q) n ps in (l, h, subst Q e a.2)
    same-from at low n p false ps l h e a = lowered low (suc p) n ps (omega (arith, a.0)) a.2

pub put-ascend : (at n : ℕ) (b : Bool) (ps : List ℕ) → at < n → PlacesAscend n ps → PlacesAscend n (put_place at b ps)
put-ascend at n b ps h a = places-closed n (put_place at b ps) (from-put at 0 n b ps (omega arith) h (places-opened n ps a))

-- no more places than rows
places-few : (low n : ℕ) (ps : List ℕ) → low ≤ n → PlacesFrom low n ps → low + length ps ≤ n
places-few low n [] h a = omega arith
places-few low n (p ∷ ps) h a = omega (arith, a.0, a.1, places-few (suc p) n ps (omega (arith, a.1)) a.2)

-- so a row that is there always gets its place, where there is memory for a place of each row
pub put-fits : (at n room : ℕ) (b : Bool) (ps : List ℕ) → at < n → n ≤ room → PlacesAscend n ps → length (put_place at b ps) ≤ room
put-fits at n room b ps h l a =
    let qs = put_place at b ps in
    omega (arith, l, places-few 0 n qs (omega arith) (places-opened n qs (put-ascend at n b ps h a)))

or-cond : (s c : Bool) → (s || c) ≡ cond s true c
or-cond true c = refl
or-cond false c = refl

or-through : (a s b c : Bool) → (s ≡ true → a ≡ false) → (a || cond s b c) ≡ cond s b (a || c)
or-through a true b c n = ap (λ (z : Bool). z || b) (n refl)
or-through a false b c n = refl

or-itself : (s b c : Bool) → cond s b c ≡ cond s b (s || c)
or-itself true b c = refl
or-itself false b c = refl

or-out : (s c : Bool) → (s ≡ true → c ≡ false) → c ≡ cond s false c
or-out true c n = n refl
or-out false c n = refl

module _ (xs : List Row) (up : AscendFrom None xs) (at : ℕ) (in_rows : at < length xs) (b : Bool) (j : Key) where
  absent-behind : (low : ℕ) (ps : List ℕ) → at < low → PlacesFrom low (length xs) ps → same_key (key_at xs at) j ≡ true → has j (keys_at xs ps) ≡ false
  absent-behind low ps l a s =
      let P : Key → Type 0 = λ z. has z (keys_at xs ps) ≡ false in
      subst P (same_key-true (key_at xs at) j s) (none-below (key_at xs at) (keys_at xs ps) (keys-behind xs up at low ps l a))

  front-has : (c : Bool) (ps : List ℕ) → (same_key (key_at xs at) j ≡ true → has j (keys_at xs ps) ≡ false) → has j (keys_at xs (with_front c at ps)) ≡ cond (same_key (key_at xs at) j) c (has j (keys_at xs ps))
  front-has true ps n = or-cond (same_key (key_at xs at) j) (has j (keys_at xs ps))
  front-has false ps n = or-out (same_key (key_at xs at) j) (has j (keys_at xs ps)) n

  apart-below : (p : ℕ) → p < at → same_key (key_at xs at) j ≡ true → same_key (key_at xs p) j ≡ false
  apart-below p l s =
      let P : Key → Type 0 = λ z. same_key (key_at xs p) z ≡ false in
      subst P (same_key-true (key_at xs at) j s) (below-apart (key_at xs p) (key_at xs at) (row-below None xs p at up l in_rows))

  has-from : (low : ℕ) (ps : List ℕ) → PlacesFrom low (length xs) ps → has j (keys_at xs (put_place at b ps)) ≡ cond (same_key (key_at xs at) j) b (has j (keys_at xs ps))
  has-from low [] a = front-has b [] (λ s. refl)
  has-from low (p ∷ ps) a =
      let s = same_key (key_at xs at) j in
      let h = λ (qs : List ℕ). has j (keys_at xs qs) in
      elim (cases_lt p at) [
        | inl l ↦ ap h (put-low at p b ps l) ∙ ap (λ (c : Bool). same_key (key_at xs p) j || c) (has-from (suc p) ps a.2) ∙ or-through (same_key (key_at xs p) j) s b (h ps) (apart-below p l)
        | inr l ↦ elim (cases_lt at p) [
          | inl m ↦ ap h (put-high at p b ps m) ∙ front-has b (p ∷ ps) (absent-behind p (p ∷ ps) m (omega arith, a.1, a.2))
          | inr m ↦
              let same : p ≡ at = omega arith in
              ap h (put-same at p b ps same) ∙ front-has b ps (absent-behind (suc p) ps (omega arith) a.2)
              ∙ or-itself s b (h ps) ∙ ap (λ (q : ℕ). cond s b (same_key (key_at xs q) j || h ps)) (sym same)
        ]
      ]

-- what a place put in or taken out makes of the keys
pub put-has : (xs : List Row) (at : ℕ) (b : Bool) (ps : List ℕ) → Ascend xs → at < length xs → PlacesAscend (length xs) ps → (j : Key)
    → has j (keys_at xs (put_place at b ps)) ≡ cond (same_key (key_at xs at) j) b (has j (keys_at xs ps))
put-has xs at b ps up h a j = has-from xs (opened xs up) at h b j 0 ps (places-opened (length xs) ps a)

-- ---- what the code does to the numbers

number-behind : (low n : ℕ) (ps : List ℕ) (j d : ℕ) → PlacesFrom low n ps → j < length ps → low ≤ get_or ps j d
number-behind low n [] j d a h = absurd (omega arith)
number-behind low n (p ∷ ps) zero d a h = a.0
number-behind low n (p ∷ ps) (suc j) d a h = omega (arith, a.0, number-behind (suc p) n ps j d a.2 (omega arith))

lower-number : (at p q : ℕ) → p ≤ q → nat_lt q at ≡ true → nat_lt p at ≡ true
lower-number at p q l h = grind (arith, nat_tests)

from-parted : (at low n : ℕ) (ps : List ℕ) → PlacesFrom low n ps → IsPartitionedBy (λ p. nat_lt p at) ps
from-parted at low n [] a i j d le lt h = absurd (omega arith)
from-parted at low n (p ∷ ps) a zero zero d le lt h = h
from-parted at low n (p ∷ ps) a zero (suc j) d le lt h = lower-number at p (get_or ps j d) (omega (arith, number-behind (suc p) n ps j d a.2 (omega arith))) h
from-parted at low n (p ∷ ps) a (suc i) zero d le lt h = absurd (omega arith)
from-parted at low n (p ∷ ps) a (suc i) (suc j) d le lt h = from-parted at (suc p) n ps a.2 i j d (omega arith) (omega arith) h

pub numbers-parted : (at n : ℕ) (ps : List ℕ) → PlacesAscend n ps → IsPartitionedBy (λ p. nat_lt p at) ps
numbers-parted at n ps a = from-parted at 0 n ps (places-opened n ps a)

-- a list of places rises
rise : (low n : ℕ) (ps : List ℕ) (i j : ℕ) → PlacesFrom low n ps → i ≤ j → j < length ps → get_or ps i 0 ≤ get_or ps j 0
rise low n [] i j a le lt = absurd (omega arith)
rise low n (p ∷ ps) zero zero a le lt = omega arith
rise low n (p ∷ ps) zero (suc j) a le lt = omega (arith, number-behind (suc p) n ps j 0 a.2 (omega arith))
rise low n (p ∷ ps) (suc i) zero a le lt = absurd (omega arith)
rise low n (p ∷ ps) (suc i) (suc j) a le lt = rise (suc p) n ps i j a.2 (omega arith) (omega arith)

-- a place that is there, put in or taken out where it stands
found : (at low n i : ℕ) (b : Bool) (ps : List ℕ) → PlacesFrom low n ps → i < length ps → get_or ps i 0 ≡ at → take i ps ++ with_front b at (drop (suc i) ps) ≡ put_place at b ps
found at low n i b [] a h e = absurd (omega arith)
found at low n zero b (p ∷ ps) a h e = sym (put-same at p b ps e)
found at low n (suc i) b (p ∷ ps) a h e =
    ap (λ (qs : List ℕ). p ∷ qs) (found at (suc p) n i b ps a.2 (omega arith) e) ∙ sym (put-low at p b ps (omega (arith, e, number-behind (suc p) n ps i 0 a.2 (omega arith))))

-- one that is not there, where it would stand
missed : (at i : ℕ) (b : Bool) (ps : List ℕ) → i ≤ length ps → ((k : ℕ) → k < i → get_or ps k 0 < at) → ((k : ℕ) → i ≤ k → k < length ps → at < get_or ps k 0)
    → take i ps ++ with_front b at (drop i ps) ≡ put_place at b ps
missed at zero b [] h low high = refl
missed at (suc i) b [] h low high = absurd (omega arith)
missed at zero b (p ∷ ps) h low high = sym (put-high at p b ps (high 0 (omega arith) (omega arith)))
missed at (suc i) b (p ∷ ps) h low high =
    ap (λ (qs : List ℕ). p ∷ qs) (missed at i b ps (omega arith) (λ k l. low (suc k) (omega arith)) (λ k l m. high (suc k) (omega arith) (omega arith))) ∙ sym (put-low at p b ps (low 0 (omega arith)))

kept : (at i : ℕ) (ps : List ℕ) → i < length ps → get_or ps i 0 ≡ at → take i ps ++ at ∷ drop (suc i) ps ≡ ps
kept at i [] h e = absurd (omega arith)
kept at zero (p ∷ ps) h e = ap (λ (q : ℕ). q ∷ ps) (sym e)
kept at (suc i) (p ∷ ps) h e = ap (λ (qs : List ℕ). p ∷ qs) (kept at i ps (omega arith) e)

-- what a search by halving tells of a place, where the vector is read as a slice
module _ (at n i : ℕ) (qs xs ps : List ℕ) (read : qs ≡ xs) (seen : xs ≡ ps) (up : PlacesAscend n ps) where
  told : (r : Result ℕ ℕ) → IsBinarySearchResult (λ y. nat_cmp y at) qs r
      → MatchResult r (λ j. (j < length ps) × (get_or ps j 0 ≡ at)) (λ j. (j ≤ length ps) × ((k : ℕ) → k < j → get_or ps k 0 < at) × ((k : ℕ) → j ≤ k → k < length ps → at < get_or ps k 0))
  told r s =
      let S : List ℕ → Type 0 = λ us. IsBinarySearchResult (λ y. nat_cmp y at) us r in
      searched ps at r (subst S (read ∙ seen) s) (λ j k le lt. rise 0 n ps j k (places-opened n ps up) le lt)

  pub place-found : (b : Bool) → IsBinarySearchResult (λ y. nat_cmp y at) qs (Ok i) → take i xs ++ with_front b at (drop (suc i) xs) ≡ put_place at b ps
  place-found b s =
      let t = told (Ok i) s in
      ap (λ (us : List ℕ). take i us ++ with_front b at (drop (suc i) us)) seen ∙ found at 0 n i b ps (places-opened n ps up) t.0 t.1

  pub place-missed : (b : Bool) → IsBinarySearchResult (λ y. nat_cmp y at) qs (Err i) → take i xs ++ with_front b at (drop i xs) ≡ put_place at b ps
  place-missed b s =
      let t = told (Err i) s in
      ap (λ (us : List ℕ). take i us ++ with_front b at (drop i us)) seen ∙ missed at i b ps t.0 t.1 t.2

  -- one that is put in where it is not there is one more
  pub grown : IsBinarySearchResult (λ y. nat_cmp y at) qs (Err i) → length (put_place at true ps) ≡ suc (length xs)
  grown s = sym (ap length (place-missed true s)) ∙ length-inserted at i xs

  -- what is there stays where it is put in, and what is not there stays out
  pub stays-in : IsBinarySearchResult (λ y. nat_cmp y at) qs (Ok i) → ps ≡ put_place at true ps
  stays-in s =
      let t = told (Ok i) s in
      sym (kept at i ps t.0 t.1) ∙ found at 0 n i true ps (places-opened n ps up) t.0 t.1

  pub stays-out : IsBinarySearchResult (λ y. nat_cmp y at) qs (Err i) → ps ≡ put_place at false ps
  stays-out s =
      let t = told (Err i) s in
      sym (take-append-drop i ps) ∙ missed at i false ps t.0 t.1 t.2

all-raised : (at low n : ℕ) (ps : List ℕ) → at ≤ low → PlacesFrom low n ps → map suc ps ≡ raised at ps
all-raised at low n [] h a = refl
all-raised at low n (p ∷ ps) h a =
    ap (λ (q : ℕ). q ∷ map suc ps) (sym (raise-high at p (omega (arith, a.0)))) ∙ ap (λ (qs : List ℕ). raised_by at p ∷ qs) (all-raised at (suc p) n ps (omega (arith, a.0)) a.2)

raised-front : (at i low n : ℕ) (ps : List ℕ) → PlacesFrom low n ps → IsFront (λ p. nat_lt p at) i ps → take i ps ++ map suc (drop i ps) ≡ raised at ps
raised-front at zero low n [] a f = refl
raised-front at (suc i) low n [] a f = absurd f
raised-front at zero low n (p ∷ ps) a f = all-raised at p n (p ∷ ps) (from-not-below p at f) (omega arith, a.1, a.2)
raised-front at (suc i) low n (p ∷ ps) a f =
    ap (λ (qs : List ℕ). p ∷ qs) (raised-front at i (suc p) n ps a.2 f.1) ∙ ap (λ (q : ℕ). q ∷ raised at ps) (sym (raise-low at p (from-below p at f.0)))

-- the places behind raised
pub raised-behind : (at i n : ℕ) (ps : List ℕ) → PlacesAscend n ps → IsFront (λ p. nat_lt p at) i ps → take i ps ++ map suc (drop i ps) ≡ raised at ps
raised-behind at i n ps a f = raised-front at i 0 n ps (places-opened n ps a) f

-- each place of rows leaves room for one above it
pub below-most : (n : ℕ) (ps : List ℕ) (i d : ℕ) → PlacesAscend n ps → i < length ps → get_or ps i d < n
below-most n ps i d a h = within 0 n ps i d (places-opened n ps a) h
  where
    within : (low n : ℕ) (ps : List ℕ) (i d : ℕ) → PlacesFrom low n ps → i < length ps → get_or ps i d < n
    within low n [] i d a h = absurd (omega arith)
    within low n (p ∷ ps) zero d a h = a.1
    within low n (p ∷ ps) (suc i) d a h = within (suc p) n ps i d a.2 (omega arith)

-- ---- the places as a slice

-- their keys ascend, and so do those of the rest
pub keys-of-slice : (rows : List Row) (ps qs : List ℕ) → ps ≡ qs → KeysAscend (keys_at rows qs) → KeysAscend (keys_at rows ps)
keys-of-slice rows ps qs e a = let P : List ℕ → Type 0 = λ us. KeysAscend (keys_at rows us) in subst P (sym e) a

pub rest-keys : (rows : List Row) (n : ℕ) (ps : List ℕ) → keys_at rows (take (length ps - n) (drop n ps)) ≡ take (length (keys_at rows ps) - n) (drop n (keys_at rows ps))
rest-keys rows n ps = ap (keys_at rows) (take_rest ps n) ∙ sym (drop-keys rows n ps) ∙ sym (take_rest (keys_at rows ps) n)

-- ---- raising each

pub not-raised : (i d : ℕ) (ps : List ℕ) → get_or (map suc (take i ps) ++ drop i ps) i d ≡ get_or ps i d
not-raised zero d [] = refl
not-raised (suc i) d [] = refl
not-raised zero d (p ∷ ps) = refl
not-raised (suc i) d (p ∷ ps) = not-raised i d ps

pub length-raised : (i : ℕ) (ps : List ℕ) → length (map suc (take i ps) ++ drop i ps) ≡ length ps
length-raised zero [] = refl
length-raised (suc i) [] = refl
length-raised zero (p ∷ ps) = refl
length-raised (suc i) (p ∷ ps) = ap suc (length-raised i ps)

one-raised : (i : ℕ) (ps : List ℕ) → i < length ps → set (map suc (take i ps) ++ drop i ps) i (suc (get_or ps i 0)) ≡ map suc (take (suc i) ps) ++ drop (suc i) ps
one-raised i [] h = absurd (omega arith)
one-raised zero (p ∷ ps) h = refl
one-raised (suc i) (p ∷ ps) h = ap (λ (qs : List ℕ). suc p ∷ qs) (one-raised i ps (omega arith))

one-more : (n : ℕ) → n + 1 ≡ suc n
one-more n = omega arith

-- one more is raised
pub raised-more : (ps qs : List ℕ) (i : ℕ) → qs ≡ map suc (take i ps) ++ drop i ps → i < length ps → set qs i (get_or qs i 0 + 1) ≡ map suc (take (i + 1) ps) ++ drop (i + 1) ps
raised-more ps qs i e h =
    let so_far = map suc (take i ps) ++ drop i ps in
    let P : List ℕ → Type 0 = λ us. set us i (get_or us i 0 + 1) ≡ map suc (take (i + 1) ps) ++ drop (i + 1) ps in
    subst P (sym e) (
    ap (λ (x : ℕ). set so_far i (x + 1)) (not-raised i 0 ps)
    ∙ ap (set so_far i) (one-more (get_or ps i 0))
    ∙ one-raised i ps h
    ∙ ap (λ (n : ℕ). map suc (take n ps) ++ drop n ps) (sym (one-more i)))

dropped : (low n i : ℕ) (ps : List ℕ) → PlacesFrom low n ps → PlacesFrom 0 n (drop i ps)
dropped low n zero [] a = tt
dropped low n (suc i) [] a = tt
dropped low n zero (p ∷ ps) a = (omega arith, a.1, a.2)
dropped low n (suc i) (p ∷ ps) a = dropped (suc p) n i ps a.2

-- the rest of the places ascends
pub rest-ascend : (n i : ℕ) (ps : List ℕ) → PlacesAscend n ps → PlacesAscend n (take (length ps - i) (drop i ps))
rest-ascend n i ps a =
    let P : List ℕ → Type 0 = λ qs. PlacesAscend n qs in
    subst P (sym (take_rest ps i)) (places-closed n (drop i ps) (dropped 0 n i ps (places-opened n ps a)))

past : (n i : ℕ) (ps : List ℕ) → length ps ≤ i + n → drop n (drop i ps) ≡ []
past n zero ps h = drop_all n ps (omega (arith, h))
past n (suc i) [] h = drop_all n [] (omega arith)
past n (suc i) (p ∷ ps) h = past n i ps (omega (arith, h))

-- the rest raised in its place
pub raised-rest : (at i n : ℕ) (ps qs : List ℕ) → PlacesAscend n ps → IsFront (λ p. nat_lt p at) i ps → qs ≡ map suc (take (length ps - i) (drop i ps))
    → take i ps ++ (qs ++ drop (length ps - i) (drop i ps)) ≡ raised at ps
raised-rest at i n ps qs a f e =
    ap (λ (us : List ℕ). take i ps ++ (us ++ drop (length ps - i) (drop i ps))) (e ∙ ap (map suc) (take_rest ps i))
    ∙ ap (λ (us : List ℕ). take i ps ++ (map suc (drop i ps) ++ us)) (past (length ps - i) i ps (omega arith))
    ∙ ap (λ (us : List ℕ). take i ps ++ us) (append-nil (map suc (drop i ps)))
    ∙ raised-behind at i n ps a f

length-of-raised : (at : ℕ) (ps : List ℕ) → length (raised at ps) ≡ length ps
length-of-raised at [] = refl
length-of-raised at (p ∷ ps) = ap suc (length-of-raised at ps)

-- the rest raised, where the vector is read whole
pub raised-whole : (at i n len : ℕ) (ps qs items : List ℕ) → PlacesAscend n ps → IsFront (λ p. nat_lt p at) i ps → len ≡ length ps → qs ≡ map suc (take (length ps - i) (drop i ps))
    → take len ((take i ps ++ (qs ++ drop (length ps - i) (drop i ps))) ++ drop (length (take i ps ++ (qs ++ drop (length ps - i) (drop i ps)))) items) ≡ raised at ps
raised-whole at i n len ps qs items a f l e =
    let P : List ℕ → Type 0 = λ us. take len (us ++ drop (length us) items) ≡ raised at ps in
    subst P (sym (raised-rest at i n ps qs a f e)) (take_at (raised at ps) (drop (length (raised at ps)) items) len (length-of-raised at ps ∙ sym l))
