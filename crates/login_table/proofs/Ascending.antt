-- Rows whose keys ascend: what is under a key, and what a setting makes of them.
use Rattle.std.proofs.Common.{◌≡◌, ℕ, zero, suc, ◌<◌, ◌≤◌, Bool, true, false, cond, Option, Some, None, List, [], ◌∷◌, ◌++◌, length, get_or, take, drop, refl, ap, sym, ◌∙◌, subst, arith, inl, inr}
use Rattle.std.specs.List.Sorted.{IsPartitionedBy, IsPartitionPoint}
use Rattle.login_model.specs.declared.fact.Key.{Key}
use Rattle.login_model.specs.declared.fact.Fact.{Fact}
use Rattle.login_model.specs.declared.mark.Mark.TheVariants.{Set}
use Rattle.login_model.specs.Same.{same_key}
use Rattle.login_model.specs.Trail.{Trail, was_set}
use Rattle.login_model.specs.Names.{is_above}
use Rattle.login_model.proofs.Keys.{same_key-true, test}
use Rattle.login_table.specs.KeyOrder.{key_lt}
use Rattle.login_table.specs.Rows.{as_trail, Ascend, AscendFrom, RowList}
use Rattle.login_table.specs.inner.Fronts.{IsFront}
use Rattle.login_table.specs.inner.Ordered.{is_row_of, with_fact}
use Rattle.login_table.specs.declared.rows.Row.{Row}
use Rattle.login_table.proofs.Standing.{Tells, was_tells}
use Rattle.login_table.proofs.KeyOrder.{key_order, no-test, below-apart, above-apart, above}

-- ascending rows, opened
pub opened : (xs : List Row) → Ascend xs → AscendFrom None xs
unfolding Ascend
opened xs a = a

-- and closed again
pub closed : (xs : List Row) → AscendFrom None xs → Ascend xs
unfolding Ascend
closed xs a = a

-- all rows behind a key are above it
behind : (k : Key) (xs : List Row) → AscendFrom (Some k) xs → (j : ℕ) (d : Row) → j < length xs → key_lt k (get_or xs j d).key ≡ true
behind k [] a j d h = absurd (omega arith)
behind k (x ∷ xs) a zero d h = a.0
behind k (x ∷ xs) a (suc j) d h = key_order.transitive k x.key (get_or xs j d).key a.0 (behind x.key xs a.1 j d (omega arith))

-- a test that passes below what passes parts the rows
pub parted : (p : Row → Bool) → ((x y : Row) → key_lt x.key y.key ≡ true → p y ≡ true → p x ≡ true) → (b : Option Key) (xs : List Row) → AscendFrom b xs → IsPartitionedBy p xs
parted p c b [] a i j d le lt h = absurd (omega arith)
parted p c b (x ∷ xs) a zero zero d le lt h = h
parted p c b (x ∷ xs) a zero (suc j) d le lt h = c x (get_or xs j d) (behind x.key xs a.1 j d (omega arith)) h
parted p c b (x ∷ xs) a (suc i) zero d le lt h = absurd (omega arith)
parted p c b (x ∷ xs) a (suc i) (suc j) d le lt h = parted p c (Some x.key) xs a.1 i j d (omega arith) (omega arith) h

pub below-closed : (k : Key) (x y : Row) → key_lt x.key y.key ≡ true → key_lt y.key k ≡ true → key_lt x.key k ≡ true
below-closed k x y h e = key_order.transitive x.key y.key k h e

-- a point that parts a list ends its front
pub front-point : {A : Type 0} (p : A → Bool) (xs : List A) (i : ℕ) → i ≤ length xs → IsPartitionPoint (λ y. p y ≡ true) (λ y. p y ≡ false) xs i → IsFront p i xs
front-point p [] zero h e = tt
front-point p [] (suc i) h e = absurd (omega arith)
front-point p (x ∷ xs) zero h e = e.1 0 x (omega arith) (omega arith)
front-point p (x ∷ xs) (suc i) h e = (
  e.0 0 x (omega arith) (omega arith),
  front-point p xs i (omega arith) ((λ j d l m. e.0 (suc j) d (omega arith) (omega arith)), (λ j d l m. e.1 (suc j) d (omega arith) (omega arith))),
)

-- the key of a row behind a key is above it
row-above : (j k : Key) (xs : List Row) (i : ℕ) → AscendFrom (Some j) xs → is_row_of k i xs ≡ true → key_lt j k ≡ true
row-above j k [] i a e = absurd (no-test e refl)
row-above j k (x ∷ xs) zero a e = ap (key_lt j) (sym (same_key-true x.key k e)) ∙ a.0
row-above j k (x ∷ xs) (suc i) a e = key_order.transitive j x.key k a.0 (row-above x.key k xs i a.1 e)

-- the row of a key stands at the end of the front below it
pub met-front : (k : Key) (b : Option Key) (xs : List Row) (i : ℕ) → AscendFrom b xs → is_row_of k i xs ≡ true → IsFront (λ (x : Row). key_lt x.key k) i xs
met-front k b [] i a e = absurd (no-test e refl)
met-front k b (x ∷ xs) zero a e = ap (λ (z : Key). key_lt z k) (same_key-true x.key k e) ∙ key_order.irreflexive k
met-front k b (x ∷ xs) (suc i) a e = (row-above x.key k xs i a.1 e, met-front k (Some x.key) xs i a.1 e)

pub row-within : (k : Key) (xs : List Row) (i : ℕ) → is_row_of k i xs ≡ true → i < length xs
row-within k [] i e = absurd (no-test e refl)
row-within k (x ∷ xs) zero e = omega arith
row-within k (x ∷ xs) (suc i) e = let h = row-within k xs i e in omega arith

-- whose row was read there, and that there is none behind the last
pub row-read : (k : Key) (xs : List Row) (i : ℕ) (x : Row) → i < length xs → ((d : Row) → get_or xs i d ≡ x) → is_row_of k i xs ≡ same_key x.key k
row-read k [] i x h at = absurd (omega arith)
row-read k (y ∷ ys) zero x h at = ap (λ (z : Row). same_key z.key k) (at x)
row-read k (y ∷ ys) (suc i) x h at = row-read k ys i x (omega arith) at

pub row-past : (k : Key) (xs : List Row) (i : ℕ) → length xs ≤ i → is_row_of k i xs ≡ false
row-past k [] i h = refl
row-past k (x ∷ xs) zero h = absurd (omega arith)
row-past k (x ∷ xs) (suc i) h = row-past k xs i (omega arith)

-- rows above a key are above those below it
pub lower : (j k : Key) (xs : List Row) → key_lt j k ≡ true → AscendFrom (Some k) xs → AscendFrom (Some j) xs
lower j k [] h a = tt
lower j k (x ∷ xs) h a = (key_order.transitive j k x.key h a.0, a.1)

module _ {A : Type 0} {tell : Trail → Key → A} {given : Fact → A} {start : Key → A} (told : Tells tell given start) where
  tell-same : (k j : Key) (x : Fact) (t : Trail) → same_key j k ≡ true → tell (Set j x ∷ t) k ≡ given x
  tell-same k j x t e = told.setting k j x t ∙ ap (λ (b : Bool). cond b (given x) (tell t k)) e

  tell-other : (k j : Key) (x : Fact) (t : Trail) → same_key j k ≡ false → tell (Set j x ∷ t) k ≡ tell t k
  tell-other k j x t e = told.setting k j x t ∙ ap (λ (b : Bool). cond b (given x) (tell t k)) e

  -- the row at the place of a key tells of it
  pub found : (k : Key) (xs : List Row) (i : ℕ) (d : Row) → IsFront (λ (x : Row). key_lt x.key k) i xs → is_row_of k i xs ≡ true → given (get_or xs i d).fact ≡ tell (as_trail xs) k
  found k [] i d f e = absurd (no-test e refl)
  found k (x ∷ xs) zero d f e = sym (tell-same k x.key x.fact (as_trail xs) e)
  found k (x ∷ xs) (suc i) d f e = found k xs i d f.1 e ∙ sym (tell-other k x.key x.fact (as_trail xs) (below-apart x.key k f.0))

  -- a key below all rows has none
  none-below : (k : Key) (xs : List Row) → AscendFrom (Some k) xs → tell (as_trail xs) k ≡ start k
  none-below k [] a = told.none k
  none-below k (x ∷ xs) a =
      tell-other k x.key x.fact (as_trail xs) (above-apart x.key k a.0) ∙ none-below k xs (lower k x.key xs a.0 a.1)

  -- and one that has no row there was not set
  pub missed : (k : Key) (b : Option Key) (xs : List Row) (i : ℕ) → AscendFrom b xs → IsFront (λ (x : Row). key_lt x.key k) i xs → is_row_of k i xs ≡ false → tell (as_trail xs) k ≡ start k
  missed k b [] zero a f n = told.none k
  missed k b [] (suc i) a f n = absurd f
  missed k b (x ∷ xs) zero a f n = tell-other k x.key x.fact (as_trail xs) n ∙ none-below k xs (lower k x.key xs (above x.key k f n) a.1)
  missed k b (x ∷ xs) (suc i) a f n = tell-other k x.key x.fact (as_trail xs) (below-apart x.key k f.0) ∙ missed k (Some x.key) xs i a.1 f.1 n

-- what a setting makes of the rows
pub put_row : Key → Fact → List Row → List Row
put_row k f [] = record { key = k; fact = f } ∷ []
put_row k f (x ∷ xs) = cond (key_lt x.key k) (x ∷ put_row k f xs) (cond (same_key x.key k) (record { key = x.key; fact = f } ∷ xs) (record { key = k; fact = f } ∷ x ∷ xs))

put-behind : (k : Key) (f : Fact) (x : Row) (xs : List Row) → key_lt x.key k ≡ true → put_row k f (x ∷ xs) ≡ x ∷ put_row k f xs
unfolding put_row
put-behind k f x xs h = rw h refl

put-there : (k : Key) (f : Fact) (x : Row) (xs : List Row) → key_lt x.key k ≡ false → same_key x.key k ≡ true → put_row k f (x ∷ xs) ≡ record { key = x.key; fact = f } ∷ xs
unfolding put_row
put-there k f x xs h e = rw (h, e) refl

put-before : (k : Key) (f : Fact) (x : Row) (xs : List Row) → key_lt x.key k ≡ false → same_key x.key k ≡ false → put_row k f (x ∷ xs) ≡ record { key = k; fact = f } ∷ x ∷ xs
unfolding put_row
put-before k f x xs h e = rw (h, e) refl

put-alone : (k : Key) (f : Fact) → put_row k f [] ≡ record { key = k; fact = f } ∷ []
unfolding put_row
put-alone k f = refl

-- a row put in at the place of its key
pub inserted : (k : Key) (f : Fact) (xs : List Row) (i : ℕ) → IsFront (λ (x : Row). key_lt x.key k) i xs → is_row_of k i xs ≡ false → take i xs ++ record { key = k; fact = f } ∷ drop i xs ≡ put_row k f xs
inserted k f [] zero h n = sym (put-alone k f)
inserted k f [] (suc i) h n = absurd h
inserted k f (x ∷ xs) zero h n = sym (put-before k f x xs h n)
inserted k f (x ∷ xs) (suc i) h n = ap (λ (ys : List Row). x ∷ ys) (inserted k f xs i h.1 n) ∙ sym (put-behind k f x xs h.0)

-- the fact of a key's row exchanged
pub exchanged : (k : Key) (f : Fact) (xs : List Row) (i : ℕ) → IsFront (λ (x : Row). key_lt x.key k) i xs → is_row_of k i xs ≡ true → with_fact i f xs ≡ put_row k f xs
exchanged k f [] i h e = absurd (no-test e refl)
exchanged k f (x ∷ xs) zero h e = sym (put-there k f x xs h e)
exchanged k f (x ∷ xs) (suc i) h e = ap (λ (ys : List Row). x ∷ ys) (exchanged k f xs i h.1 e) ∙ sym (put-behind k f x xs h.0)

-- the rows still ascend
ascends-by : (k : Key) (f : Fact) (b : Option Key) (x : Row) (xs : List Row) → AscendFrom b (x ∷ xs) → is_above key_lt b k ≡ true
    → (key_lt x.key k ≡ true → AscendFrom (Some x.key) (put_row k f xs)) → AscendFrom b (put_row k f (x ∷ xs))
ascends-by k f b x xs a h more =
    let P : List Row → Type 0 = λ ys. AscendFrom b ys in
    elim (test (key_lt x.key k)) [
      | inl t ↦ subst P (sym (put-behind k f x xs t)) (a.0, more t)
      | inr n ↦ elim (test (same_key x.key k)) [
        | inl s ↦ subst P (sym (put-there k f x xs n s)) (a.0, a.1)
        | inr m ↦ subst P (sym (put-before k f x xs n m)) (h, (above x.key k n m, a.1))
      ]
    ]

pub put-ascends : (k : Key) (f : Fact) (b : Option Key) (xs : List Row) → AscendFrom b xs → is_above key_lt b k ≡ true → AscendFrom b (put_row k f xs)
put-ascends k f b [] a h = let P : List Row → Type 0 = λ ys. AscendFrom b ys in subst P (sym (put-alone k f)) (h, tt)
put-ascends k f b (x ∷ xs) a h = ascends-by k f b x xs a h (λ t. put-ascends k f (Some x.key) xs a.1 t)

-- what two settings of two keys leave is the same in either order
swapped : {A : Type 0} (p q : Bool) (x y z : A) → (p ≡ true → q ≡ false) → cond p x (cond q y z) ≡ cond q y (cond p x z)
swapped true true x y z n = absurd (no-test refl (n refl))
swapped true false x y z n = refl
swapped false q x y z n = refl

one-key : (x k j : Key) → key_lt x k ≡ true → same_key x j ≡ true → same_key k j ≡ false
one-key x k j h e = above-apart k j (let P : Key → Type 0 = λ z. key_lt z k ≡ true in subst P (same_key-true x j e) h)

covered : {A : Type 0} (b : Bool) (x y z : A) → cond b x z ≡ cond b x (cond b y z)
covered true x y z = refl
covered false x y z = refl

module _ {A : Type 0} {tell : Trail → Key → A} {given : Fact → A} {start : Key → A} (told : Tells tell given start) where
  tell-by : (k : Key) (f : Fact) (x : Row) (xs : List Row) (j : Key) → (key_lt x.key k ≡ true → tell (as_trail (put_row k f xs)) j ≡ cond (same_key k j) (given f) (tell (as_trail xs) j))
      → tell (as_trail (put_row k f (x ∷ xs))) j ≡ cond (same_key k j) (given f) (cond (same_key x.key j) (given x.fact) (tell (as_trail xs) j))
  tell-by k f x xs j more =
      let v = tell (as_trail xs) j in
      elim (test (key_lt x.key k)) [
        | inl t ↦ ap (λ (ys : List Row). tell (as_trail ys) j) (put-behind k f x xs t) ∙ told.setting j x.key x.fact (as_trail (put_row k f xs))
            ∙ ap (λ (y : A). cond (same_key x.key j) (given x.fact) y) (more t) ∙ swapped (same_key x.key j) (same_key k j) (given x.fact) (given f) v (one-key x.key k j t)
        | inr n ↦ elim (test (same_key x.key k)) [
          | inl s ↦ ap (λ (ys : List Row). tell (as_trail ys) j) (put-there k f x xs n s) ∙ told.setting j x.key f (as_trail xs)
              ∙ covered (same_key x.key j) (given f) (given x.fact) v
              ∙ ap (λ (z : Key). cond (same_key z j) (given f) (cond (same_key x.key j) (given x.fact) v)) (same_key-true x.key k s)
          | inr m ↦ ap (λ (ys : List Row). tell (as_trail ys) j) (put-before k f x xs n m) ∙ told.setting j k f (as_trail (x ∷ xs))
              ∙ ap (λ (y : A). cond (same_key k j) (given f) y) (told.setting j x.key x.fact (as_trail xs))
        ]
      ]

  tell-put : (k : Key) (f : Fact) (xs : List Row) (j : Key) → tell (as_trail (put_row k f xs)) j ≡ cond (same_key k j) (given f) (tell (as_trail xs) j)
  tell-put k f [] j = ap (λ (ys : List Row). tell (as_trail ys) j) (put-alone k f) ∙ told.setting j k f []
  tell-put k f (x ∷ xs) j = tell-by k f x xs j (λ t. tell-put k f xs j) ∙ ap (λ (y : A). cond (same_key k j) (given f) y) (sym (told.setting j x.key x.fact (as_trail xs)))

  -- what a setting leaves
  pub put-is : (k : Key) (f : Fact) (xs : List Row) (j : Key) → tell (as_trail (put_row k f xs)) j ≡ tell (Set k f ∷ as_trail xs) j
  put-is k f xs j = tell-put k f xs j ∙ sym (told.setting j k f (as_trail xs))

-- a key that has no row was not set
pub not-set : (k : Key) (xs : List Row) (i : ℕ) (v : RowList) → Ascend xs → IsFront (λ (x : Row). key_lt x.key k) i xs → is_row_of k i xs ≡ false → as_trail xs ≡ v.trail → was_set v.trail k ≡ false
not-set k xs i v a f n e = ap (λ (t : Trail). was_set t k) (sym e) ∙ missed was_tells k None xs i (opened xs a) f n
