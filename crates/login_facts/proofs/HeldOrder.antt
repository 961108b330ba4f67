-- The order of what some have, and rows that ascend in it.
use Rattle.std.proofs.Common.{◌≡◌, ℕ, zero, suc, ◌==◌, ◌&&◌, ◌||◌, nat_lt, not, ◌<◌, ◌≤◌, ◌-◌, Bool, true, false, cond, Option, Some, None, List, [], ◌∷◌, ◌++◌, length, get_or, take, drop, filter, refl, ap, sym, ◌∙◌, subst, arith, inl, inr}
use Rattle.std.specs.List.Sorted.{IsPartitionedBy, IsPartitionPoint}
use Rattle.std.proofs.lemmas.Bool.Decides.{nat_tests}
use Rattle.login_base.specs.declared.ids.SessId.{SessId}
use Rattle.login_base.specs.declared.ids.HandleNo.{HandleNo}
use Rattle.login_base.specs.declared.ids.LockNo.{LockNo}
use Rattle.login_model.specs.Kind.{IsOrder}
use Rattle.login_model.specs.Names.{seat_lt, insert}
use Rattle.login_model.proofs.InOrder.{Ascending, IsIn}
use Rattle.login_model.proofs.Keys.{test}
use Rattle.login_model.proofs.NameLaws.{seat_order}
use Rattle.login_facts.specs.declared.holding.Thing.{Thing}
use Rattle.login_facts.specs.declared.holding.Thing.TheVariants.{Session, Lock, Fifo, Placed}
use Rattle.login_facts.specs.declared.holding.Holding.{Holding}
use Rattle.login_facts.specs.Holding.{HoldingsAscend, holding_lt, is_in_front, is_lower, is_other, is_passed, is_such, is_within, number, rank, turn}

-- ---- the order

-- as numbers, by which they stand
abbrev numbers : Holding → List ℕ
numbers x = x.whose ∷ rank x.thing ∷ number x.thing ∷ turn x.thing ∷ []

alone : (a b : ℕ) → nat_lt a b ≡ seat_lt (a ∷ []) (b ∷ [])
alone a b = grind (arith, nat_tests)

by-numbers : (x y : Holding) → holding_lt x y ≡ seat_lt (numbers x) (numbers y)
by-numbers x y =
    ap (λ (b : Bool). nat_lt x.whose y.whose || ((x.whose == y.whose)
    && (nat_lt (rank x.thing) (rank y.thing) || ((rank x.thing == rank y.thing)
    && (nat_lt (number x.thing) (number y.thing) || ((number x.thing == number y.thing) && b))))))
    (alone (turn x.thing) (turn y.thing))

session-one : (s r : SessId) → s.0 ≡ r.0 → s ≡ r
session-one s r e = ap (λ (n : ℕ). let x : SessId = record { 0 = n } in x) e

lock-one : (k l : LockNo) → k.0 ≡ l.0 → k ≡ l
lock-one k l e = ap (λ (n : ℕ). let x : LockNo = record { 0 = n } in x) e

handle-one : (g h : HandleNo) → g.0 ≡ h.0 → g ≡ h
handle-one g h e = ap (λ (n : ℕ). let x : HandleNo = record { 0 = n } in x) e

thing-one : (x y : Thing) → rank x ≡ rank y → number x ≡ number y → turn x ≡ turn y → x ≡ y
thing-one (Session s) (Session r) p n t = ap Session (session-one s r n)
thing-one (Session s) (Lock l) p n t = absurd (omega arith)
thing-one (Session s) (Fifo r h) p n t = absurd (omega arith)
thing-one (Lock l) (Session s) p n t = absurd (omega arith)
thing-one (Lock k) (Lock l) p n t = ap Lock (lock-one k l n)
thing-one (Lock l) (Fifo s h) p n t = absurd (omega arith)
thing-one (Fifo s h) (Session r) p n t = absurd (omega arith)
thing-one (Fifo s h) (Lock l) p n t = absurd (omega arith)
thing-one (Fifo s g) (Fifo r h) p n t = ap (λ (q : SessId). Fifo q g) (session-one s r n) ∙ ap (Fifo r) (handle-one g h t)
thing-one (Placed a s) (Placed b r) p n t = ap (λ (q : ℕ). Placed q s) n ∙ ap (Placed b) (session-one s r t)
thing-one (Placed a s) (Session r) p n t = absurd (omega arith)
thing-one (Placed a s) (Lock l) p n t = absurd (omega arith)
thing-one (Placed a s) (Fifo r h) p n t = absurd (omega arith)
thing-one (Session s) (Placed b r) p n t = absurd (omega arith)
thing-one (Lock l) (Placed b r) p n t = absurd (omega arith)
thing-one (Fifo s h) (Placed b r) p n t = absurd (omega arith)

pub holding-one : (x y : Holding) → x.whose ≡ y.whose → x.thing ≡ y.thing → x ≡ y
holding-one x y w t =
    ap (λ (n : ℕ). let z : Holding = record { whose = n; thing = x.thing } in z) w
    ∙ ap (λ (a : Thing). let z : Holding = record { whose = y.whose; thing = a } in z) t

from-numbers : (x y : Holding) → numbers x ≡ numbers y → x ≡ y
from-numbers x y e =
    let at = λ (j : ℕ). ap (λ (ns : List ℕ). get_or ns j 0) e in
    holding-one x y (at 0) (thing-one x.thing y.thing (at 1) (at 2) (at 3))

pub holding_order : IsOrder holding_lt
holding_order = record {
  irreflexive = λ x. by-numbers x x ∙ seat_order.irreflexive (numbers x);
  transitive = λ x y z p q. by-numbers x z ∙ seat_order.transitive (numbers x) (numbers y) (numbers z) (sym (by-numbers x y) ∙ p) (sym (by-numbers y z) ∙ q);
  total = λ x y p q. from-numbers x y (seat_order.total (numbers x) (numbers y) (sym (by-numbers x y) ∙ p) (sym (by-numbers y x) ∙ q));
}

not-so : {b : Bool} → b ≡ true → b ≡ false → ⊥
not-so {b} p q = let z : true ≡ false = sym p ∙ q in cc

pub asym : (x y : Holding) → holding_lt x y ≡ true → holding_lt y x ≡ false
asym x y h = elim (test (holding_lt y x)) [
  | inl r ↦ absurd (not-so (holding_order.transitive x y x h r) (holding_order.irreflexive x))
  | inr n ↦ n
]

-- ---- rows

pub ascend-opened : (xs : List Holding) → HoldingsAscend xs → Ascending holding_lt xs
unfolding HoldingsAscend
ascend-opened xs a = a

pub ascend-closed : (xs : List Holding) → Ascending holding_lt xs → HoldingsAscend xs
unfolding HoldingsAscend
ascend-closed xs a = a

in-at : {A : Type 0} (xs : List A) (j : ℕ) (d : A) → j < length xs → IsIn (get_or xs j d) xs
in-at [] j d h = absurd (omega arith)
in-at (x ∷ xs) zero d h = inl refl
in-at (x ∷ xs) (suc j) d h = inr (in-at xs j d (omega arith))

-- a test that passes below what passes parts a row
pub parted : {A : Type 0} (lt : A → A → Bool) (p : A → Bool) → ((x y : A) → lt x y ≡ true → p y ≡ true → p x ≡ true) → (xs : List A) → Ascending lt xs → IsPartitionedBy p xs
parted lt p c [] a i j d le less h = absurd (omega arith)
parted lt p c (x ∷ xs) a zero zero d le less h = h
parted lt p c (x ∷ xs) a zero (suc j) d le less h = c x (get_or xs j d) (a.0 (get_or xs j d) (in-at xs j d (omega arith))) h
parted lt p c (x ∷ xs) a (suc i) zero d le less h = absurd (omega arith)
parted lt p c (x ∷ xs) a (suc i) (suc j) d le less h = parted lt p c xs a.1 i j d (omega arith) (omega arith) h

abbrev pub Point : {A : Type 0} → (A → Bool) → List A → ℕ → Type 0
Point p xs i = IsPartitionPoint (λ x. p x ≡ true) (λ x. p x ≡ false) xs i

-- the first of a row, and the others
first-in : {A : Type 0} (p : A → Bool) (x : A) (xs : List A) (i : ℕ) → Point p (x ∷ xs) (suc i) → p x ≡ true
first-in p x xs i e = e.0 0 x (omega arith) (omega arith)

first-out : {A : Type 0} (p : A → Bool) (x : A) (xs : List A) → Point p (x ∷ xs) zero → p x ≡ false
first-out p x xs e = e.1 0 x (omega arith) (omega arith)

others-in : {A : Type 0} (p : A → Bool) (x : A) (xs : List A) (i : ℕ) → Point p (x ∷ xs) (suc i) → Point p xs i
others-in p x xs i e = ((λ j d l m. e.0 (suc j) d (omega arith) (omega arith)), (λ j d l m. e.1 (suc j) d (omega arith) (omega arith)))

others-out : {A : Type 0} (p : A → Bool) (x : A) (xs : List A) → Point p (x ∷ xs) zero → Point p xs zero
others-out p x xs e = ((λ j d l m. absurd (omega arith)), (λ j d l m. e.1 (suc j) d (omega arith) (omega arith)))

-- ---- one put in

insert-first : {A : Type 0} (lt : A → A → Bool) (a b : A) (bs : List A) → lt a b ≡ true → insert lt a (b ∷ bs) ≡ a ∷ b ∷ bs
unfolding insert
insert-first {A} lt a b bs e = rw e refl

insert-behind : {A : Type 0} (lt : A → A → Bool) (a b : A) (bs : List A) → lt a b ≡ false → lt b a ≡ true → insert lt a (b ∷ bs) ≡ b ∷ insert lt a bs
unfolding insert
insert-behind lt a b bs e f = rw (e, f) refl

insert-there : {A : Type 0} (lt : A → A → Bool) (a b : A) (bs : List A) → lt a b ≡ false → lt b a ≡ false → insert lt a (b ∷ bs) ≡ b ∷ bs
unfolding insert
insert-there lt a b bs e f = rw (e, f) refl

insert-alone : {A : Type 0} (lt : A → A → Bool) (a : A) → insert lt a [] ≡ a ∷ []
unfolding insert
insert-alone lt a = refl

-- what is at a rank is above one, or there is nothing
abbrev pub IsAboveAt : Holding → List Holding → ℕ → Holding → Type 0
IsAboveAt x xs i d = i < length xs → holding_lt x (get_or xs i d) ≡ true

-- what indexing reads at a rank
pub above-at : (x : Holding) (xs : List Holding) (i : ℕ) (y : Holding) → y ≡ get_or xs i y → holding_lt x y ≡ true → IsAboveAt x xs i y
above-at x xs i y at e h = ap (holding_lt x) (sym at) ∙ e

pub level-at : (x : Holding) (xs : List Holding) (i : ℕ) (y : Holding) → y ≡ get_or xs i y → holding_lt x y ≡ false → holding_lt x (get_or xs i y) ≡ false
level-at x xs i y at e = ap (holding_lt x) (sym at) ∙ e

pub inserted : (x : Holding) (xs : List Holding) (i : ℕ) (d : Holding) → i ≤ length xs → Point (λ y. holding_lt y x) xs i → IsAboveAt x xs i d → take i xs ++ x ∷ drop i xs ≡ insert holding_lt x xs
inserted x [] zero d l e n = sym (insert-alone holding_lt x)
inserted x [] (suc i) d l e n = absurd (omega arith)
inserted x (y ∷ ys) zero d l e n = sym (insert-first holding_lt x y ys (n (omega arith)))
inserted x (y ∷ ys) (suc i) d l e n =
    let p = λ (z : Holding). holding_lt z x in
    let below = first-in p y ys i e in
    ap (λ (zs : List Holding). y ∷ zs) (inserted x ys i d (omega arith) (others-in p y ys i e) (λ h. n (omega arith)))
    ∙ sym (insert-behind holding_lt x y ys (asym y x below) below)

-- one that is there already
pub insert-stays : (x : Holding) (xs : List Holding) (i : ℕ) (d : Holding) → i < length xs → Point (λ y. holding_lt y x) xs i → holding_lt x (get_or xs i d) ≡ false → xs ≡ insert holding_lt x xs
insert-stays x [] i d l e n = absurd (omega arith)
insert-stays x (y ∷ ys) zero d l e n = sym (insert-there holding_lt x y ys n (first-out (λ (z : Holding). holding_lt z x) y ys e))
insert-stays x (y ∷ ys) (suc i) d l e n =
    let p = λ (z : Holding). holding_lt z x in
    let below = first-in p y ys i e in
    ap (λ (zs : List Holding). y ∷ zs) (insert-stays x ys i d (omega arith) (others-in p y ys i e) n)
    ∙ sym (insert-behind holding_lt x y ys (asym y x below) below)

-- ---- one taken out

pub filter-all : {A : Type 0} (p : A → Bool) (xs : List A) → ((x : A) → IsIn x xs → p x ≡ true) → xs ≡ filter p xs
filter-all {A} p [] f = refl
filter-all {A} p (x ∷ xs) f =
    ap (λ (ys : List A). x ∷ ys) (filter-all p xs (λ y i. f y (inr i)))
    ∙ sym (ap (λ (b : Bool). cond b (x ∷ filter p xs) (filter p xs)) (f x (inl refl)))

above-other : (x y : Holding) → holding_lt x y ≡ true → is_other x y ≡ true
above-other x y e = ap (λ (b : Bool). b || holding_lt y x) e

below-other : (x y : Holding) → holding_lt y x ≡ true → is_other x y ≡ true
below-other x y e = ap (λ (b : Bool). b || holding_lt y x) (asym y x e) ∙ e

not-other : (x y : Holding) → holding_lt x y ≡ false → holding_lt y x ≡ false → is_other x y ≡ false
not-other x y e f = ap (λ (b : Bool). b || holding_lt y x) e ∙ f

keep : {A : Type 0} (p : A → Bool) (x : A) (xs : List A) → p x ≡ true → filter p (x ∷ xs) ≡ x ∷ filter p xs
keep p x xs e = ap (λ (b : Bool). cond b (x ∷ filter p xs) (filter p xs)) e

skip : {A : Type 0} (p : A → Bool) (x : A) (xs : List A) → p x ≡ false → filter p (x ∷ xs) ≡ filter p xs
skip p x xs e = ap (λ (b : Bool). cond b (x ∷ filter p xs) (filter p xs)) e

pub removed : (x : Holding) (xs : List Holding) (i : ℕ) (d : Holding) → Ascending holding_lt xs → i < length xs → Point (λ y. holding_lt y x) xs i → holding_lt x (get_or xs i d) ≡ false
    → take i xs ++ drop (suc i) xs ≡ filter (is_other x) xs
removed x [] i d a l e n = absurd (omega arith)
removed x (y ∷ ys) zero d a l e n =
    let out = first-out (λ (z : Holding). holding_lt z x) y ys e in
    let one = holding_order.total x y n out in
    let P : Holding → Type 0 = λ w. (z : Holding) → IsIn z ys → holding_lt w z ≡ true in
    let up = subst P (sym one) a.0 in
    filter-all (is_other x) ys (λ z i. above-other x z (up z i)) ∙ sym (skip (is_other x) y ys (not-other x y n out))
removed x (y ∷ ys) (suc i) d a l e n =
    let p = λ (z : Holding). holding_lt z x in
    ap (λ (zs : List Holding). y ∷ zs) (removed x ys i d a.1 (omega arith) (others-in p y ys i e) n)
    ∙ sym (keep (is_other x) y ys (below-other x y (first-in p y ys i e)))

-- one that is not there
pub filter-stays : (x : Holding) (xs : List Holding) (i : ℕ) (d : Holding) → Ascending holding_lt xs → Point (λ y. holding_lt y x) xs i → IsAboveAt x xs i d → xs ≡ filter (is_other x) xs
filter-stays x [] i d a e n = refl
filter-stays x (y ∷ ys) zero d a e n =
    let up = n (omega arith) in
    filter-all (is_other x) (y ∷ ys) (λ z i. elim i [
      | inl q ↦ above-other x z (ap (holding_lt x) q ∙ up)
      | inr j ↦ above-other x z (holding_order.transitive x y z up (a.0 z j))
    ])
filter-stays x (y ∷ ys) (suc i) d a e n =
    let p = λ (z : Holding). holding_lt z x in
    ap (λ (zs : List Holding). y ∷ zs) (filter-stays x ys i d a.1 (others-in p y ys i e) (λ h. n (omega arith)))
    ∙ sym (keep (is_other x) y ys (below-other x y (first-in p y ys i e)))

-- ---- what one has of a kind

-- it is between what is passed and what is behind
is-between : (c : ℕ) (p : ℕ) (above : Option ℕ) (x : Holding) → is_such c p above x ≡ (not (is_passed c p above x) && is_within c p x)
is-between c p None x = grind (arith, nat_tests)
is-between c p (Some n) x = grind (arith, nat_tests)

pub passed-within : (c : ℕ) (p : ℕ) (above : Option ℕ) (x : Holding) → is_passed c p above x ≡ true → is_within c p x ≡ true
passed-within c p None x h = grind (arith, nat_tests)
passed-within c p (Some n) x h = grind (arith, nat_tests)

pub passed-down : (c : ℕ) (p : ℕ) (above : Option ℕ) (x y : Holding) → holding_lt x y ≡ true → is_passed c p above y ≡ true → is_passed c p above x ≡ true
passed-down c p None x y l h = grind (arith, nat_tests)
passed-down c p (Some n) x y l h = grind (arith, nat_tests)

pub within-down : (c : ℕ) (p : ℕ) (x y : Holding) → holding_lt x y ≡ true → is_within c p y ≡ true → is_within c p x ≡ true
within-down c p x y l h = grind (arith, nat_tests)

and-first : (a b : Bool) → a ≡ true → (not a && b) ≡ false
and-first true b e = refl
and-first false b e = absurd (not-so e refl)

and-second : (a b : Bool) → b ≡ false → (a && b) ≡ false
and-second true b e = e
and-second false b e = refl

and-both : (a b : Bool) → a ≡ false → b ≡ true → (not a && b) ≡ true
and-both true b e f = absurd (not-so refl e)
and-both false b e f = f

-- what is between two points
module _ {A : Type 0} (p q r : A → Bool) (f : (x : A) → r x ≡ (not (p x) && q x)) (g : (x : A) → p x ≡ true → q x ≡ true) where
  pub between : (xs : List A) (i j : ℕ) → i ≤ length xs → j ≤ length xs → Point p xs i → Point q xs j → take (j - i) (drop i xs) ≡ filter r xs
  between [] zero zero l m e h = refl
  between [] zero (suc j) l m e h = absurd (omega arith)
  between [] (suc i) j l m e h = absurd (omega arith)
  between (x ∷ xs) zero zero l m e h =
      between xs zero zero (omega arith) (omega arith) (others-out p x xs e) (others-out q x xs h)
      ∙ sym (skip r x xs (f x ∙ and-second (not (p x)) (q x) (first-out q x xs h)))
  between (x ∷ xs) zero (suc j) l m e h =
      let n : suc j - 0 ≡ suc j = omega arith in
      let o : j - 0 ≡ j = omega arith in
      ap (λ (k : ℕ). take k (x ∷ xs)) n
      ∙ ap (λ (ys : List A). x ∷ ys) (ap (λ (k : ℕ). take k xs) (sym o) ∙ between xs zero j (omega arith) (omega arith) (others-out p x xs e) (others-in q x xs j h))
      ∙ sym (keep r x xs (f x ∙ and-both (p x) (q x) (first-out p x xs e) (first-in q x xs j h)))
  between (x ∷ xs) (suc i) zero l m e h = absurd (not-so (g x (first-in p x xs i e)) (first-out q x xs h))
  between (x ∷ xs) (suc i) (suc j) l m e h =
      let n : suc j - suc i ≡ j - i = omega arith in
      ap (λ (k : ℕ). take k (drop i xs)) n
      ∙ between xs i j (omega arith) (omega arith) (others-in p x xs i e) (others-in q x xs j h)
      ∙ sym (skip r x xs (f x ∙ and-first (p x) (q x) (first-in p x xs i e)))

  -- the first point is not behind the second
  pub points-ascend : (xs : List A) (i j : ℕ) → i ≤ length xs → Point p xs i → Point q xs j → i ≤ j
  points-ascend [] i j l e h = omega arith
  points-ascend (x ∷ xs) zero j l e h = omega arith
  points-ascend (x ∷ xs) (suc i) zero l e h = absurd (not-so (g x (first-in p x xs i e)) (first-out q x xs h))
  points-ascend (x ∷ xs) (suc i) (suc j) l e h = (let n = points-ascend xs i j (omega arith) (others-in p x xs i e) (others-in q x xs j h) in omega arith)

pub such-between : (c : ℕ) (p : ℕ) (above : Option ℕ) (xs : List Holding) (i j : ℕ) → i ≤ length xs → j ≤ length xs → Point (is_passed c p above) xs i → Point (is_within c p) xs j
    → take (j - i) (drop i xs) ≡ filter (is_such c p above) xs
such-between c p above = between (is_passed c p above) (is_within c p) (is_such c p above) (is-between c p above) (passed-within c p above)

pub such-ascend : (c : ℕ) (p : ℕ) (above : Option ℕ) (xs : List Holding) (i j : ℕ) → i ≤ length xs → Point (is_passed c p above) xs i → Point (is_within c p) xs j → i ≤ j
such-ascend c p above = points-ascend (is_passed c p above) (is_within c p) (is_such c p above) (is-between c p above) (passed-within c p above)

-- and below a number
is-lower-between : (c : ℕ) (p from : ℕ) (x : Holding) → is_lower c p (Some from) x ≡ (not (is_passed c p None x) && is_in_front c p from x)
is-lower-between c p from x = grind (arith, nat_tests)

front-within : (c : ℕ) (p from : ℕ) (x : Holding) → is_passed c p None x ≡ true → is_in_front c p from x ≡ true
front-within c p from x h = grind (arith, nat_tests)

pub front-down : (c : ℕ) (p from : ℕ) (x y : Holding) → holding_lt x y ≡ true → is_in_front c p from y ≡ true → is_in_front c p from x ≡ true
front-down c p from x y l h = grind (arith, nat_tests)

pub lower-between : (c : ℕ) (p from : ℕ) (xs : List Holding) (i j : ℕ) → i ≤ length xs → j ≤ length xs → Point (is_passed c p None) xs i → Point (is_in_front c p from) xs j
    → take (j - i) (drop i xs) ≡ filter (is_lower c p (Some from)) xs
lower-between c p from = between (is_passed c p None) (is_in_front c p from) (is_lower c p (Some from)) (is-lower-between c p from) (front-within c p from)

pub lower-ascend : (c : ℕ) (p from : ℕ) (xs : List Holding) (i j : ℕ) → i ≤ length xs → Point (is_passed c p None) xs i → Point (is_in_front c p from) xs j → i ≤ j
lower-ascend c p from = points-ascend (is_passed c p None) (is_in_front c p from) (is_lower c p (Some from)) (is-lower-between c p from) (front-within c p from)
