-- How many of a kind are there after one more setting.
use Rattle.std.proofs.Common.{◌≡◌, ℕ, ◌+◌, ◌<◌, ◌≤◌, ◌^◌, Bool, true, false, cond, Option, Some, None, List, ◌∷◌, length, refl, ap, sym, ◌∙◌, arith, ◌⊎◌, inl, inr}
use Rattle.login_model.specs.declared.fact.Key.{Key}
use Rattle.login_model.specs.declared.fact.Fact.{Fact}
use Rattle.login_model.specs.declared.fact.Fact.TheVariants.{Absent}
use Rattle.login_model.specs.declared.mark.Mark.TheVariants.{Set, Say}
use Rattle.login_model.specs.declared.mark.Whom.{Whom}
use Rattle.login_model.specs.declared.mark.Notice.{Notice}
use Rattle.login_model.specs.Names.{insert_some, names}
use Rattle.login_model.specs.Same.{same_key}
use Rattle.login_model.specs.Trail.{Trail, value}
use Rattle.login_model.proofs.InOrder.{enumerated, filter-ascending, filter-gives, filter-keeps}
use Rattle.login_model.proofs.Keys.{same_key-true, test}
use Rattle.login_model.proofs.Values.{same_key-refl}
use Rattle.login_laws.proofs.Counts.{Lists, count-gone, count-more, count-same}
use Rattle.login_table.specs.Listed.{is_there}
use Rattle.login_table.proofs.Listing.{Kind, all, all-length}
use Rattle.login_table.proofs.Standing.{value-set}
use Rattle.login_facts.specs.Counts.{CanMove, one_if, one_there}

not-so : {b : Bool} → b ≡ true → b ≡ false → ⊥
not-so {b} p q = let z : true ≡ false = sym p ∙ q in cc

-- ---- lists in which all but one are as before

-- who is in both or in neither, all but one of them
abbrev AsBefore : {A : Type 0} → (A → Bool) → (A → Bool) → A → Type 0
AsBefore {A} p q w = (a : A) → (a ≡ w) ⊎ (p a ≡ q a)

back : {A : Type 0} (p q : A → Bool) (w : A) → AsBefore p q w → AsBefore q p w
back p q w h a = elim (h a) [ inl z ↦ inl z | inr r ↦ inr (sym r) ]

all-same : {A : Type 0} (p q : A → Bool) (w : A) → AsBefore p q w → p w ≡ q w → (a : A) → p a ≡ q a
all-same p q w h e a = elim (h a) [ inl z ↦ ap p z ∙ e ∙ sym (ap q z) | inr r ↦ r ]

-- the one is there who was not
came : {A : Type 0} (p q : A → Bool) (w : A) → AsBefore p q w → (a : A) → p a ≡ true → (a ≡ w) ⊎ (q a ≡ true)
came p q w h a i = elim (h a) [ inl z ↦ inl z | inr r ↦ inr (sym r ∙ i) ]

stayed : {A : Type 0} (p q : A → Bool) (w : A) → AsBefore p q w → q w ≡ false → (a : A) → q a ≡ true → p a ≡ true
stayed p q w h n a i = elim (h a) [ inl z ↦ absurd (not-so (sym (ap q z) ∙ i) n) | inr r ↦ r ∙ i ]

one-more : {A : Type 0} (lt : A → A → Bool) (p q : A → Bool) (xs ys : List A) (w : A) → Lists lt p xs → Lists lt q ys → AsBefore p q w → p w ≡ true → q w ≡ false → length xs ≡ length ys + 1
one-more lt p q xs ys w m n h e f =
    let most = count-more lt p q xs ys m n w (came p q w h) in
    let least = count-gone lt q p ys xs n m (stayed p q w h f) w f e in
    omega arith

by-tests : {A : Type 0} (lt : A → A → Bool) (p q : A → Bool) (xs ys : List A) (w : A) → Lists lt p xs → Lists lt q ys → AsBefore p q w → (b c : Bool) → p w ≡ b → q w ≡ c
    → length xs + one_if c ≡ length ys + one_if b
by-tests lt p q xs ys w m n h true true e f = let s = ap length (count-same lt p q xs ys m n (all-same p q w h (e ∙ sym f))) in omega arith
by-tests lt p q xs ys w m n h true false e f = let s = one-more lt p q xs ys w m n h e f in omega arith
by-tests lt p q xs ys w m n h false true e f = let s = one-more lt q p ys xs w n m (back p q w h) f e in omega arith
by-tests lt p q xs ys w m n h false false e f = let s = ap length (count-same lt p q xs ys m n (all-same p q w h (e ∙ sym f))) in omega arith

-- ---- a kind of names

pub kind-list : {A : Type 0} (K : Kind A) (t : Trail) → Lists K.lt (is_there K.key_of K.is_fact t) (all K t)
kind-list K t =
    let xs = insert_some K.lt K.first (names K.lt K.name_in t) in
    let n = enumerated K.lt K.order K.name_in K.key_of K.is_fact K.first K.keys t in
    let p = is_there K.key_of K.is_fact t in
    record {
      order = K.order;
      ascending = filter-ascending K.lt p xs n.ascending;
      has = λ a e. filter-keeps p a xs e (n.complete a e);
      gives = λ a i. filter-gives p a xs i;
    }

pub no-name : {A : Type 0} {a : A} → None ≡ Some a → ⊥
no-name e = cc

pub one-name : {A : Type 0} {a b : A} → Some a ≡ Some b → a ≡ b
one-name {A} {a} {b} e = cc

-- what is under a key that is not the one set
pub other-value : (k j : Key) (x : Fact) (t : Trail) → same_key j k ≡ false → value (Set j x ∷ t) k ≡ value t k
other-value k j x t e = value-set k j x t ∙ ap (λ (b : Bool). cond b x (value t k)) e

pub own-value : (k j : Key) (x : Fact) (t : Trail) → j ≡ k → value (Set j x ∷ t) k ≡ x
own-value k j x t e = value-set k j x t ∙ ap (λ (b : Bool). cond b x (value t k)) (ap (same_key j) (sym e) ∙ same_key-refl j)

none-set : {A : Type 0} (K : Kind A) (k : Key) (x : Fact) (t : Trail) → K.name_in k ≡ None → (a : A) → is_there K.key_of K.is_fact (Set k x ∷ t) a ≡ is_there K.key_of K.is_fact t a
none-set K k x t n a = elim (test (same_key k (K.key_of a))) [
  | inl y ↦ absurd (no-name (sym n ∙ ap K.name_in (same_key-true k (K.key_of a) y) ∙ K.keys.named a))
  | inr o ↦ ap K.is_fact (other-value (K.key_of a) k x t o)
]

but-one : {A : Type 0} (K : Kind A) (k : Key) (x : Fact) (t : Trail) (w : A) → K.name_in k ≡ Some w → AsBefore (is_there K.key_of K.is_fact (Set k x ∷ t)) (is_there K.key_of K.is_fact t) w
but-one K k x t w n a = elim (test (same_key k (K.key_of a))) [
  | inl y ↦ inl (one-name (sym (K.keys.named a) ∙ sym (ap K.name_in (same_key-true k (K.key_of a) y)) ∙ n))
  | inr o ↦ inr (ap K.is_fact (other-value (K.key_of a) k x t o))
]

set-by : {A : Type 0} (K : Kind A) (k : Key) (x : Fact) (t : Trail) (name : Option A) → K.name_in k ≡ name
    → length (all K (Set k x ∷ t)) + one_there name (K.is_fact (value t k)) ≡ length (all K t) + one_there name (K.is_fact x)
set-by K k x t None n =
    let u = Set k x ∷ t in
    let s = ap length (count-same K.lt (is_there K.key_of K.is_fact u) (is_there K.key_of K.is_fact t) (all K u) (all K t) (kind-list K u) (kind-list K t) (none-set K k x t n)) in
    omega arith
set-by K k x t (Some w) n =
    let u = Set k x ∷ t in
    let own = K.keys.own k w n in
    by-tests K.lt (is_there K.key_of K.is_fact u) (is_there K.key_of K.is_fact t) (all K u) (all K t) w (kind-list K u) (kind-list K t) (but-one K k x t w n)
    (K.is_fact x) (K.is_fact (value t k)) (ap K.is_fact (own-value (K.key_of w) k x t own)) (ap (λ (j : Key). K.is_fact (value t j)) (sym own))

-- a setting makes one more where it puts one there who was not, one fewer where it takes one away who was, and no
-- other number
pub count-set : {A : Type 0} (K : Kind A) (k : Key) (x : Fact) (t : Trail)
    → length (all K (Set k x ∷ t)) + one_there (K.name_in k) (K.is_fact (value t k)) ≡ length (all K t) + one_there (K.name_in k) (K.is_fact x)
count-set K k x t = set-by K k x t (K.name_in k) refl

-- a notice changes no number
pub count-say : {A : Type 0} (K : Kind A) (w : Whom) (n : Notice) (t : Trail) → length (all K (Say w n ∷ t)) ≡ length (all K t)
unfolding names value
count-say K w n t = refl

-- ---- a number that is kept

none-there : {A : Type 0} (name : Option A) → one_there name false ≡ 0
none-there None = refl
none-there (Some a) = refl

if-most : (b : Bool) → one_if b ≤ 1
if-most true = omega arith
if-most false = omega arith

there-most : {A : Type 0} (name : Option A) (b : Bool) → one_there name b ≤ 1
there-most None b = omega arith
there-most (Some a) b = if-most b

-- it is the number of a kind after one more setting
pub follows : {A : Type 0} (K : Kind A) (list : Trail → List A) → ((u : Trail) → length (list u) ≡ length (all K u)) → (k : Key) (x : Fact) (t : Trail) (old new : ℕ)
    → old ≡ length (list t) → new + one_there (K.name_in k) (K.is_fact (value t k)) ≡ old + one_there (K.name_in k) (K.is_fact x) → new ≡ length (list (Set k x ∷ t))
follows K list same k x t old new e h =
    let s = count-set K k x t in
    let a = same t in
    let b = same (Set k x ∷ t) in
    omega arith

-- and there is room for it, where nothing is absent and there
pub fits : {A : Type 0} (K : Kind A) (list : Trail → List A) → ((u : Trail) → length (list u) ≡ length (all K u)) → K.is_fact Absent ≡ false → (k : Key) (x : Fact) (t : Trail) (old : ℕ)
    → old ≡ length (list t) → length t + 2 < 2 ^ 32 → CanMove old (one_there (K.name_in k) (K.is_fact (value t k))) (one_there (K.name_in k) (K.is_fact x))
fits K list same none k x t old e few =
    let lost = count-set K k Absent t in
    let zero = ap (one_there (K.name_in k)) none ∙ none-there (K.name_in k) in
    let a = same t in
    let most = all-length K t in
    let one = there-most (K.name_in k) (K.is_fact x) in
    (omega arith, omega arith)
