-- The next name among keys that ascend.
use Rattle.std.proofs.Common.{◌≡◌, ℕ, zero, suc, nat_lt, ◌<◌, get_or, ◌||◌, Bool, true, false, not, Option, Some, None, option_map, List, [], ◌∷◌, length, take, drop, ◌-◌, refl, ap, sym, arith, ◌∙◌, subst, ◌⊎◌, inl, inr}
use Rattle.std.specs.Option.{option_or}
use Rattle.std.proofs.lemmas.List.{take_rest}
use Rattle.login_model.specs.declared.fact.Key.{Key}
use Rattle.login_model.specs.declared.fact.Fact.{Fact}
use Rattle.login_model.specs.Same.{same_key}
use Rattle.login_model.specs.Kind.{IsOrder, AreKeys}
use Rattle.login_model.specs.Names.{IsNext, is_above}
use Rattle.login_model.proofs.Keys.{same_key-true, test}
use Rattle.login_model.proofs.Values.{key-refl}
use Rattle.login_table.specs.KeyOrder.{key_lt, rank_of}
use Rattle.login_table.specs.inner.Keys.{first_named, has, is_passed, KeysAscendFrom}
use Rattle.login_table.specs.inner.Fronts.{IsFront}
use Rattle.login_table.proofs.KeyOrder.{same-rank, rank-above, no-test}
use Rattle.login_table.proofs.Keys.{keys-lower, keys-anyhow}

-- the keys behind one are those above the name that has it
pub front-above : {A : Type 0} (key_of : A → Key) (rank : ℕ) (above : Option A) (name : A) (k : Key) (n : ℕ) (xs : List Key) → above ≡ Some name → k ≡ key_of name
    → IsFront (λ (x : Key). not (key_lt k x)) n xs → IsFront (is_passed key_of rank above) n xs
front-above {A} key_of rank above name k n xs e h f =
    let P : Key → Type 0 = λ j. IsFront (λ (x : Key). not (key_lt j x)) n xs in
    let Q : Option A → Type 0 = λ a. IsFront (is_passed key_of rank a) n xs in
    subst Q (sym e) (subst P h f)

pub front-rank : {A : Type 0} (key_of : A → Key) (rank m : ℕ) (above : Option A) (n : ℕ) (xs : List Key) → above ≡ None → m ≡ rank
    → IsFront (λ (x : Key). nat_lt (rank_of x) m) n xs → IsFront (is_passed key_of rank above) n xs
front-rank {A} key_of rank m above n xs e h f =
    let P : ℕ → Type 0 = λ j. IsFront (λ (x : Key). nat_lt (rank_of x) j) n xs in
    let Q : Option A → Type 0 = λ a. IsFront (is_passed key_of rank a) n xs in
    subst Q (sym e) (subst P h f)

true-from : (b : Bool) → not b ≡ false → b ≡ true
true-from true h = refl
true-from false h = let z : true ≡ false = h in cc

false-from : (b : Bool) → not b ≡ true → b ≡ false
false-from true h = let z : false ≡ true = h in cc
false-from false h = refl

-- the keys behind ascend from there
drop-ascends : {A : Type 0} (key_of : A → Key) (rank : ℕ) (above : Option A) (b : Option Key) (n : ℕ) (xs : List Key) → KeysAscendFrom b xs → IsFront (is_passed key_of rank above) n xs
    → KeysAscendFrom (option_map key_of above) (drop n xs)
drop-ascends key_of rank above b zero [] a f = tt
drop-ascends key_of rank above b (suc n) [] a f = absurd f
drop-ascends key_of rank None b zero (x ∷ xs) a f = (refl, a.1)
drop-ascends key_of rank (Some d) b zero (x ∷ xs) a f = (true-from (key_lt (key_of d) x) f, a.1)
drop-ascends key_of rank None b (suc n) (x ∷ xs) a f = drop-ascends key_of rank None (Some x) n xs a.1 f.1
drop-ascends key_of rank (Some d) b (suc n) (x ∷ xs) a f = drop-ascends key_of rank (Some d) (Some x) n xs a.1 f.1

-- the keys that are searched ascend
pub rest-ascends : {A : Type 0} (key_of : A → Key) (rank : ℕ) (above : Option A) (n : ℕ) (xs : List Key) → KeysAscendFrom None xs → IsFront (is_passed key_of rank above) n xs
    → KeysAscendFrom None (take (length xs - n) (drop n xs))
rest-ascends key_of rank above n xs a f =
    let P : List Key → Type 0 = λ ys. KeysAscendFrom None ys in
    subst P (sym (take_rest xs n)) (keys-anyhow (option_map key_of above) (drop n xs) (drop-ascends key_of rank above None n xs a f))

pub no-some : {A : Type 0} {a : A} {z : Option A} → z ≡ None → z ≡ Some a → ⊥
no-some p q = let e = sym p ∙ q in cc

pub some-is : {A : Type 0} {a b : A} → Some a ≡ Some b → a ≡ b
some-is e = cc

-- one of the keys is about the name
abbrev NamedIn : {A : Type 0} → (Key → Option A) → A → List Key → Type 0
NamedIn name_in e [] = ⊥
NamedIn name_in e (x ∷ xs) = (name_in x ≡ Some e) ⊎ NamedIn name_in e xs

either : (a b : Bool) → (a || b) ≡ true → (a ≡ true) ⊎ (b ≡ true)
either true b h = inl refl
either false b h = inr h

or-second : (a b : Bool) → b ≡ true → (a || b) ≡ true
or-second true b h = refl
or-second false b h = h

module _ {A : Type 0} (lt : A → A → Bool) (o : IsOrder lt) (name_in : Key → Option A) (key_of : A → Key) (is_fact : Fact → Bool) (first : Option A) (k : AreKeys name_in key_of is_fact first)
    (ordered : (a b : A) → key_lt (key_of a) (key_of b) ≡ lt a b) (rank : ℕ) (of_rank : (a : A) → rank_of (key_of a) ≡ rank) where
  has-named : (xs : List Key) (e : A) → has (key_of e) xs ≡ true → NamedIn name_in e xs
  has-named [] e h = let z : false ≡ true = h in cc
  has-named (x ∷ xs) e h = elim (either (same_key x (key_of e)) (has (key_of e) xs) h) [
    | inl a ↦ inl (ap name_in (same_key-true x (key_of e) a) ∙ k.named e)
    | inr b ↦ inr (has-named xs e b)
  ]

  named-has : (xs : List Key) (e : A) → NamedIn name_in e xs → has (key_of e) xs ≡ true
  named-has [] e g = absurd g
  named-has (x ∷ xs) e g = elim g [
    | inl p ↦ ap (λ (c : Bool). c || has (key_of e) xs) (key-refl x (key_of e) (k.own x e p))
    | inr q ↦ or-second (same_key x (key_of e)) (has (key_of e) xs) (named-has xs e q)
  ]

  -- a name that is above has its key behind
  behind-named : (above : Option A) (n : ℕ) (xs : List Key) (e : A) → IsFront (is_passed key_of rank above) n xs → is_above lt above e ≡ true → NamedIn name_in e xs → NamedIn name_in e (drop n xs)
  behind-named above n [] e f h g = absurd g
  behind-named above zero (x ∷ xs) e f h g = g
  behind-named None (suc n) (x ∷ xs) e f h g = elim g [
    | inl p ↦ absurd (same-rank (rank_of x) rank (ap rank_of (k.own x e p) ∙ of_rank e) f.0)
    | inr q ↦ behind-named None n xs e f.1 h q
  ]
  behind-named (Some d) (suc n) (x ∷ xs) e f h g = elim g [
    | inl p ↦ absurd (
        let up : key_lt (key_of d) x ≡ true = ap (key_lt (key_of d)) (k.own x e p) ∙ ordered d e ∙ h in
        no-test up (false-from (key_lt (key_of d) x) f.0))
    | inr q ↦ behind-named (Some d) n xs e f.1 h q
  ]

  front-named : (p : Key → Bool) (n : ℕ) (xs : List Key) (e : A) → IsFront p n xs → NamedIn name_in e (drop n xs) → NamedIn name_in e xs
  front-named p zero [] e f g = g
  front-named p (suc n) [] e f g = absurd f
  front-named p zero (x ∷ xs) e f g = g
  front-named p (suc n) (x ∷ xs) e f g = inr (front-named p n xs e f.1 g)

  -- the keys of names are above what the keys ascend from
  named-above : (j : Key) (xs : List Key) (e : A) → KeysAscendFrom (Some j) xs → NamedIn name_in e xs → key_lt j (key_of e) ≡ true
  named-above j [] e a g = absurd g
  named-above j (x ∷ xs) e a g = elim g [
    | inl p ↦ ap (key_lt j) (sym (k.own x e p)) ∙ a.0
    | inr q ↦ named-above j xs e (keys-lower j x xs a.0 a.1) q
  ]

  above-named : (above : Option A) (xs : List Key) (e : A) → KeysAscendFrom (option_map key_of above) xs → NamedIn name_in e xs → is_above lt above e ≡ true
  above-named None xs e a g = refl
  above-named (Some b) xs e a g = sym (ordered b e) ∙ named-above (key_of b) xs e a g

  asym : (a b : A) → lt a b ≡ true → lt b a ≡ false
  asym a b h = elim (test (lt b a)) [
    | inl y ↦ absurd (no-test (o.transitive a b a h y) (o.irreflexive a))
    | inr n ↦ n
  ]

  Firsts : A → List Key → Type 0
  Firsts a xs = NamedIn name_in a xs × ((e : A) → NamedIn name_in e xs → lt e a ≡ false)

  firsts-by : (x : Key) (xs : List Key) (a : A) (z : Option A) → name_in x ≡ z → KeysAscendFrom (Some x) xs → option_or z (first_named name_in xs) ≡ Some a
      → (first_named name_in xs ≡ Some a → Firsts a xs) → Firsts a (x ∷ xs)
  unfolding Firsts
  firsts-by x xs a None n up h more =
      let p = more h in (
        inr p.0,
        λ e g. elim g [
          | inl q ↦ absurd (no-some n q)
          | inr q ↦ p.1 e q
        ],
      )
  firsts-by x xs a (Some b) n up h more =
      let p : name_in x ≡ Some a = n ∙ h in (
        inl p,
        λ e g. elim g [
          | inl q ↦ (let same : a ≡ e = some-is (sym p ∙ q) in ap (λ (z : A). lt z a) (sym same) ∙ o.irreflexive a)
          | inr q ↦ asym a e (sym (ordered a e) ∙ ap (λ (z : Key). key_lt z (key_of e)) (sym (k.own x a p)) ∙ named-above x xs e up q)
        ],
      )

  firsts : (b : Option Key) (xs : List Key) (a : A) → KeysAscendFrom b xs → first_named name_in xs ≡ Some a → Firsts a xs
  firsts b [] a up h = absurd (no-some refl h)
  firsts b (x ∷ xs) a up h = firsts-by x xs a (name_in x) refl up.1 h (λ m. firsts (Some x) xs a up.1 m)

  none-by : (x : Key) (xs : List Key) (e : A) (z : Option A) → name_in x ≡ z → option_or z (first_named name_in xs) ≡ None
      → (first_named name_in xs ≡ None → NamedIn name_in e xs → ⊥) → NamedIn name_in e (x ∷ xs) → ⊥
  none-by x xs e None n h more g = elim g [
    | inl q ↦ no-some n q
    | inr q ↦ more h q
  ]
  none-by x xs e (Some b) n h more g = no-some h refl

  none-named : (xs : List Key) (e : A) → first_named name_in xs ≡ None → NamedIn name_in e xs → ⊥
  none-named [] e h g = g
  none-named (x ∷ xs) e h g = none-by x xs e (name_in x) refl h (λ m. none-named xs e m) g

  -- the first name behind is the next
  next-named : (above : Option A) (n : ℕ) (xs : List Key) (z : Option A) → KeysAscendFrom None xs → IsFront (is_passed key_of rank above) n xs
      → first_named name_in (drop n xs) ≡ z → IsNext lt (λ a. has (key_of a) xs) above z
  unfolding Firsts
  next-named above n xs None up f h = λ e p q. none-named (drop n xs) e h (behind-named above n xs e f q (has-named xs e p))
  next-named above n xs (Some a) up f h =
      let more = drop-ascends key_of rank above None n xs up f in
      let p = firsts (option_map key_of above) (drop n xs) a more h in (
        named-has xs a (front-named (is_passed key_of rank above) n xs a f p.0),
        above-named above (drop n xs) a more p.0,
        λ e t q. p.1 e (behind-named above n xs e f q (has-named xs e t)),
      )

-- the next name of what is read from the keys
pub next-key : {A : Type 0} (lt : A → A → Bool) → IsOrder lt → (name_in : Key → Option A) (key_of : A → Key) (is_fact : Fact → Bool) (first : Option A) → AreKeys name_in key_of is_fact first
    → ((a b : A) → key_lt (key_of a) (key_of b) ≡ lt a b) → (rank : ℕ) → ((a : A) → rank_of (key_of a) ≡ rank) → (above : Option A) (n : ℕ) (xs ys : List Key) → KeysAscendFrom None xs → IsFront (is_passed key_of rank above) n xs
    → (z : Option A) → xs ≡ ys → z ≡ first_named name_in (take (length xs - n) (drop n xs)) → IsNext lt (λ a. has (key_of a) ys) above z
next-key {A} lt o name_in key_of is_fact first k ordered rank of_rank above n xs ys up f z same e =
    let P : List Key → Type 0 = λ us. IsNext lt (λ a. has (key_of a) us) above z in
    let read = e ∙ ap (first_named name_in) (take_rest xs n) in
    subst P same (next-named lt o name_in key_of is_fact first k ordered rank of_rank above n xs z up f (sym read))

module _ {A : Type 0} (name_in : Key → Option A) (key_of : A → Key) (is_fact : Fact → Bool) (first : Option A) (k : AreKeys name_in key_of is_fact first) (rank : ℕ)
    (of_rank : (a : A) → rank_of (key_of a) ≡ rank) where
  foreign-by : (x : Key) (z : Option A) → name_in x ≡ z → nat_lt rank (rank_of x) ≡ true → z ≡ None
  foreign-by x None e h = refl
  foreign-by x (Some a) e h = absurd (same-rank rank (rank_of x) (sym (ap rank_of (k.own x a e) ∙ of_rank a)) h)

  -- behind a key of a later kind there is no name
  beyond : (x : Key) (xs : List Key) → KeysAscendFrom (Some x) xs → nat_lt rank (rank_of x) ≡ true → first_named name_in (x ∷ xs) ≡ None
  beyond x [] a h = ap (λ (z : Option A). option_or z None) (foreign-by x (name_in x) refl h)
  beyond x (y ∷ ys) a h =
      ap (λ (z : Option A). option_or z (first_named name_in (y ∷ ys))) (foreign-by x (name_in x) refl h)
      ∙ beyond y ys a.1 (rank-above rank x y a.0 h)

  beyond-from : (b : Option Key) (xs : List Key) (i : ℕ) (d : Key) → KeysAscendFrom b xs → i < length xs → nat_lt rank (rank_of (get_or xs i d)) ≡ true → first_named name_in (drop i xs) ≡ None
  beyond-from b [] i d a l h = absurd (omega arith)
  beyond-from b (x ∷ xs) zero d a l h = beyond x xs a.1 h
  beyond-from b (x ∷ xs) (suc i) d a l h = beyond-from (Some x) xs i d a.1 (omega arith) h

  pub beyond-at : (xs : List Key) (i : ℕ) (x : Key) → KeysAscendFrom None xs → i < length xs → x ≡ get_or xs i x → nat_lt rank (rank_of x) ≡ true → first_named name_in (drop i xs) ≡ None
  beyond-at xs i x a l e h = beyond-from None xs i x a l (ap (λ (y : Key). nat_lt rank (rank_of y)) (sym e) ∙ h)
