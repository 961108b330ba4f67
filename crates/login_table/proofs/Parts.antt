-- What several rows tell together.
use Rattle.std.proofs.Common.{◌≡◌, ℕ, ◌==◌, ◌<◌, ◌≤◌, ◌+◌, min, not, Bool, true, false, cond, [], ◌∷◌, refl, ap, sym, ◌∙◌, arith, inl, inr}
use Rattle.std.proofs.lemmas.Bool.Decides.{nat_tests}
use Rattle.login_model.specs.declared.fact.Key.{Key}
use Rattle.login_model.specs.declared.fact.Fact.{Fact}
use Rattle.login_model.specs.declared.mark.Mark.TheVariants.{Set, Say}
use Rattle.login_model.specs.Same.{same_key}
use Rattle.login_model.specs.Trail.{Trail, value, was_set}
use Rattle.login_model.proofs.Keys.{same_key-true, test}
use Rattle.login_table.specs.KeyOrder.{rank_of}
use Rattle.login_table.specs.inner.Parts.{in_front, is_of_kind, is_of_others, joined}
use Rattle.login_table.specs.Rows.{RowList}
use Rattle.login_table.proofs.KeyOrder.{no-test}
use Rattle.login_table.proofs.Standing.{Tells, value_tells, was_tells}

-- a key that passes no such test is not one that does
other-one : (p : Key → Bool) (j k : Key) → p j ≡ true → p k ≡ false → same_key j k ≡ false
other-one p j k y n = elim (test (same_key j k)) [
  | inl e ↦ absurd (no-test (sym (ap p (same_key-true j k e)) ∙ y) n)
  | inr m ↦ m
]

one-other : (p : Key → Bool) (j k : Key) → p j ≡ false → p k ≡ true → same_key j k ≡ false
one-other p j k n y = elim (test (same_key j k)) [
  | inl e ↦ absurd (no-test y (sym (ap p (same_key-true j k e)) ∙ n))
  | inr m ↦ m
]

same-test : (m n : ℕ) → m ≡ n → (m == n) ≡ true
same-test m n e = grind (arith, nat_tests)

pub by-test : (m n : ℕ) → (m == n) ≡ true → m ≡ n
by-test m n e = grind (arith, nat_tests)

-- a key of another rank
pub other-kind : (rank m : ℕ) (k : Key) → rank_of k ≡ m → (m == rank) ≡ false → is_of_kind rank k ≡ false
other-kind rank m k e n = ap (λ (i : ℕ). i == rank) e ∙ n

-- what is told of a key after a setting is what was told before with that one
abbrev Sets : {A : Type 0} → (Trail → Key → A) → RowList → RowList → Key → Fact → Type 0
Sets tell a b j x = (k : Key) → tell b.trail k ≡ tell (Set j x ∷ a.trail) k

module _ {A : Type 0} {tell : Trail → Key → A} {given : Fact → A} {start : Key → A} (told : Tells tell given start) where
  -- settings in front are of such keys alone
  beside : (p : Key → Bool) (t u : Trail) (k : Key) → p k ≡ false → tell (in_front p t u) k ≡ tell u k
  beside p [] u k n = refl
  beside p (Set j x ∷ t) u k n = elim (test (p j)) [
    | inl y ↦
        ap (λ (b : Bool). tell (cond b (Set j x ∷ in_front p t u) (in_front p t u)) k) y ∙ told.setting k j x (in_front p t u)
        ∙ ap (λ (b : Bool). cond b (given x) (tell (in_front p t u) k)) (other-one p j k y n) ∙ beside p t u k n
    | inr m ↦ ap (λ (b : Bool). tell (cond b (Set j x ∷ in_front p t u) (in_front p t u)) k) m ∙ beside p t u k n
  ]
  beside p (Say w m ∷ t) u k n = beside p t u k n

  -- of such a key they tell what they did before
  among : (p : Key → Bool) (t u : Trail) (k : Key) → p k ≡ true → tell u k ≡ start k → tell (in_front p t u) k ≡ tell t k
  among p [] u k y e = e ∙ sym (told.none k)
  among p (Set j x ∷ t) u k y e = elim (test (p j)) [
    | inl h ↦
        ap (λ (b : Bool). tell (cond b (Set j x ∷ in_front p t u) (in_front p t u)) k) h ∙ told.setting k j x (in_front p t u)
        ∙ ap (cond (same_key j k) (given x)) (among p t u k y e) ∙ sym (told.setting k j x t)
    | inr m ↦
        ap (λ (b : Bool). tell (cond b (Set j x ∷ in_front p t u) (in_front p t u)) k) m ∙ among p t u k y e
        ∙ sym (told.setting k j x t ∙ ap (λ (b : Bool). cond b (given x) (tell t k)) (one-other p j k m y))
  ]
  among p (Say w m ∷ t) u k y e = among p t u k y e ∙ sym (told.notice k w m t)

  none-of : (rank : ℕ) (b : RowList) (k : Key) → is_of_others rank k ≡ false → tell (in_front (is_of_others rank) b.trail []) k ≡ start k
  none-of rank b k n = beside (is_of_others rank) b.trail [] k n ∙ told.none k

  -- a key of the kind is told by the first rows
  pub joined-one : (rank : ℕ) (a b : RowList) (k : Key) → rank_of k ≡ rank → tell (joined rank a b).trail k ≡ tell a.trail k
  unfolding joined
  joined-one rank a b k e =
      let y = same-test (rank_of k) rank e in
      among (is_of_kind rank) a.trail (in_front (is_of_others rank) b.trail []) k y (none-of rank b k (ap not y))

  -- and others by the second
  pub joined-other : (rank : ℕ) (a b : RowList) (k : Key) → is_of_kind rank k ≡ false → tell (joined rank a b).trail k ≡ tell b.trail k
  unfolding joined
  joined-other rank a b k n =
      beside (is_of_kind rank) a.trail (in_front (is_of_others rank) b.trail []) k n
      ∙ among (is_of_others rank) b.trail [] k (ap not n) (told.none k)

  set-by : (rank : ℕ) (a b : RowList) (j : Key) (x : Fact) (k : Key) (v : A) → tell (joined rank a b).trail k ≡ v → tell (Set j x ∷ (joined rank a b).trail) k ≡ cond (same_key j k) (given x) v
  set-by rank a b j x k v e = told.setting k j x (joined rank a b).trail ∙ ap (cond (same_key j k) (given x)) e

  unset : (j k : Key) (x : Fact) (v : A) → same_key j k ≡ false → cond (same_key j k) (given x) v ≡ v
  unset j k x v n = ap (λ (b : Bool). cond b (given x) v) n

  -- a setting of the kind, and one of another
  tell-one : (rank : ℕ) (a c b : RowList) (j : Key) (x : Fact) → rank_of j ≡ rank → Sets tell a c j x → Sets tell (joined rank a b) (joined rank c b) j x
  tell-one rank a c b j x e s k = elim (test (is_of_kind rank k)) [
    | inl y ↦
        (let same = by-test (rank_of k) rank y in
        joined-one rank c b k same ∙ s k ∙ told.setting k j x a.trail ∙ sym (set-by rank a b j x k (tell a.trail k) (joined-one rank a b k same)))
    | inr n ↦
        joined-other rank c b k n
        ∙ sym (set-by rank a b j x k (tell b.trail k) (joined-other rank a b k n) ∙ unset j k x (tell b.trail k) (other-one (is_of_kind rank) j k (same-test (rank_of j) rank e) n))
  ]

  tell-other : (rank : ℕ) (a b c : RowList) (j : Key) (x : Fact) → is_of_kind rank j ≡ false → Sets tell b c j x → Sets tell (joined rank a b) (joined rank a c) j x
  tell-other rank a b c j x e s k = elim (test (is_of_kind rank k)) [
    | inl y ↦
        (let same = by-test (rank_of k) rank y in
        joined-one rank a c k same
        ∙ sym (set-by rank a b j x k (tell a.trail k) (joined-one rank a b k same) ∙ unset j k x (tell a.trail k) (one-other (is_of_kind rank) j k e y)))
    | inr n ↦
        joined-other rank a c k n ∙ s k ∙ told.setting k j x b.trail ∙ sym (set-by rank a b j x k (tell b.trail k) (joined-other rank a b k n))
  ]

-- what a setting leaves of rows, where the answer is whether its key is new
pub record IsSet (a c : RowList) (k : Key) (x : Fact) (is_new : Bool) : Type 0 where
  pub new_key : is_new ≡ not (was_set a.trail k)
  pub facts : (j : Key) → value c.trail j ≡ value (Set k x ∷ a.trail) j
  pub keys : (j : Key) → was_set c.trail j ≡ was_set (Set k x ∷ a.trail) j
  pub spare : a.spare ≤ c.spare + cond is_new 1 0

-- so it does in the first rows, and in the second
pub set-one : (rank : ℕ) (a c b : RowList) (k : Key) (x : Fact) (is_new : Bool) → rank_of k ≡ rank → IsSet a c k x is_new → IsSet (joined rank a b) (joined rank c b) k x is_new
unfolding joined
set-one rank a c b k x is_new e s = record {
  new_key = s.new_key ∙ ap not (sym (joined-one was_tells rank a b k e));
  facts = tell-one value_tells rank a c b k x e s.facts;
  keys = tell-one was_tells rank a c b k x e s.keys;
  spare = omega arith;
}

pub set-other : (rank : ℕ) (a b c : RowList) (k : Key) (x : Fact) (is_new : Bool) → is_of_kind rank k ≡ false → IsSet b c k x is_new → IsSet (joined rank a b) (joined rank a c) k x is_new
unfolding joined
set-other rank a b c k x is_new e s = record {
  new_key = s.new_key ∙ ap not (sym (joined-other was_tells rank a b k e));
  facts = tell-other value_tells rank a b c k x e s.facts;
  keys = tell-other was_tells rank a b c k x e s.keys;
  spare = omega arith;
}

-- there is room for a setting under a key
abbrev pub Fits : RowList → Key → Type 0
Fits a k = was_set a.trail k ≡ false → 0 < a.spare

-- so there is in the rows of its kind
pub fits-one : (rank : ℕ) (a b : RowList) (k : Key) → rank_of k ≡ rank → Fits (joined rank a b) k → Fits a k
unfolding joined
fits-one rank a b k e f n = let h : 0 < min a.spare b.spare = f (joined-one was_tells rank a b k e ∙ n) in omega arith

pub fits-other : (rank : ℕ) (a b : RowList) (k : Key) → is_of_kind rank k ≡ false → Fits (joined rank a b) k → Fits b k
unfolding joined
fits-other rank a b k m f n = let h : 0 < min a.spare b.spare = f (joined-other was_tells rank a b k m ∙ n) in omega arith

-- rows of no settings stand for none
pub joined-none : (rank : ℕ) (a b : RowList) → a.trail ≡ [] → b.trail ≡ [] → (joined rank a b).trail ≡ []
unfolding joined
joined-none rank a b p q =
    ap (λ (t : Trail). in_front (is_of_kind rank) t (in_front (is_of_others rank) b.trail [])) p ∙ ap (λ (t : Trail). in_front (is_of_others rank) t []) q

pub apart : (m n : ℕ) → (m ≡ n → ⊥) → (m == n) ≡ false
apart m n h = grind (arith, nat_tests)
