-- Keys that ascend: which tests part them, and which keys are among them.
use Rattle.std.proofs.Common.{◌≡◌, ℕ, zero, suc, nat_lt, ◌<◌, ◌||◌, Bool, true, false, not, Option, Some, None, List, [], ◌∷◌, length, get_or, drop, refl, ap, sym, ◌∙◌, arith, inl, inr}
use Rattle.std.specs.List.Sorted.{IsPartitionedBy}
use Rattle.std.specs.Option.{option_map_or}
use Rattle.login_model.specs.declared.fact.Key.{Key}
use Rattle.login_model.specs.Same.{same_key}
use Rattle.login_model.proofs.Keys.{test}
use Rattle.login_table.specs.KeyOrder.{key_lt, rank_of}
use Rattle.login_table.specs.inner.Keys.{has, KeysAscend, KeysAscendFrom}
use Rattle.login_table.specs.Listed.{first}
use Rattle.login_table.specs.inner.Fronts.{IsFront}
use Rattle.login_table.proofs.KeyOrder.{key_order, rank-below, no-test, below-apart, above-apart, above}

-- ascending keys, opened
pub keys-opened : (xs : List Key) → KeysAscend xs → KeysAscendFrom None xs
unfolding KeysAscend
keys-opened xs a = a

-- and closed again
pub keys-closed : (xs : List Key) → KeysAscendFrom None xs → KeysAscend xs
unfolding KeysAscend
keys-closed xs a = a

-- all keys behind one are above it
behind : (k : Key) (xs : List Key) → KeysAscendFrom (Some k) xs → (j : ℕ) (d : Key) → j < length xs → key_lt k (get_or xs j d) ≡ true
behind k [] a j d h = absurd (omega arith)
behind k (x ∷ xs) a zero d h = a.0
behind k (x ∷ xs) a (suc j) d h = key_order.transitive k x (get_or xs j d) a.0 (behind x xs a.1 j d (omega arith))

-- a test that passes below what passes parts the keys
pub keys-parted : (p : Key → Bool) → ((x y : Key) → key_lt x y ≡ true → p y ≡ true → p x ≡ true) → (b : Option Key) (xs : List Key) → KeysAscendFrom b xs → IsPartitionedBy p xs
keys-parted p c b [] a i j d le lt h = absurd (omega arith)
keys-parted p c b (x ∷ xs) a zero zero d le lt h = h
keys-parted p c b (x ∷ xs) a zero (suc j) d le lt h = c x (get_or xs j d) (behind x xs a.1 j d (omega arith)) h
keys-parted p c b (x ∷ xs) a (suc i) zero d le lt h = absurd (omega arith)
keys-parted p c b (x ∷ xs) a (suc i) (suc j) d le lt h = keys-parted p c (Some x) xs a.1 i j d (omega arith) (omega arith) h

pub keys-below : (k x y : Key) → key_lt x y ≡ true → key_lt y k ≡ true → key_lt x k ≡ true
keys-below k x y h e = key_order.transitive x y k h e

flip : (b : Bool) → not b ≡ true → b ≡ false
flip true h = let z : false ≡ true = h in cc
flip false h = refl

pub keys-up-to : (k x y : Key) → key_lt x y ≡ true → not (key_lt k y) ≡ true → not (key_lt k x) ≡ true
keys-up-to k x y h e = elim (test (key_lt k x)) [
  | inl t ↦ absurd (no-test (key_order.transitive k x y t h) (flip (key_lt k y) e))
  | inr f ↦ ap not f
]

pub keys-of-kinds : (m : ℕ) (x y : Key) → key_lt x y ≡ true → nat_lt (rank_of y) m ≡ true → nat_lt (rank_of x) m ≡ true
keys-of-kinds m x y h e = rank-below m x y h e

-- keys above one are above those below it
pub keys-lower : (j k : Key) (xs : List Key) → key_lt j k ≡ true → KeysAscendFrom (Some k) xs → KeysAscendFrom (Some j) xs
keys-lower j k [] h a = tt
keys-lower j k (x ∷ xs) h a = (key_order.transitive j k x h a.0, a.1)

pub keys-anyhow : (b : Option Key) (xs : List Key) → KeysAscendFrom b xs → KeysAscendFrom None xs
keys-anyhow b [] a = tt
keys-anyhow b (x ∷ xs) a = (refl, a.1)

-- a key below all is not among them
pub none-below : (k : Key) (xs : List Key) → KeysAscendFrom (Some k) xs → has k xs ≡ false
none-below k [] a = refl
none-below k (x ∷ xs) a = ap (λ (b : Bool). b || has k xs) (above-apart x k a.0) ∙ none-below k xs (keys-lower k x xs a.0 a.1)

-- whether a key is among them is told by the first one that is not below it
pub has-first : (k : Key) (b : Option Key) (xs : List Key) (i : ℕ) → KeysAscendFrom b xs → IsFront (λ (x : Key). key_lt x k) i xs → option_map_or (λ (x : Key). same_key x k) (first (drop i xs)) false ≡ has k xs
has-first k b [] zero a f = refl
has-first k b [] (suc i) a f = absurd f
has-first k b (x ∷ xs) zero a f = elim (test (same_key x k)) [
  | inl y ↦ y ∙ sym (ap (λ (c : Bool). c || has k xs) y)
  | inr n ↦ n ∙ sym (ap (λ (c : Bool). c || has k xs) n ∙ none-below k xs (keys-lower k x xs (above x k f n) a.1))
]
has-first k b (x ∷ xs) (suc i) a f = has-first k (Some x) xs i a.1 f.1 ∙ sym (ap (λ (c : Bool). c || has k xs) (below-apart x k f.0))
