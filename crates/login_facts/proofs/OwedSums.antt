-- Sums over an ascending list, where two functions differ at one of its names or at two.
use Rattle.std.proofs.Common.{◌≡◌, ◌≤◌, ◌+◌, ◌||◌, ℕ, Bool, true, false, cond, Option, Some, None, List, [], ◌∷◌, sum_by, refl, ap, sym, ◌∙◌, arith, ◌⊎◌, inl, inr}
use Rattle.std.proofs.lemmas.List.Sums.{sum_by-cons}
use Rattle.login_base.specs.declared.ids.SessId.{SessId}
use Rattle.login_model.specs.Kind.{IsOrder}
use Rattle.login_model.specs.Names.{session_lt}
use Rattle.login_model.proofs.InOrder.{Ascending, IsIn}
use Rattle.login_model.proofs.Keys.{same-session, test}
use Rattle.login_model.proofs.NameLaws.{session_order}
use Rattle.login_model.proofs.Values.{same-refl, true-false}
use Rattle.login_laws.proofs.Counting.{tail-not, total}
use Rattle.login_facts.specs.Owing.{is_one, of_some}
use Rattle.login_facts.proofs.CountLaws.{no-name, one-name}

pub sum-total : {A : Type 0} (f : A → ℕ) (xs : List A) → sum_by f xs ≡ total f xs
unfolding total
sum-total f [] = refl
sum-total f (x ∷ xs) = sum_by-cons f x xs ∙ ap (λ (n : ℕ). f x + n) (sum-total f xs)

-- ---- one name

same-total : {A : Type 0} (f g : A → ℕ) (xs : List A) → ((a : A) → IsIn a xs → f a ≡ g a) → total f xs ≡ total g xs
unfolding total
same-total f g [] h = refl
same-total f g (x ∷ xs) h = (let e = h x (inl refl) in let r = same-total f g xs (λ a i. h a (inr i)) in omega arith)

one-moved : {A : Type 0} (lt : A → A → Bool) (o : IsOrder lt) (f g : A → ℕ) (w : A) (xs : List A) → Ascending lt xs → ((a : A) → (a ≡ w) ⊎ (f a ≡ g a)) → IsIn w xs
    → total f xs + g w ≡ total g xs + f w
unfolding total
one-moved lt o f g w [] a h i = absurd i
one-moved lt o f g w (x ∷ xs) a h (inl z) =
    let r = same-total f g xs (λ y j. elim (h y) [ inl q ↦ absurd (tail-not lt o x y xs a j (q ∙ z)) | inr e ↦ e ]) in
    let p = ap f z in
    let q = ap g z in
    omega arith
one-moved lt o f g w (x ∷ xs) a h (inr i) =
    elim (h x) [
      | inl z ↦ absurd (tail-not lt o x w xs a i (sym z))
      | inr e ↦ (let r = one-moved lt o f g w xs a.1 h i in omega arith)
    ]

-- a name that is not in the list counts the same
some-moved : {A : Type 0} (lt : A → A → Bool) (o : IsOrder lt) (f g : A → ℕ) (w : Option A) (xs : List A) → Ascending lt xs → ((a : A) → (w ≡ Some a) ⊎ (f a ≡ g a))
    → ((a : A) → IsIn a xs ⊎ (f a ≡ g a)) → total f xs + of_some g w ≡ total g xs + of_some f w
some-moved lt o f g None xs a h n = (let r = same-total f g xs (λ x i. elim (h x) [ inl z ↦ absurd (no-name z) | inr e ↦ e ]) in omega arith)
some-moved lt o f g (Some w) xs a h n =
    elim (n w) [
      | inl i ↦ one-moved lt o f g w xs a (λ x. elim (h x) [ inl z ↦ inl (sym (one-name z)) | inr e ↦ inr e ]) i
      | inr q ↦ (let r = same-total f g xs (λ x i. elim (h x) [ inl z ↦ sym (ap f (one-name z)) ∙ q ∙ ap g (one-name z) | inr e ↦ e ]) in omega arith)
    ]

-- ---- two sessions

pub one-is : (o : Option SessId) (s : SessId) → is_one o s ≡ true → o ≡ Some s
one-is None s e = cc
one-is (Some r) s e = ap Some (same-session r s e)

is-one : (o : Option SessId) (s : SessId) → o ≡ Some s → is_one o s ≡ true
is-one o s e = ap (λ (p : Option SessId). is_one p s) e ∙ same-refl s.0

either-way : (b : Bool) (n m : ℕ) → n ≡ m → cond b n m ≡ m
either-way true n m e = e
either-way false n m e = refl

-- the first function at the one session, and else the second
abbrev between : (f g : SessId → ℕ) (v : Option SessId) → SessId → ℕ
between f g v s = cond (is_one v s) (f s) (g s)

at-first : (f g : SessId → ℕ) (v : Option SessId) (s : SessId) → is_one v s ≡ true → between f g v s ≡ f s
at-first f g v s e = ap (λ (b : Bool). cond b (f s) (g s)) e

elsewhere : (f g : SessId → ℕ) (v : Option SessId) (s : SessId) → is_one v s ≡ false → between f g v s ≡ g s
elsewhere f g v s e = ap (λ (b : Bool). cond b (f s) (g s)) e

first-is : (f g : SessId → ℕ) (v : Option SessId) → of_some (between f g v) v ≡ of_some f v
first-is f g None = refl
first-is f g (Some r) = at-first f g (Some r) r (same-refl r.0)

second-is : (f g : SessId → ℕ) (v w : Option SessId) → ((s : SessId) → v ≡ Some s → w ≡ Some s → ⊥) → of_some (between f g v) w ≡ of_some g w
second-is f g v None n = refl
second-is f g v (Some s) n = elim (test (is_one v s)) [ inl e ↦ absurd (n s (one-is v s e) refl) | inr e ↦ elsewhere f g v s e ]

-- two functions that differ at two sessions at most
pub both-moved : (f g : SessId → ℕ) (v w : Option SessId) (xs : List SessId) → Ascending session_lt xs → ((s : SessId) → v ≡ Some s → w ≡ Some s → ⊥)
    → ((s : SessId) → (v ≡ Some s) ⊎ ((w ≡ Some s) ⊎ (f s ≡ g s))) → ((s : SessId) → IsIn s xs ⊎ (f s ≡ g s))
    → total f xs + of_some g v + of_some g w ≡ total g xs + of_some f v + of_some f w
both-moved f g v w xs a apart h n =
    let m = between f g v in
    let to_first = some-moved session_lt session_order m g v xs a
    (λ s. elim (test (is_one v s)) [ inl e ↦ inl (one-is v s e) | inr e ↦ inr (elsewhere f g v s e) ])
    (λ s. elim (n s) [ inl i ↦ inl i | inr e ↦ inr (either-way (is_one v s) (f s) (g s) e) ]) in
    let to_second = some-moved session_lt session_order f m w xs a
    (λ s. elim (test (is_one v s)) [
      | inl e ↦ inr (sym (at-first f g v s e))
      | inr e ↦ elim (h s) [
        | inl z ↦ absurd (true-false (is_one v s) (is-one v s z) e)
        | inr (inl z) ↦ inl z
        | inr (inr q) ↦ inr (q ∙ sym (elsewhere f g v s e))
      ]
    ])
    (λ s. elim (n s) [ inl i ↦ inl i | inr e ↦ inr (e ∙ sym (either-way (is_one v s) (f s) (g s) e)) ]) in
    let p = first-is f g v in
    let q = second-is f g v w apart in
    omega arith

either-of : (a b : Bool) (n : ℕ) → (a ≡ true) ⊎ (b ≡ true) → cond (a || b) 0 n ≡ 0
either-of true b n e = refl
either-of false true n e = refl
either-of false false n (inl e) = cc
either-of false false n (inr e) = cc

none-of : (a b : Bool) (n : ℕ) → a ≡ false → b ≡ false → cond (a || b) 0 n ≡ n
none-of true b n e f = cc
none-of false true n e f = cc
none-of false false n e f = refl

nothing-left : (b : Bool) (n : ℕ) → n ≡ 0 → cond b 0 n ≡ n
nothing-left true n e = sym e
nothing-left false n e = refl

none-at : (f : SessId → ℕ) (v : Option SessId) → ((s : SessId) → is_one v s ≡ true → f s ≡ 0) → of_some f v ≡ 0
none-at f None h = refl
none-at f (Some s) h = h s (same-refl s.0)

-- two sessions together count no more than all, where one that is not in the list counts for nothing
pub both-within : (g : SessId → ℕ) (v w : Option SessId) (xs : List SessId) → Ascending session_lt xs → ((s : SessId) → v ≡ Some s → w ≡ Some s → ⊥) → ((s : SessId) → IsIn s xs ⊎ (g s ≡ 0))
    → of_some g v + of_some g w ≤ total g xs
both-within g v w xs a apart n =
    let f : SessId → ℕ = λ s. cond (is_one v s || is_one w s) 0 (g s) in
    let moved = both-moved f g v w xs a apart
    (λ s. elim (test (is_one v s)) [
      | inl e ↦ inl (one-is v s e)
      | inr e ↦ elim (test (is_one w s)) [ inl q ↦ inr (inl (one-is w s q)) | inr q ↦ inr (inr (none-of (is_one v s) (is_one w s) (g s) e q)) ]
    ])
    (λ s. elim (n s) [ inl i ↦ inl i | inr e ↦ inr (nothing-left (is_one v s || is_one w s) (g s) e) ]) in
    let p = none-at f v (λ s e. either-of (is_one v s) (is_one w s) (g s) (inl e)) in
    let q = none-at f w (λ s e. either-of (is_one v s) (is_one w s) (g s) (inr e)) in
    omega arith
