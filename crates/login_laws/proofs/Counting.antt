-- How many there are: lists of the same order, compared by who is in them.
use Rattle.std.proofs.Common.{◌≡◌, ◌≤◌, ◌+◌, ℕ, Bool, true, List, [], ◌∷◌, length, refl, sym, ◌∙◌, subst, arith, ◌⊎◌, inl, inr}
use Rattle.login_model.specs.Kind.{IsOrder}
use Rattle.login_model.proofs.InOrder.{Ascending, IsIn, not-self}

-- a list without those that are below its first and in the other
two-ways : {A : Type 0} (lt : A → A → Bool) → IsOrder lt → (x y : A) → lt x y ≡ true → lt y x ≡ true → ⊥
two-ways lt o x y p q = not-self lt o x x refl (o.transitive x y x p q)

-- what is in the tail of a list is not its first
pub tail-not : {A : Type 0} (lt : A → A → Bool) (o : IsOrder lt) (x z : A) (xs : List A) → Ascending lt (x ∷ xs) → IsIn z xs → z ≡ x → ⊥
tail-not lt o x z xs a i e = not-self lt o x z (sym e) (a.0 z i)

-- where each of one list is in the other, it is no longer
pub length-less : {A : Type 0} (lt : A → A → Bool) (o : IsOrder lt) (xs ys : List A) → Ascending lt xs → Ascending lt ys → ((z : A) → IsIn z xs → IsIn z ys) → length xs ≤ length ys
length-less lt o [] ys a b f = omega arith
length-less lt o (x ∷ xs) [] a b f = absurd (f x (inl refl))
length-less lt o (x ∷ xs) (y ∷ ys) a b f =
    elim (f x (inl refl)) [
      | inl e ↦ (let r = length-less lt o xs ys a.1 b.1 (λ z i. elim (f z (inr i)) [
        | inl q ↦ absurd (tail-not lt o x z xs a i (q ∙ sym e))
        | inr j ↦ j
      ]) in omega arith)
      | inr h ↦ (let r = length-less lt o (x ∷ xs) ys a b.1 (λ z i. elim (f z i) [
        | inl q ↦ absurd (elim i [
          | inl w ↦ tail-not lt o y x ys b h (sym w ∙ q)
          | inr j ↦ two-ways lt o x y (subst (λ v. lt x v ≡ true) q (a.0 z j)) (b.0 x h)
        ])
        | inr j ↦ j
      ]) in omega arith)
    ]

-- a list without one of its own
without : {A : Type 0} (lt : A → A → Bool) (o : IsOrder lt) (w : A) (xs ys : List A) → Ascending lt xs → Ascending lt ys → ((z : A) → IsIn z xs → IsIn z ys) → (IsIn w xs → ⊥) → IsIn w ys → length xs + 1 ≤ length ys
without lt o w xs [] a b f n i = absurd i
without lt o w [] (y ∷ ys) a b f n i = omega arith
without lt o w (x ∷ xs) (y ∷ ys) a b f n (inl e) =
    let r = length-less lt o (x ∷ xs) ys a b.1 (λ z i. elim (f z i) [
      | inl q ↦ absurd (n (subst (λ v. IsIn v (x ∷ xs)) (q ∙ sym e) i))
      | inr j ↦ j
    ]) in omega arith
without lt o w (x ∷ xs) (y ∷ ys) a b f n (inr i) =
    elim (f x (inl refl)) [
      | inl e ↦ (let r = without lt o w xs ys a.1 b.1 (λ z j. elim (f z (inr j)) [
        | inl q ↦ absurd (tail-not lt o x z xs a j (q ∙ sym e))
        | inr k ↦ k
      ]) (λ j. n (inr j)) i in omega arith)
      | inr h ↦ (let r = without lt o w (x ∷ xs) ys a b.1 (λ z j. elim (f z j) [
        | inl q ↦ absurd (elim j [
          | inl v ↦ tail-not lt o y x ys b h (sym v ∙ q)
          | inr k ↦ two-ways lt o x y (subst (λ v. lt x v ≡ true) q (a.0 z k)) (b.0 x h)
        ])
        | inr k ↦ k
      ]) n i in omega arith)
    ]

-- where one of the other is not in it, it is shorter
pub length-shorter : {A : Type 0} (lt : A → A → Bool) (o : IsOrder lt) (w : A) (xs ys : List A) → Ascending lt xs → Ascending lt ys → ((z : A) → IsIn z xs → IsIn z ys) → (IsIn w xs → ⊥) → IsIn w ys → length xs + 1 ≤ length ys
length-shorter lt o w xs ys a b f n i = without lt o w xs ys a b f n i

-- where each but one of it is in the other, it has one more at most
pub length-more : {A : Type 0} (lt : A → A → Bool) (o : IsOrder lt) (w : A) (xs ys : List A) → Ascending lt xs → Ascending lt ys → ((z : A) → IsIn z xs → (z ≡ w) ⊎ IsIn z ys) → length xs ≤ length ys + 1
length-more lt o w [] ys a b f = omega arith
length-more lt o w (x ∷ xs) [] a b f =
    (let r = length-less lt o xs [] a.1 tt (λ z i. elim (f z (inr i)) [
      | inl q ↦ elim (f x (inl refl)) [ inl e ↦ absurd (tail-not lt o x z xs a i (q ∙ sym e)) | inr h ↦ h ]
      | inr j ↦ j
    ]) in omega arith)
length-more lt o w (x ∷ xs) (y ∷ ys) a b f =
    elim (f x (inl refl)) [
      | inl e ↦ (let r = length-less lt o xs (y ∷ ys) a.1 b (λ z i. elim (f z (inr i)) [
        | inl q ↦ absurd (tail-not lt o x z xs a i (q ∙ sym e))
        | inr j ↦ j
      ]) in omega arith)
      | inr (inl e) ↦ (let r = length-more lt o w xs ys a.1 b.1 (λ z i. elim (f z (inr i)) [
        | inl q ↦ inl q
        | inr (inl q) ↦ absurd (tail-not lt o x z xs a i (q ∙ sym e))
        | inr (inr j) ↦ inr j
      ]) in omega arith)
      | inr (inr h) ↦ (let r = length-more lt o w (x ∷ xs) ys a b.1 (λ z i. elim (f z i) [
        | inl q ↦ inl q
        | inr (inl q) ↦ absurd (elim i [
          | inl v ↦ tail-not lt o y x ys b h (sym v ∙ q)
          | inr k ↦ two-ways lt o x y (subst (λ v. lt x v ≡ true) q (a.0 z k)) (b.0 x h)
        ])
        | inr (inr j) ↦ inr j
      ]) in omega arith)
    ]

-- ---- sums

-- the sum of a number over a list
unfoldable pub total : {A : Type 0} → (A → ℕ) → List A → ℕ
total f [] = 0
total f (x ∷ xs) = f x + total f xs

-- it is no more where each of the one list counts for nothing or is in the other
pub total-less : {A : Type 0} (lt : A → A → Bool) (o : IsOrder lt) (f g : A → ℕ) (xs ys : List A) → Ascending lt xs → Ascending lt ys → ((z : A) → IsIn z xs → f z ≤ g z)
    → ((z : A) → IsIn z xs → (f z ≡ 0) ⊎ IsIn z ys) → total f xs ≤ total g ys
unfolding total
total-less lt o f g [] ys a b l h = omega arith
total-less lt o f g (x ∷ xs) [] a b l h =
    elim (h x (inl refl)) [ inl e ↦ (let r = total-less lt o f g xs [] a.1 tt (λ z i. l z (inr i)) (λ z i. h z (inr i)) in omega arith) | inr i ↦ absurd i ]
total-less {A} lt o f g (x ∷ xs) (y ∷ ys) a b l h =
    elim (h x (inl refl)) [
      | inl e ↦ (let r = total-less lt o f g xs (y ∷ ys) a.1 b (λ z i. l z (inr i)) (λ z i. h z (inr i)) in omega arith)
      | inr (inl e) ↦ (let P : A → Type 0 = λ v. f x ≤ g v in let m = subst P e (l x (inl refl)) in
          let r = total-less lt o f g xs ys a.1 b.1 (λ z i. l z (inr i)) (λ z i. elim (h z (inr i)) [
            | inl q ↦ inl q
            | inr (inl q) ↦ absurd (tail-not lt o x z xs a i (q ∙ sym e))
            | inr (inr j) ↦ inr j
          ]) in omega arith)
      | inr (inr i) ↦ (let r = total-less lt o f g (x ∷ xs) ys a b.1 l (λ z k. elim (h z k) [
        | inl q ↦ inl q
        | inr (inl q) ↦ absurd (elim k [
          | inl v ↦ tail-not lt o y x ys b i (sym v ∙ q)
          | inr j ↦ two-ways lt o x y (subst (λ v. lt x v ≡ true) q (a.0 z j)) (b.0 x i)
        ])
        | inr (inr j) ↦ inr j
      ]) in omega arith)
    ]
