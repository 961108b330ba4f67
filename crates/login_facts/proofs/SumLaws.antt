-- Sums by number, one of which is moved.
use Rattle.std.proofs.Common.{◌≡◌, ◌+◌, ◌==◌, ◌∙◌, ℕ, Bool, true, false, cond, Option, Some, None, List, ap, arith, inl, inr, refl}
use Rattle.std.specs.Map.{lookup}
use Rattle.std.specs.Option.{is_some, unwrap_or}
use Rattle.login_model.proofs.Keys.{same-number, test}
use Rattle.login_model.proofs.Values.{same-refl}
use Rattle.login_facts.specs.Sums.{KeepRows, has_row, part, sum_in}

-- what a number has of its own
pub own-part : (number amount : ℕ) → part number amount number ≡ amount
own-part number amount = ap (λ (b : Bool). cond b amount 0) (same-refl number)

-- a table that has this sum at a number, and at others what the first has
pub lost-at : (xs ys : List (ℕ × ℕ)) (number n lost left : ℕ) → lookup (λ k. n == k) ys ≡ cond (number == n) (Some left) (lookup (λ k. n == k) xs) → left + lost ≡ sum_in xs number
    → sum_in ys n + part number lost n ≡ sum_in xs n
lost-at xs ys number n lost left e s = elim (test (number == n)) [
  | inl y ↦
      (let new : sum_in ys n ≡ left = ap (λ (o : Option ℕ). unwrap_or o 0) (e ∙ ap (λ (b : Bool). cond b (Some left) (lookup (λ k. n == k) xs)) y) in
      let own : part number lost n ≡ lost = ap (λ (b : Bool). cond b lost 0) y in
      let old : sum_in xs number ≡ sum_in xs n = ap (sum_in xs) (same-number number n y) in
      omega arith)
  | inr z ↦
      (let new : sum_in ys n ≡ sum_in xs n = ap (λ (o : Option ℕ). unwrap_or o 0) (e ∙ ap (λ (b : Bool). cond b (Some left) (lookup (λ k. n == k) xs)) z) in
      let own : part number lost n ≡ 0 = ap (λ (b : Bool). cond b lost 0) z in
      omega arith)
]

-- a table whose number has gone, which had no more than is lost
pub gone-at : (xs ys : List (ℕ × ℕ)) (number n lost : ℕ) → lookup (λ k. n == k) ys ≡ cond (number == n) None (lookup (λ k. n == k) xs) → lost ≡ sum_in xs number
    → sum_in ys n + part number lost n ≡ sum_in xs n
gone-at xs ys number n lost e s = elim (test (number == n)) [
  | inl y ↦
      (let new : sum_in ys n ≡ 0 = ap (λ (o : Option ℕ). unwrap_or o 0) (e ∙ ap (λ (b : Bool). cond b None (lookup (λ k. n == k) xs)) y) in
      let own : part number lost n ≡ lost = ap (λ (b : Bool). cond b lost 0) y in
      let old : sum_in xs number ≡ sum_in xs n = ap (sum_in xs) (same-number number n y) in
      omega arith)
  | inr z ↦
      (let new : sum_in ys n ≡ sum_in xs n = ap (λ (o : Option ℕ). unwrap_or o 0) (e ∙ ap (λ (b : Bool). cond b None (lookup (λ k. n == k) xs)) z) in
      let own : part number lost n ≡ 0 = ap (λ (b : Bool). cond b lost 0) z in
      omega arith)
]

-- a table that has one row more has the same sums, where that is of zero
pub opened-at : (xs ys : List (ℕ × ℕ)) (number n : ℕ) → lookup (λ k. n == k) ys ≡ cond (number == n) (Some 0) (lookup (λ k. n == k) xs) → has_row xs number ≡ false → sum_in ys n ≡ sum_in xs n
opened-at xs ys number n e lacks = elim (test (number == n)) [
  | inl y ↦
      (let new : sum_in ys n ≡ 0 = ap (λ (o : Option ℕ). unwrap_or o 0) (e ∙ ap (λ (b : Bool). cond b (Some 0) (lookup (λ k. n == k) xs)) y) in
      let none : sum_in xs number ≡ 0 = nothing (lookup (λ k. number == k) xs) lacks in
      let old : sum_in xs number ≡ sum_in xs n = ap (sum_in xs) (same-number number n y) in
      omega arith)
  | inr z ↦ ap (λ (o : Option ℕ). unwrap_or o 0) (e ∙ ap (λ (b : Bool). cond b (Some 0) (lookup (λ k. n == k) xs)) z)
]
  where
    nothing : (o : Option ℕ) → is_some o ≡ false → unwrap_or o 0 ≡ 0
    nothing None f = refl
    nothing (Some m) f = cc

-- a table in which a number has a sum, and others what they had, has the rows that were there
pub rows-kept : (xs ys : List (ℕ × ℕ)) (number sum : ℕ) → ((n : ℕ) → lookup (λ k. n == k) ys ≡ cond (number == n) (Some sum) (lookup (λ k. n == k) xs)) → KeepRows xs ys
rows-kept xs ys number sum e n h = ap is_some (e n) ∙ by (number == n)
  where
    by : (b : Bool) → is_some (cond b (Some sum) (lookup (λ k. n == k) xs)) ≡ true
    by true = refl
    by false = h

-- and the number's own
pub row-there : (xs ys : List (ℕ × ℕ)) (number sum : ℕ) → ((n : ℕ) → lookup (λ k. n == k) ys ≡ cond (number == n) (Some sum) (lookup (λ k. n == k) xs)) → has_row ys number ≡ true
row-there xs ys number sum e = ap is_some (e number ∙ ap (λ (b : Bool). cond b (Some sum) (lookup (λ k. number == k) xs)) (same-refl number))

pub gained-at : (xs ys : List (ℕ × ℕ)) (number n gained sum : ℕ) → lookup (λ k. n == k) ys ≡ cond (number == n) (Some sum) (lookup (λ k. n == k) xs) → sum ≡ sum_in xs number + gained
    → sum_in ys n ≡ sum_in xs n + part number gained n
gained-at xs ys number n gained sum e s = elim (test (number == n)) [
  | inl y ↦
      (let new : sum_in ys n ≡ sum = ap (λ (o : Option ℕ). unwrap_or o 0) (e ∙ ap (λ (b : Bool). cond b (Some sum) (lookup (λ k. n == k) xs)) y) in
      let own : part number gained n ≡ gained = ap (λ (b : Bool). cond b gained 0) y in
      let old : sum_in xs number ≡ sum_in xs n = ap (sum_in xs) (same-number number n y) in
      omega arith)
  | inr z ↦
      (let new : sum_in ys n ≡ sum_in xs n = ap (λ (o : Option ℕ). unwrap_or o 0) (e ∙ ap (λ (b : Bool). cond b (Some sum) (lookup (λ k. n == k) xs)) z) in
      let own : part number gained n ≡ 0 = ap (λ (b : Bool). cond b gained 0) z in
      omega arith)
]
