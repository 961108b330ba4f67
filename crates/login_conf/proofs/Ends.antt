-- What stands at the ends of a text.
use Rattle.std.proofs.Common.{◌≡◌, ℕ, ◌-◌, Bool, true, false, List, [], ◌∷◌, ◌++◌, length, take, get_or, reverse, Some, None, refl, ap, sym, ◌∙◌, arith}
use Rattle.std.proofs.lemmas.Bool.{cond-true, cond-false, ne_eqb}
use Rattle.std.proofs.lemmas.List.{reverse-append, reverse-reverse, get_or_at, take_at, length_push}
use Rattle.login_conf.specs.Text.{from_first, to_last, continued}

module _ (test : ℕ → Bool) where
  from_first-yes : (b : ℕ) (bs : List ℕ) → test b ≡ true → from_first test (b ∷ bs) ≡ from_first test bs
  from_first-yes b bs e = cond-true (test b) _ _ e

  from_first-no : (b : ℕ) (bs : List ℕ) → test b ≡ false → from_first test (b ∷ bs) ≡ b ∷ bs
  from_first-no b bs e = cond-false (test b) _ _ e

  backwards : (front : List ℕ) (b : ℕ) → reverse (front ++ b ∷ []) ≡ b ∷ reverse front
  backwards front b = reverse-append front (b ∷ [])

  -- a byte at the end that passes
  pub to_last-yes : (front : List ℕ) (b : ℕ) → test b ≡ true → to_last test (front ++ b ∷ []) ≡ to_last test front
  unfolding to_last
  to_last-yes front b e = ap (λ (bs : List ℕ). reverse (from_first test bs)) (backwards front b) ∙ ap (λ (bs : List ℕ). reverse bs) (from_first-yes b (reverse front) e)

  -- one that does not
  pub to_last-no : (front : List ℕ) (b : ℕ) → test b ≡ false → to_last test (front ++ b ∷ []) ≡ front ++ b ∷ []
  unfolding to_last
  to_last-no front b e =
      ap (λ (bs : List ℕ). reverse (from_first test bs)) (backwards front b)
      ∙ ap (λ (bs : List ℕ). reverse bs) (from_first-no b (reverse front) e)
      ∙ ap (λ (bs : List ℕ). reverse bs) (sym (backwards front b)) ∙ reverse-reverse (front ++ b ∷ [])

  pub to_last-none : (text : List ℕ) → length text ≡ 0 → text ≡ to_last test text
  unfolding to_last
  to_last-none [] e = refl
  to_last-none (b ∷ bs) e = absurd (omega (arith, e))

-- a line with a last byte
last_byte : (front : List ℕ) (b : ℕ) → get_or (front ++ b ∷ []) (length (front ++ b ∷ []) - 1) 0 ≡ b
last_byte front b = get_or_at front b [] 0 (length (front ++ b ∷ []) - 1) (omega (arith, length_push front b))

before_last : (front : List ℕ) (b : ℕ) → take (length (front ++ b ∷ []) - 1) (front ++ b ∷ []) ≡ front
before_last front b = take_at front (b ∷ []) (length (front ++ b ∷ []) - 1) (omega (arith, length_push front b))

pub continued-yes : (front : List ℕ) → continued (front ++ 92 ∷ []) ≡ Some front
unfolding continued
continued-yes front = rw (last_byte front 92, before_last front 92) refl

pub continued-no : (front : List ℕ) (b : ℕ) → (b ≡ 92 → ⊥) → continued (front ++ b ∷ []) ≡ None
unfolding continued
continued-no front b other = rw (last_byte front b, ne_eqb b 92 other) refl

pub continued-none : (line : List ℕ) → length line ≡ 0 → None ≡ continued line
unfolding continued
continued-none [] e = refl
continued-none (b ∷ bs) e = absurd (omega (arith, e))
