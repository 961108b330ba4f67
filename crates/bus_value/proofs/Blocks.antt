-- A text that is gone through in blocks.
use Rattle.std.proofs.Common.{◌≡◌, ℕ, suc, zero, ◌%◌, ◌^◌, ◌↔◌, List, [], ◌∷◌, ◌++◌, length, take, drop, replicate, map, refl, sym, ap, ◌∙◌, take-append-drop, arith, Bool, true, false, true≢false, not, cond, eqb, eqb-true, eq-eqb, ◌&&◌, IsUtf8}
use Rattle.std.specs.Str.{is_utf8}
use Rattle.std.proofs.lemmas.Bool.{and_parts}
use Rattle.std.proofs.lemmas.List.{length-map}
use Rattle.std.proofs.lemmas.Simd.{length-zip2, mask_l-mod}
use Rattle.std.proofs.lemmas.Str.{IsUtf8-from_is_utf8, is_utf8-from_IsUtf8}
use lib.Lanes.{zip2, mask_l, top}
use Rattle.simdutf8.proofs.StepsLemmas.{IsUtf8-append_ascii, IsAscii-replicate}
use Rattle.login_base.specs.Texts.{has_no_zero, is_text}

abbrev pub equals : ℕ → ℕ → ℕ
equals a b = cond (eqb a b) 255 0

one_more : (t : Bool) (lanes : List Bool) (behind : Bool) → ((mask_l lanes ≡ 0) ↔ (behind ≡ true)) → (mask_l (top 7 (cond t 255 0) ∷ lanes) ≡ 0) ↔ ((not t && behind) ≡ true)
one_more true lanes behind h = (λ q. absurd (omega arith), λ z. absurd (true≢false (sym z)))
one_more false lanes behind h = (λ q. h.0 (omega arith), λ k. omega (arith, h.1 k))

none_equal : (xs : List ℕ) → (mask_l (map (top 7) (zip2 equals xs (replicate (length xs) 0))) ≡ 0) ↔ (has_no_zero xs ≡ true)
none_equal [] = (λ _. refl, λ _. refl)
none_equal (x ∷ xs) = one_more (eqb x 0) (map (top 7) (zip2 equals xs (replicate (length xs) 0))) (has_no_zero xs) (none_equal xs)

pub no_zero_of_mask : (xs : List ℕ) → length xs ≡ 64 → (eqb (mask_l (map (top 7) (zip2 equals xs (replicate 64 0))) % 2 ^ 64) 0 ≡ true) ↔ (has_no_zero xs ≡ true)
no_zero_of_mask xs long =
    let lanes = zip2 equals xs (replicate 64 0) in
    let small = mask_l-mod (map (top 7) lanes) 64 (omega (arith, length-map lanes (top 7), length-zip2 equals xs (replicate 64 0) long)) in
    let e = small ∙ ap (λ n. mask_l (map (top 7) (zip2 equals xs (replicate n 0)))) (sym long) in
    (λ t. (none_equal xs).0 (sym e ∙ eqb-true _ _ t), λ z. eq-eqb _ _ (e ∙ (none_equal xs).1 z))

and_assoc : (a b c : Bool) → (a && (b && c)) ≡ ((a && b) && c)
and_assoc true b c = refl
and_assoc false b c = refl

both : (a b : Bool) → a ≡ true → b ≡ true → (a && b) ≡ true
both a b h k = rw (h, k) refl

no_zero-append : (xs ys : List ℕ) → has_no_zero (xs ++ ys) ≡ (has_no_zero xs && has_no_zero ys)
no_zero-append [] ys = refl
no_zero-append (x ∷ xs) ys = ap (λ b. not (eqb x 0) && b) (no_zero-append xs ys) ∙ and_assoc (not (eqb x 0)) (has_no_zero xs) (has_no_zero ys)

pub joined : (xs ys : List ℕ) → has_no_zero xs ≡ true → has_no_zero ys ≡ true → has_no_zero (xs ++ ys) ≡ true
joined xs ys h k = no_zero-append xs ys ∙ both (has_no_zero xs) (has_no_zero ys) h k

pub parts : (xs ys : List ℕ) → has_no_zero (xs ++ ys) ≡ true → (has_no_zero xs ≡ true) × (has_no_zero ys ≡ true)
parts xs ys h = and_parts (has_no_zero xs) (has_no_zero ys) (sym (no_zero-append xs ys) ∙ h)

ones : (n : ℕ) → has_no_zero (replicate n 1) ≡ true
ones zero = refl
ones (suc n) = ones n

no_text : (b : Bool) → (b ≡ true → ⊥) → false ≡ b
no_text true h = absurd (h refl)
no_text false h = refl

pub same : (a b : Bool) → (a ≡ true) ↔ (b ≡ true) → a ≡ b
same true true h = refl
same true false h = sym (h.0 refl)
same false true h = h.1 refl
same false false h = refl

-- a block of the text that has a zero byte
pub stopped : (text front block behind : List ℕ) → text ≡ front ++ (block ++ behind) → (has_no_zero block ≡ true → ⊥) → false ≡ is_text text
stopped text front block behind e h =
    no_text (is_text text) (λ t.
    let p = and_parts (is_utf8 text) (has_no_zero text) t in
    h (parts block behind (parts front (block ++ behind) (ap has_no_zero (sym e) ∙ p.1)).1).0)

-- what the last block tells, which is the rest of the text and ones
module _ (text : List ℕ) (at n : ℕ) (before : has_no_zero (take at text) ≡ true) where
  rest_of : (has_no_zero (drop at text ++ replicate n 1) ≡ true) → has_no_zero text ≡ true
  rest_of h = ap has_no_zero (sym (take-append-drop at text)) ∙ joined (take at text) (drop at text) before (parts (drop at text) (replicate n 1) h).0

  pub ended : (t : Bool) → has_no_zero (drop at text ++ replicate n 1) ≡ true → (t ≡ true) ↔ IsUtf8 (text ++ replicate n 1) → t ≡ is_text text
  ended t h said =
      let pad = IsUtf8-append_ascii text (replicate n 1) (IsAscii-replicate n 1 (omega arith)) in
      same t (is_text text) (
        λ e. both (is_utf8 text) (has_no_zero text) (is_utf8-from_IsUtf8 text (pad.0 (said.0 e))) (rest_of h),
        λ e. said.1 (pad.1 (IsUtf8-from_is_utf8 text (and_parts (is_utf8 text) (has_no_zero text) e).0)),
      )

  pub ended_early : (has_no_zero (drop at text ++ replicate n 1) ≡ true → ⊥) → false ≡ is_text text
  ended_early h =
      no_text (is_text text) (λ t.
      let p = and_parts (is_utf8 text) (has_no_zero text) t in
      h (joined (drop at text) (replicate n 1) (parts (take at text) (drop at text) (ap has_no_zero (take-append-drop at text) ∙ p.1)).1 (ones n)))
