-- A spelling depends on its offset only by the boundaries of 8 bytes.
use Rattle.std.proofs.Common.{◌≡◌, ◌∙◌, ℕ, ◌+◌, ◌%◌, List, [], ◌∷◌, ◌++◌, length, replicate, refl, ap, sym, subst, arith, inl, inr}
use Rattle.bus_value.specs.declared.basic_value.BasicValue.{BasicValue}
use Rattle.bus_value.specs.declared.order.Order.{Order}
use Rattle.bus_value.specs.declared.values.Spelled.{Spelled}
use Rattle.bus_value.specs.declared.values.Held.TheVariants.{Read}
use Rattle.bus_value.specs.Alignment.{alignment, boundary, IsAlignment}
use Rattle.bus_value.specs.BasicValues.{kind_of}
use Rattle.bus_value.specs.inner.Held.{read_in, values_in, IsHeld}
use Rattle.bus_value.specs.Numbers.{number_bytes}
use Rattle.bus_value.specs.Spelling.{pad_size, padding, basic_bytes, basic_spelling, behind_length, first_element, array_bytes, signature_bytes, next_boundary, value_at, pair_bytes, spelling, spellings, entry_spellings}
use Rattle.bus_value.specs.Values.{Val, Vals, Entries, basic, array, struct, dict, variant, none, more, no_entries, entry, shape, vals}
use Rattle.bus_value.proofs.BasicRules.{at_4, at_8, alignment_valid, boundary_valid}
use Rattle.bus_value.proofs.HeldLaws.{held_sound}

moved : (n at bt : ℕ) → at % 8 ≡ bt % 8 → (at + n) % 8 ≡ (bt + n) % 8
moved n at bt h = omega (arith, h)

same_pad : (at bt align : ℕ) → IsAlignment align → at % 8 ≡ bt % 8 → pad_size at align ≡ pad_size bt align
same_pad at bt align (inl e) h = subst (λ (m : ℕ). pad_size at m ≡ pad_size bt m) (sym e) (omega (arith, h))
same_pad at bt align (inr (inl e)) h = subst (λ (m : ℕ). pad_size at m ≡ pad_size bt m) (sym e) (omega (arith, h))
same_pad at bt align (inr (inr (inl e))) h = subst (λ (m : ℕ). pad_size at m ≡ pad_size bt m) (sym e) (omega (arith, h))
same_pad at bt align (inr (inr (inr e))) h = subst (λ (m : ℕ). pad_size at m ≡ pad_size bt m) (sym e) (omega (arith, h))

-- behind padding too
padded : (at bt align : ℕ) → IsAlignment align → at % 8 ≡ bt % 8 → (at + pad_size at align) % 8 ≡ (bt + pad_size bt align) % 8
padded at bt align valid h =
    ap (λ (n : ℕ). (at + n) % 8) (same_pad at bt align valid h) ∙ moved (pad_size bt align) at bt h

behind : (at bt : ℕ) → at % 8 ≡ bt % 8 → behind_length at % 8 ≡ behind_length bt % 8
behind at bt h = moved 4 (at + pad_size at 4) (bt + pad_size bt 4) (padded at bt 4 at_4 h)

first : (at bt align : ℕ) → IsAlignment align → at % 8 ≡ bt % 8 → first_element at align % 8 ≡ first_element bt align % 8
first at bt align valid h = padded (behind_length at) (behind_length bt) align valid (behind at bt h)

same_basic : (o : Order) (at bt : ℕ) (a : BasicValue) → at % 8 ≡ bt % 8 → basic_spelling o at a ≡ basic_spelling o bt a
same_basic o at bt a h = ap (λ (n : ℕ). replicate n 0 ++ basic_bytes o a) (same_pad at bt (alignment (kind_of a)) (alignment_valid (kind_of a)) h)

same_array : (o : Order) (at bt align : ℕ) (xs ys : List ℕ) → IsAlignment align → at % 8 ≡ bt % 8 → xs ≡ ys → array_bytes o at align xs ≡ array_bytes o bt align ys
same_array o at bt align xs ys valid h e =
    ap (λ (n : ℕ). replicate n 0 ++ (number_bytes o 4 (length xs) ++ (padding (behind_length at) align ++ xs))) (same_pad at bt 4 at_4 h)
    ∙ ap (λ (n : ℕ). padding bt 4 ++ (number_bytes o 4 (length xs) ++ (replicate n 0 ++ xs))) (same_pad (behind_length at) (behind_length bt) align valid (behind at bt h))
    ∙ ap (λ (zs : List ℕ). array_bytes o bt align zs) e

value_place : (o : Order) (at bt : ℕ) (a : BasicValue) → at % 8 ≡ bt % 8 → value_at o at a % 8 ≡ value_at o bt a % 8
value_place o at bt a h =
    let key = padded at bt 8 at_8 h in
    ap (λ (xs : List ℕ). (next_boundary at + length xs) % 8) (same_basic o (next_boundary at) (next_boundary bt) a key)
    ∙ moved (length (basic_spelling o (next_boundary bt) a)) (next_boundary at) (next_boundary bt) key

same_pair : (o : Order) (at bt : ℕ) (a : BasicValue) (xs ys : List ℕ) → at % 8 ≡ bt % 8 → xs ≡ ys → pair_bytes o at a xs ≡ pair_bytes o bt a ys
same_pair o at bt a xs ys h e =
    ap (λ (n : ℕ). replicate n 0 ++ (basic_spelling o (next_boundary at) a ++ xs)) (same_pad at bt 8 at_8 h)
    ∙ ap (λ (zs : List ℕ). padding bt 8 ++ (zs ++ xs)) (same_basic o (next_boundary at) (next_boundary bt) a (padded at bt 8 at_8 h))
    ∙ ap (λ (zs : List ℕ). pair_bytes o bt a zs) e

mutual
  same_spelling : (o : Order) (at bt : ℕ) (v : Val) → at % 8 ≡ bt % 8 → spelling o at v ≡ spelling o bt v
  same_spelling o at bt (basic a) h = same_basic o at bt a h
  same_spelling o at bt (array t vs) h =
      same_array o at bt (boundary t) _ _ (boundary_valid t) h (same_spellings o (first_element at (boundary t)) (first_element bt (boundary t)) vs (first at bt (boundary t) (boundary_valid t) h))
  same_spelling o at bt (struct vs) h =
      ap (λ (n : ℕ). replicate n 0 ++ spellings o (at + pad_size at 8) vs) (same_pad at bt 8 at_8 h)
      ∙ ap (λ (xs : List ℕ). padding bt 8 ++ xs) (same_spellings o (at + pad_size at 8) (bt + pad_size bt 8) vs (padded at bt 8 at_8 h))
  same_spelling o at bt (dict b t es) h =
      same_array o at bt 8 _ _ at_8 h (same_entries o (first_element at 8) (first_element bt 8) es (first at bt 8 at_8 h))
  same_spelling o at bt (variant v) h =
      let n = length (signature_bytes (shape v ∷ [])) in
      ap (λ (xs : List ℕ). signature_bytes (shape v ∷ []) ++ xs) (same_spelling o (at + n) (bt + n) v (moved n at bt h))

  pub same_spellings : (o : Order) (at bt : ℕ) (vs : Vals) → at % 8 ≡ bt % 8 → spellings o at vs ≡ spellings o bt vs
  same_spellings o at bt none h = refl
  same_spellings o at bt (more v vs) h =
      ap (λ (xs : List ℕ). xs ++ spellings o (at + length xs) vs) (same_spelling o at bt v h)
      ∙ ap (λ (xs : List ℕ). spelling o bt v ++ xs) (same_spellings o (at + length (spelling o bt v)) (bt + length (spelling o bt v)) vs (moved (length (spelling o bt v)) at bt h))

  same_entries : (o : Order) (at bt : ℕ) (es : Entries) → at % 8 ≡ bt % 8 → entry_spellings o at es ≡ entry_spellings o bt es
  same_entries o at bt no_entries h = refl
  same_entries o at bt (entry a v es) h =
      let value = same_spelling o (value_at o at a) (value_at o bt a) v (value_place o at bt a h) in
      let pair = same_pair o at bt a _ _ h value in
      let n = length (pair_bytes o bt a (spelling o (value_at o bt a) v)) in
      ap (λ (xs : List ℕ). xs ++ entry_spellings o (at + length xs) es) pair
      ∙ ap (λ (xs : List ℕ). pair_bytes o bt a (spelling o (value_at o bt a) v) ++ xs) (same_entries o (at + n) (bt + n) es (moved n at bt h))

-- bytes that are kept are those of their values wherever the boundaries are the same
pub kept_stand : (s : Spelled) (o : Order) (start : ℕ) → IsHeld (Read s) → s.order ≡ o → s.start % 8 ≡ start % 8 → s.bytes ≡ spellings o start (vals (values_in (read_in s)))
kept_stand s o start held order place =
    (held_sound s held).spelled ∙ same_spellings s.order s.start start (vals (values_in (read_in s))) place
    ∙ ap (λ (p : Order). spellings p start (vals (values_in (read_in s)))) order
