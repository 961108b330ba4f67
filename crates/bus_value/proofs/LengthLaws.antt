-- How long spellings are.
use Rattle.std.proofs.Common.{◌≡◌, ℕ, ◌+◌, List, [], ◌∷◌, ◌++◌, length, length-append, refl, ap, ◌∙◌, cond, arith, w16, w32, w64}
use Rattle.std.specs.Int.{cast_unsigned}
use Rattle.std.proofs.lemmas.List.{length-replicate}
use Rattle.bus_names.specs.Types.{signature_text}
use Rattle.bus_value.specs.declared.basic_value.BasicValue.{BasicValue}
use Rattle.bus_value.specs.declared.basic_value.BasicValue.TheVariants.{Byte, Bool as Boolean, I16, U16, I32, U32, I64, U64, Double, Str, Path, Sig, Handle}
use Rattle.bus_value.specs.declared.order.Order.{Order}
use Rattle.bus_value.specs.BasicValues.{kind_of}
use Rattle.bus_value.specs.Values.{Val, Vals, Entries, basic, array, struct, dict, variant, none, more, no_entries, entry, shape, vals}
use Rattle.bus_value.specs.Numbers.{number_bytes}
use Rattle.bus_value.specs.Spelling.{pad_size, padding, signature_bytes, basic_bytes, basic_spelling, behind_length, first_element, array_bytes, next_boundary, value_at, pair_bytes, spelling, spellings, entry_spellings}
use Rattle.bus_value.specs.Alignment.{alignment, boundary}
use Rattle.bus_value.specs.Lengths.{basic_size, basic_end, value_end, values_end, entries_end}
use Rattle.bus_value.proofs.NumberLaws.{width_2, width_4, width_8}
use Rattle.bus_value.proofs.BasicSpelled.{text_length}

signature_length : (ts : List _) → length (signature_bytes ts) ≡ length (signature_text ts) + 2
signature_length ts = let l = length-append (signature_text ts) (0 ∷ []) in omega (arith, l)

basic_length : (o : Order) (a : BasicValue) → length (basic_bytes o a) ≡ basic_size a
basic_length o (Byte n) = refl
basic_length o (Boolean b) = width_4 o (cond b 1 0)
basic_length o (I16 n) = width_2 o (cast_unsigned w16 n)
basic_length o (U16 n) = width_2 o n
basic_length o (I32 n) = width_4 o (cast_unsigned w32 n)
basic_length o (U32 n) = width_4 o n
basic_length o (I64 n) = width_8 o (cast_unsigned w64 n)
basic_length o (U64 n) = width_8 o n
basic_length o (Double bytes) = refl
basic_length o (Str text) = text_length o text
basic_length o (Path text) = text_length o text
basic_length o (Sig ts) = signature_length ts
basic_length o (Handle n) = width_4 o n

basic_ends : (o : Order) (at : ℕ) (a : BasicValue) → at + length (basic_spelling o at a) ≡ basic_end at a
basic_ends o at a =
    let l = length-append (padding at (alignment (kind_of a))) (basic_bytes o a) in
    let p : length (padding at (alignment (kind_of a))) ≡ pad_size at (alignment (kind_of a)) = length-replicate _ _ in
    let s = basic_length o a in omega (arith, l, p, s)

array_ends : (o : Order) (at align : ℕ) (elements : List ℕ) → at + length (array_bytes o at align elements) ≡ first_element at align + length elements
array_ends o at align elements =
    let num : List ℕ = number_bytes o 4 (length elements) in
    let pads : List ℕ = padding (behind_length at) align in
    let w = width_4 o (length elements) in
    let p : length (padding at 4) ≡ pad_size at 4 = length-replicate _ _ in
    let q : length pads ≡ pad_size (behind_length at) align = length-replicate _ _ in
    let l1 = length-append (padding at 4) (num ++ (pads ++ elements)) in
    let l2 = length-append num (pads ++ elements) in
    let l3 = length-append pads elements in omega (arith, w, p, q, l1, l2, l3)

mutual
  value_ends : (v : Val) (o : Order) (at : ℕ) → at + length (spelling o at v) ≡ value_end at v
  value_ends (basic a) o at = basic_ends o at a
  value_ends (array t vs) o at = array_ends o at (boundary t) (spellings o (first_element at (boundary t)) vs) ∙ values_ends vs o (first_element at (boundary t))
  value_ends (struct vs) o at =
      let l = length-append (padding at 8) (spellings o (at + pad_size at 8) vs) in
      let p : length (padding at 8) ≡ pad_size at 8 = length-replicate _ _ in
      let k = values_ends vs o (at + pad_size at 8) in omega (arith, l, p, k)
  value_ends (dict b t es) o at = array_ends o at 8 (entry_spellings o (first_element at 8) es) ∙ entries_ends es o (first_element at 8)
  value_ends (variant v) o at =
      let sig : List ℕ = signature_bytes (shape v ∷ []) in
      let n : ℕ = length sig in
      let long : n ≡ length (signature_text (shape v ∷ [])) + 2 = signature_length (shape v ∷ []) in
      let l = length-append sig (spelling o (at + n) v) in
      let k : at + n + length (spelling o (at + n) v) ≡ value_end (at + n) v = value_ends v o (at + n) in
      let whole : at + length (sig ++ spelling o (at + n) v) ≡ value_end (at + n) v = omega (arith, l, k) in
      whole ∙ ap (λ (m : ℕ). value_end (at + m) v) long

  values_ends : (vs : Vals) (o : Order) (at : ℕ) → at + length (spellings o at vs) ≡ values_end at vs
  values_ends none o at = omega arith
  values_ends (more v vs) o at =
      let next : ℕ = at + length (spelling o at v) in
      let l = length-append (spelling o at v) (spellings o next vs) in
      let k : next + length (spellings o next vs) ≡ values_end next vs = values_ends vs o next in
      let whole : at + length (spelling o at v ++ spellings o next vs) ≡ values_end next vs = omega (arith, l, k) in
      whole ∙ ap (λ (m : ℕ). values_end m vs) (value_ends v o at)

  entries_ends : (es : Entries) (o : Order) (at : ℕ) → at + length (entry_spellings o at es) ≡ entries_end at es
  entries_ends no_entries o at = omega arith
  entries_ends (entry a v es) o at =
      let key : List ℕ = basic_spelling o (next_boundary at) a in
      let inner : List ℕ = spelling o (value_at o at a) v in
      let one : List ℕ = pair_bytes o at a inner in
      let next : ℕ = at + length one in
      let p : length (padding at 8) ≡ pad_size at 8 = length-replicate _ _ in
      let l1 = length-append (padding at 8) (key ++ inner) in
      let l2 = length-append key inner in
      let l3 = length-append one (entry_spellings o next es) in
      let i : value_at o at a + length inner ≡ value_end (value_at o at a) v = value_ends v o (value_at o at a) in
      let here : next ≡ value_end (value_at o at a) v = omega (arith, p, l1, l2, i) in
      let k : next + length (entry_spellings o next es) ≡ entries_end next es = entries_ends es o next in
      let whole : at + length (one ++ entry_spellings o next es) ≡ entries_end next es = omega (arith, l3, k) in
      whole ∙ ap (λ (m : ℕ). entries_end m es) (here ∙ ap (λ (m : ℕ). value_end m v) (basic_ends o (next_boundary at) a))

-- the bytes end where their values do
pub spelled_length : (o : Order) (start : ℕ) (vs : List Val) (bytes : List ℕ) → bytes ≡ spellings o start (vals vs) → start + length bytes ≡ values_end start (vals vs)
spelled_length o start vs bytes e = ap (λ (x : List ℕ). start + length x) e ∙ values_ends (vals vs) o start
