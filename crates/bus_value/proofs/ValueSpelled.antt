-- Values are read from their spelling.
use Rattle.std.proofs.Common.{◌≡◌, ℕ, zero, suc, ◌+◌, ◌<◌, ◌≤◌, ◌^◌, List, [], ◌∷◌, ◌++◌, length, length-append, drop, take, refl, ap, sym, ◌∙◌, subst, Option, Some, None, Result, Ok, Err, cond, ltb, leb, Bool, true, false, ◌&&◌, ◌||◌, arith, append_assoc, append-nil}
use Rattle.std.specs.Prelude.{is_some}
use Rattle.std.proofs.lemmas.Bool.Decides.{nat_tests}
use Rattle.std.proofs.lemmas.List.{length-replicate}
use Rattle.std.proofs.Math.Seq.{take-append_seam, drop-append_seam}
use Rattle.bus_names.specs.declared.basic.Basic.{Basic}
use Rattle.bus_names.specs.declared.basic.Basic.TheVariants as kinds
use Rattle.bus_names.specs.Types.{Shape, struct_of, fields_of, listed}
use Rattle.bus_names.specs.Types as types
use Rattle.bus_names.specs.Signatures.{IsWithin}
use Rattle.bus_names.proofs.TypesFaults.{signature_read}
use Rattle.bus_value.specs.declared.basic_value.BasicValue.{BasicValue}
use Rattle.bus_value.specs.declared.basic_value.BasicValue.TheVariants.{Byte, Bool as Boolean, I16, U16, I32, U32, I64, U64, Double, Str, Path, Sig, Handle}
use Rattle.bus_value.specs.declared.fault.ValueFault.{ValueFault}
use Rattle.bus_value.specs.declared.fault.ValueFault.TheVariants.{BadLength, BadVariant}
use Rattle.bus_value.specs.declared.order.Order.{Order}
use Rattle.bus_value.specs.declared.order.Order.TheVariants.{Little, Big}
use Rattle.bus_value.specs.BasicValues.{kind_of}
use Rattle.bus_value.specs.Values.{Val, Vals, Entries, basic, array, struct, dict, variant, none, more, no_entries, entry, shape, shapes, vals, entries}
use Rattle.bus_value.specs.Numbers.{number_bytes, number}
use Rattle.bus_value.specs.Spelling.{pad_size, padding, signature_bytes, basic_bytes, basic_spelling, behind_length, first_element, array_bytes, next_boundary, value_at, pair_bytes, spelling, spellings, entry_spellings}
use Rattle.bus_value.specs.Alignment.{alignment, boundary}
use Rattle.bus_value.specs.BasicReading.{body_size, types_in}
use Rattle.bus_value.specs.Reading.{Reading, Answer, made, padded, read_basic, read_variant, read_array, read_elements, read_pair, element_bytes, read, read_entry, all_of, to_end, in_turn, variant_type, levels, ended, read_all}
use Rattle.bus_value.specs.Nesting.{nesting}
use Rattle.bus_value.specs.inner.Nesting.{nesting_all}
use Rattle.bus_value.proofs.Typing.{IsLegal, HasType, AllHave, EachHas, EntriesHave}
use Rattle.bus_value.proofs.Typing.{IsComputed}
use Rattle.bus_value.specs.Faults.{reported, cut_off, and_then, zeros}
use Rattle.bus_value.proofs.Chains.{and_then_ok}
use Rattle.bus_value.proofs.NumberLaws.{spelled_4, width_2, width_4, width_8}
use Rattle.bus_value.proofs.Rounds.{all_of-end, all_of-step, in_turn-end, in_turn-cons}
use Rattle.bus_value.proofs.Nesting.{nesting_struct, nesting_within}
use Rattle.bus_value.proofs.Levels.{listed_fields}
use Rattle.bus_value.proofs.BasicSpelled.{not_less, zeros_pass, front_of, back_of, padded_spelled, types_spelled, body_spelled, basic_spelled}

-- values as lists
abbrev pub list_of : Vals → List Val
list_of none = []
list_of (more v vs) = v ∷ list_of vs

abbrev pub pairs_of : Entries → List (BasicValue × Val)
pairs_of no_entries = []
pairs_of (entry a v es) = (a, v) ∷ pairs_of es

pub vals_again : (vs : Vals) → vals (list_of vs) ≡ vs
vals_again none = refl
vals_again (more v vs) = ap (λ (us : Vals). more v us) (vals_again vs)

pub pairs_again : (es : Entries) → entries (pairs_of es) ≡ es
pairs_again no_entries = refl
pairs_again (entry a v es) = ap (λ (fs : Entries). entry a v fs) (pairs_again es)

pub list_again : (vs : List Val) → list_of (vals vs) ≡ vs
list_again [] = refl
list_again (v ∷ vs) = ap (λ (us : List Val). v ∷ us) (list_again vs)

-- no spelling is empty
pub basic_some : (o : Order) (a : BasicValue) → IsLegal a → 0 < length (basic_bytes o a)
basic_some o (Byte n) h = omega arith
basic_some o (Boolean b) h = let w = width_4 o (cond b 1 0) in omega (arith, w)
basic_some Little (I16 n) h = omega arith
basic_some Big (I16 n) h = omega arith
basic_some o (U16 n) h = let w = width_2 o n in omega (arith, w)
basic_some Little (I32 n) h = omega arith
basic_some Big (I32 n) h = omega arith
basic_some o (U32 n) h = let w = width_4 o n in omega (arith, w)
basic_some Little (I64 n) h = omega arith
basic_some Big (I64 n) h = omega arith
basic_some o (U64 n) h = let w = width_8 o n in omega (arith, w)
basic_some o (Double bytes) h = omega (arith, h)
basic_some o (Str text) h = let w = width_4 o (length text) in let l = length-append (number_bytes o 4 (length text)) (text ++ 0 ∷ []) in omega (arith, w, l)
basic_some o (Path text) h = let w = width_4 o (length text) in let l = length-append (number_bytes o 4 (length text)) (text ++ 0 ∷ []) in omega (arith, w, l)
basic_some o (Sig ts) h = omega arith
basic_some o (Handle n) h = let w = width_4 o n in omega (arith, w)

array_some : (o : Order) (at align : ℕ) (elements : List ℕ) → 0 < length (array_bytes o at align elements)
array_some o at align elements =
    let w = width_4 o (length elements) in
    let l = length-append (padding at 4) (number_bytes o 4 (length elements) ++ (padding (behind_length at) align ++ elements)) in
    let m = length-append (number_bytes o 4 (length elements)) (padding (behind_length at) align ++ elements) in omega (arith, w, l, m)

mutual
  pub spelling_some : (v : Val) (o : Order) (d at : ℕ) (t : Shape) → HasType o d at t v → 0 < length (spelling o at v)
  spelling_some (basic a) o d at t h = let l = length-append (padding at (alignment (kind_of a))) (basic_bytes o a) in let k = basic_some o a h.1 in omega (arith, l, k)
  spelling_some (array u vs) o d at t h = array_some o at (boundary u) (spellings o (first_element at (boundary u)) vs)
  spelling_some (struct vs) o d at t h = let l = length-append (padding at 8) (spellings o (at + pad_size at 8) vs) in let k = spellings_some vs o (d + 1) (at + pad_size at 8) h.1.0 h.1.1 in omega (arith, l, k)
  spelling_some (dict b u es) o d at t h = array_some o at 8 (entry_spellings o (first_element at 8) es)
  spelling_some (variant v) o d at t h = omega arith

  spellings_some : (vs : Vals) (o : Order) (d at : ℕ) → 0 < length (shapes vs) → EachHas o d at vs → 0 < length (spellings o at vs)
  spellings_some none o d at some h = absurd (omega arith)
  spellings_some (more v vs) o d at some h =
      let l = length-append (spelling o at v) (spellings o (at + length (spelling o at v)) vs) in let k = spelling_some v o d at (shape v) h.0 in omega (arith, l, k)

-- an array is read from its spelling, where its elements are
elements_spelled : (o : Order) (around : Option ℕ) (align at : ℕ) (elements rest : List ℕ) → length elements ≤ 2 ^ 26 →
    element_bytes o around align at (number_bytes o 4 (length elements) ++ (padding (at + 4) align ++ (elements ++ rest))) ≡ Ok (length elements)
unfolding element_bytes
elements_spelled o around align at elements rest h =
    let n : ℕ = length elements in
    let pad : ℕ = pad_size (at + 4) align in
    let bytes : List ℕ = number_bytes o 4 n ++ (padding (at + 4) align ++ (elements ++ rest)) in
    let w : length (number_bytes o 4 n) ≡ 4 = width_4 o n in
    let p : length (padding (at + 4) align) ≡ pad = length-replicate _ _ in
    let l : length bytes ≡ length (number_bytes o 4 n) + length (padding (at + 4) align ++ (elements ++ rest)) = length-append (number_bytes o 4 n) (padding (at + 4) align ++ (elements ++ rest)) in
    let m : length (padding (at + 4) align ++ (elements ++ rest)) ≡ length (padding (at + 4) align) + length (elements ++ rest) = length-append (padding (at + 4) align) (elements ++ rest) in
    let k : length (elements ++ rest) ≡ n + length rest = length-append elements rest in
    let small : n < 2 ^ 32 = omega arith in
    let count : number o 4 bytes ≡ n = spelled_4 o n (padding (at + 4) align ++ (elements ++ rest)) small in
    let there : ltb (length bytes) 4 ≡ false = not_less _ _ (omega arith) in
    let enough : ltb (length bytes) (4 + pad + n) ≡ false = not_less _ _ (omega arith) in
    let limit : ltb (2 ^ 26) n ≡ false = not_less _ _ h in
    let zero_front : zeros (at + 4) (take pad (drop 4 bytes)) ≡ Ok tt =
    ap (λ (x : List ℕ). zeros (at + 4) (take pad x)) (back_of (number_bytes o 4 n) (padding (at + 4) align ++ (elements ++ rest)) 4 w)
    ∙ ap (λ (x : List ℕ). zeros (at + 4) x) (front_of (padding (at + 4) align) (elements ++ rest) pad p) ∙ zeros_pass (at + 4) pad in
    by around bytes pad n (number o 4 bytes) count there enough limit zero_front
  where
    by : (around : Option ℕ) (bytes : List ℕ) (pad n c : ℕ) → c ≡ n → ltb (length bytes) 4 ≡ false → ltb (length bytes) (4 + pad + n) ≡ false → ltb (2 ^ 26) n ≡ false → zeros (at + 4) (take pad (drop 4 bytes)) ≡ Ok tt →
        cond (ltb (length bytes) 4 || (is_some around && ltb (length bytes) (4 + pad + c))) (Err (cut_off around at)) (cond (ltb (2 ^ 26) c) (Err (BadLength (reported at)))
        (cond (ltb (length bytes) (4 + pad + c)) (Err (cut_off around at)) (and_then (zeros (at + 4) (take pad (drop 4 bytes))) (λ u. Ok c)))) ≡ Ok n
    by None bytes pad n c e a b f z = rw (e, a, b, f, z) refl
    by (Some x) bytes pad n c e a b f z = rw (e, a, b, f, z) refl

pub array_spelled : {A : Type 0} (o : Order) (around : Option ℕ) (align at : ℕ) (elements rest : List ℕ) (f : Option ℕ → ℕ → List ℕ → Result (List A) ValueFault) (xs : List A) → length elements ≤ 2 ^ 26 →
    ((inner : Option ℕ) → f inner (first_element at align) elements ≡ Ok xs) → read_array o around align f at (array_bytes o at align elements ++ rest) ≡ Ok (xs, (at + length (array_bytes o at align elements), rest))
unfolding read_array
array_spelled {A = A} o around align at elements rest f xs h e =
    let n : ℕ = length elements in
    let place : ℕ = at + pad_size at 4 in
    let num : List ℕ = number_bytes o 4 n in
    let pads : List ℕ = padding (place + 4) align in
    let front : ℕ = 4 + pad_size (place + 4) align in
    let bytes : List ℕ = num ++ (pads ++ (elements ++ rest)) in
    let split : array_bytes o at align elements ++ rest ≡ padding at 4 ++ bytes =
    append_assoc (padding at 4) (num ++ (pads ++ elements)) rest ∙ ap (λ (x : List ℕ). padding at 4 ++ x) (append_assoc num (pads ++ elements) rest ∙ ap (λ (x : List ℕ). num ++ x) (append_assoc pads elements rest)) in
    let w : length num ≡ 4 = width_4 o n in
    let p : length pads ≡ pad_size (place + 4) align = length-replicate _ _ in
    let q : length (padding at 4) ≡ pad_size at 4 = length-replicate _ _ in
    let l1 : length (array_bytes o at align elements) ≡ length (padding at 4) + length (num ++ (pads ++ elements)) = length-append (padding at 4) (num ++ (pads ++ elements)) in
    let l2 : length (num ++ (pads ++ elements)) ≡ length num + length (pads ++ elements) = length-append num (pads ++ elements) in
    let l3 : length (pads ++ elements) ≡ length pads + n = length-append pads elements in
    let l4 : length (num ++ pads) ≡ length num + length pads = length-append num pads in
    let inside : drop front bytes ≡ elements ++ rest = ap (λ (x : List ℕ). drop front x) (sym (append_assoc num pads (elements ++ rest))) ∙ back_of (num ++ pads) (elements ++ rest) front (omega arith) in
    let body : take n (drop front bytes) ≡ elements = ap (λ (x : List ℕ). take n x) inside ∙ take-append_seam elements rest in
    let l5 : length ((num ++ pads) ++ elements) ≡ length (num ++ pads) + n = length-append (num ++ pads) elements in
    let behind : drop (front + n) bytes ≡ rest =
    ap (λ (x : List ℕ). drop (front + n) x) (sym (append_assoc num pads (elements ++ rest)) ∙ sym (append_assoc (num ++ pads) elements rest)) ∙ back_of ((num ++ pads) ++ elements) rest (front + n) (omega arith) in
    let first : place + front ≡ first_element at align = omega arith in
    let last : place + front + n ≡ at + length (array_bytes o at align elements) = omega arith in
    let inner : Option ℕ = Some (reported place) in
    ap (λ (x : List ℕ). padded around 4 (read_elements o around align f) at x) split
    ∙ padded_spelled around 4 at bytes (read_elements o around align f)
    ∙ and_then_ok (element_bytes o around align place bytes) n (λ n. and_then (f inner (place + front) (take n (drop front bytes))) (λ xs. Ok (xs, (place + front + n, drop (front + n) bytes)))) (elements_spelled o around align place elements rest h)
    ∙ ap (λ (x : List ℕ). and_then (f inner (place + front) x) (λ xs. Ok (xs, (place + front + n, drop (front + n) bytes)))) body
    ∙ ap (λ (m : ℕ). and_then (f inner m elements) (λ xs. Ok (xs, (place + front + n, drop (front + n) bytes)))) first
    ∙ ap (λ r. and_then r (λ xs. Ok (xs, (place + front + n, drop (front + n) bytes)))) (e inner)
    ∙ ap (λ (m : ℕ). Ok (xs, (m, drop (front + n) bytes))) last ∙ ap (λ (x : List ℕ). Ok (xs, (at + length (array_bytes o at align elements), x))) behind

-- the levels that are left suffice for a type
abbrev Enough : ℕ → ℕ → Shape → Type 0
Enough left d t = (nesting t < left) × (65 ≤ left + d)

pub struct_read : (left : ℕ) (o : Order) (d : ℕ) (around : Option ℕ) (ts : List Shape) (at : ℕ) (bytes : List ℕ) → 0 < length ts →
    read (suc left) o d around (struct_of ts) at bytes ≡ made (λ vs. struct (vals vs)) (padded around 8 (in_turn (read left o (d + 1) around) ts) at bytes)
unfolding read
struct_read left o d around [] at bytes h = absurd (omega arith)
struct_read left o d around (t ∷ ts) at bytes h = ap (λ (us : List Shape). made (λ vs. struct (vals vs)) (padded around 8 (in_turn (read left o (d + 1) around) (t ∷ us)) at bytes)) (listed_fields ts)

pub types_read : (left : ℕ) (o : Order) (d : ℕ) (around : Option ℕ) (at : ℕ) (bytes : List ℕ) →
    ((b : Basic) → read (suc left) o d around (types.basic b) at bytes ≡ made basic (read_basic o around b at bytes))
    × ((read (suc left) o d around types.variant at bytes ≡ read_variant o around d (read left o (d + 1) around) at bytes)
    × (((t : Shape) → read (suc left) o d around (types.array t) at bytes ≡ made (λ vs. array t (vals vs)) (read_array o around (boundary t) (λ inner. to_end (read left o (d + 1) inner t)) at bytes))
    × (((b : Basic) (t : Shape) → read (suc left) o d around (types.dict b t) at bytes ≡ made (λ es. dict b t (entries es)) (read_array o around 8 (λ inner. to_end (read_entry left o (d + 1) inner b t)) at bytes))
    × ((b : Basic) (t : Shape) → read_entry (suc left) o d around b t at bytes ≡ read_pair o around b (read left o (d + 1) around t) at bytes))))
unfolding read read_entry
types_read left o d around at bytes = ((λ b. refl), (refl, ((λ t. refl), ((λ b t. refl), (λ b t. refl)))))

at_most : (m n : ℕ) → m ≤ n → leb m n ≡ true
at_most m n h = grind (arith, nat_tests)

variant_spelled : (o : Order) (around : Option ℕ) (d at : ℕ) (f : Shape → Reading Val) (t : Shape) (v : Val) (inner rest : List ℕ) → IsWithin (t ∷ []) → d + 1 + nesting t ≤ 64 →
    f t (at + length (signature_bytes (t ∷ []))) (inner ++ rest) ≡ Ok (v, (at + length (signature_bytes (t ∷ [])) + length inner, rest)) →
    read_variant o around d f at ((signature_bytes (t ∷ []) ++ inner) ++ rest) ≡ Ok (variant v, (at + length (signature_bytes (t ∷ []) ++ inner), rest))
unfolding read_variant
variant_spelled o around d at f t v inner rest within deep e =
    let sig : List ℕ = signature_bytes (t ∷ []) in
    let n : ℕ = length sig in
    let bytes : List ℕ = sig ++ (inner ++ rest) in
    let l : length (sig ++ inner) ≡ n + length inner = length-append sig inner in
    let last : at + n + length inner ≡ at + length (sig ++ inner) = omega arith in
    let one : variant_type d at (t ∷ []) ≡ Ok t = ap (λ (c : Bool). cond c (Ok t) (Err (BadVariant (reported at)))) (at_most (d + 1 + nesting t) 64 deep) in
    ap (λ (x : List ℕ). read_variant o around d f at x) (append_assoc sig inner rest)
    ∙ and_then_ok (body_size o around kinds.Sig at bytes) n (λ n. and_then (types_in at (take n bytes)) (λ ts. and_then (variant_type d at ts) (λ t. made variant (f t (at + n) (drop n bytes))))) (body_spelled o around (Sig (t ∷ [])) at (inner ++ rest) within)
    ∙ ap (λ (x : List ℕ). and_then (types_in at x) (λ ts. and_then (variant_type d at ts) (λ t. made variant (f t (at + n) (drop n bytes))))) (take-append_seam sig (inner ++ rest))
    ∙ and_then_ok (types_in at sig) (t ∷ []) (λ ts. and_then (variant_type d at ts) (λ t. made variant (f t (at + n) (drop n bytes)))) (types_spelled at (t ∷ []) (signature_read (t ∷ []) within))
    ∙ and_then_ok (variant_type d at (t ∷ [])) t (λ t. made variant (f t (at + n) (drop n bytes))) one
    ∙ ap (λ (x : List ℕ). made variant (f t (at + n) x)) (drop-append_seam sig (inner ++ rest))
    ∙ ap (λ (r : Answer Val). made variant r) e ∙ ap (λ (m : ℕ). Ok (variant v, (m, rest))) last

pub pair_some : (o : Order) (at : ℕ) (a : BasicValue) (value : List ℕ) → IsLegal a → 0 < length (pair_bytes o at a value)
pair_some o at a value h =
    let k = basic_some o a h in
    let key : List ℕ = basic_spelling o (next_boundary at) a in
    let l1 = length-append (padding at 8) (key ++ value) in
    let l2 = length-append key value in
    let l3 = length-append (padding (next_boundary at) (alignment (kind_of a))) (basic_bytes o a) in omega (arith, k, l1, l2, l3)

pair_spelled : (o : Order) (around : Option ℕ) (at : ℕ) (a : BasicValue) (v : Val) (inner rest : List ℕ) (f : Reading Val) → IsLegal a →
    f (value_at o at a) (inner ++ rest) ≡ Ok (v, (value_at o at a + length inner, rest)) → read_pair o around (kind_of a) f at (pair_bytes o at a inner ++ rest) ≡ Ok ((a, v), (at + length (pair_bytes o at a inner), rest))
unfolding read_pair
pair_spelled o around at a v inner rest f h e =
    let key : List ℕ = basic_spelling o (next_boundary at) a in
    let b : Basic = kind_of a in
    let g : Reading (BasicValue × Val) = λ at bytes. and_then (read_basic o around b at bytes) (λ k. made (λ v. (k.0, v)) (f k.1.0 k.1.1)) in
    let p : length (padding at 8) ≡ pad_size at 8 = length-replicate _ _ in
    let l1 : length (padding at 8 ++ (key ++ inner)) ≡ length (padding at 8) + length (key ++ inner) = length-append (padding at 8) (key ++ inner) in
    let l2 : length (key ++ inner) ≡ length key + length inner = length-append key inner in
    let last : value_at o at a + length inner ≡ at + length (pair_bytes o at a inner) = omega (arith, p, l1, l2) in
    ap (λ (x : List ℕ). padded around 8 g at x) (append_assoc (padding at 8) (key ++ inner) rest ∙ ap (λ (x : List ℕ). padding at 8 ++ x) (append_assoc key inner rest))
    ∙ padded_spelled around 8 at (key ++ (inner ++ rest)) g
    ∙ and_then_ok (read_basic o around b (next_boundary at) (key ++ (inner ++ rest))) (a, (value_at o at a, inner ++ rest)) (λ k. made (λ v. (k.0, v)) (f k.1.0 k.1.1)) (basic_spelled o around a (next_boundary at) (inner ++ rest) h)
    ∙ ap (λ (r : Answer Val). made (λ v. (a, v)) r) e ∙ ap (λ (m : ℕ). Ok ((a, v), (m, rest))) last

mutual
  value_spelled : (v : Val) (left : ℕ) (o : Order) (d : ℕ) (around : Option ℕ) (t : Shape) (at : ℕ) (rest : List ℕ) → HasType o d at t v → Enough left d t →
      read left o d around t at (spelling o at v ++ rest) ≡ Ok (v, (at + length (spelling o at v), rest))
  value_spelled v zero o d around t at rest h e = absurd (omega (arith, e.0))
  value_spelled (basic a) (suc left) o d around t at rest h e =
      let bytes : List ℕ = basic_spelling o at a ++ rest in
      ap (λ (u : Shape). read (suc left) o d around u at bytes) h.0 ∙ (types_read left o d around at bytes).0 (kind_of a) ∙ ap (λ r. made basic r) (basic_spelled o around a at rest h.1)
  value_spelled (array u vs) (suc left) o d around t at rest h e =
      let first : ℕ = first_element at (boundary u) in
      let elements : List ℕ = spellings o first vs in
      let bytes : List ℕ = array_bytes o at (boundary u) elements ++ rest in
      let nest : nesting t ≡ nesting u + 1 = ap nesting h.0 in
      let enough : Enough left (d + 1) u = (omega (arith, e.0, nest), omega (arith, e.1)) in
      ap (λ (u : Shape). read (suc left) o d around u at bytes) h.0 ∙ (types_read left o d around at bytes).1.1.0 u
      ∙ ap (λ r. made (λ vs. array u (vals vs)) r)
      (array_spelled o around (boundary u) at elements rest (λ inner. to_end (read left o (d + 1) inner u)) (list_of vs) h.1.0
      (λ inner. all_spelled vs (length elements) left o (d + 1) inner u first h.1.1 enough (omega arith)))
      ∙ ap (λ (ws : Vals). Ok (array u ws, (at + length (array_bytes o at (boundary u) elements), rest))) (vals_again vs)
  value_spelled (struct vs) (suc left) o d around t at rest h e =
      let first : ℕ = at + pad_size at 8 in
      let bytes : List ℕ = spelling o at (struct vs) ++ rest in
      let fields : List ℕ = spellings o first vs in
      let nest : nesting t ≡ nesting_all (shapes vs) + 1 = ap nesting h.0 ∙ nesting_struct (shapes vs) h.1.0 in
      let p : length (padding at 8) ≡ pad_size at 8 = length-replicate _ _ in
      let l : length (padding at 8 ++ fields) ≡ length (padding at 8) + length fields = length-append (padding at 8) fields in
      let last : first + length fields ≡ at + length (padding at 8 ++ fields) = omega (arith, p, l) in
      ap (λ (u : Shape). read (suc left) o d around u at bytes) h.0 ∙ struct_read left o d around (shapes vs) at bytes h.1.0
      ∙ ap (λ r. made (λ vs. struct (vals vs)) r)
      (ap (λ (x : List ℕ). padded around 8 (in_turn (read left o (d + 1) around) (shapes vs)) at x) (append_assoc (padding at 8) fields rest)
      ∙ padded_spelled around 8 at (fields ++ rest) (in_turn (read left o (d + 1) around) (shapes vs))
      ∙ each_spelled vs left o (d + 1) around first rest h.1.1 (omega (arith, e.0, nest)) (omega (arith, e.1)))
      ∙ ap (λ (ws : Vals). Ok (struct ws, (first + length fields, rest))) (vals_again vs) ∙ ap (λ (n : ℕ). Ok (struct vs, (n, rest))) last
  value_spelled (dict b u es) (suc left) o d around t at rest h e =
      let first : ℕ = first_element at 8 in
      let elements : List ℕ = entry_spellings o first es in
      let bytes : List ℕ = array_bytes o at 8 elements ++ rest in
      let nest : nesting t ≡ nesting u + 2 = ap nesting h.0 in
      ap (λ (u : Shape). read (suc left) o d around u at bytes) h.0 ∙ (types_read left o d around at bytes).1.1.1.0 b u
      ∙ ap (λ r. made (λ es. dict b u (entries es)) r)
      (array_spelled o around 8 at elements rest (λ inner. to_end (read_entry left o (d + 1) inner b u)) (pairs_of es) h.1.0
      (λ inner. entries_spelled es (length elements) left o d inner b u first h.1.1 (omega (arith, e.0, nest)) (omega (arith, e.1)) (omega arith)))
      ∙ ap (λ (fs : Entries). Ok (dict b u fs, (at + length (array_bytes o at 8 elements), rest))) (pairs_again es)
  value_spelled (variant v) (suc left) o d around t at rest h e =
      let sig : List ℕ = signature_bytes (shape v ∷ []) in
      let bytes : List ℕ = spelling o at (variant v) ++ rest in
      let deep : d + 1 + nesting (shape v) ≤ 64 = h.1.0 in
      let enough : Enough left (d + 1) (shape v) = (omega (arith, e.1, deep), omega (arith, e.1)) in
      ap (λ (u : Shape). read (suc left) o d around u at bytes) h.0 ∙ (types_read left o d around at bytes).1.0
      ∙ variant_spelled o around d at (read left o (d + 1) around) (shape v) v (spelling o (at + length sig) v) rest h.1.1.0 deep
      (value_spelled v left o (d + 1) around (shape v) (at + length sig) rest h.1.1.1 enough)

  all_spelled : (vs : Vals) (most left : ℕ) (o : Order) (d : ℕ) (around : Option ℕ) (t : Shape) (at : ℕ) → AllHave o d at t vs → Enough left d t → length (spellings o at vs) ≤ most →
      all_of most (read left o d around t) at (spellings o at vs) ≡ Ok (list_of vs)
  all_spelled none most left o d around t at h e few = all_of-end most (read left o d around t) at
  all_spelled (more v vs) zero left o d around t at h e few =
      let k = spelling_some v o d at t h.0 in let l = length-append (spelling o at v) (spellings o (at + length (spelling o at v)) vs) in absurd (omega (arith, k, l, few))
  all_spelled (more v vs) (suc most) left o d around t at h e few =
      let k = spelling_some v o d at t h.0 in
      let next : ℕ = at + length (spelling o at v) in
      let more_bytes : List ℕ = spellings o next vs in
      let l = length-append (spelling o at v) more_bytes in
      all_of-step most (read left o d around t) at (spelling o at v ++ more_bytes) v next more_bytes (omega (arith, k, l)) (value_spelled v left o d around t at more_bytes h.0 e)
      ∙ ap (λ r. and_then r (λ xs. Ok (v ∷ xs))) (all_spelled vs most left o d around t next h.1 e (omega (arith, k, l, few)))

  each_spelled : (vs : Vals) (left : ℕ) (o : Order) (d : ℕ) (around : Option ℕ) (at : ℕ) (rest : List ℕ) → EachHas o d at vs → nesting_all (shapes vs) < left → 65 ≤ left + d →
      in_turn (read left o d around) (shapes vs) at (spellings o at vs ++ rest) ≡ Ok (list_of vs, (at + length (spellings o at vs), rest))
  each_spelled none left o d around at rest h n e = let same : at ≡ at + 0 = omega arith in in_turn-end (read left o d around) at rest ∙ ap (λ (m : ℕ). Ok ([], (m, rest))) same
  each_spelled (more v vs) left o d around at rest h n e =
      let one : List ℕ = spelling o at v in
      let next : ℕ = at + length one in
      let others : List ℕ = spellings o next vs in
      let f : Shape → Reading Val = read left o d around in
      let l : length (one ++ others) ≡ length one + length others = length-append one others in
      let last : next + length others ≡ at + length (one ++ others) = omega (arith, l) in
      ap (λ (x : List ℕ). in_turn f (shape v ∷ shapes vs) at x) (append_assoc one others rest) ∙ in_turn-cons f (shape v) (shapes vs) at (one ++ (others ++ rest))
      ∙ and_then_ok (f (shape v) at (one ++ (others ++ rest))) (v, (next, others ++ rest)) (λ r. made (λ vs. r.0 ∷ vs) (in_turn f (shapes vs) r.1.0 r.1.1))
      (value_spelled v left o d around (shape v) at (others ++ rest) h.0 (omega (arith, n), e))
      ∙ ap (λ r. made (λ vs. v ∷ vs) r) (each_spelled vs left o d around next rest h.1 (omega (arith, n)) e) ∙ ap (λ (m : ℕ). Ok (v ∷ list_of vs, (m, rest))) last

  entries_spelled : (es : Entries) (most left : ℕ) (o : Order) (d : ℕ) (around : Option ℕ) (b : Basic) (t : Shape) (at : ℕ) → EntriesHave o (d + 2) at b t es → nesting t + 1 < left → 65 ≤ left + (d + 1) →
      length (entry_spellings o at es) ≤ most → all_of most (read_entry left o (d + 1) around b t) at (entry_spellings o at es) ≡ Ok (pairs_of es)
  entries_spelled no_entries most left o d around b t at h n e few = all_of-end most (read_entry left o (d + 1) around b t) at
  entries_spelled (entry a v es) most zero o d around b t at h n e few = absurd (omega (arith, n))
  entries_spelled (entry a v es) zero (suc left) o d around b t at h n e few =
      let one : List ℕ = pair_bytes o at a (spelling o (value_at o at a) v) in
      let k = pair_some o at a (spelling o (value_at o at a) v) h.0.1.0 in
      let l = length-append one (entry_spellings o (at + length one) es) in absurd (omega (arith, k, l, few))
  entries_spelled (entry a v es) (suc most) (suc left) o d around b t at h n e few =
      let inner : List ℕ = spelling o (value_at o at a) v in
      let one : List ℕ = pair_bytes o at a inner in
      let next : ℕ = at + length one in
      let others : List ℕ = entry_spellings o next es in
      let k = pair_some o at a inner h.0.1.0 in
      let l = length-append one others in
      let two : d + 1 + 1 ≡ d + 2 = omega arith in
      let typed : HasType o (d + 1 + 1) (value_at o at a) t v = subst (λ (m : ℕ). HasType o m (value_at o at a) t v) (sym two) h.0.1.1 in
      let enough : Enough left (d + 1 + 1) t = (omega (arith, n), omega (arith, e)) in
      all_of-step most (read_entry (suc left) o (d + 1) around b t) at (one ++ others) (a, v) next others (omega (arith, k, l))
      ((types_read left o (d + 1) around at (one ++ others)).1.1.1.1 b t ∙ ap (λ (c : Basic). read_pair o around c (read left o (d + 1 + 1) around t) at (one ++ others)) h.0.0
      ∙ pair_spelled o around at a v inner others (read left o (d + 1 + 1) around t) h.0.1.0 (value_spelled v left o (d + 1 + 1) around t (value_at o at a) others typed enough))
      ∙ ap (λ r. and_then r (λ xs. Ok ((a, v) ∷ xs))) (entries_spelled es most (suc left) o d around b t next h.1 n e (omega (arith, k, l, few)))

-- what is spelled is read
pub all_values_spelled : (o : Order) (start : ℕ) (ts : List Shape) (vs : List Val) (bytes : List ℕ) → IsWithin ts → IsComputed o start ts vs bytes → read_all o start ts bytes ≡ Ok vs
unfolding read_all
all_values_spelled o start ts vs bytes within s =
    let nest : nesting_all (shapes (vals vs)) ≤ 97 = subst (λ (us : List Shape). nesting_all us ≤ 97) (sym s.types) (nesting_within ts within) in
    let f : Shape → Reading Val = read (levels 0) o 0 None in
    ap (λ (us : List Shape). ended (in_turn f us start bytes)) (sym s.types) ∙ ap (λ (x : List ℕ). ended (in_turn f (shapes (vals vs)) start x)) (s.spelled ∙ sym (append-nil (spellings o start (vals vs))))
    ∙ ap (λ (r : Answer (List Val)). ended r) (each_spelled (vals vs) (levels 0) o 0 None start [] s.legal (omega (arith, nest)) (omega arith)) ∙ ap (λ (us : List Val). Ok us) (list_again vs)

-- no two value lists have the same spelling
pub one_reading_of : (o : Order) (start : ℕ) (ts : List Shape) (vs ws : List Val) (bytes : List ℕ) → IsWithin ts → IsComputed o start ts vs bytes → IsComputed o start ts ws bytes → vs ≡ ws
one_reading_of o start ts vs ws bytes within s u =
    let same : Ok vs ≡ Ok ws = sym (all_values_spelled o start ts vs bytes within s) ∙ all_values_spelled o start ts ws bytes within u in cc
