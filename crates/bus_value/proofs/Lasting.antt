-- The levels of a reading never run out, nor does the count of the elements.
use Rattle.std.proofs.Common.{◌≡◌, ℕ, zero, suc, ◌+◌, ◌<◌, ◌≤◌, ◌^◌, List, [], ◌∷◌, length, length-append, drop, take, refl, ap, sym, ◌∙◌, Option, Some, None, Result, Ok, Err, cond, eqb, ltb, leb, Bool, true, false, ◌&&◌, ◌||◌, max, arith}
use Rattle.std.specs.Prelude.{is_some}
use Rattle.bus_names.specs.declared.basic.Basic.{Basic}
use Rattle.bus_names.specs.declared.basic.Basic.TheVariants as kinds
use Rattle.bus_names.specs.declared.fault.NameFault.{NameFault}
use Rattle.bus_names.specs.Types.{Shape, listed}
use Rattle.bus_names.specs.Types as types
use Rattle.bus_names.specs.Signatures.{IsWithin}
use Rattle.bus_names.specs.Parsing.{signature_of}
use Rattle.bus_names.specs.Reading.{path_fault}
use Rattle.bus_value.specs.declared.basic_value.BasicValue.{BasicValue}
use Rattle.bus_value.specs.declared.basic_value.BasicValue.TheVariants.{Bool as Boolean, Str, Path, Sig}
use Rattle.bus_value.specs.declared.fault.ValueFault.{ValueFault}
use Rattle.bus_value.specs.declared.fault.ValueFault.TheVariants.{Short, Padding, BadBool, BadText, BadLength, BadVariant, NoMemory}
use Rattle.bus_value.specs.declared.order.Order.{Order}
use Rattle.bus_value.specs.Values.{Val, vals, entries}
use Rattle.bus_value.specs.Values as values
use Rattle.bus_value.specs.Numbers.{number}
use Rattle.bus_value.specs.Spelling.{pad_size, spelling, value_at, pair_bytes}
use Rattle.login_base.specs.Texts.{is_text}
use Rattle.bus_value.specs.Alignment.{alignment, boundary}
use Rattle.bus_value.specs.BasicReading.{size, whole, body_size, text_in, ends_with_zero, text_at, path_by, path_at, types_by, types_in, bool_by, decoded}
use Rattle.bus_value.specs.Reading.{Reading, Answer, made, padded, read_body, read_basic, read_variant, read_array, read_elements, read_pair, element_bytes, read, read_entry, all_of, to_end, in_turn, variant_type, levels, ended, read_all}
use Rattle.bus_value.specs.Nesting.{nesting, nesting_in}
use Rattle.bus_value.specs.inner.Nesting.{nesting_all}
use Rattle.bus_value.specs.Faults.{reported, cut_off, and_then, zeros, short_padding, check_padding}
use Rattle.bus_value.proofs.Padding.{zeros-cons, zeros-nil}
use Rattle.bus_value.proofs.NumberSound.{AreBytes}
use Rattle.bus_value.proofs.Nesting.{nesting_within}
use Rattle.bus_value.proofs.Rounds.{all_of-end, all_of-cons, in_turn-end, in_turn-cons}
use Rattle.bus_value.proofs.ValueSpelled.{spelling_some, pair_some, types_read}
use Rattle.bus_value.proofs.BasicSound.{bytes_take, bytes_drop, basic_sound, BasicFound}
use Rattle.bus_value.proofs.ValueSound.{Found, PairFound, bytes_behind, one_type, struct_parts, value_sound, entry_sound}

-- an answer that is not the one where levels ran out
abbrev Lasts : {A : Type 0} → Result A ValueFault → Type 0
Lasts r = r ≡ Err NoMemory → ⊥

ok_lasts : {A : Type 0} (a : A) → Lasts (Ok a)
ok_lasts a e = cc

cut_lasts : {A : Type 0} (around : Option ℕ) (at : ℕ) → Lasts {A = A} (Err (cut_off around at))
cut_lasts None at e = cc
cut_lasts (Some place) at e = cc

padding_lasts : {A : Type 0} (n : ℕ) → Lasts {A = A} (Err (Padding n))
padding_lasts n e = cc

short_lasts : {A : Type 0} (n : ℕ) → Lasts {A = A} (Err (Short n))
short_lasts n e = cc

bool_lasts : {A : Type 0} (n : ℕ) → Lasts {A = A} (Err (BadBool n))
bool_lasts n e = cc

text_lasts : {A : Type 0} (n : ℕ) → Lasts {A = A} (Err (BadText n))
text_lasts n e = cc

length_lasts : {A : Type 0} (n : ℕ) → Lasts {A = A} (Err (BadLength n))
length_lasts n e = cc

kind_lasts : {A : Type 0} (n : ℕ) → Lasts {A = A} (Err (BadVariant n))
kind_lasts n e = cc

cond_lasts : {A : Type 0} (c : Bool) (r s : Result A ValueFault) → Lasts r → Lasts s → Lasts (cond c r s)
cond_lasts true r s h k = h
cond_lasts false r s h k = k

then_lasts : {A B : Type 0} (r : Result A ValueFault) (f : A → Result B ValueFault) → Lasts r → ((a : A) → r ≡ Ok a → Lasts (f a)) → Lasts (and_then r f)
then_lasts (Ok a) f h k e = k a refl e
then_lasts (Err x) f h k e = let same : x ≡ NoMemory = cc in h (ap (λ (y : ValueFault). Err y) same)

made_lasts : {A B : Type 0} (f : A → B) (r : Answer A) → Lasts r → Lasts (made f r)
made_lasts f (Ok r) h e = cc
made_lasts f (Err x) h e = let same : x ≡ NoMemory = cc in h (ap (λ (y : ValueFault). Err y) same)

-- padding
zeros_last : (at : ℕ) (bytes : List ℕ) → Lasts (zeros at bytes)
zeros_last at [] e = ok_lasts tt (sym (zeros-nil at) ∙ e)
zeros_last at (b ∷ bs) e =
    cond_lasts (eqb b 0) (zeros (at + 1) bs) (Err (Padding (reported at))) (zeros_last (at + 1) bs) (padding_lasts (reported at)) (sym (zeros-cons at b bs) ∙ e)

check_lasts : (around : Option ℕ) (at align : ℕ) (bytes : List ℕ) → Lasts (check_padding around at align bytes)
unfolding check_padding
check_lasts around at align bytes =
    cond_lasts (ltb (length bytes) (pad_size at align)) (short_padding around at (pad_size at align) bytes) (zeros at (take (pad_size at align) bytes))
    (cond_lasts (is_some around) (Err (cut_off around at)) (and_then (zeros at bytes) (λ u. Err (Short (reported (at + pad_size at align)))))
    (cut_lasts around at) (then_lasts (zeros at bytes) (λ u. Err (Short (reported (at + pad_size at align)))) (zeros_last at bytes) (λ u h. short_lasts (reported (at + pad_size at align)))))
    (zeros_last at (take (pad_size at align) bytes))

padded_lasts : {A : Type 0} (around : Option ℕ) (align at : ℕ) (bytes : List ℕ) (f : Reading A) → Lasts (f (at + pad_size at align) (drop (pad_size at align) bytes)) → Lasts (padded around align f at bytes)
padded_lasts around align at bytes f h =
    then_lasts (check_padding around at align bytes) (λ u. f (at + pad_size at align) (drop (pad_size at align) bytes)) (check_lasts around at align bytes) (λ u e. h)

-- values of basic types
whole_lasts : (around : Option ℕ) (at : ℕ) (bytes : List ℕ) (n : Option ℕ) → Lasts (whole around at bytes n)
whole_lasts around at bytes None = cut_lasts around at
whole_lasts around at bytes (Some n) = cond_lasts (ltb (length bytes) n) (Err (cut_off around at)) (Ok n) (cut_lasts around at) (ok_lasts n)

body_lasts : (o : Order) (around : Option ℕ) (b : Basic) (at : ℕ) (bytes : List ℕ) → Lasts (body_size o around b at bytes)
unfolding body_size
body_lasts o around b at bytes = whole_lasts around at bytes (size o b bytes)

types_by_lasts : (at : ℕ) (r : Result (List Shape) NameFault) → Lasts (types_by at r)
types_by_lasts at (Ok ts) = ok_lasts ts
types_by_lasts at (Err e) = text_lasts (reported at)

types_last : (at : ℕ) (body : List ℕ) → Lasts (types_in at body)
unfolding types_in
types_last at body = cond_lasts (ends_with_zero body) (types_by at (signature_of (text_in 1 body))) (Err (BadText (reported at))) (types_by_lasts at (signature_of (text_in 1 body))) (text_lasts (reported at))

path_by_lasts : (at : ℕ) (text : List ℕ) (n : Option ℕ) → Lasts (path_by at text n)
path_by_lasts at text None = ok_lasts (Path text)
path_by_lasts at text (Some n) = text_lasts (reported at)

path_lasts : (at : ℕ) (body : List ℕ) → Lasts (path_at at body)
unfolding path_at
path_lasts at body =
    cond_lasts (ends_with_zero body) (path_by at (text_in 4 body) (path_fault (text_in 4 body))) (Err (BadText (reported at))) (path_by_lasts at (text_in 4 body) (path_fault (text_in 4 body))) (text_lasts (reported at))

string_lasts : (at : ℕ) (body : List ℕ) → Lasts (text_at at body)
unfolding text_at
string_lasts at body = cond_lasts (ends_with_zero body && is_text (text_in 4 body)) (Ok (Str (text_in 4 body))) (Err (BadText (reported at))) (ok_lasts (Str (text_in 4 body))) (text_lasts (reported at))

boolean_lasts : (at n : ℕ) → Lasts (bool_by at n)
boolean_lasts at n =
    cond_lasts (eqb n 0) (Ok (Boolean false)) (cond (eqb n 1) (Ok (Boolean true)) (Err (BadBool (reported at)))) (ok_lasts (Boolean false))
    (cond_lasts (eqb n 1) (Ok (Boolean true)) (Err (BadBool (reported at))) (ok_lasts (Boolean true)) (bool_lasts (reported at)))

decoded_lasts : (o : Order) (b : Basic) (at : ℕ) (body : List ℕ) → Lasts (decoded o b at body)
unfolding decoded
decoded_lasts o kinds.Byte at body = ok_lasts _
decoded_lasts o kinds.Bool at body = boolean_lasts at (number o 4 body)
decoded_lasts o kinds.I16 at body = ok_lasts _
decoded_lasts o kinds.U16 at body = ok_lasts _
decoded_lasts o kinds.I32 at body = ok_lasts _
decoded_lasts o kinds.U32 at body = ok_lasts _
decoded_lasts o kinds.I64 at body = ok_lasts _
decoded_lasts o kinds.U64 at body = ok_lasts _
decoded_lasts o kinds.Double at body = ok_lasts _
decoded_lasts o kinds.Str at body = string_lasts at body
decoded_lasts o kinds.Path at body = path_lasts at body
decoded_lasts o kinds.Sig at body = then_lasts (types_in at body) (λ ts. Ok (Sig ts)) (types_last at body) (λ ts h. ok_lasts (Sig ts))
decoded_lasts o kinds.Handle at body = ok_lasts _

basic_lasts : (o : Order) (around : Option ℕ) (b : Basic) (at : ℕ) (bytes : List ℕ) → Lasts (read_basic o around b at bytes)
unfolding read_basic
basic_lasts o around b at bytes =
    let place : ℕ = at + pad_size at (alignment b) in
    let left : List ℕ = drop (pad_size at (alignment b)) bytes in
    padded_lasts around (alignment b) at bytes (read_body o around b)
    (then_lasts (body_size o around b place left) (λ n. and_then (decoded o b place (take n left)) (λ a. Ok (a, (place + n, drop n left)))) (body_lasts o around b place left)
    (λ n h. then_lasts (decoded o b place (take n left)) (λ a. Ok (a, (place + n, drop n left))) (decoded_lasts o b place (take n left)) (λ a k. ok_lasts (a, (place + n, drop n left)))))

-- a reading that lasts on bytes
abbrev GoesOn : {A : Type 0} → Reading A → Type 0
GoesOn f = (at : ℕ) (bytes : List ℕ) → AreBytes bytes → Lasts (f at bytes)

-- a reading that comes closer to the end
abbrev ComesOn : {A : Type 0} → Reading A → Type 0
ComesOn {A = A} f = (at : ℕ) (bytes : List ℕ) (r : A × (ℕ × List ℕ)) → AreBytes bytes → f at bytes ≡ Ok r → (length r.1.1 < length bytes) × AreBytes r.1.1

all_last : {A : Type 0} (f : Reading A) → GoesOn f → ComesOn f → (most at : ℕ) (bytes : List ℕ) → length bytes ≤ most → AreBytes bytes → Lasts (all_of most f at bytes)
all_last f g n most at [] few h e = ok_lasts [] (sym (all_of-end most f at) ∙ e)
all_last f g n zero at (b ∷ bs) few h e = absurd (omega arith)
all_last f g n (suc most) at (b ∷ bs) few h e =
    then_lasts (f at (b ∷ bs)) (λ r. and_then (all_of most f r.1.0 r.1.1) (λ xs. Ok (r.0 ∷ xs))) (g at (b ∷ bs) h)
    (λ r k.
    let next = n at (b ∷ bs) r h k in
    let fewer : length r.1.1 < length (b ∷ bs) = next.0 in
    then_lasts (all_of most f r.1.0 r.1.1) (λ xs. Ok (r.0 ∷ xs)) (all_last f g n most r.1.0 r.1.1 (omega (arith, few, fewer)) next.1) (λ xs k. ok_lasts (r.0 ∷ xs)))
    (sym (all_of-cons most f at b bs) ∙ e)

each_lasts : (f : Shape → Reading Val) (n : ℕ) → ((t : Shape) → nesting t < n → GoesOn (f t)) → ((t : Shape) → ComesOn (f t)) → (ts : List Shape) (at : ℕ) (bytes : List ℕ) → nesting_all ts < n → AreBytes bytes → Lasts (in_turn f ts at bytes)
each_lasts f n g c [] at bytes few h e = ok_lasts ([], (at, bytes)) (sym (in_turn-end f at bytes) ∙ e)
each_lasts f n g c (t ∷ ts) at bytes few h e =
    then_lasts (f t at bytes) (λ r. made (λ vs. r.0 ∷ vs) (in_turn f ts r.1.0 r.1.1)) (g t (omega (arith, few)) at bytes h)
    (λ r k. made_lasts (λ vs. r.0 ∷ vs) (in_turn f ts r.1.0 r.1.1) (each_lasts f n g c ts r.1.0 r.1.1 (omega (arith, few)) (c t at bytes r h k).1)) (sym (in_turn-cons f t ts at bytes) ∙ e)

elements_last : (o : Order) (around : Option ℕ) (align at : ℕ) (bytes : List ℕ) → Lasts (element_bytes o around align at bytes)
unfolding element_bytes
elements_last o around align at bytes =
    let n : ℕ = number o 4 bytes in
    let pad : ℕ = pad_size (at + 4) align in
    let short : Bool = ltb (length bytes) (4 + pad + n) in
    let last : Result ℕ ValueFault = and_then (zeros (at + 4) (take pad (drop 4 bytes))) (λ u. Ok n) in
    cond_lasts (ltb (length bytes) 4 || (is_some around && short)) (Err (cut_off around at)) (cond (ltb (2 ^ 26) n) (Err (BadLength (reported at))) (cond short (Err (cut_off around at)) last)) (cut_lasts around at)
    (cond_lasts (ltb (2 ^ 26) n) (Err (BadLength (reported at))) (cond short (Err (cut_off around at)) last) (length_lasts (reported at))
    (cond_lasts short (Err (cut_off around at)) last (cut_lasts around at) (then_lasts (zeros (at + 4) (take pad (drop 4 bytes))) (λ u. Ok n) (zeros_last (at + 4) (take pad (drop 4 bytes))) (λ u h. ok_lasts n))))

array_lasts : {A : Type 0} (o : Order) (around : Option ℕ) (align at : ℕ) (f : Option ℕ → ℕ → List ℕ → Result (List A) ValueFault) (bytes : List ℕ) →
    ((inner : Option ℕ) (at : ℕ) (bytes : List ℕ) → AreBytes bytes → Lasts (f inner at bytes)) → AreBytes bytes → Lasts (read_array o around align f at bytes)
unfolding read_array
array_lasts o around align at f bytes g h =
    let place : ℕ = at + pad_size at 4 in
    let left : List ℕ = drop (pad_size at 4) bytes in
    let front : ℕ = 4 + pad_size (place + 4) align in
    padded_lasts around 4 at bytes (read_elements o around align f)
    (then_lasts (element_bytes o around align place left) (λ n. and_then (f (Some (reported place)) (place + front) (take n (drop front left))) (λ xs. Ok (xs, (place + front + n, drop (front + n) left)))) (elements_last o around align place left)
    (λ n k. then_lasts (f (Some (reported place)) (place + front) (take n (drop front left))) (λ xs. Ok (xs, (place + front + n, drop (front + n) left)))
    (g (Some (reported place)) (place + front) (take n (drop front left)) (bytes_take n (drop front left) (bytes_drop front left (bytes_drop (pad_size at 4) bytes h)))) (λ xs k. ok_lasts (xs, (place + front + n, drop (front + n) left)))))

variant_type_lasts : (d at : ℕ) (ts : List Shape) → Lasts (variant_type d at ts)
variant_type_lasts d at [] = kind_lasts (reported at)
variant_type_lasts d at (t ∷ []) = cond_lasts (leb (d + 1 + nesting t) 64) (Ok t) (Err (BadVariant (reported at))) (ok_lasts t) (kind_lasts (reported at))
variant_type_lasts d at (t ∷ u ∷ ts) = kind_lasts (reported at)

variant_lasts : (o : Order) (around : Option ℕ) (d at : ℕ) (f : Shape → Reading Val) (bytes : List ℕ) → ((t : Shape) → d + 1 + nesting t ≤ 64 → GoesOn (f t)) → AreBytes bytes → Lasts (read_variant o around d f at bytes)
unfolding read_variant
variant_lasts o around d at f bytes g h =
    then_lasts (body_size o around kinds.Sig at bytes) (λ n. and_then (types_in at (take n bytes)) (λ ts. and_then (variant_type d at ts) (λ t. made values.variant (f t (at + n) (drop n bytes))))) (body_lasts o around kinds.Sig at bytes)
    (λ n k. then_lasts (types_in at (take n bytes)) (λ ts. and_then (variant_type d at ts) (λ t. made values.variant (f t (at + n) (drop n bytes)))) (types_last at (take n bytes))
    (λ ts k. then_lasts (variant_type d at ts) (λ t. made values.variant (f t (at + n) (drop n bytes))) (variant_type_lasts d at ts)
    (λ t k. made_lasts values.variant (f t (at + n) (drop n bytes)) (g t (one_type d at ts t k).1 (at + n) (drop n bytes) (bytes_drop n bytes h)))))

pair_lasts : (o : Order) (around : Option ℕ) (b : Basic) (f : Reading Val) → GoesOn f → (at : ℕ) (bytes : List ℕ) → AreBytes bytes → Lasts (read_pair o around b f at bytes)
unfolding read_pair
pair_lasts o around b f g at bytes h =
    let place : ℕ = at + pad_size at 8 in
    let left : List ℕ = drop (pad_size at 8) bytes in
    let here : AreBytes left = bytes_drop (pad_size at 8) bytes h in
    padded_lasts around 8 at bytes (λ at bytes. and_then (read_basic o around b at bytes) (λ k. made (λ v. (k.0, v)) (f k.1.0 k.1.1)))
    (then_lasts (read_basic o around b place left) (λ k. made (λ v. (k.0, v)) (f k.1.0 k.1.1)) (basic_lasts o around b place left)
    (λ k e.
    let key : BasicFound o b place left k.0 k.1.0 k.1.1 = basic_sound o around b place left k.0 k.1.0 k.1.1 here e in
    made_lasts (λ v. (k.0, v)) (f k.1.0 k.1.1) (g k.1.0 k.1.1 (bytes_behind _ k.1.1 left key.same here))))

value_comes : (left : ℕ) (o : Order) (d : ℕ) (around : Option ℕ) (t : Shape) → ComesOn (read left o d around t)
value_comes left o d around t at bytes r h e =
    let k : Found o d at t bytes r.0 r.1.0 r.1.1 = value_sound left o d around t at bytes r.0 r.1.0 r.1.1 h e in
    let some : 0 < length (spelling o at r.0) = spelling_some r.0 o d at t k.typed in
    let l : length bytes ≡ length (spelling o at r.0) + length r.1.1 = ap length k.same ∙ length-append (spelling o at r.0) r.1.1 in
    (omega (arith, some, l), bytes_behind (spelling o at r.0) r.1.1 bytes k.same h)

entry_comes : (left : ℕ) (o : Order) (d : ℕ) (around : Option ℕ) (b : Basic) (t : Shape) → ComesOn (read_entry left o (d + 1) around b t)
entry_comes left o d around b t at bytes r h e =
    let k : PairFound o (d + 2) at b t bytes r.0.0 r.0.1 r.1.0 r.1.1 = entry_sound left o d around b t at bytes r.0 r.1.0 r.1.1 h e in
    let one : List ℕ = pair_bytes o at r.0.0 (spelling o (value_at o at r.0.0) r.0.1) in
    let some : 0 < length one = pair_some o at r.0.0 (spelling o (value_at o at r.0.0) r.0.1) k.legal in
    let l : length bytes ≡ length one + length r.1.1 = ap length k.same ∙ length-append one r.1.1 in
    (omega (arith, some, l), bytes_behind one r.1.1 bytes k.same h)

nesting_listed : (ts : types.Shapes) → nesting_all (listed ts) ≡ nesting_in ts
nesting_listed types.none = refl
nesting_listed (types.more t ts) = ap (λ (n : ℕ). max (nesting t) n) (nesting_listed ts)

mutual
  value_lasts : (left : ℕ) (o : Order) (d : ℕ) (around : Option ℕ) (t : Shape) → nesting t < left → d + left ≡ 98 → GoesOn (read left o d around t)
  value_lasts zero o d around t deep sum at bytes h e = absurd (omega arith)
  value_lasts (suc left) o d around (types.basic b) deep sum at bytes h e =
      made_lasts values.basic (read_basic o around b at bytes) (basic_lasts o around b at bytes) (sym ((types_read left o d around at bytes).0 b) ∙ e)
  value_lasts (suc left) o d around types.variant deep sum at bytes h e =
      variant_lasts o around d at (read left o (d + 1) around) bytes (λ t k. value_lasts left o (d + 1) around t (omega (arith, deep, sum, k)) (omega (arith, sum))) h (sym (types_read left o d around at bytes).1.0 ∙ e)
  value_lasts (suc left) o d around (types.array u) deep sum at bytes h e =
      let f : Option ℕ → ℕ → List ℕ → Result (List Val) ValueFault = λ inner. to_end (read left o (d + 1) inner u) in
      made_lasts (λ vs. values.array u (vals vs)) (read_array o around (boundary u) f at bytes)
      (array_lasts o around (boundary u) at f bytes
      (λ inner at bytes h. all_last (read left o (d + 1) inner u) (value_lasts left o (d + 1) inner u (omega (arith, deep)) (omega (arith, sum))) (value_comes left o (d + 1) inner u) (length bytes) at bytes (omega arith) h) h)
      (sym ((types_read left o d around at bytes).1.1.0 u) ∙ e)
  value_lasts (suc left) o d around (types.dict b u) deep sum at bytes h e =
      let f : Option ℕ → ℕ → List ℕ → Result (List (BasicValue × Val)) ValueFault = λ inner. to_end (read_entry left o (d + 1) inner b u) in
      made_lasts (λ es. values.dict b u (entries es)) (read_array o around 8 f at bytes)
      (array_lasts o around 8 at f bytes
      (λ inner at bytes h. all_last (read_entry left o (d + 1) inner b u) (entry_lasts left o d inner b u (omega (arith, deep)) (omega (arith, sum))) (entry_comes left o d inner b u) (length bytes) at bytes (omega arith) h) h)
      (sym ((types_read left o d around at bytes).1.1.1.0 b u) ∙ e)
  value_lasts (suc left) o d around (types.struct t ts) deep sum at bytes h e =
      let us : List Shape = t ∷ listed ts in
      let g : Reading (List Val) = in_turn (read left o (d + 1) around) us in
      let same : nesting_all (listed ts) ≡ nesting_in ts = nesting_listed ts in
      made_lasts (λ vs. values.struct (vals vs)) (padded around 8 g at bytes)
      (padded_lasts around 8 at bytes g
      (each_lasts (read left o (d + 1) around) left (λ t k. value_lasts left o (d + 1) around t k (omega (arith, sum))) (λ t. value_comes left o (d + 1) around t) us (at + pad_size at 8) (drop (pad_size at 8) bytes)
      (omega (arith, deep, same)) (bytes_drop (pad_size at 8) bytes h)))
      (sym (struct_parts left o d around t ts at bytes) ∙ e)

  entry_lasts : (left : ℕ) (o : Order) (d : ℕ) (around : Option ℕ) (b : Basic) (t : Shape) → nesting t + 1 < left → d + 1 + left ≡ 98 → GoesOn (read_entry left o (d + 1) around b t)
  entry_lasts zero o d around b t deep sum at bytes h e = absurd (omega arith)
  entry_lasts (suc left) o d around b t deep sum at bytes h e =
      pair_lasts o around b (read left o (d + 1 + 1) around t) (value_lasts left o (d + 1 + 1) around t (omega (arith, deep)) (omega (arith, sum))) at bytes h (sym ((types_read left o (d + 1) around at bytes).1.1.1.1 b t) ∙ e)

ended_lasts : (r : Answer (List Val)) → Lasts r → Lasts (ended r)
ended_lasts (Ok (vs, (at, []))) h e = ok_lasts vs e
ended_lasts (Ok (vs, (at, b ∷ bs))) h e = length_lasts (reported at) e
ended_lasts (Err x) h e = let same : x ≡ NoMemory = cc in h (ap (λ (y : ValueFault). Err y) same)

-- a reading ends with values, or with a fault of the bytes
pub all_values_last : (o : Order) (start : ℕ) (ts : List Shape) (bytes : List ℕ) → IsWithin ts → AreBytes bytes → read_all o start ts bytes ≡ Err NoMemory → ⊥
unfolding read_all
all_values_last o start ts bytes within h =
    let few : nesting_all ts ≤ 97 = nesting_within ts within in
    ended_lasts (in_turn (read (levels 0) o 0 None) ts start bytes)
    (each_lasts (read (levels 0) o 0 None) 98 (λ t k. value_lasts (levels 0) o 0 None t k (omega arith)) (λ t. value_comes (levels 0) o 0 None t) ts start bytes (omega (arith, few)) h)
