-- A basic value is read from its spelling.
use Rattle.std.proofs.Common.{◌≡◌, ℕ, zero, suc, ◌+◌, ◌-◌, ◌<◌, ◌≤◌, ◌^◌, List, [], ◌∷◌, ◌++◌, length, length-append, get_or, drop, take, replicate, refl, ap, sym, ◌∙◌, Option, Some, None, Result, Ok, Err, cond, eqb, ltb, Bool, true, false, ◌&&◌, arith, append_assoc, append-nil, w16, w32, w64}
use Rattle.std.specs.Int.{cast_signed, cast_unsigned}
use Rattle.std.specs.Prelude.{ℤ, FitsSigned}
use Rattle.std.proofs.Math.Facts.{Fits-of_z}
use Rattle.std.proofs.lemmas.Int.{to_z-of_z}
use Rattle.std.proofs.lemmas.Bool.Decides.{nat_tests}
use Rattle.std.proofs.lemmas.List.{length-replicate, take_all}
use Rattle.std.proofs.Math.Seq.{take-append_seam, drop-append_seam, get_or-append_seam}
use Rattle.bus_names.specs.declared.basic.Basic.{Basic}
use Rattle.bus_names.specs.declared.fault.NameFault.{NameFault}
use Rattle.bus_names.specs.Types.{Shape, signature_text}
use Rattle.bus_names.specs.Reading.{path_fault}
use Rattle.bus_names.specs.Parsing.{signature_of}
use Rattle.bus_names.proofs.TypesFaults.{signature_read}
use Rattle.bus_value.specs.declared.basic_value.BasicValue.{BasicValue}
use Rattle.bus_value.specs.declared.basic_value.BasicValue.TheVariants.{Byte, Bool as Boolean, I16, U16, I32, U32, I64, U64, Double, Str, Path, Sig, Handle}
use Rattle.bus_value.specs.declared.fault.ValueFault.TheVariants.{BadText}
use Rattle.bus_value.specs.declared.order.Order.{Order}
use Rattle.bus_value.specs.declared.order.Order.TheVariants.{Little, Big}
use Rattle.bus_value.specs.BasicValues.{kind_of}
use Rattle.bus_value.specs.Numbers.{number_bytes, number}
use Rattle.bus_value.specs.Spelling.{pad_size, padding, text_bytes, signature_bytes, basic_bytes, basic_spelling}
use Rattle.bus_value.specs.Alignment.{alignment}
use Rattle.bus_value.specs.BasicReading.{size, text_size, whole, body_size, ends_with_zero, text_in, text_at, path_by, path_at, types_by, types_in, decoded}
use Rattle.login_base.specs.Texts.{is_text}
use Rattle.bus_value.specs.Reading.{Reading, padded, read_body, read_basic}
use Rattle.bus_value.proofs.Typing.{IsLegal}
use Rattle.bus_value.specs.Faults.{reported, cut_off, and_then, zeros, check_padding, short_padding}
use Rattle.bus_value.proofs.Padding.{zeros-cons, zeros-nil}
use Rattle.bus_value.proofs.Chains.{and_then_ok}
use Rattle.bus_value.proofs.NumberLaws.{spelled_2, spelled_4, spelled_8, width_2, width_4, width_8}

pub not_less : (m n : ℕ) → n ≤ m → ltb m n ≡ false
not_less m n h = grind (arith, nat_tests)

-- padding is passed
pub zeros_pass : (at n : ℕ) → zeros at (replicate n 0) ≡ Ok tt
zeros_pass at zero = zeros-nil at
zeros_pass at (suc n) = zeros-cons at 0 (replicate n 0) ∙ zeros_pass (at + 1) n

pub front_of : (xs ys : List ℕ) (n : ℕ) → length xs ≡ n → take n (xs ++ ys) ≡ xs
front_of xs ys n h = ap (λ (m : ℕ). take m (xs ++ ys)) (sym h) ∙ take-append_seam xs ys

pub back_of : (xs ys : List ℕ) (n : ℕ) → length xs ≡ n → drop n (xs ++ ys) ≡ ys
back_of xs ys n h = ap (λ (m : ℕ). drop m (xs ++ ys)) (sym h) ∙ drop-append_seam xs ys

pub padding_passes : (around : Option ℕ) (at align : ℕ) (rest : List ℕ) → check_padding around at align (padding at align ++ rest) ≡ Ok tt
unfolding check_padding
padding_passes around at align rest =
    let n : ℕ = pad_size at align in
    let size : length (padding at align) ≡ n = length-replicate _ _ in
    let long : length (padding at align ++ rest) ≡ length (padding at align) + length rest = length-append (padding at align) rest in
    let enough : ltb (length (padding at align ++ rest)) n ≡ false = not_less _ _ (omega arith) in
    ap (λ (c : Bool). cond c (short_padding around at n (padding at align ++ rest)) (zeros at (take n (padding at align ++ rest)))) enough
    ∙ ap (λ (x : List ℕ). zeros at x) (front_of (padding at align) rest n size) ∙ zeros_pass at n

pub padded_spelled : {A : Type 0} (around : Option ℕ) (align at : ℕ) (rest : List ℕ) (f : Reading A) → padded around align f at (padding at align ++ rest) ≡ f (at + pad_size at align) rest
padded_spelled around align at rest f =
    and_then_ok (check_padding around at align (padding at align ++ rest)) tt (λ u. f (at + pad_size at align) (drop (pad_size at align) (padding at align ++ rest))) (padding_passes around at align rest)
    ∙ ap (λ (x : List ℕ). f (at + pad_size at align) x) (back_of (padding at align) rest (pad_size at align) (length-replicate _ _))

-- a text between its length and a zero byte
text_between : (front text : List ℕ) (n : ℕ) → length front ≡ n → text_in n (front ++ (text ++ 0 ∷ [])) ≡ text
text_between front text n h =
    let body : List ℕ = front ++ (text ++ 0 ∷ []) in
    let a : length body ≡ length front + length (text ++ 0 ∷ []) = length-append front (text ++ 0 ∷ []) in
    let b : length (text ++ 0 ∷ []) ≡ length text + 1 = length-append text (0 ∷ []) in
    let c : length body - 1 - n ≡ length text = omega arith in
    ap (λ (m : ℕ). take m (drop n body)) c ∙ ap (λ (x : List ℕ). take (length text) x) (back_of front (text ++ 0 ∷ []) n h) ∙ take-append_seam text (0 ∷ [])

zero_behind : (front text : List ℕ) → ends_with_zero (front ++ (text ++ 0 ∷ [])) ≡ true
zero_behind front text =
    let body : List ℕ = front ++ (text ++ 0 ∷ []) in
    let same : body ≡ (front ++ text) ++ 0 ∷ [] = sym (append_assoc front text (0 ∷ [])) in
    let a : length body ≡ length (front ++ text) + 1 = ap length same ∙ length-append (front ++ text) (0 ∷ []) in
    let b : length body - 1 ≡ length (front ++ text) = omega arith in
    ap (λ (m : ℕ). eqb (get_or body m 0) 0) b ∙ ap (λ (x : List ℕ). eqb (get_or x (length (front ++ text)) 0) 0) same ∙ ap (λ (m : ℕ). eqb m 0) (get_or-append_seam (front ++ text) 0 [] 0)

pub text_length : (o : Order) (text : List ℕ) → length (text_bytes o text) ≡ length text + 5
text_length o text =
    let a : length (text_bytes o text) ≡ length (number_bytes o 4 (length text)) + length (text ++ 0 ∷ []) = length-append (number_bytes o 4 (length text)) (text ++ 0 ∷ []) in
    let b : length (text ++ 0 ∷ []) ≡ length text + 1 = length-append text (0 ∷ []) in
    let c : length (number_bytes o 4 (length text)) ≡ 4 = width_4 o (length text) in omega arith

text_sized : (o : Order) (text rest : List ℕ) → length text < 2 ^ 32 → text_size o (text_bytes o text ++ rest) ≡ Some (length (text_bytes o text))
text_sized o text rest h =
    let body : List ℕ = text_bytes o text in
    let a : length (body ++ rest) ≡ length body + length rest = length-append body rest in
    let b : length body ≡ length text + 5 = text_length o text in
    let c : ltb (length (body ++ rest)) 4 ≡ false = not_less _ _ (omega arith) in
    let d : number o 4 (body ++ rest) ≡ length text =
    ap (λ (x : List ℕ). number o 4 x) (append_assoc (number_bytes o 4 (length text)) (text ++ 0 ∷ []) rest) ∙ spelled_4 o (length text) ((text ++ 0 ∷ []) ++ rest) h in
    let e : number o 4 (body ++ rest) + 5 ≡ length body = omega arith in
    ap (λ (k : Bool). cond k None (Some (number o 4 (body ++ rest) + 5))) c ∙ ap (λ (n : ℕ). Some n) e

pub size_spelled : (o : Order) (a : BasicValue) (rest : List ℕ) → IsLegal a → size o (kind_of a) (basic_bytes o a ++ rest) ≡ Some (length (basic_bytes o a))
size_spelled o (Byte n) rest h = refl
size_spelled o (Boolean b) rest h = ap (λ (m : ℕ). Some m) (sym (width_4 o (cond b 1 0)))
size_spelled o (I16 n) rest h = ap (λ (m : ℕ). Some m) (sym (width_2 o (cast_unsigned w16 n)))
size_spelled o (U16 n) rest h = ap (λ (m : ℕ). Some m) (sym (width_2 o n))
size_spelled o (I32 n) rest h = ap (λ (m : ℕ). Some m) (sym (width_4 o (cast_unsigned w32 n)))
size_spelled o (U32 n) rest h = ap (λ (m : ℕ). Some m) (sym (width_4 o n))
size_spelled o (I64 n) rest h = ap (λ (m : ℕ). Some m) (sym (width_8 o (cast_unsigned w64 n)))
size_spelled o (U64 n) rest h = ap (λ (m : ℕ). Some m) (sym (width_8 o n))
size_spelled o (Double bytes) rest h = ap (λ (m : ℕ). Some m) (sym h)
size_spelled o (Str text) rest h = text_sized o text rest h.1
size_spelled o (Path text) rest h = text_sized o text rest h.1
size_spelled o (Sig ts) rest h =
    let b : length (signature_text ts ++ 0 ∷ []) ≡ length (signature_text ts) + 1 = length-append (signature_text ts) (0 ∷ []) in
    let c : length (signature_text ts) + 2 ≡ length (signature_bytes ts) = omega arith in ap (λ (m : ℕ). Some m) c
size_spelled o (Handle n) rest h = ap (λ (m : ℕ). Some m) (sym (width_4 o n))

below_16 : (n : ℤ) → FitsSigned w16 n → cast_unsigned w16 n < 2 ^ 16
below_16 n h = let k = Fits-of_z {w = w16} {z = n} h in omega (arith, k)

below_32 : (n : ℤ) → FitsSigned w32 n → cast_unsigned w32 n < 2 ^ 32
below_32 n h = let k = Fits-of_z {w = w32} {z = n} h in omega (arith, k)

below_64 : (n : ℤ) → FitsSigned w64 n → cast_unsigned w64 n < 2 ^ 64
below_64 n h = let k = Fits-of_z {w = w64} {z = n} h in omega (arith, k)

exact_2 : (o : Order) (n : ℕ) → n < 2 ^ 16 → number o 2 (number_bytes o 2 n) ≡ n
exact_2 o n h = ap (λ (x : List ℕ). number o 2 x) (sym (append-nil (number_bytes o 2 n))) ∙ spelled_2 o n [] h

exact_4 : (o : Order) (n : ℕ) → n < 2 ^ 32 → number o 4 (number_bytes o 4 n) ≡ n
exact_4 o n h = ap (λ (x : List ℕ). number o 4 x) (sym (append-nil (number_bytes o 4 n))) ∙ spelled_4 o n [] h

exact_8 : (o : Order) (n : ℕ) → n < 2 ^ 64 → number o 8 (number_bytes o 8 n) ≡ n
exact_8 o n h = ap (λ (x : List ℕ). number o 8 x) (sym (append-nil (number_bytes o 8 n))) ∙ spelled_8 o n [] h

pub types_spelled : (at : ℕ) (ts : List Shape) → signature_of (signature_text ts) ≡ Ok ts → types_in at (signature_bytes ts) ≡ Ok ts
unfolding types_in
types_spelled at ts h =
    let text : List ℕ = signature_text ts in
    let front : List ℕ = length text ∷ [] in
    ap (λ (k : Bool). cond k (types_by at (signature_of (text_in 1 (signature_bytes ts)))) (Err (BadText (reported at)))) (zero_behind front text)
    ∙ ap (λ (x : List ℕ). types_by at (signature_of x)) (text_between front text 1 refl) ∙ ap (λ (r : Result (List Shape) NameFault). types_by at r) h

text_spelled : (o : Order) (at : ℕ) (text : List ℕ) → is_text text ≡ true → text_at at (text_bytes o text) ≡ Ok (Str text)
unfolding text_at
text_spelled o at text h =
    let front : List ℕ = number_bytes o 4 (length text) in
    let body : List ℕ = text_bytes o text in
    let inside : text_in 4 body ≡ text = text_between front text 4 (width_4 o (length text)) in
    ap (λ (x : List ℕ). cond (ends_with_zero body && is_text x) (Ok (Str x)) (Err (BadText (reported at)))) inside
    ∙ ap (λ (k : Bool). cond (k && is_text text) (Ok (Str text)) (Err (BadText (reported at)))) (zero_behind front text)
    ∙ ap (λ (k : Bool). cond k (Ok (Str text)) (Err (BadText (reported at)))) h

path_spelled : (o : Order) (at : ℕ) (text : List ℕ) → path_fault text ≡ None → path_at at (text_bytes o text) ≡ Ok (Path text)
unfolding path_at
path_spelled o at text h =
    let front : List ℕ = number_bytes o 4 (length text) in
    let body : List ℕ = text_bytes o text in
    ap (λ (k : Bool). cond k (path_by at (text_in 4 body) (path_fault (text_in 4 body))) (Err (BadText (reported at)))) (zero_behind front text)
    ∙ ap (λ (x : List ℕ). path_by at x (path_fault x)) (text_between front text 4 (width_4 o (length text))) ∙ ap (λ (r : Option ℕ). path_by at text r) h

pub decoded_spelled : (o : Order) (a : BasicValue) (at : ℕ) → IsLegal a → decoded o (kind_of a) at (basic_bytes o a) ≡ Ok a
unfolding decoded
decoded_spelled o (Byte n) at h = refl
decoded_spelled Little (Boolean true) at h = refl
decoded_spelled Little (Boolean false) at h = refl
decoded_spelled Big (Boolean true) at h = refl
decoded_spelled Big (Boolean false) at h = refl
decoded_spelled o (I16 n) at h = ap (λ z. Ok (I16 (cast_signed w16 z))) (exact_2 o (cast_unsigned w16 n) (below_16 n h)) ∙ ap (λ z. Ok (I16 z)) (to_z-of_z w16 n h)
decoded_spelled o (U16 n) at h = ap (λ z. Ok (U16 z)) (exact_2 o n h)
decoded_spelled o (I32 n) at h = ap (λ z. Ok (I32 (cast_signed w32 z))) (exact_4 o (cast_unsigned w32 n) (below_32 n h)) ∙ ap (λ z. Ok (I32 z)) (to_z-of_z w32 n h)
decoded_spelled o (U32 n) at h = ap (λ z. Ok (U32 z)) (exact_4 o n h)
decoded_spelled o (I64 n) at h = ap (λ z. Ok (I64 (cast_signed w64 z))) (exact_8 o (cast_unsigned w64 n) (below_64 n h)) ∙ ap (λ z. Ok (I64 z)) (to_z-of_z w64 n h)
decoded_spelled o (U64 n) at h = ap (λ z. Ok (U64 z)) (exact_8 o n h)
decoded_spelled o (Double bytes) at h = ap (λ z. Ok (Double z)) (take_all 8 bytes (omega arith))
decoded_spelled o (Str text) at h = text_spelled o at text h.0
decoded_spelled o (Path text) at h = path_spelled o at text h.0
decoded_spelled o (Sig ts) at h = ap (λ r. and_then r (λ ts. Ok (Sig ts))) (types_spelled at ts (signature_read ts h))
decoded_spelled o (Handle n) at h = ap (λ z. Ok (Handle z)) (exact_4 o n h)

pub body_spelled : (o : Order) (around : Option ℕ) (a : BasicValue) (at : ℕ) (rest : List ℕ) → IsLegal a → body_size o around (kind_of a) at (basic_bytes o a ++ rest) ≡ Ok (length (basic_bytes o a))
unfolding body_size
body_spelled o around a at rest h =
    let body : List ℕ = basic_bytes o a in
    let long : length (body ++ rest) ≡ length body + length rest = length-append body rest in
    ap (λ (s : Option ℕ). whole around at (body ++ rest) s) (size_spelled o a rest h)
    ∙ ap (λ (k : Bool). cond k (Err (cut_off around at)) (Ok (length body))) (not_less (length (body ++ rest)) (length body) (omega arith))

pub basic_spelled : (o : Order) (around : Option ℕ) (a : BasicValue) (at : ℕ) (rest : List ℕ) → IsLegal a →
    read_basic o around (kind_of a) at (basic_spelling o at a ++ rest) ≡ Ok (a, (at + length (basic_spelling o at a), rest))
unfolding read_basic
basic_spelled o around a at rest h =
    let body : List ℕ = basic_bytes o a in
    let b : Basic = kind_of a in
    let pad : ℕ = pad_size at (alignment b) in
    let place : at + pad + length body ≡ at + length (basic_spelling o at a) =
    let l : length (basic_spelling o at a) ≡ length (padding at (alignment b)) + length body = length-append (padding at (alignment b)) body in
    let p : length (padding at (alignment b)) ≡ pad = length-replicate _ _ in omega arith in
    ap (λ (x : List ℕ). padded around (alignment b) (read_body o around b) at x) (append_assoc (padding at (alignment b)) body rest)
    ∙ padded_spelled around (alignment b) at (body ++ rest) (read_body o around b)
    ∙ and_then_ok (body_size o around b (at + pad) (body ++ rest)) (length body) (λ n. and_then (decoded o b (at + pad) (take n (body ++ rest))) (λ a. Ok (a, (at + pad + n, drop n (body ++ rest))))) (body_spelled o around a (at + pad) rest h)
    ∙ ap (λ (x : List ℕ). and_then (decoded o b (at + pad) x) (λ a. Ok (a, (at + pad + length body, drop (length body) (body ++ rest))))) (take-append_seam body rest)
    ∙ and_then_ok (decoded o b (at + pad) body) a (λ a. Ok (a, (at + pad + length body, drop (length body) (body ++ rest)))) (decoded_spelled o a (at + pad) h)
    ∙ ap (λ (x : List ℕ). Ok (a, (at + pad + length body, x))) (drop-append_seam body rest) ∙ ap (λ (n : ℕ). Ok (a, (n, rest))) place
