-- Messages that can be written.
use Rattle.std.proofs.Common.{◌≡◌, ℕ, ◌+◌, ◌^◌, ◌<◌, ◌≤◌, List, [], ◌∷◌, ◌++◌, length, length-append, refl, sym, subst, arith}
use Rattle.std.proofs.lemmas.List.{length-replicate}
use Rattle.bus_names.specs.Signatures.{IsWithin}
use Rattle.bus_value.specs.declared.basic_value.BasicValue.TheVariants.{Str, Path, U32, Sig}
use Rattle.bus_value.specs.declared.order.Order.{Order}
use Rattle.bus_value.specs.declared.order.Order.TheVariants.{Little}
use Rattle.bus_value.specs.Numbers.{number_bytes}
use Rattle.bus_value.specs.Lengths.{value_end, values_end}
use Rattle.bus_value.specs.Limits.{AllFit, Fits}
use Rattle.bus_value.specs.Spelling.{padding, pad_size, spelling, spellings}
use Rattle.bus_value.specs.Values.{Val, shapes, vals}
use Rattle.bus_value.proofs.LengthLaws.{spelled_length}
use Rattle.bus_value.proofs.NumberLaws.{width_4}
use Rattle.bus_message.specs.declared.message.Message.{Message}
use Rattle.bus_message.specs.Spelling.{body_bytes, body_offset, body_types, field, field_if, fields_of, list_bytes, list_of, message_bytes, opening}
use Rattle.bus_message.specs.Headers.{most_written}
use Rattle.bus_message.specs.Fields.{has_required}
use Rattle.wire_out.specs.Messages.{error_message, return_message, sender, signal_message, text}
use Rattle.wire_out.specs.inner.Parts.{IsBody, IsWritable, most_body, most_fields}

-- fields in a row are within the limits, and so many bytes long at most
pub record AreFields (most : ℕ) (fs : List Val) : Type 0 where
  pub fits : (at : ℕ) → AllFit Little at (vals fs)
  pub short : (at : ℕ) → values_end at (vals fs) ≤ at + most

no_fields : AreFields 0 []
no_fields = record { fits = λ at. tt; short = λ at. omega arith }

one_more : (n m : ℕ) (f : Val) (fs : List Val) → ((at : ℕ) → Fits Little at f) → ((at : ℕ) → value_end at f ≤ at + n) → AreFields m fs → AreFields (n + m) (f ∷ fs)
one_more n m f fs fit short h = record {
  fits = λ at. (fit at, h.fits (at + length (spelling Little at f)));
  short = λ at. let a = short at in let b = h.short (value_end at f) in omega (arith, a, b);
}

-- ---- the fields of messages

text_field : (k m : ℕ) (t : List ℕ) (fs : List Val) → length t < 2 ^ 32 → AreFields m fs → AreFields (length t + 24 + m) (field k (Str t) ∷ fs)
text_field k m t fs small h =
    one_more (length t + 24) m (field k (Str t)) fs
    (λ at. (omega arith, ((record { nested = record { in_arrays = omega arith; in_structs = omega arith }; short = omega arith }, small), tt)))
    (λ at. omega arith) h

path_field : (k m : ℕ) (t : List ℕ) (fs : List Val) → length t < 2 ^ 32 → AreFields m fs → AreFields (length t + 24 + m) (field k (Path t) ∷ fs)
path_field k m t fs small h =
    one_more (length t + 24) m (field k (Path t)) fs
    (λ at. (omega arith, ((record { nested = record { in_arrays = omega arith; in_structs = omega arith }; short = omega arith }, small), tt)))
    (λ at. omega arith) h

number_field : (k m n : ℕ) (fs : List Val) → AreFields m fs → AreFields (24 + m) (field k (U32 n) ∷ fs)
number_field k m n fs h =
    one_more 24 m (field k (U32 n)) fs
    (λ at. (omega arith, ((record { nested = record { in_arrays = omega arith; in_structs = omega arith }; short = omega arith }, omega arith), tt)))
    (λ at. omega arith) h

-- the signature of a body, where there is one
signature_field : (vs : List Val) → IsWithin (shapes (vals vs)) → AreFields 300 (field_if 8 (body_types vs))
signature_field [] w = record { fits = λ at. tt; short = λ at. omega arith }
signature_field (v ∷ vs) w =
    one_more 300 0 (field 8 (Sig (shapes (vals (v ∷ vs))))) []
    (λ at. (omega arith, ((record { nested = record { in_arrays = omega arith; in_structs = omega arith }; short = omega arith }, omega arith), tt)))
    (λ at. let l = w.short in omega (arith, l)) no_fields

-- the array of the fields
list_fits : (m : ℕ) (fs : List Val) → AreFields m fs → m ≤ 4000 → AllFit Little 12 (vals (list_of fs)) × (values_end 12 (vals (list_of fs)) ≤ most_fields)
list_fits m fs h small =
    let e = spelled_length Little 16 fs (spellings Little 16 (vals fs)) refl in
    let s = h.short 16 in
    (((omega (arith, e, s, small), h.fits 16), tt), omega (arith, s, small))

sender_field : (fs : List Val) (m : ℕ) → AreFields m fs → AreFields (28 + m) (field 7 (Str sender) ∷ fs)
sender_field fs m h = text_field 7 m sender fs (omega arith) h

pub return_writable : (call : ℕ) (vs : List Val) → IsBody most_body vs → IsWritable (return_message call vs)
unfolding fields_of has_required
return_writable call vs b =
    let f = number_field 5 328 call _ (sender_field _ 300 (signature_field vs b.types)) in
    let l = list_fits 352 _ f (omega arith) in
    record { little = refl; kind = omega arith; required = refl; fields = l.0; fields_short = l.1; body = b }

pub error_writable : (call : ℕ) (name reason : List ℕ) → length name ≤ 255 → IsBody most_body (text reason ∷ []) → IsWritable (error_message call name reason)
unfolding fields_of has_required
error_writable call name reason short b =
    let f = text_field 4 352 name _ (omega (arith, short)) (number_field 5 328 call _ (sender_field _ 300 (signature_field (text reason ∷ []) b.types))) in
    let l = list_fits (length name + 24 + 352) _ f (omega (arith, short)) in
    record { little = refl; kind = omega arith; required = refl; fields = l.0; fields_short = l.1; body = b }

pub signal_writable : (object interface member : List ℕ) (vs : List Val) → length object ≤ 1024 → length interface ≤ 255 → length member ≤ 255 → IsBody most_body vs
    → IsWritable (signal_message object interface member vs)
unfolding fields_of has_required
signal_writable object interface member vs short_path short_interface short_member b =
    let last = sender_field _ 300 (signature_field vs b.types) in
    let behind = text_field 3 328 member _ (omega (arith, short_member)) last in
    let more = text_field 2 (length member + 24 + 328) interface _ (omega (arith, short_interface)) behind in
    let f = path_field 1 (length interface + 24 + (length member + 24 + 328)) object _ (omega (arith, short_path)) more in
    let l = list_fits (length object + 24 + (length interface + 24 + (length member + 24 + 328))) _ f (omega (arith, short_path, short_interface, short_member)) in
    record { little = refl; kind = omega arith; required = refl; fields = l.0; fields_short = l.1; body = b }

-- a message can be written with any serial
pub with_serial : (m : Message) (n : ℕ) → IsWritable m → IsWritable (record m { serial = n })
unfolding fields_of has_required
with_serial m n h = record { little = h.little; kind = h.kind; required = h.required; fields = h.fields; fields_short = h.fields_short; body = h.body }

-- ---- what a writer asks for

pub fields_limits : (m : Message) → IsWritable m → AllFit m.order 12 (vals (list_of (fields_of m)))
fields_limits m h = subst (λ (o : Order). AllFit o 12 (vals (list_of (fields_of m)))) (sym h.little) h.fields

pub size_within : (m : Message) → IsWritable m → length (message_bytes m) ≤ most_written
unfolding message_bytes
size_within m h =
    let fs : List Val = fields_of m in
    let list : List ℕ = list_bytes m.order fs in
    let body : List ℕ = body_bytes m fs in
    let a = spelled_length m.order 12 (list_of fs) list refl in
    let b = spelled_length m.order (body_offset m) m.body body refl in
    let s = h.body.short (body_offset m) in
    let f = h.fields_short in
    let p : length (padding (12 + length list) 8) ≡ pad_size (12 + length list) 8 = length-replicate _ _ in
    let w : length (number_bytes m.order 4 (length body)) ≡ 4 = width_4 m.order (length body) in
    let x : length (number_bytes m.order 4 m.serial) ≡ 4 = width_4 m.order m.serial in
    let l0 = length-append (number_bytes m.order 4 (length body)) (number_bytes m.order 4 m.serial) in
    let l1 = length-append (opening m (length body)) (list ++ (padding (12 + length list) 8 ++ body)) in
    let l2 = length-append list (padding (12 + length list) 8 ++ body) in
    let l3 = length-append (padding (12 + length list) 8) body in
    omega (arith, a, b, s, f, p, w, x, l0, l1, l2, l3)
