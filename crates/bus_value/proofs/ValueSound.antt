-- Bytes that are read as values are their spelling.
use Rattle.std.proofs.Common.{◌≡◌, ℕ, zero, suc, ◌+◌, ◌-◌, ◌<◌, ◌≤◌, ◌^◌, List, [], ◌∷◌, ◌++◌, length, length-append, length-take, length-drop, drop, drop-drop, take, refl, ap, sym, ◌∙◌, subst, Option, Some, None, Result, Ok, Err, cond, ltb, leb, Bool, true, false, ◌&&◌, ◌||◌, arith, append_assoc, append-nil, get_or}
use Rattle.std.specs.Prelude.{is_some}
use Rattle.std.proofs.lemmas.Bool.Decides.{nat_tests}
use Rattle.std.proofs.lemmas.List.{length-replicate, take-append-drop, get_or-append-add}
use Rattle.bus_names.specs.declared.basic.Basic.{Basic}
use Rattle.bus_names.specs.declared.basic.Basic.TheVariants as kinds
use Rattle.bus_names.specs.Types.{Shape, Shapes, struct_of, fields_of, listed}
use Rattle.bus_names.specs.Types as types
use Rattle.bus_names.specs.Signatures.{IsWithin}
use Rattle.bus_value.specs.declared.basic_value.BasicValue.{BasicValue}
use Rattle.bus_value.specs.declared.fault.ValueFault.{ValueFault}
use Rattle.bus_value.specs.declared.fault.ValueFault.TheVariants.{BadLength, BadVariant}
use Rattle.bus_value.specs.declared.order.Order.{Order}
use Rattle.bus_value.specs.BasicValues.{kind_of}
use Rattle.bus_value.specs.Values.{Val, basic, array, struct, dict, variant, shape, shapes, vals, entries}
use Rattle.bus_value.specs.Numbers.{number_bytes, number}
use Rattle.bus_value.specs.Spelling.{pad_size, padding, signature_bytes, basic_spelling, first_element, array_bytes, next_boundary, value_at, pair_bytes, spelling, spellings, entry_spellings}
use Rattle.bus_value.specs.Alignment.{boundary}
use Rattle.bus_value.specs.BasicReading.{body_size, types_in}
use Rattle.bus_value.specs.Reading.{Reading, Answer, made, padded, read_basic, read_variant, read_array, read_elements, read_pair, element_bytes, read, read_entry, all_of, to_end, in_turn, variant_type, levels, ended, read_all}
use Rattle.bus_value.specs.Nesting.{nesting}
use Rattle.bus_value.proofs.Typing.{IsLegal, HasType, AllHave, EachHas, EntriesHave}
use Rattle.bus_value.proofs.Typing.{IsComputed}
use Rattle.bus_value.specs.Faults.{reported, cut_off, and_then, zeros}
use Rattle.bus_value.proofs.NumberSound.{AreBytes, back_4, same_front}
use Rattle.bus_value.proofs.NumberLaws.{width_4}
use Rattle.bus_value.proofs.Rounds.{all_of-end, all_of-cons, in_turn-end, in_turn-cons}
use Rattle.bus_value.proofs.ValueSpelled.{spelling_some, pair_some, types_read}
use Rattle.bus_value.proofs.BasicSound.{ok_same, and_then_ends, made_ends, padded_sound, whole_sound, front_sized, front_zero, types_sound, bytes_take, bytes_drop, BasicFound, basic_sound}

-- what a value is read from
pub record Found (o : Order) (d at : ℕ) (t : Shape) (bytes : List ℕ) (v : Val) (at2 : ℕ) (rest : List ℕ) : Type 0 where
  pub typed : HasType o d at t v
  pub same : bytes ≡ spelling o at v ++ rest
  pub behind : at2 ≡ at + length (spelling o at v)

-- a reading finds values in their spelling alone
abbrev pub IsSound : Order → ℕ → Shape → Reading Val → Type 0
IsSound o d t f = (at : ℕ) (bytes : List ℕ) (v : Val) (at2 : ℕ) (rest : List ℕ) → AreBytes bytes → f at bytes ≡ Ok (v, (at2, rest)) → Found o d at t bytes v at2 rest

pub has_shape : (v : Val) (o : Order) (d at : ℕ) (t : Shape) → HasType o d at t v → t ≡ shape v
has_shape (basic a) o d at t h = h.0
has_shape (array u vs) o d at t h = h.0
has_shape (struct vs) o d at t h = h.0
has_shape (dict b u es) o d at t h = h.0
has_shape (variant v) o d at t h = h.0

pub bytes_behind : (xs ys bytes : List ℕ) → bytes ≡ xs ++ ys → AreBytes bytes → AreBytes ys
bytes_behind xs ys bytes e h i = subst (λ (m : ℕ). m < 256) (ap (λ (zs : List ℕ). get_or zs (length xs + i) 0) e ∙ get_or-append-add xs ys i 0) (h (length xs + i))

all_sound : (f : Reading Val) (o : Order) (d : ℕ) (t : Shape) → IsSound o d t f → (most at : ℕ) (bytes : List ℕ) (xs : List Val) → length bytes ≤ most → AreBytes bytes → all_of most f at bytes ≡ Ok xs →
    AllHave o d at t (vals xs) × (bytes ≡ spellings o at (vals xs))
all_sound f o d t s most at [] xs few h e =
    let none_left : [] ≡ xs = ok_same [] xs (sym (all_of-end most f at) ∙ e) in subst (λ (ys : List Val). AllHave o d at t (vals ys) × ([] ≡ spellings o at (vals ys))) none_left (tt, refl)
all_sound f o d t s zero at (b ∷ bs) xs few h e = absurd (omega arith)
all_sound f o d t s (suc most) at (b ∷ bs) xs few h e =
    let q = and_then_ends (f at (b ∷ bs)) (λ r. and_then (all_of most f r.1.0 r.1.1) (λ xs. Ok (r.0 ∷ xs))) xs (sym (all_of-cons most f at b bs) ∙ e) in
    let v : Val = q.0.0 in
    let at2 : ℕ = q.0.1.0 in
    let rest : List ℕ = q.0.1.1 in
    let r = and_then_ends (all_of most f at2 rest) (λ xs. Ok (v ∷ xs)) xs q.1.1 in
    let found : Found o d at t (b ∷ bs) v at2 rest = s at (b ∷ bs) v at2 rest h q.1.0 in
    let some = spelling_some v o d at t found.typed in
    let l : length (b ∷ bs) ≡ length (spelling o at v) + length rest = ap length found.same ∙ length-append (spelling o at v) rest in
    let others = all_sound f o d t s most at2 rest r.0 (omega (arith, some, l, few)) (bytes_behind (spelling o at v) rest (b ∷ bs) found.same h) r.1.0 in
    let here = subst (λ (n : ℕ). AllHave o d n t (vals r.0) × (rest ≡ spellings o n (vals r.0))) found.behind others in
    subst (λ (ys : List Val). AllHave o d at t (vals ys) × (b ∷ bs ≡ spellings o at (vals ys))) (ok_same (v ∷ r.0) xs r.1.1)
    ((found.typed, here.0), found.same ∙ ap (λ (x : List ℕ). spelling o at v ++ x) here.1)

-- what values of several types are read from
record EachFound (o : Order) (d at : ℕ) (ts : List Shape) (bytes : List ℕ) (vs : List Val) (at2 : ℕ) (rest : List ℕ) : Type 0 where
  types : shapes (vals vs) ≡ ts
  typed : EachHas o d at (vals vs)
  same : bytes ≡ spellings o at (vals vs) ++ rest
  behind : at2 ≡ at + length (spellings o at (vals vs))

each_sound : (f : Shape → Reading Val) (o : Order) (d : ℕ) → ((t : Shape) → IsSound o d t (f t)) → (ts : List Shape) (at : ℕ) (bytes : List ℕ) (vs : List Val) (at2 : ℕ) (rest : List ℕ) → AreBytes bytes →
    in_turn f ts at bytes ≡ Ok (vs, (at2, rest)) → EachFound o d at ts bytes vs at2 rest
each_sound f o d s [] at bytes vs at2 rest h e =
    let same : ([], (at, bytes)) ≡ (vs, (at2, rest)) = ok_same _ _ (sym (in_turn-end f at bytes) ∙ e) in
    let place : at2 ≡ at + 0 = let k : at ≡ at2 = ap (λ p. p.1.0) same in omega (arith, k) in
    subst (λ (us : List Val). EachFound o d at [] bytes us at2 rest) (ap (λ p. p.0) same) (record { types = refl; typed = tt; same = ap (λ p. p.1.1) same; behind = place })
each_sound f o d s (t ∷ ts) at bytes vs at2 rest h e =
    let q = and_then_ends (f t at bytes) (λ r. made (λ vs. r.0 ∷ vs) (in_turn f ts r.1.0 r.1.1)) (vs, (at2, rest)) (sym (in_turn-cons f t ts at bytes) ∙ e) in
    let v : Val = q.0.0 in
    let mid : ℕ = q.0.1.0 in
    let left : List ℕ = q.0.1.1 in
    let r = made_ends (λ vs. v ∷ vs) (in_turn f ts mid left) vs at2 rest q.1.1 in
    let one : Found o d at t bytes v mid left = s t at bytes v mid left h q.1.0 in
    let others = each_sound f o d s ts mid left r.0 at2 rest (bytes_behind (spelling o at v) left bytes one.same h) r.1.0 in
    let here : EachFound o d (at + length (spelling o at v)) ts left r.0 at2 rest = subst (λ (n : ℕ). EachFound o d n ts left r.0 at2 rest) one.behind others in
    let kind : t ≡ shape v = has_shape v o d at t one.typed in
    let more_bytes : List ℕ = spellings o (at + length (spelling o at v)) (vals r.0) in
    let l : length (spelling o at v ++ more_bytes) ≡ length (spelling o at v) + length more_bytes = length-append (spelling o at v) more_bytes in
    subst (λ (us : List Val). EachFound o d at (t ∷ ts) bytes us at2 rest) r.1.1 (record {
      types = ap (λ (u : Shape). u ∷ shapes (vals r.0)) (sym kind) ∙ ap (λ (us : List Shape). t ∷ us) here.types;
      typed = (subst (λ (u : Shape). HasType o d at u v) kind one.typed, here.typed);
      same = one.same ∙ ap (λ (x : List ℕ). spelling o at v ++ x) here.same ∙ sym (append_assoc (spelling o at v) more_bytes rest);
      behind = let k = here.behind in omega (arith, k, l);
    })

-- an array's length
record IsSized (o : Order) (at align : ℕ) (bytes : List ℕ) (n : ℕ) : Type 0 where
  count : number o 4 bytes ≡ n
  limit : n ≤ 2 ^ 26
  room : 4 + pad_size (at + 4) align + n ≤ length bytes
  zero_front : zeros (at + 4) (take (pad_size (at + 4) align) (drop 4 bytes)) ≡ Ok tt

elements_sized : (o : Order) (around : Option ℕ) (align at : ℕ) (bytes : List ℕ) (n : ℕ) → element_bytes o around align at bytes ≡ Ok n → IsSized o at align bytes n
unfolding element_bytes
elements_sized o around align at bytes n e =
    by (ltb (length bytes) 4 || (is_some around && ltb (length bytes) (4 + pad_size (at + 4) align + number o 4 bytes))) (ltb (2 ^ 26) (number o 4 bytes)) (ltb (length bytes) (4 + pad_size (at + 4) align + number o 4 bytes)) refl refl e
  where
    by : (a b c : Bool) → ltb (2 ^ 26) (number o 4 bytes) ≡ b → ltb (length bytes) (4 + pad_size (at + 4) align + number o 4 bytes) ≡ c →
        cond a (Err (cut_off around at)) (cond b (Err (BadLength (reported at))) (cond c (Err (cut_off around at)) (and_then (zeros (at + 4) (take (pad_size (at + 4) align) (drop 4 bytes))) (λ u. Ok (number o 4 bytes))))) ≡ Ok n →
        IsSized o at align bytes n
    by true b c limit room e = cc
    by false true c limit room e = cc
    by false false true limit room e = cc
    by false false false limit room e =
        let q = and_then_ends (zeros (at + 4) (take (pad_size (at + 4) align) (drop 4 bytes))) (λ u. Ok (number o 4 bytes)) n e in
        let same : number o 4 bytes ≡ n = ok_same _ _ q.1.1 in
        let small : number o 4 bytes ≤ 2 ^ 26 = grind (arith, nat_tests) in
        let there : 4 + pad_size (at + 4) align + number o 4 bytes ≤ length bytes = grind (arith, nat_tests) in
        record { count = same; limit = omega (arith, small, same); room = omega (arith, there, same); zero_front = q.1.0 }

-- what an array is read from: the bytes of its elements alone
record ArrayFound {A : Type 0} (o : Order) (align at : ℕ) (f : Option ℕ → ℕ → List ℕ → Result (List A) ValueFault) (bytes : List ℕ) (xs : List A) (at2 : ℕ) (rest : List ℕ) : Type 0 where
  inner : Option ℕ
  elements : List ℕ
  reading : f inner (first_element at align) elements ≡ Ok xs
  limit : length elements ≤ 2 ^ 26
  are_bytes : AreBytes elements
  same : bytes ≡ array_bytes o at align elements ++ rest
  behind : at2 ≡ at + length (array_bytes o at align elements)

array_sound : {A : Type 0} (o : Order) (around : Option ℕ) (align at : ℕ) (f : Option ℕ → ℕ → List ℕ → Result (List A) ValueFault) (bytes : List ℕ) (xs : List A) (at2 : ℕ) (rest : List ℕ) → AreBytes bytes →
    read_array o around align f at bytes ≡ Ok (xs, (at2, rest)) → ArrayFound o align at f bytes xs at2 rest
unfolding read_array
array_sound {A = A} o around align at f bytes xs at2 rest h e =
    let p = padded_sound around 4 at bytes (read_elements o around align f) (xs, (at2, rest)) e in
    let place : ℕ = at + pad_size at 4 in
    let left : List ℕ = drop (pad_size at 4) bytes in
    let pad : ℕ = pad_size (place + 4) align in
    let front : ℕ = 4 + pad in
    let inner : Option ℕ = Some (reported place) in
    let q = and_then_ends (element_bytes o around align place left) (λ n. and_then (f inner (place + front) (take n (drop front left))) (λ xs. Ok (xs, (place + front + n, drop (front + n) left)))) (xs, (at2, rest)) p.1 in
    let n : ℕ = q.0 in
    let elements : List ℕ = take n (drop front left) in
    let r = and_then_ends (f inner (place + front) elements) (λ xs. Ok (xs, (place + front + n, drop (front + n) left))) (xs, (at2, rest)) q.1.1 in
    let same : (r.0, (place + front + n, drop (front + n) left)) ≡ (xs, (at2, rest)) = ok_same _ _ r.1.1 in
    let z = elements_sized o around align place left n q.1.0 in
    let b = bytes_drop (pad_size at 4) bytes h in
    let room : front + n ≤ length left = z.room in
    let l4 : length (take 4 left) ≡ 4 = length-take 4 left ∙ (omega (arith, room)) in
    let lf : length (drop front left) ≡ length left - front = length-drop front left in
    let ln : length elements ≡ n = length-take n (drop front left) ∙ (omega (arith, room, lf)) in
    let ld : length (drop 4 left) ≡ length left - 4 = length-drop 4 left in
    let count : number o 4 (take 4 left) ≡ n = sym (same_front o (take 4 left) (drop 4 left) (omega (arith, l4))) ∙ ap (λ (x : List ℕ). number o 4 x) (take-append-drop 4 left) ∙ z.count in
    let first4 : take 4 left ≡ number_bytes o 4 (length elements) = sym (back_4 o (take 4 left) l4 (bytes_take 4 left b)) ∙ ap (λ (m : ℕ). number_bytes o 4 m) (count ∙ sym ln) in
    let zero_pad : drop 4 left ≡ padding (place + 4) align ++ drop front left =
    front_zero (place + 4) pad (drop 4 left) (omega (arith, room, ld)) z.zero_front ∙ ap (λ (x : List ℕ). padding (place + 4) align ++ x) (drop-drop pad 4 left) in
    let body : drop front left ≡ elements ++ rest =
    sym (take-append-drop n (drop front left)) ∙ ap (λ (x : List ℕ). elements ++ x) (drop-drop n front left ∙ ap (λ p. p.1.1) same) in
    let num : List ℕ = number_bytes o 4 (length elements) in
    let pads : List ℕ = padding (place + 4) align in
    let whole : left ≡ num ++ (pads ++ (elements ++ rest)) =
    sym (take-append-drop 4 left) ∙ ap (λ (x : List ℕ). x ++ drop 4 left) first4 ∙ ap (λ (x : List ℕ). num ++ x) (zero_pad ∙ ap (λ (x : List ℕ). pads ++ x) body) in
    let joined : array_bytes o at align elements ++ rest ≡ padding at 4 ++ (num ++ (pads ++ (elements ++ rest))) =
    append_assoc (padding at 4) (num ++ (pads ++ elements)) rest ∙ ap (λ (x : List ℕ). padding at 4 ++ x) (append_assoc num (pads ++ elements) rest ∙ ap (λ (x : List ℕ). num ++ x) (append_assoc pads elements rest)) in
    let w : length num ≡ 4 = width_4 o (length elements) in
    let lp : length pads ≡ pad = length-replicate _ _ in
    let lq : length (padding at 4) ≡ pad_size at 4 = length-replicate _ _ in
    let l1 : length (array_bytes o at align elements) ≡ length (padding at 4) + length (num ++ (pads ++ elements)) = length-append (padding at 4) (num ++ (pads ++ elements)) in
    let l2 : length (num ++ (pads ++ elements)) ≡ length num + length (pads ++ elements) = length-append num (pads ++ elements) in
    let l3 : length (pads ++ elements) ≡ length pads + length elements = length-append pads elements in
    let first : place + front ≡ first_element at align = omega arith in
    let there : place + front + n ≡ at2 = ap (λ p. p.1.0) same in
    record {
      inner = inner;
      elements = elements;
      reading = ap (λ (m : ℕ). f inner m elements) (sym first) ∙ r.1.0 ∙ ap (λ p. Ok (p.0)) same;
      limit = let k = z.limit in omega (arith, k, ln);
      are_bytes = bytes_take n (drop front left) (bytes_drop front left b);
      same = p.0 ∙ ap (λ (x : List ℕ). padding at 4 ++ x) whole ∙ sym joined;
      behind = omega (arith, there, w, lp, lq, l1, l2, l3, ln);
    }

pub one_type : (d at : ℕ) (ts : List Shape) (t : Shape) → variant_type d at ts ≡ Ok t → (ts ≡ t ∷ []) × (d + 1 + nesting t ≤ 64)
one_type d at [] t e = cc
one_type d at (u ∷ []) t e = by (leb (d + 1 + nesting u) 64) refl e
  where
    by : (c : Bool) → leb (d + 1 + nesting u) 64 ≡ c → cond c (Ok u) (Err (BadVariant (reported at))) ≡ Ok t → (u ∷ [] ≡ t ∷ []) × (d + 1 + nesting t ≤ 64)
    by true c e =
        let same : u ≡ t = ok_same u t e in
        let deep : d + 1 + nesting u ≤ 64 = grind (arith, nat_tests) in (ap (λ (v : Shape). v ∷ []) same, subst (λ (v : Shape). d + 1 + nesting v ≤ 64) same deep)
    by false c e = cc
one_type d at (u ∷ w ∷ ts) t e = cc

variant_sound : (o : Order) (around : Option ℕ) (d at : ℕ) (f : Shape → Reading Val) (bytes : List ℕ) (v : Val) (at2 : ℕ) (rest : List ℕ) → ((t : Shape) → IsSound o (d + 1) t (f t)) → AreBytes bytes →
    read_variant o around d f at bytes ≡ Ok (v, (at2, rest)) → Found o d at types.variant bytes v at2 rest
unfolding read_variant
variant_sound o around d at f bytes v at2 rest s h e =
    let q = and_then_ends (body_size o around kinds.Sig at bytes) (λ n. and_then (types_in at (take n bytes)) (λ ts. and_then (variant_type d at ts) (λ t. made variant (f t (at + n) (drop n bytes))))) (v, (at2, rest)) e in
    let n : ℕ = q.0 in
    let r = and_then_ends (types_in at (take n bytes)) (λ ts. and_then (variant_type d at ts) (λ t. made variant (f t (at + n) (drop n bytes)))) (v, (at2, rest)) q.1.1 in
    let ts : List Shape = r.0 in
    let u = and_then_ends (variant_type d at ts) (λ t. made variant (f t (at + n) (drop n bytes))) (v, (at2, rest)) r.1.1 in
    let t : Shape = u.0 in
    let w = made_ends variant (f t (at + n) (drop n bytes)) v at2 rest u.1.1 in
    let inner : Val = w.0 in
    let found : Found o (d + 1) (at + n) t (drop n bytes) inner at2 rest = s t (at + n) (drop n bytes) inner at2 rest (bytes_drop n bytes h) w.1.0 in
    let kind : t ≡ shape inner = has_shape inner o (d + 1) (at + n) t found.typed in
    let size = whole_sound o around kinds.Sig at bytes n q.1.0 in
    let z = front_sized o kinds.Sig bytes n size.0 size.1 in
    let sig = types_sound at (take n bytes) ts z.0 r.1.0 in
    let one = one_type d at ts t u.1.0 in
    let types_are : ts ≡ shape inner ∷ [] = one.0 ∙ ap (λ (x : Shape). x ∷ []) kind in
    let letters : List ℕ = signature_bytes (shape inner ∷ []) in
    let front : take n bytes ≡ letters = sig.0 ∙ ap (λ (x : List Shape). signature_bytes x) types_are in
    let long : n ≡ length letters = sym z.1 ∙ ap length front in
    let body : List ℕ = spelling o (at + length letters) inner in
    let there : at + n ≡ at + length letters = ap (λ (m : ℕ). at + m) long in
    let after : drop n bytes ≡ body ++ rest = found.same ∙ ap (λ (m : ℕ). spelling o m inner ++ rest) there in
    let l : length (letters ++ body) ≡ length letters + length body = length-append letters body in
    let last : at2 ≡ at + length letters + length body = found.behind ∙ ap (λ (m : ℕ). m + length (spelling o m inner)) there in
    subst (λ (x : Val). Found o d at types.variant bytes x at2 rest) w.1.1 (record {
      typed = (
        refl,
        (
          subst (λ (x : Shape). d + 1 + nesting x ≤ 64) kind one.1,
          (
            subst (λ (x : List Shape). IsWithin x) types_are sig.1,
            subst (λ (x : Shape). HasType o (d + 1) (at + length letters) x inner) kind (subst (λ (m : ℕ). HasType o (d + 1) m t inner) there found.typed),
          ),
        ),
      );
      same = sym (take-append-drop n bytes) ∙ ap (λ (x : List ℕ). x ++ drop n bytes) front ∙ ap (λ (x : List ℕ). letters ++ x) after ∙ sym (append_assoc letters body rest);
      behind = omega (arith, last, l);
    })

-- what a dict entry is read from
pub record PairFound (o : Order) (d at : ℕ) (b : Basic) (t : Shape) (bytes : List ℕ) (a : BasicValue) (v : Val) (at2 : ℕ) (rest : List ℕ) : Type 0 where
  pub kind : b ≡ kind_of a
  pub legal : IsLegal a
  pub typed : HasType o d (value_at o at a) t v
  pub same : bytes ≡ pair_bytes o at a (spelling o (value_at o at a) v) ++ rest
  pub behind : at2 ≡ at + length (pair_bytes o at a (spelling o (value_at o at a) v))

pair_sound : (o : Order) (around : Option ℕ) (d : ℕ) (b : Basic) (t : Shape) (f : Reading Val) → IsSound o d t f → (at : ℕ) (bytes : List ℕ) (p : BasicValue × Val) (at2 : ℕ) (rest : List ℕ) → AreBytes bytes →
    read_pair o around b f at bytes ≡ Ok (p, (at2, rest)) → PairFound o d at b t bytes p.0 p.1 at2 rest
unfolding read_pair
pair_sound o around d b t f s at bytes p at2 rest h e =
    let g : Reading (BasicValue × Val) = λ at bytes. and_then (read_basic o around b at bytes) (λ k. made (λ v. (k.0, v)) (f k.1.0 k.1.1)) in
    let z = padded_sound around 8 at bytes g (p, (at2, rest)) e in
    let left : List ℕ = drop (pad_size at 8) bytes in
    let q = and_then_ends (read_basic o around b (next_boundary at) left) (λ k. made (λ v. (k.0, v)) (f k.1.0 k.1.1)) (p, (at2, rest)) z.1 in
    let a : BasicValue = q.0.0 in
    let mid : ℕ = q.0.1.0 in
    let behind_key : List ℕ = q.0.1.1 in
    let k : BasicFound o b (next_boundary at) left a mid behind_key = basic_sound o around b (next_boundary at) left a mid behind_key (bytes_drop (pad_size at 8) bytes h) q.1.0 in
    let w = made_ends (λ v. (a, v)) (f mid behind_key) p at2 rest q.1.1 in
    let v : Val = w.0 in
    let key : List ℕ = basic_spelling o (next_boundary at) a in
    let found : Found o d mid t behind_key v at2 rest = s mid behind_key v at2 rest (bytes_behind key behind_key left k.same (bytes_drop (pad_size at 8) bytes h)) w.1.0 in
    let here : Found o d (value_at o at a) t behind_key v at2 rest = subst (λ (m : ℕ). Found o d m t behind_key v at2 rest) k.behind found in
    let inner : List ℕ = spelling o (value_at o at a) v in
    let l0 : length (padding at 8) ≡ pad_size at 8 = length-replicate _ _ in
    let l1 : length (padding at 8 ++ (key ++ inner)) ≡ length (padding at 8) + length (key ++ inner) = length-append (padding at 8) (key ++ inner) in
    let l2 : length (key ++ inner) ≡ length key + length inner = length-append key inner in
    subst (λ (x : BasicValue × Val). PairFound o d at b t bytes x.0 x.1 at2 rest) w.1.1 (record {
      kind = k.kind;
      legal = k.legal;
      typed = here.typed;
      same = z.0 ∙ ap (λ (x : List ℕ). padding at 8 ++ x) (k.same ∙ ap (λ (x : List ℕ). key ++ x) here.same ∙ sym (append_assoc key inner rest)) ∙ sym (append_assoc (padding at 8) (key ++ inner) rest);
      behind = let m = here.behind in omega (arith, m, l0, l1, l2);
    })

entries_sound : (f : Reading (BasicValue × Val)) (o : Order) (d : ℕ) (b : Basic) (t : Shape) →
    ((at : ℕ) (bytes : List ℕ) (p : BasicValue × Val) (at2 : ℕ) (rest : List ℕ) → AreBytes bytes → f at bytes ≡ Ok (p, (at2, rest)) → PairFound o d at b t bytes p.0 p.1 at2 rest) →
    (most at : ℕ) (bytes : List ℕ) (xs : List (BasicValue × Val)) → length bytes ≤ most → AreBytes bytes → all_of most f at bytes ≡ Ok xs → EntriesHave o d at b t (entries xs) × (bytes ≡ entry_spellings o at (entries xs))
entries_sound f o d b t s most at [] xs few h e =
    let none_left : [] ≡ xs = ok_same [] xs (sym (all_of-end most f at) ∙ e) in subst (λ (ys : List (BasicValue × Val)). EntriesHave o d at b t (entries ys) × ([] ≡ entry_spellings o at (entries ys))) none_left (tt, refl)
entries_sound f o d b t s zero at (c ∷ bs) xs few h e = absurd (omega arith)
entries_sound f o d b t s (suc most) at (c ∷ bs) xs few h e =
    let q = and_then_ends (f at (c ∷ bs)) (λ r. and_then (all_of most f r.1.0 r.1.1) (λ xs. Ok (r.0 ∷ xs))) xs (sym (all_of-cons most f at c bs) ∙ e) in
    let p : BasicValue × Val = q.0.0 in
    let at2 : ℕ = q.0.1.0 in
    let rest : List ℕ = q.0.1.1 in
    let r = and_then_ends (all_of most f at2 rest) (λ xs. Ok (p ∷ xs)) xs q.1.1 in
    let found : PairFound o d at b t (c ∷ bs) p.0 p.1 at2 rest = s at (c ∷ bs) p at2 rest h q.1.0 in
    let one : List ℕ = pair_bytes o at p.0 (spelling o (value_at o at p.0) p.1) in
    let some = pair_some o at p.0 (spelling o (value_at o at p.0) p.1) found.legal in
    let l : length (c ∷ bs) ≡ length one + length rest = ap length found.same ∙ length-append one rest in
    let others = entries_sound f o d b t s most at2 rest r.0 (omega (arith, some, l, few)) (bytes_behind one rest (c ∷ bs) found.same h) r.1.0 in
    let here = subst (λ (n : ℕ). EntriesHave o d n b t (entries r.0) × (rest ≡ entry_spellings o n (entries r.0))) found.behind others in
    subst (λ (ys : List (BasicValue × Val)). EntriesHave o d at b t (entries ys) × (c ∷ bs ≡ entry_spellings o at (entries ys))) (ok_same (p ∷ r.0) xs r.1.1)
    (((found.kind, (found.legal, found.typed)), here.0), found.same ∙ ap (λ (x : List ℕ). one ++ x) here.1)

pub fields_again : (ts : Shapes) → fields_of (listed ts) ≡ ts
fields_again types.none = refl
fields_again (types.more t ts) = ap (λ (us : Shapes). types.more t us) (fields_again ts)

no_level : (o : Order) (d : ℕ) (around : Option ℕ) (t : Shape) (at : ℕ) (bytes : List ℕ) (v : Val) (at2 : ℕ) (rest : List ℕ) → read zero o d around t at bytes ≡ Ok (v, (at2, rest)) → ⊥
unfolding read
no_level o d around t at bytes v at2 rest e = cc

no_entry : (o : Order) (d : ℕ) (around : Option ℕ) (b : Basic) (t : Shape) (at : ℕ) (bytes : List ℕ) (p : BasicValue × Val) (at2 : ℕ) (rest : List ℕ) → read_entry zero o d around b t at bytes ≡ Ok (p, (at2, rest)) → ⊥
unfolding read_entry
no_entry o d around b t at bytes p at2 rest e = cc

pub struct_parts : (left : ℕ) (o : Order) (d : ℕ) (around : Option ℕ) (t : Shape) (ts : Shapes) (at : ℕ) (bytes : List ℕ) →
    read (suc left) o d around (types.struct t ts) at bytes ≡ made (λ vs. struct (vals vs)) (padded around 8 (in_turn (read left o (d + 1) around) (t ∷ listed ts)) at bytes)
unfolding read
struct_parts left o d around t ts at bytes = refl

mutual
  pub value_sound : (left : ℕ) (o : Order) (d : ℕ) (around : Option ℕ) (t : Shape) → IsSound o d t (read left o d around t)
  value_sound zero o d around t at bytes v at2 rest h e = absurd (no_level o d around t at bytes v at2 rest e)
  value_sound (suc left) o d around (types.basic b) at bytes v at2 rest h e =
      let w = made_ends basic (read_basic o around b at bytes) v at2 rest (sym ((types_read left o d around at bytes).0 b) ∙ e) in
      let k : BasicFound o b at bytes w.0 at2 rest = basic_sound o around b at bytes w.0 at2 rest h w.1.0 in
      subst (λ (x : Val). Found o d at (types.basic b) bytes x at2 rest) w.1.1 (record { typed = (ap (λ (c : Basic). types.basic c) k.kind, k.legal); same = k.same; behind = k.behind })
  value_sound (suc left) o d around types.variant at bytes v at2 rest h e =
      variant_sound o around d at (read left o (d + 1) around) bytes v at2 rest (λ t. value_sound left o (d + 1) around t) h (sym (types_read left o d around at bytes).1.0 ∙ e)
  value_sound (suc left) o d around (types.array u) at bytes v at2 rest h e =
      let f : Option ℕ → ℕ → List ℕ → Result (List Val) ValueFault = λ inner. to_end (read left o (d + 1) inner u) in
      let w = made_ends (λ vs. array u (vals vs)) (read_array o around (boundary u) f at bytes) v at2 rest (sym ((types_read left o d around at bytes).1.1.0 u) ∙ e) in
      let xs : List Val = w.0 in
      let k = array_sound o around (boundary u) at f bytes xs at2 rest h w.1.0 in
      let all = all_sound (read left o (d + 1) k.inner u) o (d + 1) u (value_sound left o (d + 1) k.inner u) (length k.elements) (first_element at (boundary u)) k.elements xs (omega arith) k.are_bytes k.reading in
      let limit = k.limit in
      subst (λ (x : Val). Found o d at (types.array u) bytes x at2 rest) w.1.1 (record {
        typed = (refl, (subst (λ (x : List ℕ). length x ≤ 2 ^ 26) all.1 k.limit, all.0));
        same = k.same ∙ ap (λ (x : List ℕ). array_bytes o at (boundary u) x ++ rest) all.1;
        behind = k.behind ∙ ap (λ (x : List ℕ). at + length (array_bytes o at (boundary u) x)) all.1;
      })
  value_sound (suc left) o d around (types.dict b u) at bytes v at2 rest h e =
      let f : Option ℕ → ℕ → List ℕ → Result (List (BasicValue × Val)) ValueFault = λ inner. to_end (read_entry left o (d + 1) inner b u) in
      let w = made_ends (λ es. dict b u (entries es)) (read_array o around 8 f at bytes) v at2 rest (sym ((types_read left o d around at bytes).1.1.1.0 b u) ∙ e) in
      let xs : List (BasicValue × Val) = w.0 in
      let k = array_sound o around 8 at f bytes xs at2 rest h w.1.0 in
      let all = entries_sound (read_entry left o (d + 1) k.inner b u) o (d + 2) b u (entry_sound left o d k.inner b u) (length k.elements) (first_element at 8) k.elements xs (omega arith) k.are_bytes k.reading in
      subst (λ (x : Val). Found o d at (types.dict b u) bytes x at2 rest) w.1.1 (record {
        typed = (refl, (subst (λ (x : List ℕ). length x ≤ 2 ^ 26) all.1 k.limit, all.0));
        same = k.same ∙ ap (λ (x : List ℕ). array_bytes o at 8 x ++ rest) all.1;
        behind = k.behind ∙ ap (λ (x : List ℕ). at + length (array_bytes o at 8 x)) all.1;
      })
  value_sound (suc left) o d around (types.struct t ts) at bytes v at2 rest h e =
      let us : List Shape = t ∷ listed ts in
      let g : Reading (List Val) = in_turn (read left o (d + 1) around) us in
      let w = made_ends (λ vs. struct (vals vs)) (padded around 8 g at bytes) v at2 rest (sym (struct_parts left o d around t ts at bytes) ∙ e) in
      let xs : List Val = w.0 in
      let p = padded_sound around 8 at bytes g (xs, (at2, rest)) w.1.0 in
      let first : ℕ = at + pad_size at 8 in
      let k = each_sound (read left o (d + 1) around) o (d + 1) (λ t. value_sound left o (d + 1) around t) us first (drop (pad_size at 8) bytes) xs at2 rest (bytes_drop (pad_size at 8) bytes h) p.1 in
      let whole : types.struct t ts ≡ struct_of (shapes (vals xs)) = ap (λ (r : Shapes). types.struct t r) (sym (fields_again ts)) ∙ ap (λ (r : List Shape). struct_of r) (sym k.types) in
      let some : 0 < length (shapes (vals xs)) = let l = ap length k.types in omega (arith, l) in
      let fields : List ℕ = spellings o first (vals xs) in
      let l0 : length (padding at 8) ≡ pad_size at 8 = length-replicate _ _ in
      let l1 : length (padding at 8 ++ fields) ≡ length (padding at 8) + length fields = length-append (padding at 8) fields in
      subst (λ (x : Val). Found o d at (types.struct t ts) bytes x at2 rest) w.1.1 (record {
        typed = (whole, (some, k.typed));
        same = p.0 ∙ ap (λ (x : List ℕ). padding at 8 ++ x) k.same ∙ sym (append_assoc (padding at 8) fields rest);
        behind = let m = k.behind in omega (arith, m, l0, l1);
      })

  pub entry_sound : (left : ℕ) (o : Order) (d : ℕ) (around : Option ℕ) (b : Basic) (t : Shape) (at : ℕ) (bytes : List ℕ) (p : BasicValue × Val) (at2 : ℕ) (rest : List ℕ) → AreBytes bytes →
      read_entry left o (d + 1) around b t at bytes ≡ Ok (p, (at2, rest)) → PairFound o (d + 2) at b t bytes p.0 p.1 at2 rest
  entry_sound zero o d around b t at bytes p at2 rest h e = absurd (no_entry o (d + 1) around b t at bytes p at2 rest e)
  entry_sound (suc left) o d around b t at bytes p at2 rest h e =
      let two : d + 1 + 1 ≡ d + 2 = omega arith in
      let s : IsSound o (d + 2) t (read left o (d + 1 + 1) around t) = subst (λ (m : ℕ). IsSound o m t (read left o (d + 1 + 1) around t)) two (value_sound left o (d + 1 + 1) around t) in
      pair_sound o around (d + 2) b t (read left o (d + 1 + 1) around t) s at bytes p at2 rest h (sym ((types_read left o (d + 1) around at bytes).1.1.1.1 b t) ∙ e)

pub all_ended : (r : Answer (List Val)) (vs : List Val) → ended r ≡ Ok vs → (at : ℕ) × (r ≡ Ok (vs, (at, [])))
all_ended (Ok (us, (at, []))) vs e = (at, ap (λ (x : List Val). Ok (x, (at, []))) (ok_same us vs e))
all_ended (Ok (us, (at, b ∷ bs))) vs e = cc
all_ended (Err x) vs e = cc

-- what is read is spelled
pub all_values_sound : (o : Order) (start : ℕ) (ts : List Shape) (bytes : List ℕ) (vs : List Val) → AreBytes bytes → read_all o start ts bytes ≡ Ok vs → IsComputed o start ts vs bytes
unfolding read_all
all_values_sound o start ts bytes vs h e =
    let r = all_ended (in_turn (read (levels 0) o 0 None) ts start bytes) vs e in
    let k = each_sound (read (levels 0) o 0 None) o 0 (λ t. value_sound (levels 0) o 0 None t) ts start bytes vs r.0 [] h r.1 in
    record { types = k.types; legal = k.typed; spelled = k.same ∙ append-nil (spellings o start (vals vs)) }
