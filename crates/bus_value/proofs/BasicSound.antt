-- Bytes that are read as a basic value are its spelling.
use Rattle.std.proofs.Common.{◌≡◌, ℕ, zero, suc, ◌+◌, ◌-◌, ◌<◌, ◌≤◌, ◌^◌, List, [], ◌∷◌, ◌++◌, length, length-append, length-take, get_or, drop, take, replicate, refl, ap, sym, ◌∙◌, subst, Option, Some, None, Result, Ok, Err, cond, eqb, ltb, Bool, true, false, ◌&&◌, arith, append_assoc, w16, w32, w64}
use Rattle.std.specs.Int.{cast_signed, cast_unsigned}
use Rattle.std.proofs.Common.{Fits}
use Rattle.std.proofs.Math.Facts.{sfits_to_z}
use Rattle.std.proofs.lemmas.Int.{of_z-to_z}
use Rattle.std.proofs.lemmas.Bool.Decides.{nat_tests}
use Rattle.std.proofs.lemmas.List.{length-replicate, take-append-drop, take_all, get_or-drop}
use Rattle.bus_names.specs.declared.basic.Basic.{Basic}
use Rattle.bus_names.specs.declared.basic.Basic.TheVariants as kinds
use Rattle.bus_names.specs.declared.fault.NameFault.{NameFault}
use Rattle.bus_names.specs.Types.{Shape}
use Rattle.bus_names.specs.Signatures.{IsWithin, ExplainsTypes}
use Rattle.bus_names.specs.Reading.{path_fault}
use Rattle.bus_names.specs.Parsing.{signature_of}
use Rattle.bus_names.proofs.TypesFaults.{signature_law}
use Rattle.bus_value.specs.declared.basic_value.BasicValue.{BasicValue}
use Rattle.bus_value.specs.declared.basic_value.BasicValue.TheVariants.{Byte, Bool as Boolean, I16, U16, I32, U32, I64, U64, Double, Str, Path, Sig, Handle}
use Rattle.bus_value.specs.declared.fault.ValueFault.{ValueFault}
use Rattle.bus_value.specs.declared.fault.ValueFault.TheVariants.{BadText, BadBool, Padding, Short}
use Rattle.bus_value.proofs.BasicSpelled.{not_less}
use Rattle.std.specs.Prelude.{FitsSigned}
use Rattle.bus_value.specs.declared.order.Order.{Order}
use Rattle.bus_value.specs.BasicValues.{kind_of}
use Rattle.bus_value.specs.Numbers.{number_bytes, number}
use Rattle.bus_value.specs.Spelling.{pad_size, padding, text_bytes, signature_bytes, basic_bytes, basic_spelling}
use Rattle.bus_value.specs.Alignment.{alignment}
use Rattle.bus_value.specs.BasicReading.{size, text_size, signature_size, whole, body_size, ends_with_zero, text_in, text_at, path_by, path_at, types_by, types_in, bool_by, decoded}
use Rattle.login_base.specs.Texts.{is_text}
use Rattle.bus_value.specs.Reading.{Reading, Answer, made, padded, read_body, read_basic}
use Rattle.bus_value.proofs.Typing.{IsLegal}
use Rattle.bus_value.specs.Faults.{reported, cut_off, and_then, zeros, check_padding, short_padding}
use Rattle.bus_value.proofs.Padding.{zeros-cons}
use Rattle.bus_value.proofs.NumberSound.{AreBytes, back_2, back_4, back_8, bound_2, bound_4, bound_8, same_front}

abbrev pub IsSame : {A : Type 0} → Result A ValueFault → Result A ValueFault → Type 0
IsSame r s = r ≡ s

pub ok_same : {A : Type 0} (x y : A) → IsSame (Ok x) (Ok y) → x ≡ y
ok_same x y e = cc

-- what a chain that ends well went through
pub and_then_ends : {A B : Type 0} (r : Result A ValueFault) (f : A → Result B ValueFault) (b : B) → and_then r f ≡ Ok b → (a : A) × ((r ≡ Ok a) × (f a ≡ Ok b))
and_then_ends (Ok a) f b e = (a, (refl, e))
and_then_ends (Err x) f b e = cc

pub made_ends : {A B : Type 0} (f : A → B) (r : Answer A) (b : B) (at : ℕ) (rest : List ℕ) → made f r ≡ Ok (b, (at, rest)) → (a : A) × ((r ≡ Ok (a, (at, rest))) × (f a ≡ b))
made_ends f (Ok r) b at rest e =
    let s : (f r.0, r.1) ≡ (b, (at, rest)) = ok_same _ _ e in
    let t : r.1 ≡ (at, rest) = ap (λ p. p.1) s in
    (r.0, (ap (λ p. Ok (r.0, p)) t, ap (λ p. p.0) s))
made_ends f (Err x) b at rest e = cc

-- a value that has the type and is spelled so
abbrev pub IsOf : Order → Basic → List ℕ → BasicValue → Type 0
IsOf o b body a = (b ≡ kind_of a) × (IsLegal a × (body ≡ basic_bytes o a))

this : (o : Order) (b : Basic) (body : List ℕ) (x a : BasicValue) → IsSame (Ok x) (Ok a) → IsOf o b body x → IsOf o b body a
this o b body x a e h = subst (λ (y : BasicValue). IsOf o b body y) (ok_same x a e) h

sized : (n m : ℕ) → Some n ≡ Some m → m ≡ n
sized n m e = cc

last_zero : (more : List ℕ) (n : ℕ) → length more ≡ n + 1 → get_or more n 0 ≡ 0 → more ≡ take n more ++ 0 ∷ []
last_zero [] n l z = absurd (omega (arith, l))
last_zero (x ∷ []) zero l z = ap (λ (y : ℕ). y ∷ []) z
last_zero (x ∷ y ∷ more) zero l z = absurd (omega (arith, l))
last_zero (x ∷ more) (suc n) l z = ap (λ (ys : List ℕ). x ∷ ys) (last_zero more n (omega (arith, l)) z)

is_zero : (n : ℕ) → eqb n 0 ≡ true → n ≡ 0
is_zero n h = grind (arith, nat_tests)

-- a text with its length and the zero byte
record IsText (o : Order) (body text : List ℕ) : Type 0 where
  same : body ≡ text_bytes o text
  small : length text < 2 ^ 32

counted : (o : Order) (body : List ℕ) → text_size o body ≡ Some (length body) → length body ≡ number o 4 body + 5
counted o body s = by (ltb (length body) 4) s
  where
    by : (c : Bool) → cond c None (Some (number o 4 body + 5)) ≡ Some (length body) → length body ≡ number o 4 body + 5
    by true s = cc
    by false s = sized _ _ s

text_found : (o : Order) (body : List ℕ) → text_size o body ≡ Some (length body) → ends_with_zero body ≡ true → AreBytes body → IsText o body (text_in 4 body)
text_found o [] s z h = cc
text_found o (a ∷ []) s z h = cc
text_found o (a ∷ b ∷ []) s z h = cc
text_found o (a ∷ b ∷ c ∷ []) s z h = cc
text_found o (a ∷ b ∷ c ∷ d ∷ more) s z h =
    let body : List ℕ = a ∷ b ∷ c ∷ d ∷ more in
    let front : List ℕ = a ∷ b ∷ c ∷ d ∷ [] in
    let n : ℕ = number o 4 front in
    let long : number o 4 (front ++ more) ≡ n = same_front o front more (omega arith) in
    let l : length body ≡ number o 4 body + 5 = counted o body s in
    let m : length more ≡ n + 1 = omega (arith, l, long) in
    let k : length body - 1 - 4 ≡ n = omega (arith, m) in
    let i : length body - 1 ≡ suc (suc (suc (suc n))) = omega (arith, m) in
    let zero_last : get_or more n 0 ≡ 0 = is_zero _ (ap (λ (j : ℕ). eqb (get_or body j 0) 0) (sym i) ∙ z) in
    let front_bytes : AreBytes front = λ j. front_of j in
    let inside : text_in 4 body ≡ take n more = ap (λ (j : ℕ). take j more) k in
    let t : length (take n more) ≡ n = length-take n more ∙ (omega (arith, m)) in
    let text : List ℕ = text_in 4 body in
    let tl : length text ≡ n = ap length inside ∙ t in
    record {
      same = ap (λ (x : List ℕ). front ++ x) (last_zero more n m zero_last ∙ ap (λ (x : List ℕ). x ++ 0 ∷ []) (sym inside)) ∙ ap (λ (x : List ℕ). x ++ (text ++ 0 ∷ [])) (sym (back_4 o front refl front_bytes) ∙ ap (λ (j : ℕ). number_bytes o 4 j) (sym tl));
      small = let q = bound_4 o front front_bytes in omega (arith, q, tl);
    }
  where
    front_of : (j : ℕ) → get_or (a ∷ b ∷ c ∷ d ∷ []) j 0 < 256
    front_of zero = h 0
    front_of (suc zero) = h 1
    front_of (suc (suc zero)) = h 2
    front_of (suc (suc (suc zero))) = h 3
    front_of (suc (suc (suc (suc j)))) = omega arith

text_sound : (o : Order) (at : ℕ) (body : List ℕ) (a : BasicValue) → text_size o body ≡ Some (length body) → text_at at body ≡ Ok a → AreBytes body → IsOf o kinds.Str body a
unfolding text_at
text_sound o at body a s e h = by (ends_with_zero body) (is_text (text_in 4 body)) refl refl e
  where
    by : (z t : Bool) → ends_with_zero body ≡ z → is_text (text_in 4 body) ≡ t → cond (z && t) (Ok (Str (text_in 4 body))) (Err (BadText (reported at))) ≡ Ok a → IsOf o kinds.Str body a
    by true true z t e = let f = text_found o body s z h in this o kinds.Str body (Str (text_in 4 body)) a e (refl, ((t, f.small), f.same))
    by true false z t e = cc
    by false t z is e = cc

path_sound : (o : Order) (at : ℕ) (body : List ℕ) (a : BasicValue) → text_size o body ≡ Some (length body) → path_at at body ≡ Ok a → AreBytes body → IsOf o kinds.Path body a
unfolding path_at
path_sound o at body a s e h = by (ends_with_zero body) (path_fault (text_in 4 body)) refl refl e
  where
    by : (z : Bool) (p : Option ℕ) → ends_with_zero body ≡ z → path_fault (text_in 4 body) ≡ p → cond z (path_by at (text_in 4 body) p) (Err (BadText (reported at))) ≡ Ok a → IsOf o kinds.Path body a
    by true None z p e = let f = text_found o body s z h in this o kinds.Path body (Path (text_in 4 body)) a e (refl, ((p, f.small), f.same))
    by true (Some n) z p e = cc
    by false p z is e = cc

-- a signature with its length and the zero byte
pub types_sound : (at : ℕ) (body : List ℕ) (ts : List Shape) → signature_size body ≡ Some (length body) → types_in at body ≡ Ok ts → (body ≡ signature_bytes ts) × IsWithin ts
unfolding types_in
types_sound at [] ts s e = cc
types_sound at (l ∷ more) ts s e = by (ends_with_zero (l ∷ more)) (signature_of text) refl refl e
  where
    text : List ℕ
    text = text_in 1 (l ∷ more)

    by : (z : Bool) (r : Result (List Shape) NameFault) → ends_with_zero (l ∷ more) ≡ z → signature_of text ≡ r → cond z (types_by at r) (Err (BadText (reported at))) ≡ Ok ts → (l ∷ more ≡ signature_bytes ts) × IsWithin ts
    by true (Ok us) z r e =
        let same : us ≡ ts = ok_same us ts e in
        let law : ExplainsTypes text (Ok us) = subst (λ (q : Result (List Shape) NameFault). ExplainsTypes text q) r (signature_law text) in
        let m : suc (length more) ≡ l + 2 = sized _ _ s in
        let k : length more ≡ l + 1 = omega (arith, m) in
        let i : length (l ∷ more) - 1 ≡ suc l = omega (arith, k) in
        let zero_last : get_or more l 0 ≡ 0 = is_zero _ (ap (λ (j : ℕ). eqb (get_or (l ∷ more) j 0) 0) (sym i) ∙ z) in
        let j : length (l ∷ more) - 1 - 1 ≡ l = omega (arith, k) in
        let inside : text ≡ take l more = ap (λ (q : ℕ). take q more) j in
        let long : length text ≡ l = ap length inside ∙ length-take l more ∙ (omega (arith, k)) in
        let body : l ∷ more ≡ length text ∷ (text ++ 0 ∷ []) =
        ap (λ (x : List ℕ). l ∷ x) (last_zero more l k zero_last ∙ ap (λ (x : List ℕ). x ++ 0 ∷ []) (sym inside)) ∙ ap (λ (q : ℕ). q ∷ (text ++ 0 ∷ [])) (sym long) in
        subst (λ (vs : List Shape). (l ∷ more ≡ signature_bytes vs) × IsWithin vs) same (body ∙ ap (λ (x : List ℕ). length x ∷ (x ++ 0 ∷ [])) law.0, law.1)
    by true (Err x) z r e = cc
    by false r z is e = cc

bool_sound : (o : Order) (at : ℕ) (body : List ℕ) (n : ℕ) (a : BasicValue) → number_bytes o 4 n ≡ body → bool_by at n ≡ Ok a → IsOf o kinds.Bool body a
bool_sound o at body n a back e = by (eqb n 0) (eqb n 1) refl refl e
  where
    one : (n : ℕ) → eqb n 1 ≡ true → n ≡ 1
    one n h = grind (arith, nat_tests)

    by : (c d : Bool) → eqb n 0 ≡ c → eqb n 1 ≡ d → cond c (Ok (Boolean false)) (cond d (Ok (Boolean true)) (Err (BadBool (reported at)))) ≡ Ok a → IsOf o kinds.Bool body a
    by true d c is e = this o kinds.Bool body (Boolean false) a e (refl, (tt, sym back ∙ ap (λ (m : ℕ). number_bytes o 4 m) (is_zero n c)))
    by false true c is e = this o kinds.Bool body (Boolean true) a e (refl, (tt, sym back ∙ ap (λ (m : ℕ). number_bytes o 4 m) (one n is)))
    by false false c is e = cc

fits_2 : (n : ℕ) → n < 2 ^ 16 → Fits w16 n
fits_2 n h = omega (arith, h)

fits_4 : (n : ℕ) → n < 2 ^ 32 → Fits w32 n
fits_4 n h = omega (arith, h)

fits_8 : (n : ℕ) → n < 2 ^ 64 → Fits w64 n
fits_8 n h = omega (arith, h)

signed_2 : (o : Order) (body : List ℕ) → length body ≡ 2 → AreBytes body → FitsSigned w16 (cast_signed w16 (number o 2 body)) × (body ≡ number_bytes o 2 (cast_unsigned w16 (cast_signed w16 (number o 2 body))))
signed_2 o body l h =
    (sfits_to_z {w = w16} {n = number o 2 body} (fits_2 (number o 2 body) (bound_2 o body h)), sym (back_2 o body l h) ∙ ap (λ (m : ℕ). number_bytes o 2 m) (sym (of_z-to_z w16 (number o 2 body) (bound_2 o body h))))

signed_4 : (o : Order) (body : List ℕ) → length body ≡ 4 → AreBytes body → FitsSigned w32 (cast_signed w32 (number o 4 body)) × (body ≡ number_bytes o 4 (cast_unsigned w32 (cast_signed w32 (number o 4 body))))
signed_4 o body l h =
    (sfits_to_z {w = w32} {n = number o 4 body} (fits_4 (number o 4 body) (bound_4 o body h)), sym (back_4 o body l h) ∙ ap (λ (m : ℕ). number_bytes o 4 m) (sym (of_z-to_z w32 (number o 4 body) (bound_4 o body h))))

signed_8 : (o : Order) (body : List ℕ) → length body ≡ 8 → AreBytes body → FitsSigned w64 (cast_signed w64 (number o 8 body)) × (body ≡ number_bytes o 8 (cast_unsigned w64 (cast_signed w64 (number o 8 body))))
signed_8 o body l h =
    (sfits_to_z {w = w64} {n = number o 8 body} (fits_8 (number o 8 body) (bound_8 o body h)), sym (back_8 o body l h) ∙ ap (λ (m : ℕ). number_bytes o 8 m) (sym (of_z-to_z w64 (number o 8 body) (bound_8 o body h))))

pub decoded_sound : (o : Order) (b : Basic) (at : ℕ) (body : List ℕ) (a : BasicValue) → size o b body ≡ Some (length body) → decoded o b at body ≡ Ok a → AreBytes body → IsOf o b body a
unfolding decoded
decoded_sound o kinds.Byte at [] a s e h = let l = sized _ _ s in absurd (omega (arith, l))
decoded_sound o kinds.Byte at (x ∷ []) a s e h = this o kinds.Byte (x ∷ []) (Byte x) a e (refl, (h 0, refl))
decoded_sound o kinds.Byte at (x ∷ y ∷ more) a s e h = let l = sized _ _ s in absurd (omega (arith, l))
decoded_sound o kinds.Bool at body a s e h = bool_sound o at body (number o 4 body) a (back_4 o body (sized _ _ s) h) e
decoded_sound o kinds.I16 at body a s e h = this o kinds.I16 body (I16 (cast_signed w16 (number o 2 body))) a e (refl, signed_2 o body (sized _ _ s) h)
decoded_sound o kinds.U16 at body a s e h = this o kinds.U16 body (U16 (number o 2 body)) a e (refl, (bound_2 o body h, sym (back_2 o body (sized _ _ s) h)))
decoded_sound o kinds.I32 at body a s e h = this o kinds.I32 body (I32 (cast_signed w32 (number o 4 body))) a e (refl, signed_4 o body (sized _ _ s) h)
decoded_sound o kinds.U32 at body a s e h = this o kinds.U32 body (U32 (number o 4 body)) a e (refl, (bound_4 o body h, sym (back_4 o body (sized _ _ s) h)))
decoded_sound o kinds.I64 at body a s e h = this o kinds.I64 body (I64 (cast_signed w64 (number o 8 body))) a e (refl, signed_8 o body (sized _ _ s) h)
decoded_sound o kinds.U64 at body a s e h = this o kinds.U64 body (U64 (number o 8 body)) a e (refl, (bound_8 o body h, sym (back_8 o body (sized _ _ s) h)))
decoded_sound o kinds.Double at body a s e h =
    let l : length body ≡ 8 = sized _ _ s in
    let all : take 8 body ≡ body = take_all 8 body (omega (arith, l)) in
    this o kinds.Double body (Double (take 8 body)) a e (refl, (ap length all ∙ l, sym all))
decoded_sound o kinds.Str at body a s e h = text_sound o at body a s e h
decoded_sound o kinds.Path at body a s e h = path_sound o at body a s e h
decoded_sound o kinds.Sig at body a s e h =
    let r = and_then_ends (types_in at body) (λ ts. Ok (Sig ts)) a e in
    let t = types_sound at body r.0 s r.1.0 in this o kinds.Sig body (Sig r.0) a r.1.1 (refl, (t.1, t.0))
decoded_sound o kinds.Handle at body a s e h = this o kinds.Handle body (Handle (number o 4 body)) a e (refl, (bound_4 o body h, sym (back_4 o body (sized _ _ s) h)))

zeros_are : (at : ℕ) (xs : List ℕ) → zeros at xs ≡ Ok tt → xs ≡ replicate (length xs) 0
zeros_are at [] e = refl
zeros_are at (b ∷ bs) e = by (zeros_are (at + 1) bs) (eqb b 0) refl (sym (zeros-cons at b bs) ∙ e)
  where
    by : (zeros (at + 1) bs ≡ Ok tt → bs ≡ replicate (length bs) 0) → (c : Bool) → eqb b 0 ≡ c → cond c (zeros (at + 1) bs) (Err (Padding (reported at))) ≡ Ok tt → b ∷ bs ≡ 0 ∷ replicate (length bs) 0
    by again true c e = ap (λ (m : ℕ). m ∷ bs) (is_zero b c) ∙ ap (λ (x : List ℕ). 0 ∷ x) (again e)
    by again false c e = cc

pub front_zero : (at n : ℕ) (bytes : List ℕ) → n ≤ length bytes → zeros at (take n bytes) ≡ Ok tt → bytes ≡ replicate n 0 ++ drop n bytes
front_zero at n bytes h e =
    let l : length (take n bytes) ≡ n = length-take n bytes ∙ (omega (arith, h)) in
    sym (take-append-drop n bytes) ∙ ap (λ (x : List ℕ). x ++ drop n bytes) (zeros_are at (take n bytes) e ∙ ap (λ (m : ℕ). replicate m 0) l)

padding_sound : (around : Option ℕ) (at align : ℕ) (bytes : List ℕ) → check_padding around at align bytes ≡ Ok (tt {0}) → bytes ≡ padding at align ++ drop (pad_size at align) bytes
unfolding check_padding
padding_sound around at align bytes e = by (ltb (length bytes) (pad_size at align)) refl e
  where
    no_short : (r : Result (Unit {0}) ValueFault) → and_then r (λ u. Err (Short (reported (at + pad_size at align)))) ≡ Ok (tt {0}) → ⊥
    no_short (Ok u) e = cc
    no_short (Err x) e = cc

    short : (around : Option ℕ) → short_padding around at (pad_size at align) bytes ≡ Ok (tt {0}) → ⊥
    short None e = no_short (zeros at bytes) e
    short (Some place) e = cc

    by : (c : Bool) → ltb (length bytes) (pad_size at align) ≡ c → cond c (short_padding around at (pad_size at align) bytes) (zeros at (take (pad_size at align) bytes)) ≡ Ok (tt {0}) → bytes ≡ padding at align ++ drop (pad_size at align) bytes
    by true c e = absurd (short around e)
    by false c e = front_zero at (pad_size at align) bytes (grind (arith, nat_tests)) e

pub padded_sound : {A : Type 0} (around : Option ℕ) (align at : ℕ) (bytes : List ℕ) (f : Reading A) (r : A × (ℕ × List ℕ)) → padded around align f at bytes ≡ Ok r →
    (bytes ≡ padding at align ++ drop (pad_size at align) bytes) × (f (at + pad_size at align) (drop (pad_size at align) bytes) ≡ Ok r)
padded_sound around align at bytes f r e =
    let q = and_then_ends (check_padding around at align bytes) (λ u. f (at + pad_size at align) (drop (pad_size at align) bytes)) r e in
    (padding_sound around at align bytes q.1.0, q.1.1)

pub whole_sound : (o : Order) (around : Option ℕ) (b : Basic) (at : ℕ) (bytes : List ℕ) (n : ℕ) → body_size o around b at bytes ≡ Ok n → (size o b bytes ≡ Some n) × (n ≤ length bytes)
unfolding body_size
whole_sound o around b at bytes n e = by (size o b bytes) refl e
  where
    inner : (m : ℕ) (c : Bool) → size o b bytes ≡ Some m → ltb (length bytes) m ≡ c → cond c (Err (cut_off around at)) (Ok m) ≡ Ok n → (size o b bytes ≡ Some n) × (n ≤ length bytes)
    inner m true s c e = cc
    inner m false s c e =
        let same : m ≡ n = ok_same m n e in
        let less : m ≤ length bytes = grind (arith, nat_tests) in (s ∙ ap (λ (k : ℕ). Some k) same, subst (λ (k : ℕ). k ≤ length bytes) same less)

    by : (s : Option ℕ) → size o b bytes ≡ s → whole around at bytes s ≡ Ok n → (size o b bytes ≡ Some n) × (n ≤ length bytes)
    by None s e = cc
    by (Some m) s e = inner m (ltb (length bytes) m) s refl e

text_front : (o : Order) (body rest : List ℕ) → text_size o (body ++ rest) ≡ Some (length body) → text_size o body ≡ Some (length body)
text_front o body rest e = by (ltb (length (body ++ rest)) 4) e
  where
    by : (c : Bool) → cond c None (Some (number o 4 (body ++ rest) + 5)) ≡ Some (length body) → text_size o body ≡ Some (length body)
    by true e = cc
    by false e =
        let l : length body ≡ number o 4 (body ++ rest) + 5 = sized _ _ e in
        let same : number o 4 (body ++ rest) ≡ number o 4 body = same_front o body rest (omega (arith, l)) in
        let c : ltb (length body) 4 ≡ false = not_less (length body) 4 (omega (arith, l)) in
        ap (λ (k : Bool). cond k None (Some (number o 4 body + 5))) c ∙ ap (λ (m : ℕ). Some (m + 5)) (sym same) ∙ e

pub size_front : (o : Order) (b : Basic) (body rest : List ℕ) → size o b (body ++ rest) ≡ Some (length body) → size o b body ≡ Some (length body)
size_front o kinds.Byte body rest e = e
size_front o kinds.Bool body rest e = e
size_front o kinds.I16 body rest e = e
size_front o kinds.U16 body rest e = e
size_front o kinds.I32 body rest e = e
size_front o kinds.U32 body rest e = e
size_front o kinds.I64 body rest e = e
size_front o kinds.U64 body rest e = e
size_front o kinds.Double body rest e = e
size_front o kinds.Str body rest e = text_front o body rest e
size_front o kinds.Path body rest e = text_front o body rest e
size_front o kinds.Sig [] [] e = cc
size_front o kinds.Sig [] (n ∷ rest) e = let l = sized _ _ e in absurd (omega (arith, l))
size_front o kinds.Sig (n ∷ body) rest e = e
size_front o kinds.Handle body rest e = e

pub bytes_take : (n : ℕ) (bytes : List ℕ) → AreBytes bytes → AreBytes (take n bytes)
bytes_take zero bytes h i = omega arith
bytes_take (suc n) [] h i = h i
bytes_take (suc n) (b ∷ bytes) h zero = h 0
bytes_take (suc n) (b ∷ bytes) h (suc i) = bytes_take n bytes (λ j. h (suc j)) i

pub bytes_drop : (n : ℕ) (bytes : List ℕ) → AreBytes bytes → AreBytes (drop n bytes)
bytes_drop n bytes h i = subst (λ (m : ℕ). m < 256) (sym (get_or-drop n bytes i 0)) (h (n + i))

-- the front of the bytes whose size is told
pub front_sized : (o : Order) (b : Basic) (bytes : List ℕ) (n : ℕ) → size o b bytes ≡ Some n → n ≤ length bytes → (size o b (take n bytes) ≡ Some (length (take n bytes))) × (length (take n bytes) ≡ n)
front_sized o b bytes n s h =
    let l : length (take n bytes) ≡ n = length-take n bytes ∙ (omega (arith, h)) in
    let e : size o b (take n bytes ++ drop n bytes) ≡ Some (length (take n bytes)) = ap (λ (x : List ℕ). size o b x) (take-append-drop n bytes) ∙ s ∙ ap (λ (m : ℕ). Some m) (sym l) in
    (size_front o b (take n bytes) (drop n bytes) e, l)

-- what a basic value is read from
pub record BasicFound (o : Order) (b : Basic) (at : ℕ) (bytes : List ℕ) (a : BasicValue) (at2 : ℕ) (rest : List ℕ) : Type 0 where
  pub kind : b ≡ kind_of a
  pub legal : IsLegal a
  pub same : bytes ≡ basic_spelling o at a ++ rest
  pub behind : at2 ≡ at + length (basic_spelling o at a)

body_sound : (o : Order) (around : Option ℕ) (b : Basic) (at : ℕ) (bytes : List ℕ) (a : BasicValue) (at2 : ℕ) (rest : List ℕ) → AreBytes bytes → read_body o around b at bytes ≡ Ok (a, (at2, rest)) →
    (b ≡ kind_of a) × (IsLegal a × ((bytes ≡ basic_bytes o a ++ rest) × (at2 ≡ at + length (basic_bytes o a))))
body_sound o around b at bytes a at2 rest h e =
    let q = and_then_ends (body_size o around b at bytes) (λ n. and_then (decoded o b at (take n bytes)) (λ a. Ok (a, (at + n, drop n bytes)))) (a, (at2, rest)) e in
    let n : ℕ = q.0 in
    let r = and_then_ends (decoded o b at (take n bytes)) (λ a. Ok (a, (at + n, drop n bytes))) (a, (at2, rest)) q.1.1 in
    let same : (r.0, (at + n, drop n bytes)) ≡ (a, (at2, rest)) = ok_same _ _ r.1.1 in
    let w = whole_sound o around b at bytes n q.1.0 in
    let z = front_sized o b bytes n w.0 w.1 in
    let found : IsOf o b (take n bytes) r.0 = decoded_sound o b at (take n bytes) r.0 z.0 r.1.0 (bytes_take n bytes h) in
    let there : IsOf o b (take n bytes) a = subst (λ (x : BasicValue). IsOf o b (take n bytes) x) (ap (λ p. p.0) same) found in
    let last : drop n bytes ≡ rest = ap (λ p. p.1.1) same in
    let place : at + n ≡ at2 = ap (λ p. p.1.0) same in
    let size : n ≡ length (basic_bytes o a) = sym z.1 ∙ ap length there.1.1 in
    (there.0, (there.1.0, (sym (take-append-drop n bytes) ∙ ap (λ (x : List ℕ). x ++ drop n bytes) there.1.1 ∙ ap (λ (x : List ℕ). basic_bytes o a ++ x) last, sym place ∙ ap (λ (m : ℕ). at + m) size)))

pub basic_sound : (o : Order) (around : Option ℕ) (b : Basic) (at : ℕ) (bytes : List ℕ) (a : BasicValue) (at2 : ℕ) (rest : List ℕ) → AreBytes bytes → read_basic o around b at bytes ≡ Ok (a, (at2, rest)) → BasicFound o b at bytes a at2 rest
unfolding read_basic
basic_sound o around b at bytes a at2 rest h e =
    let pad : ℕ = pad_size at (alignment b) in
    let p = padded_sound around (alignment b) at bytes (read_body o around b) (a, (at2, rest)) e in
    let q = body_sound o around b (at + pad) (drop pad bytes) a at2 rest (bytes_drop pad bytes h) p.1 in
    let zero : padding at (alignment b) ≡ padding at (alignment (kind_of a)) = ap (λ (c : Basic). padding at (alignment c)) q.0 in
    let size : length (padding at (alignment b)) ≡ pad = length-replicate _ _ in
    let one : length (padding at (alignment b)) ≡ length (padding at (alignment (kind_of a))) = ap length zero in
    let long : length (basic_spelling o at a) ≡ length (padding at (alignment (kind_of a))) + length (basic_bytes o a) = length-append (padding at (alignment (kind_of a))) (basic_bytes o a) in
    record {
      kind = q.0;
      legal = q.1.0;
      same = p.0 ∙ ap (λ (x : List ℕ). padding at (alignment b) ++ x) q.1.1.0 ∙ sym (append_assoc (padding at (alignment b)) (basic_bytes o a) rest) ∙ ap (λ (x : List ℕ). (x ++ basic_bytes o a) ++ rest) zero;
      behind = let k = q.1.1.1 in omega (arith, size, one, long, k);
    }
