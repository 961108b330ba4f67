-- Laws of texts: UTF-8, and none of their bytes is zero.
use Rattle.std.proofs.Common.{◌≡◌, ◌≢◌, ℕ, ◌<◌, List, [], ◌∷◌, ◌++◌, refl, arith, subst, Bool, true, false, not, eqb, ltb, ◌&&◌}
use Rattle.std.specs.List.{AllByRecursion}
use Rattle.std.specs.Str.{IsUtf8, is_utf8}
use Rattle.std.proofs.lemmas.Bool.Decides.{nat_tests}
use Rattle.std.proofs.lemmas.Str.{IsUtf8-from_is_utf8, is_utf8-from_IsUtf8}
use Rattle.std.proofs.Math.Utf8.{encode, encodes, scalar, scalars}
use borrow.Author.Tests.{ltb-true}
use Rattle.login_base.specs.Texts.{has_no_zero, is_text}

both : (a b : Bool) → (a && b) ≡ true → (a ≡ true) × (b ≡ true)
both true b h = (refl, h)
both false b h = cc

no_zero_test : (bs : List ℕ) → AllByRecursion (λ b. b ≢ 0) bs → has_no_zero bs ≡ true
no_zero_test [] h = refl
no_zero_test (b ∷ bs) h = let e : eqb b 0 ≡ false = nonzero b h.0 in rw (e, no_zero_test bs h.1) refl
  where
    nonzero : (b : ℕ) → b ≢ 0 → eqb b 0 ≡ false
    nonzero b h = grind (arith, nat_tests)

tested_no_zero : (bs : List ℕ) → has_no_zero bs ≡ true → AllByRecursion (λ b. b ≢ 0) bs
tested_no_zero [] h = tt
tested_no_zero (b ∷ bs) h = let p = both (not (eqb b 0)) (has_no_zero bs) h in (nonzero b p.0, tested_no_zero bs p.1)
  where
    nonzero : (b : ℕ) → not (eqb b 0) ≡ true → b ≢ 0
    nonzero b h = grind (arith, nat_tests)

pub made_text : (text : List ℕ) → IsUtf8 text → AllByRecursion (λ b. b ≢ 0) text → is_text text ≡ true
made_text text utf8 none = rw (is_utf8-from_IsUtf8 text utf8, no_zero_test text none) refl

pub text_parts : (text : List ℕ) → is_text text ≡ true → IsUtf8 text × AllByRecursion (λ b. b ≢ 0) text
text_parts text h = let p = both (is_utf8 text) (has_no_zero text) h in (IsUtf8-from_is_utf8 text p.0, tested_no_zero text p.1)

-- ---- the bytes of UTF-8 are bytes

abbrev AreBytes : List ℕ → Type 0
AreBytes bytes = AllByRecursion (λ b. b < 256) bytes

encode_AreBytes_by : (c : ℕ) (x y z : Bool) → ltb c 128 ≡ x → ltb c 2048 ≡ y → ltb c 65536 ≡ z → c < 1114112 → AreBytes (encode c)
unfolding encode
encode_AreBytes_by c true y z e f g small = let h = ltb-true c 128 e in rw e (omega arith, tt)
encode_AreBytes_by c false true z e f g small = let h = ltb-true c 2048 f in rw (e, f) (omega arith, (omega arith, tt))
encode_AreBytes_by c false false true e f g small = let h = ltb-true c 65536 g in rw (e, f, g) (omega arith, (omega arith, (omega arith, tt)))
encode_AreBytes_by c false false false e f g small = rw (e, f, g) (omega arith, (omega arith, (omega arith, (omega arith, tt))))

scalar_small : (c : ℕ) → scalar c ≡ true → c < 1114112
scalar_small c h = grind (arith, nat_tests)

AreBytes-append : (xs ys : List ℕ) → AreBytes xs → AreBytes ys → AreBytes (xs ++ ys)
AreBytes-append [] ys g h = h
AreBytes-append (x ∷ xs) ys g h = (g.0, AreBytes-append xs ys g.1 h)

encodes_AreBytes : (cs : List ℕ) → scalars cs ≡ true → AreBytes (encodes cs)
encodes_AreBytes [] h = tt
encodes_AreBytes (c ∷ cs) h =
    let p = both (scalar c) (scalars cs) h in
    AreBytes-append (encode c) (encodes cs) (encode_AreBytes_by c (ltb c 128) (ltb c 2048) (ltb c 65536) refl refl refl (scalar_small c p.0)) (encodes_AreBytes cs p.1)

pub utf8_bytes : (text : List ℕ) → IsUtf8 text → AllByRecursion (λ b. b < 256) text
utf8_bytes text h = subst AreBytes h.1.1 (encodes_AreBytes h.0 h.1.0)
