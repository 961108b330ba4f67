-- Laws of bytes that are spelled in hex.
use Rattle.std.proofs.Common.{◌≡◌, ℕ, ◌+◌, ◌*◌, ◌/◌, ◌%◌, ◌<◌, ◌≤◌, List, [], ◌∷◌, ◌++◌, length, refl, arith, ap, sym, ◌∙◌, subst, Bool, true, false, not, cond, eqb, ◌&&◌, Option, Some, None, append-nil, get_or}
use Rattle.std.specs.List.{flat_map, list_all}
use Rattle.std.specs.Str.{bytes_eq}
use Rattle.std.proofs.lemmas.Bool.Decides.{nat_tests}
use Rattle.std.proofs.lemmas.Slice.Eq.{bytes_eq-Decides}
use Rattle.login_base.specs.Hex.{hex_digit, hex_value, is_hex_digit}
use Rattle.recording.specs.Bytes.{AreBytes}
use Rattle.recording.specs.Hex.{spell_pair, spell_hex}
use Rattle.recording.specs.Words.{unhexed, hex_of}
use Rattle.recording.proofs.Texts.{both, hex_value-hex_digit}

digit_is : (n : ℕ) → n < 16 → is_hex_digit (hex_digit n) ≡ true
digit_is n small = grind (arith, nat_tests)

digit_small : (d : ℕ) → is_hex_digit d ≡ true → hex_value d < 16
digit_small d h = grind (arith, nat_tests)

high_small : (b : ℕ) → b < 256 → b / 16 < 16
high_small b small = omega arith

low_small : (b : ℕ) → b % 16 < 16
low_small b = omega arith

pair_value : (b : ℕ) → b < 256 → 16 * hex_value (hex_digit (b / 16)) + hex_value (hex_digit (b % 16)) ≡ b
pair_value b small =
    let whole : 16 * (b / 16) + b % 16 ≡ b = omega arith in
    rw (hex_value-hex_digit (b / 16) (high_small b small), hex_value-hex_digit (b % 16) (low_small b)) whole

-- the pairs of bytes are read as them
pub unhexed-pairs : (bytes : List ℕ) → AreBytes bytes → unhexed (flat_map spell_pair bytes) ≡ bytes
unhexed-pairs [] h = refl
unhexed-pairs (b ∷ bs) h = rw (pair_value b h.0, unhexed-pairs bs h.1) refl

pairs_digits : (bytes : List ℕ) → AreBytes bytes → list_all is_hex_digit (flat_map spell_pair bytes) ≡ true
pairs_digits [] h = refl
pairs_digits (b ∷ bs) h = rw (digit_is (b / 16) (high_small b h.0), digit_is (b % 16) (low_small b), pairs_digits bs h.1) refl

-- hex digits are read as bytes
unhexed_AreBytes : (word : List ℕ) → list_all is_hex_digit word ≡ true → AreBytes (unhexed word)
unhexed_AreBytes [] h = tt
unhexed_AreBytes (a ∷ []) h = tt
unhexed_AreBytes (a ∷ b ∷ rest) h =
    let p = both (is_hex_digit a) (list_all is_hex_digit (b ∷ rest)) h in
    let q = both (is_hex_digit b) (list_all is_hex_digit rest) p.1 in
    let x = digit_small a p.0 in
    let y = digit_small b q.0 in
    (omega (arith, x, y), unhexed_AreBytes rest q.1)

-- a word that spells bytes, one at least, is read
pub hex_of-pairs : (word bytes : List ℕ) → 0 < length word → AreBytes bytes → word ≡ flat_map spell_pair bytes → hex_of word ≡ Some bytes
unfolding hex_of spell_hex
hex_of-pairs word bytes some h e =
    let back : unhexed word ≡ bytes = ap unhexed e ∙ unhexed-pairs bytes h in
    let digits : list_all is_hex_digit word ≡ true = ap (list_all is_hex_digit) e ∙ pairs_digits bytes h in
    let same : bytes_eq (flat_map spell_pair bytes) word ≡ true = (bytes_eq-Decides (flat_map spell_pair bytes) word).1 (sym e) in
    rw (back, digits, same, not_zero (length word) some) refl
  where
    not_zero : (n : ℕ) → 0 < n → eqb n 0 ≡ false
    not_zero n h = grind (arith, nat_tests)

by_tests : (a b c : Bool) (t u : List ℕ) → cond (a && b && c) (Some u) None ≡ Some t → (a ≡ true) × (b ≡ true) × (c ≡ true) × (u ≡ t)
by_tests true true true t u e = (refl, refl, refl, cc)
by_tests true true false t u e = cc
by_tests true false c t u e = cc
by_tests false b c t u e = cc

-- what is read is spelled so
hex_of_is : (word bytes : List ℕ) → hex_of word ≡ Some bytes → AreBytes bytes × (word ≡ flat_map spell_pair bytes) × (0 < length word)
unfolding hex_of spell_hex
hex_of_is word bytes e =
    let t = by_tests (not (eqb (length word) 0)) (list_all is_hex_digit word) (bytes_eq (flat_map spell_pair (unhexed word)) word) bytes (unhexed word) e in
    let same : flat_map spell_pair (unhexed word) ≡ word = (bytes_eq-Decides (flat_map spell_pair (unhexed word)) word).0 t.2 in
    (subst AreBytes t.3 (unhexed_AreBytes word t.1), sym same ∙ ap (flat_map spell_pair) t.3, some (length word) t.0)
  where
    some : (n : ℕ) → not (eqb n 0) ≡ true → 0 < n
    some n h = grind (arith, nat_tests)

-- a word that spells no bytes is not read
pub hex_of_none : (word : List ℕ) → ((bytes : List ℕ) → AreBytes bytes → word ≡ flat_map spell_pair bytes → 0 < length word → ⊥) → hex_of word ≡ None
hex_of_none word none = by (hex_of word) refl
  where
    by : (o : Option (List ℕ)) → hex_of word ≡ o → o ≡ None
    by None e = refl
    by (Some bytes) e = let h = hex_of_is word bytes e in absurd (none bytes h.0 h.1 h.2)

-- the empty word is not read
pub hex_of-empty_word : (word : List ℕ) → length word ≡ 0 → hex_of word ≡ None
hex_of-empty_word word short = hex_of_none word (λ bytes h e some. absurd (omega (arith, some, short)))

-- what follows the pairs of some bytes is the pairs of the others
rest_is : (done rest bytes : List ℕ) → AreBytes done → AreBytes bytes → flat_map spell_pair bytes ≡ flat_map spell_pair done ++ rest → (more : List ℕ) × AreBytes more × (rest ≡ flat_map spell_pair more)
rest_is [] rest bytes g h e = (bytes, h, sym e)
rest_is (x ∷ xs) rest [] g h e = cc
rest_is (x ∷ xs) rest (y ∷ ys) g h e =
    let k : flat_map spell_pair ys ≡ flat_map spell_pair xs ++ rest = cc in
    rest_is xs rest ys g.1 h.1 k

-- a single byte behind pairs is none
pub hex_of-odd : (word done rest : List ℕ) → AreBytes done → word ≡ flat_map spell_pair done ++ rest → 0 < length rest → length rest < 2 → hex_of word ≡ None
hex_of-odd word done rest g same some short = hex_of_none word (λ bytes h e _. none (rest_is done rest bytes g h (sym e ∙ same)))
  where
    by : (more : List ℕ) → rest ≡ flat_map spell_pair more → ⊥
    by [] f = omega (arith, some, ap length f)
    by (b ∷ bs) f = omega (arith, short, ap length f)

    none : ((more : List ℕ) × AreBytes more × (rest ≡ flat_map spell_pair more)) → ⊥
    none r = by r.0 r.2

-- where nothing is behind the pairs, the word is read
pub hex_of-whole : (word bytes rest : List ℕ) → 0 < length word → AreBytes bytes → word ≡ flat_map spell_pair bytes ++ rest → length rest ≡ 0 → hex_of word ≡ Some bytes
hex_of-whole word bytes [] some h e short = hex_of-pairs word bytes some h (e ∙ append-nil (flat_map spell_pair bytes))
hex_of-whole word bytes (b ∷ bs) some h e short = absurd (omega (arith, short))

-- two bytes behind pairs that are no pair
pub hex_of-no_pair : (word done rest : List ℕ) → AreBytes done → word ≡ flat_map spell_pair done ++ rest → 2 ≤ length rest → ((b : ℕ) → b < 256 → get_or rest 0 0 ≡ hex_digit (b / 16) → get_or rest 1 0 ≡ hex_digit (b % 16) → ⊥) → hex_of word ≡ None
hex_of-no_pair word done rest g same some none = hex_of_none word (λ bytes h e _. at (rest_is done rest bytes g h (sym e ∙ same)))
  where
    by : (more : List ℕ) → AreBytes more → rest ≡ flat_map spell_pair more → ⊥
    by [] h f = omega (arith, some, ap length f)
    by (b ∷ bs) h f = none b h.0 (ap (λ (l : List ℕ). get_or l 0 0) f) (ap (λ (l : List ℕ). get_or l 1 0) f)

    at : ((more : List ℕ) × AreBytes more × (rest ≡ flat_map spell_pair more)) → ⊥
    at r = by r.0 r.1 r.2

pairs_some : (bytes : List ℕ) → 0 < length bytes → 0 < length (flat_map spell_pair bytes)
pairs_some [] h = absurd (omega (arith, h))
pairs_some (b ∷ bs) h = omega arith

-- what is spelled in hex is read
pub hex_of-spell_hex : (bytes : List ℕ) → AreBytes bytes → 0 < length bytes → hex_of (spell_hex bytes) ≡ Some bytes
unfolding spell_hex
hex_of-spell_hex bytes h some = hex_of-pairs (flat_map spell_pair bytes) bytes (pairs_some bytes some) h refl

some_pairs : (bytes : List ℕ) → 0 < length (flat_map spell_pair bytes) → 0 < length bytes
some_pairs [] h = h
some_pairs (b ∷ bs) h = omega arith

-- and what is read is spelled so
pub hex_of_spells : (word bytes : List ℕ) → hex_of word ≡ Some bytes → (word ≡ spell_hex bytes) × AreBytes bytes × (0 < length bytes)
unfolding spell_hex
hex_of_spells word bytes e =
    let h = hex_of_is word bytes e in
    (h.1, h.0, some_pairs bytes (subst (λ (w : List ℕ). 0 < length w) h.1 h.2))
