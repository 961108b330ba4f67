-- The escape of a text is an element of a path.
use Rattle.std.proofs.Common.{◌≡◌, ℕ, ◌/◌, ◌%◌, ◌<◌, List, [], ◌∷◌, ◌++◌, refl, arith, sym, subst, Bool, true, false, ◌&&◌, ◌||◌, cond}
use Rattle.std.specs.Prelude.{IsTrue}
use Rattle.std.specs.List.{flat_map, list_all}
use Rattle.std.proofs.lemmas.Bool.Decides.{nat_tests}
use Rattle.login_base.specs.Hex.{hex_digit}
use Rattle.login_base.specs.Labels.{escape, escape_of, first_byte, later_byte, is_letter}
use Rattle.login_base.specs.Names.{IsElement, is_digit, is_word_byte, words}
use Rattle.wire_calls.proofs.TextBytes.{AreBytes}

abbrev pub AreWords : List ℕ → Type 0
AreWords text = list_all is_word_byte text ≡ true

digit_stands : (n : ℕ) → n < 16 → is_word_byte (hex_digit n) ≡ true
digit_stands n h = grind (arith, nat_tests)

letter_stands : (b : ℕ) → is_letter b ≡ true → is_word_byte b ≡ true
letter_stands b h = grind (arith, nat_tests)

plain_stands : (b : ℕ) → is_letter b || is_digit b ≡ true → is_word_byte b ≡ true
plain_stands b h = grind (arith, nat_tests)

words_append : (xs ys : List ℕ) → AreWords xs → AreWords ys → AreWords (xs ++ ys)
words_append [] ys g h = h
words_append (x ∷ xs) ys g h = by (is_word_byte x) (list_all is_word_byte xs) refl refl g (λ f. words_append xs ys f h)
  where
    by : (a c : Bool) → is_word_byte x ≡ a → list_all is_word_byte xs ≡ c → (a && c) ≡ true → (AreWords xs → AreWords (xs ++ ys)) → is_word_byte x && list_all is_word_byte (xs ++ ys) ≡ true
    by true true e f k more = rw (e, more f) refl
    by true false e f k more = cc
    by false c e f k more = cc

escape_stands : (b : ℕ) → b < 256 → AreWords (escape_of b)
escape_stands b small = rw (digit_stands (b / 16) (omega arith), digit_stands (b % 16) (omega arith)) refl

piece_stands : (plain : Bool) (b : ℕ) → (plain ≡ true → is_word_byte b ≡ true) → b < 256 → AreWords (cond plain (b ∷ []) (escape_of b))
piece_stands true b h small = rw (h refl) refl
piece_stands false b h small = escape_stands b small

later_stands : (text : List ℕ) → AreBytes text → AreWords (flat_map later_byte text)
later_stands [] h = refl
later_stands (b ∷ bs) h = words_append (later_byte b) (flat_map later_byte bs) (piece_stands (is_letter b || is_digit b) b (plain_stands b) h.0) (later_stands bs h.1)

element_of : (text : List ℕ) (b : ℕ) (bs : List ℕ) → text ≡ b ∷ bs → AreWords text → IsElement words text
element_of text b bs is h = subst (IsElement words) (sym is) (parts (is_word_byte b) (list_all is_word_byte bs) refl refl (subst AreWords is h))
  where
    parts : (x y : Bool) → is_word_byte b ≡ x → list_all is_word_byte bs ≡ y → (is_word_byte b && list_all is_word_byte bs) ≡ true → IsTrue (is_word_byte b) × IsTrue (list_all is_word_byte bs)
    parts true true e f k = (e, f)
    parts true false e f k = cc
    parts false y e f k = cc

begins_with : (plain : Bool) (b : ℕ) (rest : List ℕ) → (c : ℕ) × (cs : List ℕ) × (cond plain (b ∷ []) (escape_of b) ++ rest ≡ c ∷ cs)
begins_with true b rest = (b, rest, refl)
begins_with false b rest = (95, hex_digit (b / 16) ∷ hex_digit (b % 16) ∷ rest, refl)

pub escape_element : (text : List ℕ) → AreBytes text → IsElement words (escape text)
escape_element [] h = (refl, refl)
escape_element (b ∷ bs) h =
    let some = begins_with (is_letter b) b (flat_map later_byte bs) in
    element_of (escape (b ∷ bs)) some.0 some.1 some.2 (words_append (first_byte b) (flat_map later_byte bs) (piece_stands (is_letter b) b (letter_stands b) h.0) (later_stands bs h.1))

pub escape_words : (text : List ℕ) → AreBytes text → AreWords (escape text)
escape_words [] h = refl
escape_words (b ∷ bs) h = words_append (first_byte b) (flat_map later_byte bs) (piece_stands (is_letter b) b (letter_stands b) h.0) (later_stands bs h.1)
