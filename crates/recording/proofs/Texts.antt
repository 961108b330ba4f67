-- Laws of texts and their spellings.
use Rattle.std.proofs.Common.{◌≡◌, ℕ, ◌+◌, ◌*◌, ◌/◌, ◌%◌, ◌<◌, ◌≤◌, List, [], ◌∷◌, ◌++◌, length, refl, arith, ap, sym, ◌∙◌, subst, Bool, true, false, not, cond, eqb, leb, ◌&&◌, Option, Some, None, Err, append_assoc}
use Rattle.std.specs.List.{flat_map}
use Rattle.std.specs.Str.{bytes_eq}
use Rattle.std.proofs.lemmas.Str.{IsUtf8-nil}
use Rattle.std.proofs.lemmas.List.{append_cancel_left}
use Rattle.std.proofs.lemmas.Bool.Decides.{nat_tests}
use Rattle.std.proofs.lemmas.Slice.Eq.{bytes_eq-Decides}
use Rattle.login_model.specs.Texts.{IsText}
use Rattle.login_base.specs.Hex.{hex_digit, hex_value}
use Rattle.login_base.specs.Texts.{is_text}
use Rattle.login_base.proofs.Texts.{made_text, text_parts, utf8_bytes}
use Rattle.recording.specs.Text.{stands, spell_byte, spell_text}
use Rattle.recording.specs.Bytes.{AreBytes}
use Rattle.recording.specs.declared.word.Misread.{Misread}
use Rattle.recording.specs.declared.word.Misread.TheVariants.{Misfit, NoMemory}
use Rattle.recording.specs.Words.{Plain, unspelled, is_short_text, text_of}
use Rattle.recording.specs.inner.Words.{Gives}

pub hex_value-hex_digit : (n : ℕ) → n < 16 → hex_value (hex_digit n) ≡ n
hex_value-hex_digit n small = grind (arith, nat_tests)

stands_percent : (b : ℕ) → stands b ≡ true → eqb b 37 ≡ false
stands_percent b h = grind (arith, nat_tests)

by_escape : (b : ℕ) (rest : List ℕ) → b < 256 → (16 * hex_value (hex_digit (b / 16)) + hex_value (hex_digit (b % 16))) ∷ unspelled Plain rest ≡ b ∷ unspelled Plain rest
by_escape b rest small =
    let high = hex_value-hex_digit (b / 16) (omega arith) in
    let low = hex_value-hex_digit (b % 16) (omega arith) in
    let whole : 16 * (b / 16) + b % 16 ≡ b = omega arith in
    rw (high, low, whole) refl

-- a spelled byte is read as itself
pub unspelled-spell_byte : (b : ℕ) (rest : List ℕ) → b < 256 → unspelled Plain (spell_byte b ++ rest) ≡ b ∷ unspelled Plain rest
unspelled-spell_byte b rest small = by (stands b) refl
  where
    by : (s : Bool) → stands b ≡ s → unspelled Plain (spell_byte b ++ rest) ≡ b ∷ unspelled Plain rest
    by true e = rw (e, stands_percent b e) refl
    by false e = rw e (by_escape b rest small)

pub unspelled-flat_map : (text : List ℕ) → AreBytes text → unspelled Plain (flat_map spell_byte text) ≡ text
unspelled-flat_map [] h = refl
unspelled-flat_map (b ∷ bs) h = unspelled-spell_byte b (flat_map spell_byte bs) h.0 ∙ ap (λ (t : List ℕ). b ∷ t) (unspelled-flat_map bs h.1)

pub both : (a b : Bool) → (a && b) ≡ true → (a ≡ true) × (b ≡ true)
both true true e = (refl, refl)
both true false e = cc
both false b e = cc

pub is_short_text-from : (most : ℕ) (text : List ℕ) → IsText most text → is_short_text most text ≡ true
is_short_text-from most text h =
    let short : leb (length text) most ≡ true = within (length text) most h.short in
    rw (made_text text h.utf8 h.no_nul, short) refl
  where
    within : (a b : ℕ) → a ≤ b → leb a b ≡ true
    within a b h = grind (arith, nat_tests)

pub is_short_text_is : (most : ℕ) (text : List ℕ) → is_short_text most text ≡ true → IsText most text
is_short_text_is most text h =
    let p = both (is_text text) (leb (length text) most) h in
    let q = text_parts text p.0 in
    record { utf8 = q.0; no_nul = q.1; short = within (length text) most p.1 }
  where
    within : (a b : ℕ) → leb a b ≡ true → a ≤ b
    within a b h = grind (arith, nat_tests)

unspelled-spell_text : (text : List ℕ) → AreBytes text → unspelled Plain (spell_text text) ≡ text
unfolding spell_text
unspelled-spell_text [] h = refl
unspelled-spell_text (b ∷ bs) h = unspelled-flat_map (b ∷ bs) h

spell_text-nil : spell_text [] ≡ 37 ∷ []
unfolding spell_text
spell_text-nil = refl

spell_text-cons : (b : ℕ) (bs : List ℕ) → spell_text (b ∷ bs) ≡ flat_map spell_byte (b ∷ bs)
unfolding spell_text
spell_text-cons b bs = refl

pub spell_text-none : (text : List ℕ) → length text ≡ 0 → spell_text text ≡ 37 ∷ []
spell_text-none [] e = spell_text-nil
spell_text-none (b ∷ bs) e = absurd (omega (arith, e))

pub spell_text-some : (text : List ℕ) → 0 < length text → spell_text text ≡ flat_map spell_byte text
spell_text-some [] e = absurd (omega (arith, e))
spell_text-some (b ∷ bs) e = spell_text-cons b bs

spell_byte_some : (b : ℕ) (rest : List ℕ) → length (spell_byte b ++ rest) ≡ 0 → ⊥
spell_byte_some b rest e = by (stands b) refl
  where
    by : (s : Bool) → stands b ≡ s → ⊥
    by true h = let f : length (b ∷ rest) ≡ 0 = rw h at e in omega arith
    by false h = let f : length (37 ∷ hex_digit (b / 16) ∷ hex_digit (b % 16) ∷ rest) ≡ 0 = rw h at e in omega arith

spell_text_some : (text : List ℕ) → length (spell_text text) ≡ 0 → ⊥
unfolding spell_text
spell_text_some [] e = omega (arith, e)
spell_text_some (b ∷ bs) e = spell_byte_some b (flat_map spell_byte bs) e

-- what is spelled is read
pub text_of-spell_text : (most : ℕ) (text : List ℕ) → IsText most text → text_of most (spell_text text) ≡ Some text
unfolding text_of
text_of-spell_text most text h =
    let back = unspelled-spell_text text (utf8_bytes text h.utf8) in
    let same : bytes_eq (spell_text text) (spell_text text) ≡ true = (bytes_eq-Decides (spell_text text) (spell_text text)).1 refl in
    rw (back, is_short_text-from most text h, same) refl

by_tests : (b c : Bool) (t u : List ℕ) → cond (b && c) (Some u) None ≡ Some t → (b ≡ true) × (c ≡ true) × (u ≡ t)
by_tests true true t u e = (refl, refl, cc)
by_tests true false t u e = cc
by_tests false c t u e = cc

-- what is read is spelled so
pub text_of_is : (most : ℕ) (word text : List ℕ) → text_of most word ≡ Some text → (word ≡ spell_text text) × IsText most text
unfolding text_of
text_of_is most word text e =
    let t = by_tests (is_short_text most (unspelled Plain word)) (bytes_eq (spell_text (unspelled Plain word)) word) text (unspelled Plain word) e in
    let same : spell_text (unspelled Plain word) ≡ word = (bytes_eq-Decides (spell_text (unspelled Plain word)) word).0 t.1 in
    (sym same ∙ ap spell_text t.2, subst (IsText most) t.2 (is_short_text_is most (unspelled Plain word) t.0))

-- a word that is no text's spelling is not read
pub text_of_none : (most : ℕ) (word : List ℕ) → ((text : List ℕ) → IsText most text → word ≡ spell_text text → ⊥) → text_of most word ≡ None
text_of_none most word none = by (text_of most word) refl
  where
    by : (o : Option (List ℕ)) → text_of most word ≡ o → o ≡ None
    by None e = refl
    by (Some text) e = let h = text_of_is most word text e in absurd (none text h.1 h.0)

-- spellings of bytes are told apart from the left
same_front : (x y : ℕ) (a b : List ℕ) → x < 256 → y < 256 → spell_byte x ++ a ≡ spell_byte y ++ b → x ≡ y
same_front x y a b sx sy e =
    let h : x ∷ unspelled Plain a ≡ y ∷ unspelled Plain b = sym (unspelled-spell_byte x a sx) ∙ (ap (unspelled Plain) e ∙ unspelled-spell_byte y b sy) in
    cc

-- what follows the spelling of some bytes of a text is the spelling of the others
rest_is : (done rest text : List ℕ) → AreBytes done → AreBytes text → flat_map spell_byte text ≡ flat_map spell_byte done ++ rest → (more : List ℕ) × AreBytes more × (rest ≡ flat_map spell_byte more)
rest_is [] rest text g h e = (text, h, sym e)
rest_is (x ∷ xs) rest [] g h e = absurd (spell_byte_some x (flat_map spell_byte xs ++ rest) (sym (ap length (e ∙ append_assoc (spell_byte x) (flat_map spell_byte xs) rest))))
rest_is (x ∷ xs) rest (y ∷ ys) g h e =
    let f : spell_byte y ++ flat_map spell_byte ys ≡ spell_byte x ++ (flat_map spell_byte xs ++ rest) = e ∙ append_assoc (spell_byte x) (flat_map spell_byte xs) rest in
    let same : y ≡ x = same_front y x (flat_map spell_byte ys) (flat_map spell_byte xs ++ rest) h.0 g.0 f in
    let k : spell_byte x ++ flat_map spell_byte ys ≡ spell_byte x ++ (flat_map spell_byte xs ++ rest) = ap (λ (b : ℕ). spell_byte b ++ flat_map spell_byte ys) (sym same) ∙ f in
    rest_is xs rest ys g.1 h.1 (append_cancel_left (spell_byte x) (flat_map spell_byte ys) (flat_map spell_byte xs ++ rest) k)

-- where the bytes after the spelling of some begin no spelling, the whole is none
pub no_spelling : (done rest text : List ℕ) → AreBytes done → AreBytes text → 0 < length rest → ((b : ℕ) (more : List ℕ) → b < 256 → rest ≡ spell_byte b ++ more → ⊥) → flat_map spell_byte text ≡ flat_map spell_byte done ++ rest → ⊥
no_spelling done rest text g h some none e =
    let r = rest_is done rest text g h e in by r.0 r.1 r.2
  where
    by : (more : List ℕ) → AreBytes more → rest ≡ flat_map spell_byte more → ⊥
    by [] k f = omega (arith, ap length f)
    by (b ∷ bs) k f = none b (flat_map spell_byte bs) k.0 f

-- the empty word is no text's spelling
pub text_of-empty_word : (most : ℕ) (word : List ℕ) → length word ≡ 0 → text_of most word ≡ None
text_of-empty_word most word short = text_of_none most word (λ text h e. by text (ap length (sym e) ∙ short))
  where
    by : (text : List ℕ) → length (spell_text text) ≡ 0 → ⊥
    by text e = spell_text_some text e

-- `%` alone spells the empty text
pub text_of-percent : (most : ℕ) (word : List ℕ) → word ≡ 37 ∷ [] → text_of most word ≡ Some []
text_of-percent most word e = ap (text_of most) (e ∙ sym spell_text-nil) ∙ text_of-spell_text most [] (record { utf8 = IsUtf8-nil; no_nul = tt; short = omega arith })

-- a word that spells no bytes is not read
pub text_of-no_bytes : (most : ℕ) (word : List ℕ) → (word ≡ 37 ∷ [] → ⊥) → ((text : List ℕ) → AreBytes text → word ≡ flat_map spell_byte text → ⊥) → text_of most word ≡ None
text_of-no_bytes most word other none = text_of_none most word (λ text h e. by text (utf8_bytes text h.utf8) e)
  where
    by : (text : List ℕ) → AreBytes text → word ≡ spell_text text → ⊥
    by [] h e = other (e ∙ spell_text-nil)
    by (b ∷ bs) h e = none (b ∷ bs) h (e ∙ spell_text-cons b bs)

-- a word that spells a text is read
pub text_of-bytes : (most : ℕ) (word text : List ℕ) → 0 < length word → word ≡ flat_map spell_byte text → IsText most text → text_of most word ≡ Some text
text_of-bytes most word [] some e h = absurd (omega (arith, some, ap length e))
text_of-bytes most word (b ∷ bs) some e h = ap (text_of most) (e ∙ sym (spell_text-cons b bs)) ∙ text_of-spell_text most (b ∷ bs) h

-- a word that spells bytes which are no text is not read
pub text_of-no_text : (most : ℕ) (word text : List ℕ) → (word ≡ 37 ∷ [] → ⊥) → AreBytes text → word ≡ flat_map spell_byte text → (IsText most text → ⊥) → text_of most word ≡ None
text_of-no_text most word text other g e none = text_of_none most word by
  where
    by : (t : List ℕ) → IsText most t → word ≡ spell_text t → ⊥
    by t h f =
        let same : t ≡ text = sym (unspelled-spell_text t (utf8_bytes t h.utf8)) ∙ (ap (unspelled Plain) (sym f ∙ e) ∙ unspelled-flat_map text g) in
        none (subst (IsText most) same h)

-- where no bytes were found, no text is
pub text_of-fault : (most : ℕ) (word : List ℕ) (e : Misread) → (word ≡ 37 ∷ [] → ⊥) → (e ≡ Misfit → (text : List ℕ) → AreBytes text → word ≡ flat_map spell_byte text → ⊥) → Gives (text_of most word) (Err e)
text_of-fault most word Misfit other none = text_of-no_bytes most word other (none refl)
text_of-fault most word NoMemory other none = tt
