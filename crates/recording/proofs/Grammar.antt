-- The lines of the grammar are the lines without a fault.
use Rattle.std.proofs.Common.{◌≡◌, ℕ, ◌<◌, ◌≤◌, ◌⊎◌, inl, inr, List, [], ◌∷◌, ◌++◌, length, length-append, codes, refl, arith, ap, sym, ◌∙◌, subst, Bool, true, false, eqb, leb, Option, Some, None, Result, Ok, Err}
use Rattle.std.specs.List.{slice_split, join_with_byte, list_any}
use Rattle.std.proofs.lemmas.Bool.Decides.{nat_tests}
use Rattle.std.proofs.lemmas.List.{append_cancel_right}
use Rattle.recording.specs.declared.line.Line.{Line}
use Rattle.recording.specs.declared.line.LineFault.{LineFault}
use Rattle.recording.specs.declared.line.LineFault.TheVariants.{TooLong, Ended, ExtraWord, NoMemory}
use Rattle.recording.specs.Bytes.{AreBytes}
use Rattle.recording.specs.Cut.{NoLineFeed}
use Rattle.recording.specs.Lines.{fields, IsWritten, Spells}
use Rattle.recording.specs.Causes.{line_fault}
use Rattle.recording.specs.Grammar.{InGrammar, OneGrammar}
use Rattle.recording.specs.Meaning.{meant, IsReadAs}
use Rattle.recording.specs.inner.Meaning.{Means}
use Rattle.recording.specs.inner.LineReadings.{line_of}
use Rattle.recording.proofs.Causes.{refused, fault_of, faultless, more_than_line, fault_of_words, too_long_before, too_long_whole, has_ended, nothing_ended}
use Rattle.recording.proofs.ReadBytes.{IsRead, text_bytes, no_feed, no_feed_test}
use Rattle.recording.proofs.Spellings.{line_of-text, text_spells, text_written, written_no_feed}

-- a text that is a line of the grammar, with its line feed
pub record IsText (bytes : List ℕ) (line : Line) : Type 0 where
  pub text : List ℕ
  pub whole : bytes ≡ text ++ 10 ∷ []
  pub short : length text ≤ 16384
  pub one : list_any (λ b. eqb b 10) text ≡ false
  pub read : line_of (slice_split (λ b. eqb b 32) text) ≡ Some line

-- what spells a line is read as it
pub spells_text : (line : Line) (bytes : List ℕ) → Spells line bytes → IsWritten line → IsText bytes line
unfolding line_of
spells_text line bytes (Spells.plain l short) h = record {
  text = join_with_byte 32 (fields l);
  whole = refl;
  short = omega (arith, short, length-append (join_with_byte 32 (fields l)) (10 ∷ []));
  one = no_feed_test (join_with_byte 32 (fields l)) (written_no_feed l h);
  read = line_of-text (join_with_byte 32 (fields l)) l h refl;
}
spells_text line bytes Spells.empty h = record { text = codes "conf "; whole = refl; short = omega arith; one = refl; read = refl }

-- a text is read in one way, however it is cut
text_is_one : (text other : List ℕ) → text ++ 10 ∷ [] ≡ other ++ 10 ∷ [] → text ≡ other
text_is_one text other e = append_cancel_right text other (10 ∷ []) e

pub read_as : (bytes text : List ℕ) (line : Line) → bytes ≡ text ++ 10 ∷ [] → Spells line bytes → IsWritten line → line_of (slice_split (λ b. eqb b 32) text) ≡ Some line
read_as bytes text line whole s h =
    let t = spells_text line bytes s h in
    let same : t.text ≡ text = text_is_one t.text text (sym t.whole ∙ whole) in
    subst (λ (x : List ℕ). line_of (slice_split (λ b. eqb b 32) x) ≡ Some line) same t.read

faultless_line : (bytes : List ℕ) → InGrammar bytes → line_fault bytes ≡ None
faultless_line bytes g =
    let t = spells_text g.line bytes g.spells g.written in
    fault_of_words bytes t.text 10 t.whole refl t.short t.one ∙ faultless (slice_split (λ b. eqb b 32) t.text) g.line t.read

-- bytes are none, or some and a last one
record EndsIn (bytes : List ℕ) : Type 0 where
  text : List ℕ
  last : ℕ
  whole : bytes ≡ text ++ last ∷ []

ends_in : (b : ℕ) (bytes : List ℕ) → EndsIn (b ∷ bytes)
ends_in b [] = record { text = []; last = b; whole = refl }
ends_in b (c ∷ bytes) = let rest = ends_in c bytes in record { text = b ∷ rest.text; last = rest.last; whole = ap (λ (t : List ℕ). b ∷ t) rest.whole }

in_grammar : (bytes : List ℕ) → AreBytes bytes → line_fault bytes ≡ None → InGrammar bytes
in_grammar [] are e = let wrong : None ≡ Some Ended = sym e ∙ nothing_ended [] refl in cc
in_grammar (a ∷ rest) are e = by (eqb x.last 10) refl (leb (length x.text) 16384) refl (leb (length bytes) 16384) refl
  where
    bytes : List ℕ
    bytes = a ∷ rest

    x : EndsIn bytes
    x = ends_in a rest

    words : List (List ℕ)
    words = slice_split (λ b. eqb b 32) x.text

    is_feed : (n : ℕ) → eqb n 10 ≡ true → n ≡ 10
    is_feed n h = grind (arith, nat_tests)

    no_feed : (n : ℕ) → eqb n 10 ≡ false → n ≡ 10 → ⊥
    no_feed n h k = grind (arith, nat_tests)

    within : (n : ℕ) → leb n 16384 ≡ true → n ≤ 16384
    within n h = grind (arith, nat_tests)

    above : (n : ℕ) → leb n 16384 ≡ false → 16384 < n
    above n h = grind (arith, nat_tests)

    without : (fault : LineFault) → line_fault bytes ≡ Some fault → InGrammar bytes
    without fault h = let wrong : None ≡ Some fault = sym e ∙ h in cc

    spelled : x.last ≡ 10 → length x.text ≤ 16384 → list_any (λ b. eqb b 10) x.text ≡ false → (o : Option Line) → line_of words ≡ o → InGrammar bytes
    spelled feed short one None read = absurd (fault_of words read (sym (fault_of_words bytes x.text x.last x.whole feed short one) ∙ e))
    spelled feed short one (Some line) read =
        let whole : bytes ≡ x.text ++ 10 ∷ [] = x.whole ∙ ap (λ (b : ℕ). x.text ++ b ∷ []) feed in
        record {
          line = line;
          spells = subst (Spells line) (sym whole) (text_spells x.text line read short);
          written = text_written x.text line read (text_bytes bytes x.text whole one are);
        }

    lined : x.last ≡ 10 → length x.text ≤ 16384 → (b : Bool) → list_any (λ b. eqb b 10) x.text ≡ b → InGrammar bytes
    lined feed short true more = without ExtraWord (more_than_line bytes x.text x.last x.whole feed short more)
    lined feed short false one = spelled feed short one (line_of words) refl

    by : (p : Bool) → eqb x.last 10 ≡ p → (q : Bool) → leb (length x.text) 16384 ≡ q → (r : Bool) → leb (length bytes) 16384 ≡ r → InGrammar bytes
    by true f true g r h = lined (is_feed x.last f) (within (length x.text) g) (list_any (λ b. eqb b 10) x.text) refl
    by true f false g r h = without TooLong (too_long_before bytes x.text x.last x.whole (above (length x.text) g))
    by false f q g true h = without Ended (has_ended bytes x.text x.last x.whole (no_feed x.last f) (within (length bytes) h))
    by false f q g false h = without TooLong (too_long_whole bytes x.text x.last x.whole (no_feed x.last f) (above (length bytes) h))

pub one_grammar : OneGrammar
one_grammar bytes are = (faultless_line bytes, in_grammar bytes are)

-- a line of the grammar has no fault, so it is refused for none
pub spelled_faultless : (bytes : List ℕ) (fault : LineFault) → line_fault bytes ≡ Some fault → (line : Line) → Spells line bytes → IsWritten line → ⊥
spelled_faultless bytes fault e line s w =
    let none = faultless_line bytes (record { line = line; spells = s; written = w }) in
    let wrong : None ≡ Some fault = sym none ∙ e in
    cc

-- nor is one that means something
pub meant_faultless : (bytes : List ℕ) (fault : LineFault) → line_fault bytes ≡ Some fault → (line : Line) → IsReadAs bytes line → ⊥
meant_faultless bytes fault e line r = spelled_faultless bytes fault e r.written r.spells r.fits

pub read_faultless : (bytes : List ℕ) (fault : LineFault) → line_fault bytes ≡ Some fault → (line : Line) → IsRead bytes line → ⊥
read_faultless bytes fault e line r = spelled_faultless bytes fault e line r.spells r.written

-- a line that is refused is read as none, unless there was no memory
pub refused_unread : (bytes : List ℕ) (found : LineFault) → (found ≡ NoMemory) ⊎ (line_fault bytes ≡ Some found) → (line : Line) → IsReadAs bytes line → (refused found ≡ Ok line) ⊎ (refused found ≡ Err NoMemory)
refused_unread bytes found (inl n) line r = inr (ap Err n)
refused_unread bytes found (inr e) line r = absurd (meant_faultless bytes found e line r)

-- what a reader answers to a line of the grammar
pub read_again : (bytes text : List ℕ) (read : Line) (r : Result Line LineFault) → bytes ≡ text ++ 10 ∷ [] → line_of (slice_split (λ b. eqb b 32) text) ≡ Some read → Means read r
    → (line : Line) → IsReadAs bytes line → (r ≡ Ok line) ⊎ (r ≡ Err NoMemory)
read_again bytes text read (Ok l) whole found m line h =
    let both : Some read ≡ Some h.written = sym found ∙ read_as bytes text h.written whole h.spells h.fits in
    let same : read ≡ h.written = cc in
    inl (ap Ok (m ∙ (ap meant same ∙ sym h.means)))
read_again bytes text read (Err fault) whole found m line h = inr (ap Err m)

-- bytes spell one line
pub spells_one : (bytes : List ℕ) (l m : Line) → Spells l bytes → IsWritten l → Spells m bytes → IsWritten m → l ≡ m
spells_one bytes l m s w t v =
    let a = spells_text l bytes s w in
    let both : Some l ≡ Some m = sym a.read ∙ read_as bytes a.text m a.whole t v in
    cc

-- and they are read as one
pub reads_one : (bytes : List ℕ) (l m : Line) → IsReadAs bytes l → IsReadAs bytes m → l ≡ m
reads_one bytes l m a b = a.means ∙ (ap meant (spells_one bytes a.written b.written a.spells a.fits b.spells b.fits) ∙ sym b.means)
