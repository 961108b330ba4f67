-- What the bytes of a line, with its line feed, are read as.
use Rattle.std.proofs.Common.{◌≡◌, ◌≢◌, ℕ, suc, ◌≤◌, List, [], ◌∷◌, ◌++◌, length, get_or, refl, arith, sym, ◌∙◌, subst, Bool, true, false, eqb, Some, Result, Ok, Err, IfOk, Fits, w8}
use Rattle.std.specs.List.{slice_split, list_any}
use Rattle.std.proofs.lemmas.Bool.Decides.{nat_tests}
use Rattle.recording.specs.declared.line.Line.{Line}
use Rattle.recording.specs.declared.line.LineFault.{LineFault}
use Rattle.recording.specs.declared.line.LineFault.TheVariants.{NoMemory}
use Rattle.recording.specs.Bytes.{AreBytes, AreRaw}
use Rattle.recording.specs.Cut.{NoLineFeed}
use Rattle.recording.specs.Lines.{IsLine, IsWritten, Spells}
use Rattle.recording.specs.Meaning.{IsReadAs}
use Rattle.recording.specs.inner.Meaning.{Means}
use Rattle.recording.specs.inner.LineReadings.{line_of}
use Rattle.recording.proofs.Spellings.{text_spells, text_written, line_meant, spells_short}

-- elements that are each a byte
pub each_byte : (bs : List ℕ) → ((i : ℕ) → Fits w8 (get_or bs i 0)) → AreBytes bs
each_byte [] h = tt
each_byte (b ∷ bs) h = (omega (arith, h 0), each_byte bs (λ i. h (suc i)))

-- no byte is a line feed, as the test says
pub no_feed : (text : List ℕ) → list_any (λ b. eqb b 10) text ≡ false → NoLineFeed text
no_feed [] e = tt
no_feed (b ∷ bs) e = by (eqb b 10) refl (λ h. no_feed bs (rw h at e))
  where
    other : (n : ℕ) → eqb n 10 ≡ false → n ≢ 10
    other n h k = grind (arith, nat_tests)

    by : (x : Bool) → eqb b 10 ≡ x → (eqb b 10 ≡ false → NoLineFeed bs) → NoLineFeed (b ∷ bs)
    by true h rest = let wrong : true ≡ false = rw h at e in cc
    by false h rest = (other b h, rest h)

pub no_feed_test : (text : List ℕ) → NoLineFeed text → list_any (λ b. eqb b 10) text ≡ false
no_feed_test [] h = refl
no_feed_test (b ∷ bs) h = rw (other b h.0, no_feed_test bs h.1) refl
  where
    other : (n : ℕ) → n ≢ 10 → eqb n 10 ≡ false
    other n k = grind (arith, nat_tests)

front_bytes : (xs ys : List ℕ) → AreBytes (xs ++ ys) → AreBytes xs
front_bytes [] ys h = tt
front_bytes (x ∷ xs) ys h = (h.0, front_bytes xs ys h.1)

raw : (text : List ℕ) → AreBytes text → NoLineFeed text → AreRaw text
raw [] h k = tt
raw (b ∷ bs) h k = ((h.0, k.0), raw bs h.1 k.1)

-- the bytes of a line before its line feed
pub text_bytes : (bytes text : List ℕ) → bytes ≡ text ++ 10 ∷ [] → list_any (λ b. eqb b 10) text ≡ false → AreBytes bytes → AreRaw text
text_bytes bytes text e one h = raw text (front_bytes text (10 ∷ []) (subst AreBytes e h)) (no_feed text one)

-- a text that was read as a line, with its line feed
pub record IsRead (bytes : List ℕ) (line : Line) : Type 0 where
  pub spells : Spells line bytes
  pub written : IsWritten line

pub read_so : (bytes text : List ℕ) (line : Line) → bytes ≡ text ++ 10 ∷ [] → length text ≤ 16384 → list_any (λ b. eqb b 10) text ≡ false → AreBytes bytes
    → line_of (slice_split (λ b. eqb b 32) text) ≡ Some line → IsRead bytes line
read_so bytes text line whole short one are read = record {
  spells = subst (Spells line) (sym whole) (text_spells text line read short);
  written = text_written text line read (text_bytes bytes text whole one are);
}

-- what is read is what the written line means
pub read_found : (bytes : List ℕ) (line : Line) (r : Result Line LineFault) → IsRead bytes line → Means line r → IfOk r (λ l. IsReadAs bytes l)
read_found bytes line (Ok l) is m = record { written = line; spells = is.spells; fits = is.written; means = m }
read_found bytes line (Err fault) is m = tt

pub read_fits : (bytes : List ℕ) (line : Line) (r : Result Line LineFault) → IsRead bytes line → Means line r → IfOk r (λ l. IsLine l)
read_fits bytes line (Ok l) is m = subst IsLine (sym m) (line_meant line is.written (spells_short line bytes is.spells))
read_fits bytes line (Err fault) is m = tt

-- it is refused for want of memory alone
pub read_refused : (line : Line) (r : Result Line LineFault) (fault : LineFault) → Means line r → r ≡ Err fault → fault ≡ NoMemory
read_refused line (Ok l) fault m e = cc
read_refused line (Err other) fault m e = let same : other ≡ fault = cc in sym same ∙ m
