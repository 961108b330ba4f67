-- A line that is too long is known by its first 16385 bytes.
use Rattle.std.proofs.Common.{◌≡◌, ℕ, ◌<◌, List, [], ◌∷◌, ◌++◌, length, length-append, take, drop, refl, sym, ◌∙◌, ap, subst, arith, Bool, true, false, leb, Some, codes, ◌⊎◌, inl, inr}
use Rattle.std.proofs.lemmas.Bool.Decides.{nat_tests}
use Rattle.std.proofs.lemmas.List.{take-append-drop, take-append-le, take_all, length-take-le}
use Rattle.std.specs.List.{join_with_byte}
use Rattle.recording.specs.declared.line.Line.{Line}
use Rattle.recording.specs.declared.line.LineFault.TheVariants.{TooLong}
use Rattle.recording.specs.Cut.{NoLineFeed, first_line}
use Rattle.recording.proofs.Cuts.{FirstLineCases, first_line_cases}
use Rattle.recording.specs.Lines.{fields, Spells}
use Rattle.recording.specs.Lines.Spells.{plain, empty}
use Rattle.recording.specs.Causes.{line_fault}
use Rattle.recording.specs.Meaning.{IsReadAs}
use Rattle.recording.proofs.Causes.{too_long_before, too_long_whole}

abbrev front : List ℕ → List ℕ
front text = take 16385 (first_line text)

record Snoc (line : List ℕ) : Type 0 where
  text : List ℕ
  last : ℕ
  is : line ≡ text ++ last ∷ []

snoc : (x : ℕ) (xs : List ℕ) → Snoc (x ∷ xs)
snoc x [] = record { text = []; last = x; is = refl }
snoc x (y ∷ ys) = let h = snoc y ys in record { text = x ∷ h.text; last = h.last; is = ap (λ (t : List ℕ). x ∷ t) h.is }

last_not : (text : List ℕ) (b : ℕ) → NoLineFeed (text ++ b ∷ []) → b ≡ 10 → ⊥
last_not [] b h = h.0
last_not (t ∷ ts) b h = last_not ts b h.1

feedless_front : (xs ys : List ℕ) → NoLineFeed (xs ++ ys) → NoLineFeed xs
feedless_front [] ys h = tt
feedless_front (x ∷ xs) ys h = (h.0, feedless_front xs ys h.1)

feedless_take : (n : ℕ) (xs : List ℕ) → NoLineFeed xs → NoLineFeed (take n xs)
feedless_take n xs h = feedless_front (take n xs) (drop n xs) (subst NoLineFeed (sym (take-append-drop n xs)) h)

long_whole : (line : List ℕ) → NoLineFeed line → 16384 < length line → line_fault line ≡ Some TooLong
long_whole [] h long = absurd (omega (arith, long))
long_whole (x ∷ xs) h long = let s = snoc x xs in too_long_whole (x ∷ xs) s.text s.last s.is (last_not s.text s.last (subst NoLineFeed s.is h)) long

-- a line of more bytes than are kept
record Long (text : List ℕ) : Type 0 where
  fault : line_fault (first_line text) ≡ Some TooLong
  feedless : NoLineFeed (front text)
  full : length (front text) ≡ 16385

long_by : (text : List ℕ) → FirstLineCases text → 16385 < length (first_line text) → Long text
long_by text (inl h) long =
    let feedless : NoLineFeed (first_line text) = subst NoLineFeed (sym h.1) h.0 in
    record {
      fault = long_whole (first_line text) feedless (omega (arith, long));
      feedless = feedless_take 16385 (first_line text) feedless;
      full = length-take-le 16385 (first_line text) (omega (arith, long));
    }
long_by text (inr h) long =
    let len : 16384 < length h.0 = omega (arith, long, ap length h.1.1, length-append h.0 (10 ∷ [])) in
    let same : front text ≡ take 16385 h.0 = ap (take 16385) h.1.1 ∙ take-append-le 16385 h.0 (10 ∷ []) (omega (arith, len)) in
    record {
      fault = too_long_before (first_line text) h.0 10 h.1.1 len;
      feedless = subst NoLineFeed (sym same) (feedless_take 16385 h.0 h.1.0);
      full = length-take-le 16385 (first_line text) (omega (arith, long));
    }

within_by : (text : List ℕ) (t : Bool) → leb (length (first_line text)) 16385 ≡ t → (Long text) ⊎ (front text ≡ first_line text)
within_by text true e = inr (take_all 16385 (first_line text) (grind (arith, nat_tests)))
within_by text false e = inl (long_by text (first_line_cases text) (grind (arith, nat_tests)))

fault_by : (text : List ℕ) → (Long text) ⊎ (front text ≡ first_line text) → line_fault (front text) ≡ line_fault (first_line text)
fault_by text (inl long) = long_whole (front text) long.feedless (omega (arith, long.full)) ∙ sym long.fault
fault_by text (inr same) = ap line_fault same

-- the fault of a line is that of its front
pub fault_of_front : (text : List ℕ) → line_fault (take 16385 (first_line text)) ≡ line_fault (first_line text)
fault_of_front text = fault_by text (within_by text (leb (length (first_line text)) 16385) refl)

spelled_feed : (line : Line) (bytes : List ℕ) → Spells line bytes → NoLineFeed bytes → ⊥
spelled_feed _ _ (plain line short) h = last_not (join_with_byte 32 (fields line)) 10 h refl
spelled_feed _ _ empty h = last_not (codes "conf ") 10 h refl

read_by : (text : List ℕ) (line : Line) → (Long text) ⊎ (front text ≡ first_line text) → IsReadAs (front text) line → IsReadAs (first_line text) line
read_by text line (inl long) h = absurd (spelled_feed h.written (front text) h.spells long.feedless)
read_by text line (inr same) h = subst (λ (t : List ℕ). IsReadAs t line) same h
