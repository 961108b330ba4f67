-- The lines of a text are its bytes.
use Rattle.std.proofs.Common.{◌≡◌, ℕ, List, [], ◌∷◌, ◌++◌, refl, arith, ap, sym, ◌∙◌, Bool, true, false, cond}
use Rattle.std.proofs.lemmas.Bool.Decides.{nat_tests}
use Rattle.bus_auth.specs.Cutting.{Lines, Whole, Open, is_line_end, before, cut}
use Rattle.bus_auth.specs.Laws.{LinesOfText, joined, AreLines}
use Rattle.bus_auth.proofs.Cuts.{open_same}

ends_are : (b c : ℕ) → is_line_end b c ≡ true → (b ≡ 13) × (c ≡ 10)
ends_are b c e = (grind (arith, nat_tests, e), grind (arith, nat_tests, e))

-- a byte in front of a line that does not end it
one_line : (b c : ℕ) (l bs : List ℕ) → is_line_end b c ≡ false → (more : List ℕ) → l ++ more ≡ c ∷ bs → cut l ≡ Open l → cut (b ∷ l) ≡ Open (b ∷ l)
one_line b c [] bs e more same whole = refl
one_line b c (d ∷ l) bs e more same whole =
    let first : d ≡ c = cc in
    let test : is_line_end b d ≡ false = rw first e in
    rw test (ap (before b) whole)

abbrev AreOf : Lines → List ℕ → Type 0
AreOf lines text = (joined lines ≡ text) × AreLines lines

lines_by : (b c : ℕ) (bs : List ℕ) (t : Bool) (rest : Lines) → is_line_end b c ≡ t → rest ≡ cut (c ∷ bs)
    → AreOf (cut bs) bs → AreOf rest (c ∷ bs) → AreOf (cond t (Whole [] bs (cut bs)) (before b rest)) (b ∷ c ∷ bs)
lines_by b c bs true rest e is first second =
    let are = ends_are b c e in
    let text : 13 ∷ 10 ∷ joined (cut bs) ≡ b ∷ c ∷ bs = rw (are.0, are.1, first.0) refl in
    (text, (refl, sym first.0, first.1))
lines_by b c bs false (Whole l k m) e is first second =
    (ap (λ (x : List ℕ). b ∷ x) second.0, (one_line b c l bs e (13 ∷ 10 ∷ joined m) second.0 second.1.0, second.1.1, second.1.2))
lines_by b c bs false (Open l) e is first second =
    let same : l ≡ c ∷ bs = open_same (c ∷ bs) l (sym is) in
    (ap (λ (x : List ℕ). b ∷ x) same, rw same (rw e (ap (before b) (sym is ∙ ap Open same))))

pub lines_of_text : LinesOfText
lines_of_text [] = (refl, refl)
lines_of_text (b ∷ []) = (refl, refl)
lines_of_text (b ∷ c ∷ bs) = lines_by b c bs (is_line_end b c) (cut (c ∷ bs)) refl refl (lines_of_text bs) (lines_of_text (c ∷ bs))
