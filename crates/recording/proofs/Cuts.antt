-- Laws of the lines of a text.
use Rattle.std.proofs.Common.{◌≡◌, ◌≢◌, ℕ, ◌<◌, List, [], ◌∷◌, ◌++◌, length, take, refl, arith, ap, append_assoc, true, false, eqb, length-append, Bool, ◌⊎◌, inl, inr}
use Rattle.std.proofs.lemmas.Bool.Decides.{nat_tests}
use Rattle.std.proofs.lemmas.List.{take_at, take_all}
use Rattle.recording.specs.Cut.{NoLineFeed, first_line, before_line, cut}
use Rattle.recording.specs.inner.Filling.{IsFirst}

pub NoLineFeed-push : (xs : List ℕ) (b : ℕ) → NoLineFeed xs → b ≢ 10 → NoLineFeed (xs ++ b ∷ [])
NoLineFeed-push [] b h ne = (ne, tt)
NoLineFeed-push (x ∷ xs) b h ne = (h.0, NoLineFeed-push xs b h.1 ne)

other : (b : ℕ) → b ≢ 10 → eqb b 10 ≡ false
other b ne = grind (arith, nat_tests)

-- bytes without a line feed are the front of the first line
pub first_line-append : (xs rest : List ℕ) → NoLineFeed xs → first_line (xs ++ rest) ≡ xs ++ first_line rest
first_line-append [] rest h = refl
first_line-append (x ∷ xs) rest h = rw (other x h.0, first_line-append xs rest h.1) refl

-- the first line ends with the first line feed
pub first_through_feed : (xs rest : List ℕ) → NoLineFeed xs → first_line ((xs ++ 10 ∷ []) ++ rest) ≡ xs ++ 10 ∷ []
first_through_feed xs rest h = rw append_assoc (first_line-append xs (10 ∷ rest) h)

-- with no line feed all is the first line
pub first_line_whole : (xs : List ℕ) → NoLineFeed xs → first_line xs ≡ xs
first_line_whole [] h = refl
first_line_whole (x ∷ xs) h = rw (other x h.0) (ap (λ (t : List ℕ). x ∷ t) (first_line_whole xs h.1))

-- a line that has its line feed
pub IsFirst-feed : (xs : List ℕ) → NoLineFeed xs → length xs < 16385 → IsFirst (xs ++ 10 ∷ [])
IsFirst-feed xs h short rest = rw (first_through_feed xs rest h) (take_all 16385 (xs ++ 10 ∷ []) (grind (arith, length-append)))

-- a line that is full
pub IsFirst-full : (xs : List ℕ) → NoLineFeed xs → length xs ≡ 16385 → IsFirst xs
IsFirst-full xs h full rest = rw (first_line-append xs rest h) (take_at xs (first_line rest) 16385 full)

-- the first line has its line feed, or is all
abbrev pub FirstLineCases : List ℕ → Type 0
FirstLineCases text = (NoLineFeed text × (first_line text ≡ text)) ⊎ ((xs : List ℕ) × (NoLineFeed xs × (first_line text ≡ xs ++ 10 ∷ [])))

cases_behind : (b : ℕ) (bs : List ℕ) → eqb b 10 ≡ false → b ≢ 10 → FirstLineCases bs → FirstLineCases (b ∷ bs)
cases_behind b bs e ne (inl h) = inl ((ne, h.0), rw e (ap (λ (t : List ℕ). b ∷ t) h.1))
cases_behind b bs e ne (inr h) = inr (b ∷ h.0, ((ne, h.1.0), rw e (ap (λ (t : List ℕ). b ∷ t) h.1.1)))

cases_by : (b : ℕ) (bs : List ℕ) (t : Bool) → eqb b 10 ≡ t → FirstLineCases bs → FirstLineCases (b ∷ bs)
cases_by b bs true e h = let is : b ≡ 10 = grind (arith, nat_tests) in inr ([], (tt, rw is refl))
cases_by b bs false e h = cases_behind b bs e (λ is. grind (arith, nat_tests)) h

pub first_line_cases : (text : List ℕ) → FirstLineCases text
first_line_cases [] = inl (tt, refl)
first_line_cases (b ∷ bs) = cases_by b bs (eqb b 10) refl (first_line_cases bs)

-- a line with its line feed is cut off
pub cut_line : (xs rest : List ℕ) → NoLineFeed xs → cut ((xs ++ 10 ∷ []) ++ rest) ≡ (xs ++ 10 ∷ []) ∷ cut rest
cut_line [] rest h = refl
cut_line (x ∷ xs) rest h = rw (other x h.0, cut_line xs rest h.1) refl

-- with no line feed all is one line
pub cut_whole : (b : ℕ) (bs : List ℕ) → NoLineFeed (b ∷ bs) → cut (b ∷ bs) ≡ (b ∷ bs) ∷ []
cut_whole b [] h = rw (other b h.0) refl
cut_whole b (c ∷ cs) h = rw (other b h.0, cut_whole c cs h.1) refl

head_before : (b : ℕ) (l : List ℕ) (ls : List (List ℕ)) → take 1 ls ≡ l ∷ [] → take 1 (before_line b ls) ≡ (b ∷ l) ∷ []
head_before b l [] h = cc
head_before b l (m ∷ ms) h = let e : m ≡ l = cc in rw e refl

head_by : (b : ℕ) (bs : List ℕ) (t : Bool) → eqb b 10 ≡ t → take 1 (cut (b ∷ bs)) ≡ first_line (b ∷ bs) ∷ []
head_by b bs true e = rw e refl
head_by b [] false e = rw e refl
head_by b (c ∷ cs) false e = rw e (head_before b (first_line (c ∷ cs)) (cut (c ∷ cs)) (head_by c cs (eqb c 10) refl))

-- the first of the lines is the first line
pub cut_head : (b : ℕ) (bs : List ℕ) → take 1 (cut (b ∷ bs)) ≡ first_line (b ∷ bs) ∷ []
cut_head b bs = head_by b bs (eqb b 10) refl
