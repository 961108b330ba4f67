-- Where the first line of a text ends.
use Rattle.std.proofs.Common.{◌≡◌, ◌≢◌, ℕ, zero, suc, ◌+◌, ◌-◌, ◌<◌, List, [], ◌∷◌, ◌++◌, length, take, drop, get_or, refl, arith, ap, sym, ◌∙◌, Bool, true, false, eqb, ◌&&◌, max, append_assoc, take-append-drop, subst, ◌≤◌}
use Rattle.std.proofs.lemmas.Bool.Decides.{nat_tests}
use Rattle.std.proofs.lemmas.List.{take_at, take_all}
use Rattle.std.proofs.Math.Seq.{take-suc, drop-cons}
use Rattle.bus_auth.specs.Cutting.{Lines, Whole, Open, is_line_end, cut, without_cr, IsLeastLength}
use Rattle.bus_auth.specs.inner.Cutting.{IsFirstEnd}
use Rattle.bus_auth.proofs.Cuts.{open-push, cut-line, least-longer}

-- the first byte ends no line
pub start_open : (text : List ℕ) (seen : ℕ) → cut (take seen text) ≡ Open (take seen text)
    → cut (take (max seen 1) text) ≡ Open (take (max seen 1) text)
start_open [] zero h = refl
start_open (b ∷ bs) zero h = refl
start_open text (suc n) h =
    let e : max (suc n) 1 ≡ suc n = omega arith in
    rw e h

-- bytes that are no CR LF
pub is_line_end-other : (a b : ℕ) → b ≢ 10 → is_line_end a b ≡ false
is_line_end-other a b h = by (eqb a 13) (eqb b 10) (grind (arith, nat_tests))
  where
    by : (s t : Bool) → t ≡ false → (s && t) ≡ false
    by true t e = e
    by false t e = refl

pub is_line_end-first : (a b : ℕ) → a ≢ 13 → is_line_end a b ≡ false
is_line_end-first a b h =
    let e : eqb a 13 ≡ false = grind (arith, nat_tests) in
    rw e refl

two_more : (text : List ℕ) (k : ℕ) → suc k < length text
    → take (suc (suc k)) text ≡ take k text ++ get_or text k 0 ∷ get_or text (suc k) 0 ∷ []
two_more text k h =
    take-suc text (suc k) 0 h
    ∙ ap (λ (xs : List ℕ). xs ++ get_or text (suc k) 0 ∷ []) (take-suc text k 0 (omega arith))
    ∙ append_assoc (take k text) (get_or text k 0 ∷ []) (get_or text (suc k) 0 ∷ [])

-- one byte more of a text, with which no line ends
pub next_open : (text : List ℕ) (at : ℕ) → 0 < at → at < length text → cut (take at text) ≡ Open (take at text)
    → is_line_end (get_or text (at - 1) 0) (get_or text at 0) ≡ false
    → cut (take (at + 1) text) ≡ Open (take (at + 1) text)
next_open text zero pos h one_line plain = absurd (omega arith)
next_open text (suc k) pos h one_line plain =
    let back : suc k - 1 ≡ k = omega arith in
    let on : suc k + 1 ≡ suc (suc k) = omega arith in
    let one : take (suc k) text ≡ take k text ++ get_or text k 0 ∷ [] = take-suc text k 0 (omega arith) in
    let two = two_more text k h in
    let before : cut (take k text ++ get_or text k 0 ∷ []) ≡ Open (take k text ++ get_or text k 0 ∷ []) = rw one at one_line in
    let other : is_line_end (get_or text k 0) (get_or text (suc k) 0) ≡ false = rw back at plain in
    rw (on, two) (open-push (take k text) (get_or text k 0) (get_or text (suc k) 0) before other)

-- a CR LF behind bytes in which no line ends
pub first_end : (text : List ℕ) (at : ℕ) → 0 < at → at < length text → cut (take at text) ≡ Open (take at text)
    → get_or text (at - 1) 0 ≡ 13 → get_or text at 0 ≡ 10 → IsFirstEnd text (at - 1)
first_end text zero pos h one_line cr lf = absurd (omega arith)
first_end text (suc k) pos h one_line cr lf =
    let back : suc k - 1 ≡ k = omega arith in
    let on : k + 2 ≡ suc (suc k) = omega arith in
    let thirteen : get_or text k 0 ≡ 13 = rw back at cr in
    let one : take (suc k) text ≡ take k text ++ 13 ∷ [] =
    take-suc text k 0 (omega arith) ∙ ap (λ (b : ℕ). take k text ++ b ∷ []) thirteen in
    let rest : drop k text ≡ 13 ∷ 10 ∷ drop (suc (suc k)) text =
    drop-cons text k 0 (omega arith)
    ∙ ap (λ (xs : List ℕ). get_or text k 0 ∷ xs) (drop-cons text (suc k) 0 h)
    ∙ ap (λ (b : ℕ). b ∷ get_or text (suc k) 0 ∷ drop (suc (suc k)) text) thirteen
    ∙ ap (λ (b : ℕ). 13 ∷ b ∷ drop (suc (suc k)) text) lf in
    let whole : text ≡ take k text ++ 13 ∷ 10 ∷ drop (suc (suc k)) text =
    sym (take-append-drop k text) ∙ ap (λ (xs : List ℕ). take k text ++ xs) rest in
    let before : cut (take k text ++ 13 ∷ []) ≡ Open (take k text ++ 13 ∷ []) = rw one at one_line in
    rw back (record {
      within = omega arith;
      whole = rw on (ap cut whole ∙ cut-line (take k text) (drop (suc (suc k)) text) before);
    })

-- a line with a CR at its end
pub without_cr-cr : (xs : List ℕ) → without_cr (xs ++ 13 ∷ []) ≡ xs
without_cr-cr [] = refl
without_cr-cr (x ∷ []) = refl
without_cr-cr (x ∷ y ∷ ys) = ap (λ (zs : List ℕ). x ∷ zs) (without_cr-cr (y ∷ ys))

-- a line with another byte at its end
pub without_cr-other : (xs : List ℕ) (b : ℕ) → b ≢ 13 → without_cr (xs ++ b ∷ []) ≡ xs ++ b ∷ []
without_cr-other [] b h = let e : eqb b 13 ≡ false = grind (arith, nat_tests) in rw e refl
without_cr-other (x ∷ []) b h = ap (λ (zs : List ℕ). x ∷ zs) (without_cr-other [] b h)
without_cr-other (x ∷ y ∷ ys) b h = ap (λ (zs : List ℕ). x ∷ zs) (without_cr-other (y ∷ ys) b h)

bounded : (line : List ℕ) → cut line ≡ Open line → (more whole behind : List ℕ) (lines : Lines)
    → cut (line ++ more) ≡ Whole whole behind lines → length (without_cr line) ≤ length whole
bounded line h more whole behind lines e =
    let longer = least-longer line more h in
    rw e at longer

-- an empty line
pub least-empty : (line : List ℕ) → length line ≡ 0 → IsLeastLength line 0
least-empty [] none = record { bound = bounded [] refl; reached = (13 ∷ 10 ∷ [], refl) }
least-empty (b ∷ bs) none = absurd (omega arith)

-- a line with a CR at its end
pub least-cr : (front : List ℕ) → cut (front ++ 13 ∷ []) ≡ Open (front ++ 13 ∷ []) → IsLeastLength (front ++ 13 ∷ []) (length front)
least-cr front h =
    let first : take (length front) (front ++ 13 ∷ []) ≡ front = take_at front (13 ∷ []) (length front) refl in
    let P : List ℕ → Type 0 = λ xs. (more whole behind : List ℕ) (lines : Lines)
    → cut ((front ++ 13 ∷ []) ++ more) ≡ Whole whole behind lines → length xs ≤ length whole in
    record {
      bound = subst P (without_cr-cr front) (bounded (front ++ 13 ∷ []) h);
      reached = (
        10 ∷ [],
        ap cut (append_assoc front (13 ∷ []) (10 ∷ [])) ∙ cut-line front [] h
            ∙ ap (λ (xs : List ℕ). Whole xs [] (Open [])) (sym first),
      );
    }

-- a line with another byte at its end
pub least-other : (front : List ℕ) (b : ℕ) → b ≢ 13 → cut (front ++ b ∷ []) ≡ Open (front ++ b ∷ [])
    → IsLeastLength (front ++ b ∷ []) (length (front ++ b ∷ []))
least-other front b other h =
    let line : List ℕ = front ++ b ∷ [] in
    let all : take (length (front ++ b ∷ [])) (front ++ b ∷ []) ≡ front ++ b ∷ [] = take_all (length (front ++ b ∷ [])) (front ++ b ∷ []) (omega arith) in
    let plain : is_line_end b 13 ≡ false = is_line_end-other b 13 (omega arith) in
    let pushed : cut (front ++ b ∷ 13 ∷ []) ≡ Open (front ++ b ∷ 13 ∷ []) = open-push front b 13 h plain in
    let whole : cut ((front ++ b ∷ []) ++ 13 ∷ []) ≡ Open ((front ++ b ∷ []) ++ 13 ∷ []) =
    rw (append_assoc front (b ∷ []) (13 ∷ [])) pushed in
    let P : List ℕ → Type 0 = λ xs. (more whole behind : List ℕ) (lines : Lines)
    → cut ((front ++ b ∷ []) ++ more) ≡ Whole whole behind lines → length xs ≤ length whole in
    record {
      bound = subst P (without_cr-other front b other) (bounded (front ++ b ∷ []) h);
      reached = (13 ∷ 10 ∷ [], cut-line (front ++ b ∷ []) [] whole ∙ ap (λ (xs : List ℕ). Whole xs [] (Open [])) (sym all));
    }
