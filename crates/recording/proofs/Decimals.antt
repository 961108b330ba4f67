-- A thousand times a number in digits.
use Rattle.std.proofs.Common.{◌≡◌, ℕ, ◌+◌, ◌*◌, ◌/◌, ◌%◌, ◌<◌, ◌^◌, List, [], ◌∷◌, ◌++◌, arith, ap, ◌∙◌, append_assoc}
use Rattle.std.specs.Fmt.{decimal}
use Rattle.std.proofs.lemmas.Fmt.{decimal_step_wide}

-- a number above 0 times ten has a zero more
tenfold : (n : ℕ) → 0 < n → n < 10 ^ 30 → decimal (n * 10) ≡ decimal n ++ 48 ∷ []
tenfold n some small =
    let front : (n * 10) / 10 ≡ n = omega arith in
    let last : (n * 10) % 10 ≡ 0 = omega arith in
    decimal_step_wide (n * 10) (omega arith) (omega arith) ∙ ap (λ (k : ℕ). decimal k ++ (48 + (n * 10) % 10) ∷ []) front ∙ ap (λ (k : ℕ). decimal n ++ (48 + k) ∷ []) last

pub thousandfold : (n : ℕ) → 0 < n → n < 2 ^ 64 → decimal (n * 1000) ≡ decimal n ++ 48 ∷ 48 ∷ 48 ∷ []
thousandfold n some small =
    let whole : n * 1000 ≡ ((n * 10) * 10) * 10 = omega arith in
    let hundred = tenfold (n * 10) (omega arith) (omega arith) ∙ ap (λ (t : List ℕ). t ++ 48 ∷ []) (tenfold n some (omega arith)) in
    ap decimal whole ∙ tenfold ((n * 10) * 10) (omega arith) (omega arith) ∙ ap (λ (t : List ℕ). t ++ 48 ∷ []) hundred
    ∙ append_assoc (decimal n ++ 48 ∷ []) (48 ∷ []) (48 ∷ []) ∙ append_assoc (decimal n) (48 ∷ []) (48 ∷ 48 ∷ [])
