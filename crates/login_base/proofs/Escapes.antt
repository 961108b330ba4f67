-- The escapes of bytes are decoded to them.
use Rattle.std.proofs.Common.{◌≡◌, ℕ, ◌+◌, ◌*◌, ◌/◌, ◌%◌, ◌<◌, List, [], ◌∷◌, ◌++◌, refl, ap, arith, ◌∙◌, cond, eqb, true, false, Bool, ◌||◌}
use Rattle.std.proofs.lemmas.Bool.Decides.{nat_tests}
use Rattle.std.specs.List.{flat_map, AllByRecursion}
use Rattle.login_base.specs.Names.{is_digit}
use Rattle.login_base.specs.Hex.{hex_digit, hex_value}
use Rattle.login_base.specs.Labels.{decoded, escape, escape_of, is_letter, later_byte}

-- the value of a digit
value_of_digit : (n : ℕ) → n < 16 → hex_value (hex_digit n) ≡ n
value_of_digit n h = grind (arith, nat_tests)

escaped_byte : (b : ℕ) → b < 256 → 16 * hex_value (hex_digit (b / 16)) + hex_value (hex_digit (b % 16)) ≡ b
escaped_byte b h =
    let high : hex_value (hex_digit (b / 16)) ≡ b / 16 = value_of_digit (b / 16) (omega arith) in
    let low : hex_value (hex_digit (b % 16)) ≡ b % 16 = value_of_digit (b % 16) (omega arith) in
    rw (high, low) (omega arith)

decoded_plain : (b : ℕ) (rest : List ℕ) → eqb b 95 ≡ false → decoded (b ∷ rest) ≡ b ∷ decoded rest
decoded_plain b [] e = rw e refl
decoded_plain b (c ∷ []) e = refl
decoded_plain b (c ∷ d ∷ rest) e = rw e refl

decoded_piece : (plain : Bool) (b : ℕ) (rest : List ℕ) → (plain ≡ true → eqb b 95 ≡ false) → b < 256 → decoded (cond plain (b ∷ []) (escape_of b) ++ rest) ≡ b ∷ decoded rest
decoded_piece true b rest h s = decoded_plain b rest (h refl)
decoded_piece false b rest h s = ap (λ (n : ℕ). n ∷ decoded rest) (escaped_byte b s)

no_underscore : (b : ℕ) → is_letter b || is_digit b ≡ true → eqb b 95 ≡ false
no_underscore b e = grind (arith, nat_tests)

no_letter : (b : ℕ) → is_letter b ≡ true → eqb b 95 ≡ false
no_letter b e = grind (arith, nat_tests)

decoded_later : (text : List ℕ) → AllByRecursion (λ b. b < 256) text → decoded (flat_map later_byte text) ≡ text
decoded_later [] h = refl
decoded_later (b ∷ bs) h = decoded_piece (is_letter b || is_digit b) b (flat_map later_byte bs) (no_underscore b) h.0 ∙ ap (λ (t : List ℕ). b ∷ t) (decoded_later bs h.1)

-- the escape of bytes is decoded to them
pub decoded-escape : (text : List ℕ) → AllByRecursion (λ b. b < 256) text → decoded (escape text) ≡ text
decoded-escape [] h = refl
decoded-escape (b ∷ bs) h = decoded_piece (is_letter b) b (flat_map later_byte bs) (no_letter b) h.0 ∙ ap (λ (t : List ℕ). b ∷ t) (decoded_later bs h.1)
