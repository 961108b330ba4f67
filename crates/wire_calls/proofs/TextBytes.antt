-- The bytes of texts.
use Rattle.std.proofs.Common.{◌≡◌, ℕ, zero, suc, ◌<◌, ◌≤◌, List, [], ◌∷◌, length, get_or, refl, arith, Bool, true, false, leb, ◌&&◌}
use Rattle.std.specs.List.{AllByRecursion}
use Rattle.std.specs.Str.{IsUtf8}
use Rattle.std.proofs.lemmas.Bool.Decides.{nat_tests}
use Rattle.login_model.specs.Texts.{IsText}
use Rattle.wire_calls.specs.Arguments.{is_short}
use Rattle.login_base.specs.Texts.{is_text}
use Rattle.login_base.proofs.Texts.{made_text, text_parts}

abbrev pub AreBytes : List ℕ → Type 0
AreBytes bytes = AllByRecursion (λ b. b < 256) bytes

pub both : (a b : Bool) → (a && b) ≡ true → (a ≡ true) × (b ≡ true)
both true true e = (refl, refl)
both true false e = cc
both false b e = cc

pub text_utf8 : (text : List ℕ) → is_text text ≡ true → IsUtf8 text
text_utf8 text h = (text_parts text h).0

pub byte_at : (text : List ℕ) → AreBytes text → (i : ℕ) → get_or text i 0 < 256
byte_at [] h i = omega arith
byte_at (b ∷ bs) h zero = h.0
byte_at (b ∷ bs) h (suc i) = byte_at bs h.1 i

pub text_is : (most : ℕ) (text : List ℕ) → IsText most text → is_text text ≡ true
text_is most text h = made_text text h.utf8 h.no_nul

within : (n most : ℕ) → n ≤ most → leb n most ≡ true
within n most h = grind (arith, nat_tests)

-- a text of a journal is short
pub short_text : (text : List ℕ) → IsText 512 text → is_short text ≡ true
short_text text h = within (length text) 512 h.short
