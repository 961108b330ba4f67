-- The paths of objects.
use Rattle.std.proofs.Common.{◌≡◌, ℕ, ◌<◌, ◌^◌, List, [], ◌∷◌, ◌++◌, codes, refl, ap, arith, true, ◌||◌}
use Rattle.std.specs.Fmt.{decimal}
use Rattle.std.specs.List.{flat_map}
use Rattle.std.specs.Int.{IsInRange}
use Rattle.std.specs.Str.Parse.{AllDigits}
use Rattle.std.proofs.lemmas.Str.Parse.{digit_from_value}
use Rattle.std.proofs.lemmas.Fmt.{decimal_is_IsNumeral}
use Rattle.std.proofs.lemmas.Bool.Decides.{nat_tests}
use Rattle.login_base.specs.declared.ids.SessId.{SessId}
use Rattle.login_base.specs.Labels.{is_letter, later_byte}
use Rattle.login_base.specs.Names.{is_digit}
use Rattle.login_model.specs.Paths.{session_path}

digit_stays : (b : ℕ) → IsInRange 48 57 b → (is_letter b || is_digit b) ≡ true
digit_stays b h = grind (arith, nat_tests)

digits_stay : (ds : List ℕ) → AllDigits 10 ds → flat_map later_byte ds ≡ ds
digits_stay [] h = refl
digits_stay (d ∷ ds) h =
    let r : IsInRange 48 57 d = digit_from_value d h.0 in
    rw (digit_stays d r) (ap (λ (t : List ℕ). d ∷ t) (digits_stay ds h.1))

-- an id stands as it is in the path of its session
pub session_path-plain : (s : SessId) → s.0 < 2 ^ 32 → session_path s ≡ codes "/org/freedesktop/login1/session/c" ++ decimal s.0
unfolding session_path
session_path-plain s small = ap (λ (t : List ℕ). codes "/org/freedesktop/login1/session/c" ++ t) (digits_stay (decimal s.0) (decimal_is_IsNumeral s.0 (omega (arith, small))).0.1)
