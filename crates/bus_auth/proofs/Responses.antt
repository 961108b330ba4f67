-- Responses of lines.
use Rattle.std.proofs.Common.{◌≡◌, ℕ, List, [], ◌∷◌, ◌++◌, length, take, drop, refl, arith, ap, sym, ◌∙◌, Bool, true, false, eqb, codes, take-append-drop, append-nil}
use Rattle.std.proofs.lemmas.Bool.Decides.{nat_tests}
use Rattle.std.proofs.lemmas.List.{take_at}
use Rattle.std.proofs.lemmas.Slice.Eq.{bytes_eq-Decides}
use Rattle.std.specs.Str.{bytes_eq}
use Rattle.login_base.specs.declared.ids.Uid.{Uid}
use Rattle.bus_auth.specs.declared.command.Response.TheVariants.{Other}
use Rattle.bus_auth.specs.Commands.{identity, response_of}
use Rattle.bus_auth.specs.inner.Commands.{response_behind}

bytes_eq-front : (front a b : List ℕ) → bytes_eq (front ++ a) (front ++ b) ≡ bytes_eq a b
bytes_eq-front [] a b = refl
bytes_eq-front (x ∷ front) a b =
    let own : eqb x x ≡ true = grind (arith, nat_tests) in
    rw own (bytes_eq-front front a b)

-- a line with the front
pub response_of-front : (uid : Uid) (front line rest : List ℕ) → bytes_eq (take (length front) line) front ≡ true
    → rest ≡ drop (length front) line → response_behind uid rest ≡ response_of uid front line
unfolding response_of
response_of-front uid front line rest begins is =
    let same : take (length front) line ≡ front = (bytes_eq-Decides (take (length front) line) front).0 begins in
    let whole : line ≡ front ++ rest =
    sym (take-append-drop (length front) line) ∙ ap (λ (xs : List ℕ). xs ++ drop (length front) line) same
    ∙ ap (λ (xs : List ℕ). front ++ xs) (sym is) in
    let none : bytes_eq (front ++ rest) front ≡ bytes_eq rest [] =
    ap (bytes_eq (front ++ rest)) (sym (append-nil front)) ∙ bytes_eq-front front rest [] in
    rw (whole, none, bytes_eq-front front rest (codes " "), bytes_eq-front front rest (codes " " ++ identity uid.0)) refl

refused : (front line x : List ℕ) (t : Bool) → bytes_eq line (front ++ x) ≡ t
    → bytes_eq (take (length front) line) front ≡ false → bytes_eq line (front ++ x) ≡ false
refused front line x true e h =
    let same : line ≡ front ++ x = (bytes_eq-Decides line (front ++ x)).0 e in
    let begins : take (length front) line ≡ front = ap (take (length front)) same ∙ take_at front x (length front) refl in
    let yes = (bytes_eq-Decides (take (length front) line) front).1 begins in
    cc
refused front line x false e h = e

-- a line without it
pub response_of-other : (uid : Uid) (front line : List ℕ) → bytes_eq (take (length front) line) front ≡ false
    → Other ≡ response_of uid front line
unfolding response_of
response_of-other uid front line h =
    let no = λ (x : List ℕ). refused front line x (bytes_eq line (front ++ x)) refl h in
    let none : bytes_eq line front ≡ false = ap (bytes_eq line) (sym (append-nil front)) ∙ no [] in
    rw (none, no (codes " "), no (codes " " ++ identity uid.0)) refl
