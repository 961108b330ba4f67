-- Laws of scripts that are given in pieces.
use Rattle.std.proofs.Common.{◌≡◌, ℕ, List, [], ◌∷◌, ◌++◌, take, drop, refl, ap, sym, ◌∙◌, append_assoc, take-append-drop}
use Rattle.login_edge.specs.Scripts.{due, bytes_due}
use Rattle.login_edge.specs.declared.script.Turn.{Turn}
use Rattle.login_edge.specs.declared.script.Turn.TheVariants.{Piece, Quiet}

pub bytes_due-due : (ts : List Turn) → bytes_due (due ts) ≡ bytes_due ts
bytes_due-due [] = refl
bytes_due-due (Piece [] ∷ ts) = bytes_due-due ts
bytes_due-due (Piece (b ∷ bs) ∷ ts) = refl
bytes_due-due (Quiet ∷ ts) = refl

-- what is given of a piece, and what is left of it
pub bytes_due-piece : (p : List ℕ) (n : ℕ) (ts : List Turn)
    → bytes_due (due (Piece p ∷ ts)) ≡ take n p ++ bytes_due (due (Piece (drop n p) ∷ ts))
bytes_due-piece p n ts =
    bytes_due-due (Piece p ∷ ts)
    ∙ ap (λ (t : List ℕ). t ++ bytes_due ts) (sym (take-append-drop n p))
    ∙ append_assoc (take n p) (drop n p) (bytes_due ts)
    ∙ ap (λ (t : List ℕ). take n p ++ t) (sym (bytes_due-due (Piece (drop n p) ∷ ts)))
