-- Scripts of links in memory, as they are given in pieces.
use Rattle.std.specs.Prelude.{ℕ, List, [], ◌∷◌, ◌++◌}
use Rattle.login_edge.specs.declared.script.Turn.{Turn}
use Rattle.login_edge.specs.declared.script.Turn.TheVariants.{Piece, Quiet}

-- a piece of which nothing is left gives nothing
abbrev pub due : List Turn → List Turn
due [] = []
due (Piece [] ∷ turns) = due turns
due (Piece (b ∷ bs) ∷ turns) = Piece (b ∷ bs) ∷ turns
due (Quiet ∷ turns) = Quiet ∷ turns

-- the bytes that are left to come
abbrev pub bytes_due : List Turn → List ℕ
bytes_due [] = []
bytes_due (Piece bs ∷ turns) = bs ++ bytes_due turns
bytes_due (Quiet ∷ turns) = bytes_due turns
