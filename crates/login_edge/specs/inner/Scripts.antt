-- How a script is kept, and what it gives next.
use Rattle.std.specs.Prelude.{ℕ, ◌≡◌, ◌≤◌, List, [], ◌∷◌, length}
use Rattle.login_edge.specs.declared.script.Turn.{Turn}
use Rattle.login_edge.specs.declared.script.Turn.TheVariants.{Piece, Quiet}
use Rattle.login_edge.specs.declared.script.Next.{Next}
use Rattle.login_edge.specs.declared.script.Next.TheVariants as next
use Rattle.login_edge.specs.Scripts.{due}

-- what is left of the piece that is under way, and the turns behind it
pub record ScriptState : Type 0 where
  pub piece : List ℕ
  pub turns : List Turn

-- what is left of a script
abbrev pub left_of : ScriptState → List Turn
left_of s = due (Piece s.piece ∷ s.turns)

-- what comes next: a piece, which is under way then, or a turn without bytes, or nothing
abbrev pub Finds : ScriptState → ScriptState → Next → Type 0
Finds old new next.Piece = (left_of old ≡ left_of new) × (1 ≤ length new.piece)
Finds old new next.Quiet = (left_of old ≡ Quiet ∷ new.turns) × (new.piece ≡ [])
Finds old new next.End = (left_of old ≡ []) × (left_of new ≡ [])
