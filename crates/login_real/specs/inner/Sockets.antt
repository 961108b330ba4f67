-- What calls answer that do not wait.
use Rattle.std.specs.Prelude.{ℕ, ◌≡◌, ◌<◌, ◌≤◌, List, length}
use Rattle.login_edge.specs.Hearing.{HearCause}
use Rattle.login_edge.specs.Edge.{WriteCause}
use Rattle.login_edge.specs.declared.link.Heard.{Heard}
use Rattle.login_edge.specs.declared.link.Heard.TheVariants as hears
use Rattle.login_edge.specs.declared.Took.{Took}
use Rattle.login_edge.specs.declared.Took.TheVariants as took
use Rattle.login_real.specs.Sockets.{LinkState}

-- a count of bytes fits the buffer
abbrev pub FitsBuffer : Heard → List ℕ → Type 0
FitsBuffer (hears.Bytes n) buf = (0 < n) × (n ≤ length buf)
FitsBuffer _ buf = Unit {0}

-- what a read that does not wait answers, where it answers
pub record ReadsNow (old new : LinkState) (heard : Heard) (buf : List ℕ) : Type 0 where
  pub fits : FitsBuffer heard buf
  pub cause : HearCause old.faults new.faults heard
  pub number : new.number ≡ old.number

-- a count of bytes is one of the piece's
abbrev pub FitsPiece : Took → List ℕ → Type 0
FitsPiece (took.Bytes n) piece = (0 < n) × (n ≤ length piece)
FitsPiece took.Failed piece = Unit {0}

-- what a write that does not wait answers, where it answers
pub record WritesNow (old new : LinkState) (result : Took) (piece : List ℕ) : Type 0 where
  pub fits : FitsPiece result piece
  pub cause : WriteCause old.faults new.faults result
  pub number : new.number ≡ old.number
