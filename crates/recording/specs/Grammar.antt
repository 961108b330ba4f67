-- The lines of the grammar: they are the lines without a fault, and a line that is spelled is read as itself.
use Rattle.std.specs.Prelude.{ℕ, ◌≡◌, List, None}
use Rattle.recording.specs.declared.line.Line.{Line}
use Rattle.recording.specs.Bytes.{AreBytes}
use Rattle.recording.specs.Lines.{spell, Spells, IsLine, IsWritten}
use Rattle.recording.specs.Meaning.{IsReadAs}
use Rattle.recording.specs.Causes.{line_fault}

-- the bytes are a line of the grammar
pub record InGrammar (bytes : List ℕ) : Type 0 where
  pub line : Line
  pub spells : Spells line bytes
  pub written : IsWritten line

-- the bytes are a line of the grammar exactly where they have no fault
abbrev pub OneGrammar : Type 0
OneGrammar = (bytes : List ℕ) → AreBytes bytes → (InGrammar bytes → line_fault bytes ≡ None) × (line_fault bytes ≡ None → InGrammar bytes)

-- a line of a recording, spelled, is read as itself
abbrev pub SpelledAgain : Type 0
SpelledAgain = (line : Line) → IsLine line → IsReadAs (spell line) line
