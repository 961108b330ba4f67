-- Which line of a text is refused.
use Rattle.std.specs.Prelude.{ℕ, ◌≡◌, ◌+◌, ◌≤◌, ◌⊎◌, List, ◌∷◌, ◌++◌, length, take}
use Rattle.recording.specs.declared.line.Line.{Line}
use Rattle.recording.specs.declared.line.Line.TheVariants.{Header, Action}
use Rattle.recording.specs.Cut.{cut}
use Rattle.replay.specs.PreambleLines.{IsPreamble, HasTable, line_at_fault}
use Rattle.replay.specs.Written.{AreReadAs}
use Rattle.replay.specs.Recording.{IsRecording, most_lines}

-- the lines are those in front of `go`, which may give any table: it is read there
pub record IsOpening (lines : List Line) : Type 0 where
  pub preamble : List Line
  pub is_preamble : IsPreamble preamble
  pub is : lines ≡ Header 1 ∷ preamble

-- so many of these lines may begin a recording
abbrev pub MayBegin : ℕ → List Line → Type 0
MayBegin count lines = (IsOpening lines × (count ≤ length lines)) ⊎ IsRecording lines

-- the first so many lines of a text are read as those of some recording, or of what stands in front of its `go`,
-- and are no more than one may have
pub record Begins (text : List ℕ) (count : ℕ) : Type 0 where
  pub lines : List Line
  pub recorded : MayBegin count lines
  pub read : AreReadAs (take count (cut text)) (take count lines)
  pub within : length (take count (cut text)) ≤ most_lines

-- so many lines begin a recording, and one more does not, or is missing
pub record Refused (text : List ℕ) (before : ℕ) : Type 0 where
  pub begins : Begins text before
  pub stops : Begins text (before + 1) → ⊥

-- at most one line of a text is refused
abbrev pub OneRefusal : Type 0
OneRefusal = (text : List ℕ) (m n : ℕ) → Refused text m → Refused text n → m ≡ n

-- a line of an action has this number, where these lines stand behind the header
pub record IsActionLine (lines : List Line) (number : ℕ) : Type 0 where
  pub before : List Line
  pub text : List ℕ
  pub behind : List Line
  pub split : lines ≡ before ++ Action text ∷ behind
  pub number_is : number ≡ length before + 2

-- a table that is refused is refused at the line of an action
abbrev pub FaultIsOfAnAction : Type 0
FaultIsOfAnAction = (lines : List Line) → IsPreamble lines → (HasTable lines → ⊥) → IsActionLine lines (line_at_fault lines)
