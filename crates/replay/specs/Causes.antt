-- Why a line of a recording is refused, and how that is printed.
use Rattle.std.specs.Prelude.{ℕ, ◌≡◌, ◌+◌, List, length, codes, Option, Some, None}
use Rattle.recording.specs.declared.line.Line.{Line}
use Rattle.recording.specs.declared.line.Line.TheVariants.{Go}
use Rattle.recording.specs.declared.line.LineFault.{LineFault}
use Rattle.recording.specs.declared.line.LineFault.TheVariants as fault
use Rattle.recording.specs.Cut.{first_line}
use Rattle.recording.specs.Causes.{line_fault}
use Rattle.recording.specs.Meaning.{IsReadAs}
use Rattle.replay.specs.PreambleLines.{HasTable, line_at_fault}
use Rattle.replay.specs.Front.{Front, headed, lines_of, Takes}
use Rattle.replay.specs.declared.cause.Cause.{Cause}
use Rattle.replay.specs.declared.cause.Cause.TheVariants.{UnknownWord, BadNumber, BadHex, MissingWord, ExtraWord, TooLong, WrongPlace, BadName, BadAction, Ended}

abbrev pub cause_word : Cause → List ℕ
cause_word UnknownWord = codes "unknown-word"
cause_word BadNumber = codes "bad-number"
cause_word BadHex = codes "bad-hex"
cause_word MissingWord = codes "missing-word"
cause_word ExtraWord = codes "extra-word"
cause_word TooLong = codes "too-long"
cause_word WrongPlace = codes "wrong-place"
cause_word BadName = codes "bad-name"
cause_word BadAction = codes "bad-action"
cause_word Ended = codes "ended"

-- the fault of the line itself that a cause names; a line in a wrong place has none, nor has one of an action
abbrev pub own_fault : Cause → Option LineFault
own_fault UnknownWord = Some fault.UnknownWord
own_fault BadNumber = Some fault.BadNumber
own_fault BadHex = Some fault.BadHex
own_fault MissingWord = Some fault.MissingWord
own_fault ExtraWord = Some fault.ExtraWord
own_fault TooLong = Some fault.TooLong
own_fault WrongPlace = None
own_fault BadName = Some fault.BadName
own_fault BadAction = None
own_fault Ended = Some fault.Ended

-- the first line of what is left is refused for this cause, whatever stands before it: it is none of
-- the grammar
abbrev pub IsOwnCause : Cause → List ℕ → Type 0
IsOwnCause WrongPlace rest = ⊥
IsOwnCause BadAction rest = ⊥
IsOwnCause cause rest = line_fault (first_line rest) ≡ own_fault cause

-- a line of the grammar that may not come next
pub record IsMisplaced (front : Front) (rest : List ℕ) : Type 0 where
  pub line : Line
  pub read : IsReadAs (first_line rest) line
  pub misplaced : Takes front line → ⊥

-- what is left begins with `go`, and the table of these lines is refused
pub record IsBadTable (front : Front) (rest : List ℕ) : Type 0 where
  pub in_preamble : front.stage ≡ headed
  pub go : IsReadAs (first_line rest) Go
  pub refused : HasTable front.preamble → ⊥

-- what is left is refused for this cause, behind these lines: the first line's own cause first, a wrong place
-- last; and at `go` the table
abbrev pub IsCause : Cause → Front → List ℕ → Type 0
IsCause WrongPlace front rest = IsMisplaced front rest
IsCause BadAction front rest = IsBadTable front rest
IsCause cause front rest = IsOwnCause cause rest

-- the number of the line that is refused for this cause behind these lines: the next one, or of a table the
-- line of the action at fault
abbrev pub refused_line : Cause → Front → ℕ
refused_line BadAction front = line_at_fault front.preamble
refused_line _ front = length (lines_of front) + 1

-- behind the same lines, a line is refused for one cause
abbrev pub OneCause : Type 0
OneCause = (front : Front) (rest : List ℕ) (c d : Cause) → IsCause c front rest → IsCause d front rest → c ≡ d
