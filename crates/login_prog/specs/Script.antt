-- The input of a run that serves, behind its `go`: lines of hardware, and `stop`.
use Rattle.std.specs.Prelude.{ℕ, ◌≡◌, ◌+◌, ◌<◌, ◌≤◌, List, [], ◌∷◌, ◌++◌, length, map}
use Rattle.login_model.specs.declared.event.Event.TheVariants.{Hardware as Happens, Stop}
use Rattle.login_model.specs.declared.hardware.Hardware.{Hardware}
use Rattle.recording.specs.Cut.{NoLineFeed, first_line}
use Rattle.recording.specs.Meaning.{IsReadAs}
use Rattle.recording.specs.declared.line.Line.{Line}
use Rattle.recording.specs.declared.line.Line.TheVariants as line
use Rattle.replay.specs.Causes.{IsOwnCause}
use Rattle.replay.specs.Outcome.{IsPast}
use Rattle.replay.specs.Recording.{most_lines}
use Rattle.replay.specs.Written.{Splits}
use Rattle.replay.specs.declared.cause.Cause.{Cause}
use Rattle.replay.specs.declared.cause.Cause.TheVariants.{WrongPlace}

abbrev pub hardware_line : Hardware → Line
hardware_line x = line.Event (Happens x)

-- the lines of these events of the hardware
abbrev pub hardware_lines : List Hardware → List Line
hardware_lines xs = map hardware_line xs

-- the text is the lines of these events, and then this
abbrev pub Begins : List ℕ → List Hardware → List ℕ → Type 0
Begins text xs rest = Splits text (hardware_lines xs) rest

-- which lines may stand there
abbrev pub MayStand : Line → Type 0
MayStand (line.Event (Happens x)) = Unit {0}
MayStand (line.Event Stop) = Unit {0}
MayStand _ = ⊥

-- a line that is read, and may not stand there
pub record IsMisplaced (rest : List ℕ) : Type 0 where
  pub line : Line
  pub read : IsReadAs (first_line rest) line
  pub misplaced : MayStand line → ⊥

-- why the next line is refused by what it is: its own cause first, a wrong place last
abbrev pub IsCause : Cause → List ℕ → Type 0
IsCause WrongPlace rest = IsMisplaced rest
IsCause cause rest = IsOwnCause cause rest

-- why the next line is refused behind so many; behind the most that there may be, because it is there, or is not
pub record IsRefused (cause : Cause) (number : ℕ) (rest : List ℕ) : Type 0 where
  pub own : number < most_lines → IsCause cause rest
  pub past : number ≡ most_lines → IsPast cause rest

-- ---- how the input was read

-- through the line `stop`, where so many lines were read before
pub record ReadToStop (text : List ℕ) (xs : List Hardware) (before : ℕ) : Type 0 where
  pub within : before + length xs < most_lines
  pub rest : List ℕ
  pub more : List ℕ
  pub begins : Begins text xs rest
  pub stop : Splits rest (line.Event Stop ∷ []) more

-- up to a line that is refused; it has this number
pub record RefusedAt (text : List ℕ) (xs : List Hardware) (before number : ℕ) (cause : Cause) : Type 0 where
  pub within : before + length xs ≤ most_lines
  pub rest : List ℕ
  pub begins : Begins text xs rest
  pub number_is : number ≡ before + length xs + 1
  pub refused : IsRefused cause (before + length xs) rest

-- up to a fault of the input, before which no whole line is left unread
pub record BrokenOff (text : List ℕ) (xs : List Hardware) (left : List ℕ) : Type 0 where
  pub part : List ℕ
  pub begins : Begins text xs (part ++ left)
  pub feedless : NoLineFeed part

-- up to a line of one more event
pub record CutAt (text : List ℕ) (xs : List Hardware) (before : ℕ) (next : Hardware) : Type 0 where
  pub within : before + length xs < most_lines
  pub rest : List ℕ
  pub begins : Begins text (xs ++ next ∷ []) rest

-- some lines
pub record ReadSome (text : List ℕ) (xs : List Hardware) : Type 0 where
  pub rest : List ℕ
  pub begins : Begins text xs rest
