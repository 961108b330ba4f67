-- How the next line of a recording is read, and what follows where no more may stand.
use Rattle.std.specs.Prelude.{ℕ, ◌≡◌, ◌+◌, List, [], ◌∷◌, ◌++◌, Option, Some, IfSome, Result, Ok, Err}
use Rattle.recording.specs.declared.line.Line.{Line}
use Rattle.recording.specs.Cut.{NoLineFeed, first_line}
use Rattle.recording.specs.Meaning.{IsReadAs}
use Rattle.replay.specs.Written.{WereRead}
use Rattle.replay.specs.Causes.{IsOwnCause}
use Rattle.replay.specs.Outcome.{IsPast}
use Rattle.replay.specs.Recording.{most_lines}
use Rattle.replay.specs.declared.cause.Cause.{Cause}
use Rattle.replay.specs.declared.early.Early.{Early}
use Rattle.replay.specs.declared.early.Early.TheVariants.{Script, ReadFault, NoMemory}

-- the first line of what is left is read as no line, for this cause
pub record IsNoLine (cause : Cause) (text : List ℕ) : Type 0 where
  pub none : (l : Line) → IsReadAs (first_line text) l → ⊥
  pub own : IsOwnCause cause text

-- a part of a line was read, and the rest is left
pub record Torn (text : List ℕ) (left : Option (List ℕ)) : Type 0 where
  pub part : List ℕ
  pub rest : List ℕ
  pub feedless : NoLineFeed part
  pub split : text ≡ part ++ rest
  pub left_is : left ≡ Some rest

-- a part of the text was read, and the rest is left
pub record Partly (text : List ℕ) (left : Option (List ℕ)) : Type 0 where
  pub part : List ℕ
  pub rest : List ℕ
  pub split : text ≡ part ++ rest
  pub left_is : left ≡ Some rest

-- the source failed within a line, or there was no memory; this was left before, and the source has this left
abbrev pub BreaksOff : Option (List ℕ) → Option (List ℕ) → Early → Type 0
BreaksOff before left ReadFault = IfSome before (λ text. Torn text left)
BreaksOff before left NoMemory = IfSome before (λ text. Partly text left)
BreaksOff before left _ = ⊥

-- behind so many lines none follows, for this cause
abbrev pub EndsBehind : ℕ → Option (List ℕ) → Option (List ℕ) → Early → Type 0
EndsBehind number before left (Script line cause) = (line ≡ number + 1) × IfSome before (λ text. IsNoLine cause text)
EndsBehind number before left early = BreaksOff before left early

-- a line behind so many, or none
abbrev pub ReadsLine : ℕ → Option (List ℕ) → Option (List ℕ) → Option (List ℕ) → Result Line Early → Type 0
ReadsLine number before after left (Ok l) = WereRead before (l ∷ []) after
ReadsLine number before after left (Err early) = EndsBehind number before left early

-- behind the most lines there is one more, or none
abbrev pub EndsPast : Option (List ℕ) → Option (List ℕ) → Early → Type 0
EndsPast before left (Script line cause) = (line ≡ most_lines + 1) × IfSome before (λ text. IsPast cause text)
EndsPast before left early = BreaksOff before left early
