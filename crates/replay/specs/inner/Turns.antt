-- What a line behind `go` does to a replay.
use Rattle.std.specs.Prelude.{ℕ, ◌+◌, List, [], ◌∷◌, Option, IfSome, Result, Ok, Err}
use Rattle.recording.specs.declared.line.Line.{Line}
use Rattle.replay.specs.Written.{WereRead}
use Rattle.replay.specs.Front.{going, ended}
use Rattle.replay.specs.Ahead.{Partly}
use Rattle.replay.specs.inner.Player.{PlayerState}
use Rattle.replay.specs.inner.Running.{EndsEarly, SoFar}
use Rattle.replay.specs.declared.early.Early.{Early}
use Rattle.replay.specs.declared.run.Turn.{Turn}
use Rattle.replay.specs.declared.run.Turn.TheVariants.{Next, Closed}

-- a line more was read, and played, or it is the last; or the replay ended early
abbrev pub TurnGives : PlayerState → PlayerState → ℕ → Option (List ℕ) → Option (List ℕ) → Option (List ℕ) → Option (List ℕ) → Option (List ℕ) → Result Turn Early → Type 0
TurnGives old new number all after source start now (Ok Next) = SoFar going new (number + 1) all after start now
TurnGives old new number all after source start now (Ok Closed) = SoFar ended new (number + 1) all after start now
TurnGives old new number all after source start now (Err early) = EndsEarly all source start now early

-- so a turn goes, whatever was read and written before
abbrev pub Turns : PlayerState → PlayerState → ℕ → (before after source held now : Option (List ℕ)) → Result Turn Early → Type 0
Turns old new number before after source held now turn =
    (all start : Option (List ℕ)) → SoFar going old number all before start held → TurnGives old new number all after source start now turn

-- the same of a line that was read: this is left behind it, of which the source has this
abbrev pub TakesTurn : PlayerState → PlayerState → Line → ℕ → (held now : Option (List ℕ)) → Result Turn Early → Type 0
TakesTurn old new line number held now turn =
    (before after source : Option (List ℕ)) → WereRead before (line ∷ []) after → IfSome after (λ text. Partly text source) → Turns old new number before after source held now turn
