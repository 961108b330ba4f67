-- How a replay goes on, and how it ends.
use Rattle.std.specs.Prelude.{ℕ, ◌≡◌, List, Option, IfSome, length, Result, Ok, Err}
use Rattle.login_edge.specs.Texts.{Gains}
use Rattle.recording.specs.declared.line.Line.{Line}
use Rattle.replay.specs.Played.{Played}
use Rattle.replay.specs.Written.{WereRead}
use Rattle.replay.specs.PreambleLines.{setup_of}
use Rattle.replay.specs.Front.{Stage, going, lines_at, text_at, IsFront}
use Rattle.replay.specs.Outcome.{Replayed, RefusedAt, FullAt, Broken, Fronted}
use Rattle.replay.specs.inner.Player.{PlayerState, StandsBehind}
use Rattle.replay.specs.declared.early.Early.{Early}
use Rattle.replay.specs.declared.early.Early.TheVariants as early
use Rattle.replay.specs.declared.replaying.ReplayEnd.{ReplayEnd}
use Rattle.replay.specs.declared.replaying.ReplayEnd.TheVariants as replay

-- what was read of the text, what the source has left, and what was written, where a replay ends early
abbrev pub EndsEarly : Option (List ℕ) → Option (List ℕ) → Option (List ℕ) → Option (List ℕ) → Early → Type 0
EndsEarly all left before after (early.Script number cause) = IfSome all (λ text. RefusedAt number cause text before after)
EndsEarly all left before after (early.Full count) = IfSome all (λ text. FullAt count text before after)
EndsEarly all left before after early.ReadFault = IfSome all (λ text. Broken text left before after)
EndsEarly all left before after early.WriteFault = IfSome all (λ text. Fronted text left before after)
EndsEarly all left before after early.NoMemory = IfSome all (λ text. Fronted text left before after)

-- the same, where it is done or ends early
abbrev pub RunGives : Option (List ℕ) → Option (List ℕ) → Option (List ℕ) → Option (List ℕ) → Result (Unit {0}) Early → Type 0
RunGives all left before after (Ok u) = IfSome all (λ text. Replayed text left before after)
RunGives all left before after (Err e) = EndsEarly all left before after e

-- the end that is answered for it
abbrev pub end_of : Result (Unit {0}) Early → ReplayEnd
end_of (Ok u) = replay.Done
end_of (Err (early.Script number cause)) = replay.Script number cause
end_of (Err (early.Full count)) = replay.Full count
end_of (Err early.ReadFault) = replay.ReadFault
end_of (Err early.WriteFault) = replay.WriteFault
end_of (Err early.NoMemory) = replay.NoMemory

-- So many lines of a text were read, and this is left; behind them the player stands, with their setup; and the
-- transcript of all of them but the last line of a recording was written
pub record SoFar (stage : Stage) (player : PlayerState) (number : ℕ) (all left start held : Option (List ℕ)) : Type 0 where
  pub preamble : List Line
  pub played : List Played
  pub stands : StandsBehind player played
  pub setup_is : player.office.core.setup ≡ setup_of preamble
  pub is_front : IsFront (record { stage = stage; preamble = preamble; played = played })
  pub number_is : number ≡ length (lines_at stage preamble played)
  pub read : WereRead all (lines_at stage preamble played) left
  pub wrote : Gains start held (text_at going preamble played)

-- so a replay goes on, whatever was read and written before
abbrev pub GoesOn : Stage → PlayerState → ℕ → Option (List ℕ) → Option (List ℕ) → Option (List ℕ) → Option (List ℕ) → Result (Unit {0}) Early → Type 0
GoesOn stage player number before left held after r = (all start : Option (List ℕ)) → SoFar stage player number all before start held → RunGives all left start after r
