-- What a piece led to.
use Rattle.std.specs.Prelude.{ℕ, ◌≡◌, ◌≤◌, ◌+◌, ◌++◌, List, length, drop, Option, Some, None}
use Rattle.bus_message.specs.declared.fault.Fault.{Fault}
use Rattle.bus_message.specs.declared.message.Message.{Message}
use Rattle.bus_message.specs.declared.cutting.Pieces.{Pieces}
use Rattle.bus_message.specs.declared.cutter.Cut.{Cut}
use Rattle.bus_message.specs.Cutting.{Cutting, Open, Bad, front, open_at, bad_at, cut_from}
use Rattle.bus_message.specs.Feeding.{Stream, kept}

-- messages in front
abbrev pub before : List Message → Cutting → Cutting
before ms c = record c { messages = ms ++ c.messages }

-- what stands behind the messages
abbrev pub ended : ℕ → List ℕ → Option Fault → Cutting
ended place rest None = open_at place rest
ended place rest (Some e) = bad_at place e

-- the bytes from a place on
abbrev pub cut_at : ℕ → List ℕ → Cutting
cut_at place bytes = cut_from (length bytes) place bytes

abbrev pub LeavesOpen : Option Fault → List ℕ → Type 0
LeavesOpen None rest = front rest ≡ Open
LeavesOpen (Some e) rest = front rest ≡ Bad e

-- the messages are those of the text, wherever it stands in its stream
pub record IsCutFrom (text : List ℕ) (pieces : Pieces) : Type 0 where
  pub within : pieces.taken ≤ length text
  pub same : (place : ℕ) → cut_at place text ≡ before pieces.messages (ended (place + pieces.taken) (drop pieces.taken text) pieces.fault)
  pub rest : LeavesOpen pieces.fault (drop pieces.taken text)

-- an answer that gives what a cutting is, and keeps the rest
pub record AnswersCut (c : Cutting) (new : Stream) (answer : Cut) : Type 0 where
  pub messages : answer.messages ≡ c.messages
  pub malformed : answer.malformed ≡ c.malformed
  pub kept_as : new ≡ kept c
