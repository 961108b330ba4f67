-- A stream that is fed in pieces.
use Rattle.std.specs.Prelude.{ℕ, ◌≡◌, List, [], ◌∷◌, ◌++◌, Option, Some, None, Result, Ok, Err}
use Rattle.std.specs.List.{AllByRecursion}
use Rattle.login_base.specs.declared.memory.NoMemory.{NoMemory}
use Rattle.bus_value.specs.Faults.{reported}
use Rattle.bus_message.specs.declared.fault.Malformed.{Malformed}
use Rattle.bus_message.specs.declared.message.Message.{Message}
use Rattle.bus_message.specs.declared.cutter.Cut.{Cut}
use Rattle.bus_message.specs.Grammar.{IsMessage}
use Rattle.bus_message.specs.Cutting.{Cutting, cut}

-- what is kept between two pieces: the place behind the messages, as it is reported; the bytes from there on, of a
-- message that is not whole; and what is wrong there
pub record Stream : Type 0 where
  pub place : ℕ
  pub rest : List ℕ
  pub malformed : Option Malformed

abbrev pub kept : Cutting → Stream
kept c = record { place = reported c.place; rest = c.rest; malformed = c.malformed }

-- what was fed so far, all pieces joined, is this text
pub record HasFed (stream : Stream) (text : List ℕ) : Type 0 where
  pub state : stream ≡ kept (cut text)

-- what a piece led to: it was fed behind all that was fed before, and the answer is what it brought about
pub record Feeds (old : Stream) (piece : List ℕ) (new : Stream) (answer : Cut) : Type 0 where
  pub fed : (text : List ℕ) → HasFed old text → HasFed new (text ++ piece)
  pub messages : (text : List ℕ) → HasFed old text → (cut (text ++ piece)).messages ≡ (cut text).messages ++ answer.messages
  pub malformed : (text : List ℕ) → HasFed old text → answer.malformed ≡ (cut (text ++ piece)).malformed

-- each message is one that some bytes are
abbrev pub AreMessages : List Message → Type 0
AreMessages ms = AllByRecursion (λ (m : Message). (bytes : List ℕ) × IsMessage bytes m) ms

-- a stream that is new or was fed these pieces, all messages that it gave, and what the last answer said is malformed
pub data WasFed : Stream → List (List ℕ) → List Message → Option Malformed → Type 0 where
  new : {stream : Stream} → HasFed stream [] → WasFed stream [] [] None
  fed : {old new : Stream} {pieces : List (List ℕ)} {piece : List ℕ} {messages : List Message} {malformed : Option Malformed} {answer : Cut}
      → WasFed old pieces messages malformed → Feeds old piece new answer → WasFed new (pieces ++ piece ∷ []) (messages ++ answer.messages) answer.malformed

-- the answer of a stream that is malformed
abbrev pub IsEnded : Result Cut NoMemory → Malformed → Type 0
IsEnded (Ok c) place = (c.messages ≡ []) × (c.malformed ≡ Some place)
IsEnded (Err e) place = ⊥
