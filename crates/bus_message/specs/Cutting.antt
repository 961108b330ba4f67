-- A stream of messages: those at its front, and what is left.
use Rattle.std.specs.Prelude.{ℕ, zero, suc, ◌+◌, nat_lt, List, [], ◌∷◌, length, take, drop, Option, Some, None, Result, Ok, Err, if◌then◌else◌}
use Rattle.bus_value.specs.Faults.{reported}
use Rattle.bus_message.specs.declared.fault.Fault.{Fault}
use Rattle.bus_message.specs.declared.fault.Malformed.{Malformed}
use Rattle.bus_message.specs.declared.header.Header.{Header}
use Rattle.bus_message.specs.declared.message.Message.{Message}
use Rattle.bus_message.specs.Headers.{size, header_of}
use Rattle.bus_message.specs.Reading.{message_of}

-- what the first bytes of a stream show: nothing yet; a message that is not one; or a whole one of so many bytes
pub data Showing : Type 0 where
  Open : Showing
  Bad : Fault → Showing
  Whole : (count : ℕ) → Message → Showing

abbrev pub front_read : ℕ → Result Message Fault → Showing
front_read count (Ok m) = Whole count m
front_read count (Err e) = Bad e

-- the faults of the first 16 bytes show as soon as these are there, all others once the message is whole
abbrev pub front_by : List ℕ → Result Header Fault → Showing
front_by bytes (Ok h) = if nat_lt (length bytes) (size h) then Open else front_read (size h) (message_of h (take (size h) bytes))
front_by bytes (Err e) = Bad e

unfoldable pub front : List ℕ → Showing
front bytes = if nat_lt (length bytes) 16 then Open else front_by bytes (header_of (take 16 bytes))

-- the messages, the place behind them, the bytes from there on, and what is wrong there
pub record Cutting : Type 0 where
  pub messages : List Message
  pub place : ℕ
  pub rest : List ℕ
  pub malformed : Option Malformed

-- a fault of the message at a place in the stream
abbrev pub in_stream : ℕ → Fault → Malformed
in_stream place e = record { offset = reported (place + e.offset); cause = e.cause }

abbrev pub open_at : ℕ → List ℕ → Cutting
open_at place bytes = record { messages = []; place = place; rest = bytes; malformed = None }

-- behind a fault nothing is read
abbrev pub bad_at : ℕ → Fault → Cutting
bad_at place e = record { messages = []; place = place; rest = []; malformed = Some (in_stream place e) }

-- a message in front
abbrev pub behind : Message → Cutting → Cutting
behind m c = record c { messages = m ∷ c.messages }

abbrev pub go_on : ℕ → List ℕ → Showing → (ℕ → List ℕ → Cutting) → Cutting
go_on place bytes Open more = open_at place bytes
go_on place bytes (Bad e) more = bad_at place e
go_on place bytes (Whole count m) more = behind m (more (place + count) (drop count bytes))

-- the bytes from a place on; the first number is one that the messages are not above
unfoldable pub cut_from : ℕ → ℕ → List ℕ → Cutting
cut_from zero place bytes = open_at place bytes
cut_from (suc most) place bytes = go_on place bytes (front bytes) (cut_from most)

-- a whole stream so far
unfoldable pub cut : List ℕ → Cutting
cut bytes = cut_from (length bytes) 0 bytes
