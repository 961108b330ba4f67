-- Laws of messages and of their streams.
use Rattle.std.specs.Prelude.{ℕ, ◌≡◌, List, [], ◌++◌, length, Option, Some}
use Rattle.std.specs.List.{concat}
use Rattle.bus_message.specs.declared.fault.Malformed.{Malformed}
use Rattle.bus_message.specs.declared.message.Message.{Message}
use Rattle.bus_message.specs.Cutting.{Cutting, Whole, front, cut}
use Rattle.bus_message.specs.Feeding.{Stream, WasFed}
use Rattle.bus_message.specs.Grammar.{AreBytes, IsMessage}
use Rattle.bus_message.specs.Stream.{Begins, IsCut}

-- whatever the pieces are, what was given is what is cut from all their bytes
abbrev pub InAnyPieces : Type 0
InAnyPieces =
    (stream : Stream) (pieces : List (List ℕ)) (messages : List Message) (malformed : Option Malformed) → WasFed stream pieces messages malformed
    → (messages ≡ (cut (concat pieces)).messages) × (malformed ≡ (cut (concat pieces)).malformed)

-- what is cut from a text is what stands at its front, all of it
abbrev pub CutIsFront : Type 0
CutIsFront = (text : List ℕ) → AreBytes text → IsCut text (cut text)

-- nothing else is cut from it
abbrev pub OneCut : Type 0
OneCut = (text : List ℕ) (c : Cutting) → IsCut text c → c ≡ cut text

-- behind a fault nothing is cut, whatever comes
abbrev pub MalformedForGood : Type 0
MalformedForGood = (text more : List ℕ) (place : Malformed) → (cut text).malformed ≡ Some place → cut (text ++ more) ≡ cut text

-- no bytes make messages of a text that shows a fault
abbrev pub NoContinuation : Type 0
NoContinuation =
    (text more : List ℕ) (place : Malformed) (messages : List Message) → (cut text).malformed ≡ Some place → Begins (text ++ more) messages [] → ⊥

-- the bytes of a message are cut as that message, whatever stands behind them
abbrev pub MessageIsCut : Type 0
MessageIsCut = (bytes more : List ℕ) (message : Message) → IsMessage bytes message → front (bytes ++ more) ≡ Whole (length bytes) message

-- no message's bytes begin another message's
abbrev pub PrefixFree : Type 0
PrefixFree = (bytes more : List ℕ) (message other : Message) → IsMessage bytes message → IsMessage (bytes ++ more) other → more ≡ []

-- bytes are one message at most
abbrev pub OneMessage : Type 0
OneMessage = (bytes : List ℕ) (message other : Message) → IsMessage bytes message → IsMessage bytes other → message ≡ other
