-- The messages at the front of a stream, and what stands behind them.
use Rattle.std.specs.Prelude.{ℕ, ◌≡◌, ◌+◌, List, [], ◌∷◌, ◌++◌, length, Option, Some, None}
use Rattle.bus_message.specs.declared.fault.Fault.{Fault}
use Rattle.bus_message.specs.declared.fault.Malformed.{Malformed}
use Rattle.bus_message.specs.declared.message.Message.{Message}
use Rattle.bus_message.specs.Grammar.{IsMessage}
use Rattle.bus_message.specs.Cutting.{Open, Bad, front, Cutting, in_stream}

-- a text begins with the bytes of these messages, one behind the other, and the rest follows
abbrev pub Begins : List ℕ → List Message → List ℕ → Type 0
Begins text [] rest = text ≡ rest
Begins text (m ∷ ms) rest = (bytes : List ℕ) × ((more : List ℕ) × (IsMessage bytes m × ((text ≡ bytes ++ more) × Begins more ms rest)))

-- the rest, at its place, is kept where it shows nothing yet; else it shows a fault, which is told, and nothing is kept
abbrev pub Leaves : Option Malformed → ℕ → List ℕ → List ℕ → Type 0
Leaves None place kept rest = (front rest ≡ Open) × (kept ≡ rest)
Leaves (Some told) place kept rest = (kept ≡ []) × ((e : Fault) × ((front rest ≡ Bad e) × (told ≡ in_stream place e)))

-- what is cut from a text is what stands at its front, all of it
pub record IsCut (text : List ℕ) (c : Cutting) : Type 0 where
  pub rest : List ℕ
  pub begins : Begins text c.messages rest
  pub reached : c.place + length rest ≡ length text
  pub leaves : Leaves c.malformed c.place c.rest rest
