-- Laws of the grammar.
use Rattle.std.specs.Prelude.{ℕ, ◌≡◌, ◌≤◌, ◌+◌, ◌*◌, ◌<◌, ◌^◌, List, length, slice_index, Err}
use Rattle.bus_names.specs.Types.{Shape}
use Rattle.bus_names.specs.Signatures.{IsWithin}
use Rattle.bus_value.specs.declared.fault.ValueFault.TheVariants.{NoMemory}
use Rattle.bus_value.specs.declared.order.Order.{Order}
use Rattle.bus_value.specs.Values.{Val, vals, parts_in}
use Rattle.bus_value.specs.Lengths.{values_end}
use Rattle.bus_value.specs.Grammar.{Spells}
use Rattle.bus_value.specs.Reading.{read_all}
use Rattle.bus_value.specs.Limits.{AllFit, most_parts}
use Rattle.bus_value.specs.Typed.{AreTyped}

-- values have one spelling at one place
abbrev pub OneSpelling : Type 0
OneSpelling = (o : Order) (start : ℕ) (ts us : List Shape) (vs : List Val) (x y : List ℕ) → Spells o start ts vs x → Spells o start us vs y → (ts ≡ us) × (x ≡ y)

-- no two value lists have the same spelling under one signature
abbrev pub OneReading : Type 0
OneReading = (o : Order) (start : ℕ) (ts : List Shape) (vs ws : List Val) (bytes : List ℕ) → IsWithin ts → Spells o start ts vs bytes → Spells o start ts ws bytes → vs ≡ ws

-- a spelling ends where its values end
abbrev pub SpellingLength : Type 0
SpellingLength = (o : Order) (start : ℕ) (ts : List Shape) (vs : List Val) (bytes : List ℕ) → Spells o start ts vs bytes → start + length bytes ≡ values_end start (vals vs)

-- values have a spelling exactly where they are of their types and within the limits
abbrev pub HasSpelling : Type 0
HasSpelling =
    (o : Order) (start : ℕ) (ts : List Shape) (vs : List Val) →
    ((bytes : List ℕ) → Spells o start ts vs bytes → AreTyped 0 ts (vals vs) × AllFit o start (vals vs)) × (AreTyped 0 ts (vals vs) → AllFit o start (vals vs) → (bytes : List ℕ) × Spells o start ts vs bytes)

-- what bytes spell has at most so many parts for each of them
abbrev pub FewParts : Type 0
FewParts = (o : Order) (start : ℕ) (ts : List Shape) (vs : List Val) (bytes : List ℕ) → IsWithin ts → Spells o start ts vs bytes → parts_in (vals vs) ≤ most_parts * length bytes

-- what a reading of the types of a signature counts down never runs out: it ends with the values or with a
-- fault of the bytes
abbrev pub AlwaysEnds : Type 0
AlwaysEnds = (o : Order) (start : ℕ) (ts : List Shape) (bytes : List ℕ) → IsWithin ts → ((i : ℕ) → slice_index bytes i < 2 ^ 8) → read_all o start ts bytes ≡ Err NoMemory → ⊥
