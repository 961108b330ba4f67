-- What the readers of fields answer.
use Rattle.std.specs.Prelude.{ℕ, ◌≡◌, ◌≤◌, ◌+◌, List, length, drop, Result, Ok, Err, ◌⊎◌}
use Rattle.bus_value.specs.declared.fault.ValueFault.{ValueFault}
use Rattle.bus_value.specs.declared.fault.ValueFault.TheVariants.{NoMemory}
use Rattle.bus_value.specs.declared.fields.Field.{Field}
use Rattle.bus_value.specs.declared.order.Order.{Order}
use Rattle.bus_value.specs.Values.{Val}
use Rattle.bus_value.specs.Reading.{Answer}
use Rattle.bus_value.specs.Fields.{kept_of}

-- those of the fields that were read from an offset on
abbrev pub kept_by : ℕ → Order → ℕ → Result (List Val) ValueFault → Result (List Field) ValueFault
kept_by most o at (Ok fs) = Ok (kept_of most o at fs)
kept_by most o at (Err e) = Err e

-- A value was read of which only a part is kept: what is known is that it is there, its part, and the place behind it.
pub record IsSeen {B : Type 0} (part : Val → B) (kept : B) (next start : ℕ) (bytes : List ℕ) (found : Answer Val) : Type 0 where
  pub value : Val
  pub was : found ≡ Ok (value, (start + next, drop next bytes))
  pub within : next ≤ length bytes
  pub kept_is : kept ≡ part value

abbrev pub Sees : {B : Type 0} → (Val → B) → Result (B × ℕ) ValueFault → ℕ → List ℕ → Answer Val → Type 0
Sees part (Ok r) start bytes found = IsSeen part r.0 r.1 start bytes found
Sees part (Err e) start bytes found = (e ≡ NoMemory) ⊎ (found ≡ Err e)
