-- What the readers of a part answer.
use Rattle.std.specs.Prelude.{ℕ, ◌≡◌, ◌≤◌, ◌+◌, List, length, drop, Result, Ok, Err, ◌⊎◌}
use Rattle.bus_value.specs.declared.fault.ValueFault.{ValueFault}
use Rattle.bus_value.specs.declared.fault.ValueFault.TheVariants.{NoMemory}
use Rattle.bus_value.specs.Spelling.{pad_size}
use Rattle.bus_value.specs.Reading.{Answer}

-- what the definition says of bytes that stand from an offset on, with the place behind what was read, unless there was
-- no memory
abbrev pub Reads : {A : Type 0} → Result (A × ℕ) ValueFault → ℕ → List ℕ → Answer A → Type 0
Reads (Ok r) start bytes found = (found ≡ Ok (r.0, (start + r.1, drop r.1 bytes))) × (r.1 ≤ length bytes)
Reads (Err e) start bytes found = (e ≡ NoMemory) ⊎ (found ≡ Err e)

-- the place behind padding
abbrev pub Passes : Result ℕ ValueFault → ℕ → List ℕ → ℕ → ℕ → Result (Unit {0}) ValueFault → Type 0
Passes (Ok next) start bytes at align found = (found ≡ Ok tt) × (next ≡ at + pad_size (start + at) align) × (next ≤ length bytes)
Passes (Err e) start bytes at align found = found ≡ Err e

-- Something was read that is not kept: what is known is that it is there, and the place behind it.
pub record IsPassed {A : Type 0} (next start : ℕ) (bytes : List ℕ) (found : Answer A) : Type 0 where
  pub value : A
  pub was : found ≡ Ok (value, (start + next, drop next bytes))
  pub within : next ≤ length bytes

abbrev pub Checks : {A : Type 0} → Result ℕ ValueFault → ℕ → List ℕ → Answer A → Type 0
Checks (Ok next) start bytes found = IsPassed next start bytes found
Checks (Err e) start bytes found = (e ≡ NoMemory) ⊎ (found ≡ Err e)

-- All of some bytes was read, and is not kept.
pub record IsAccepted {A : Type 0} (found : Result A ValueFault) : Type 0 where
  pub value : A
  pub was : found ≡ Ok value

abbrev pub Accepts : {A : Type 0} → Result (Unit {0}) ValueFault → Result A ValueFault → Type 0
Accepts (Ok u) found = IsAccepted found
Accepts (Err e) found = (e ≡ NoMemory) ⊎ (found ≡ Err e)
