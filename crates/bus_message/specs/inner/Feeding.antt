-- What is found at the front of a stream, and what is kept between two pieces.
use Rattle.std.specs.Prelude.{ℕ, ◌≡◌, ◌≤◌, List, [], Option, Some, None, Result, Ok, Err, ⊤}
use Rattle.login_base.specs.declared.memory.NoMemory.{NoMemory}
use Rattle.bus_message.specs.declared.fault.Malformed.{Malformed}
use Rattle.bus_message.specs.declared.fault.Refusal.{Refusal}
use Rattle.bus_message.specs.declared.fault.Refusal.TheVariants as refusals
use Rattle.bus_message.specs.declared.cutting.Next.{Next}
use Rattle.bus_message.specs.declared.cutting.Next.TheVariants as next
use Rattle.bus_message.specs.Cutting.{Showing, Open, Bad, Whole, front}

-- what was found at the front of a text of so many bytes
abbrev pub Shows : Next → Showing → ℕ → Type 0
Shows next.Open found count = found ≡ Open
Shows (next.Whole m size) found count = (found ≡ Whole size m) × (16 ≤ size) × (size ≤ count)
Shows (next.Malformed e) found count = found ≡ Bad e

-- the same, unless there was no memory
abbrev pub Finds : Result Next Refusal → Showing → ℕ → Type 0
Finds (Ok n) found count = Shows n found count
Finds (Err (refusals.Malformed e)) found count = found ≡ Bad e
Finds (Err refusals.NoMemory) found count = ⊤

-- behind a fault nothing is kept; else no whole message is, and none that shows a fault
abbrev pub IsKept : Option Malformed → List ℕ → Type 0
IsKept None rest = front rest ≡ Open
IsKept (Some place) rest = rest ≡ []
