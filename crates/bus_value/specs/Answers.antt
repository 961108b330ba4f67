-- What the readers answer: what the definition says, unless there was no memory.
use Rattle.std.specs.Prelude.{◌≡◌, Result, Ok, Err, ◌⊎◌}
use Rattle.bus_value.specs.declared.fault.ValueFault.{ValueFault}
use Rattle.bus_value.specs.declared.fault.ValueFault.TheVariants.{NoMemory}

abbrev pub Gives : {A : Type 0} → Result A ValueFault → Result A ValueFault → Type 0
Gives (Ok a) found = found ≡ Ok a
Gives (Err e) found = (e ≡ NoMemory) ⊎ (found ≡ Err e)
