-- How faults of values are faults of messages.
use Rattle.std.specs.Prelude.{◌≡◌, Result, Ok, Err, ⊤}
use Rattle.bus_value.specs.declared.fault.ValueFault.{ValueFault}
use Rattle.bus_value.specs.declared.fault.ValueFault.TheVariants as values
use Rattle.bus_message.specs.declared.fault.MessageFault.{MessageFault}
use Rattle.bus_message.specs.declared.fault.Fault.{Fault}
use Rattle.bus_message.specs.declared.fault.Refusal.{Refusal}
use Rattle.bus_message.specs.declared.fault.Refusal.TheVariants.{Malformed, NoMemory}
use Rattle.bus_message.specs.Faults.{offset_of, fault}

-- a fault of a value as one of the message, for an answer
abbrev pub refusal_for : MessageFault → ValueFault → Refusal
refusal_for cause values.NoMemory = NoMemory
refusal_for cause e = Malformed (fault cause (offset_of e))

-- what a reader answers: what the definition says, unless there was no memory
abbrev pub Gives : {A : Type 0} → Result A Refusal → Result A Fault → Type 0
Gives (Ok a) found = found ≡ Ok a
Gives (Err (Malformed e)) found = found ≡ Err e
Gives (Err NoMemory) found = ⊤
