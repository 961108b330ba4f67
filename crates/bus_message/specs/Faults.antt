-- What is wrong with a message.
use Rattle.std.specs.Prelude.{ℕ, Result, Ok, Err}
use Rattle.bus_value.specs.declared.fault.ValueFault.{ValueFault}
use Rattle.bus_value.specs.declared.fault.ValueFault.TheVariants as values
use Rattle.bus_message.specs.declared.fault.MessageFault.{MessageFault}
use Rattle.bus_message.specs.declared.fault.MessageFault.TheVariants.{BadOrder, BadVersion, ZeroSerial, MissingField, BadField, BadBody, TooLong, FdsNotAgreed, BadKind}
use Rattle.bus_message.specs.declared.fault.Fault.{Fault}
use Rattle.bus_message.specs.declared.fault.Refusal.TheVariants.{NoMemory}

-- the number under which a cause is known
abbrev pub number_of : MessageFault → ℕ
number_of BadOrder = 1
number_of BadVersion = 2
number_of ZeroSerial = 3
number_of MissingField = 4
number_of BadField = 5
number_of BadBody = 6
number_of TooLong = 7
number_of FdsNotAgreed = 8
number_of BadKind = 9

-- where a fault of a value is
abbrev pub offset_of : ValueFault → ℕ
offset_of (values.Short offset) = offset
offset_of (values.Padding offset) = offset
offset_of (values.BadBool offset) = offset
offset_of (values.BadText offset) = offset
offset_of (values.BadLength offset) = offset
offset_of (values.BadVariant offset) = offset
offset_of values.NoMemory = 0

-- a fault at an offset from the message's start
abbrev pub fault : MessageFault → ℕ → Fault
fault cause offset = record { offset = offset; cause = cause }

abbrev pub is_at : {A : Type 0} → MessageFault → ℕ → Result A Fault
is_at cause offset = Err (fault cause offset)

-- goes on with what was read, or ends with the fault
abbrev pub and_then : {A B : Type 0} → Result A Fault → (A → Result B Fault) → Result B Fault
and_then (Ok a) f = f a
and_then (Err e) f = Err e

-- a fault of a value is one of the message, at its place
abbrev pub for_cause : {A : Type 0} → MessageFault → Result A ValueFault → Result A Fault
for_cause cause (Ok a) = Ok a
for_cause cause (Err e) = is_at cause (offset_of e)
