-- What values are that were made, or that bytes spell.
use Rattle.std.specs.Prelude.{ℕ, ◌<◌, ◌&&◌, nat_lt, Bool, List, [], Result, Ok, Err, IsTrue, is_ok}
use Rattle.std.specs.List.{list_all}
use Rattle.bus_value.specs.declared.fault.ValueFault.{ValueFault}
use Rattle.bus_value.specs.declared.values.Held.{Held}
use Rattle.bus_value.specs.declared.values.Held.TheVariants.{Made, Read}
use Rattle.bus_value.specs.declared.values.Spelled.{Spelled}
use Rattle.bus_value.specs.Values.{Val}
use Rattle.bus_value.specs.Reading.{read_all}

-- what the bytes spell
abbrev pub read_in : Spelled → Result (List Val) ValueFault
read_in s = read_all s.order s.start s.types s.bytes

abbrev pub values_in : Result (List Val) ValueFault → List Val
values_in (Ok vs) = vs
values_in (Err e) = []

abbrev pub held_in : Held → List Val
held_in (Made vs) = vs
held_in (Read s) = values_in (read_in s)

-- numbers of one byte
abbrev pub are_bytes : List ℕ → Bool
are_bytes bytes = list_all (λ b. nat_lt b 256) bytes

-- bytes that are kept spell values
abbrev pub IsHeld : Held → Type 0
IsHeld (Made vs) = 0 < 1
IsHeld (Read s) = IsTrue (is_ok (read_in s) && are_bytes s.bytes)
