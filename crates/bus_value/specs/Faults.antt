-- The faults of bytes that spell no values, and padding.
use Rattle.std.specs.Prelude.{ℕ, ◌+◌, ◌-◌, ◌^◌, ◌==◌, nat_lt, min, List, [], ◌∷◌, length, take, Option, Some, None, is_some, Result, Ok, Err, if◌then◌else◌}
use Rattle.bus_value.specs.declared.fault.ValueFault.{ValueFault}
use Rattle.bus_value.specs.declared.fault.ValueFault.TheVariants.{Short, Padding, BadLength}
use Rattle.bus_value.specs.Spelling.{pad_size}

-- an offset as it is reported: the last number of 64 bits stands for those above it
unfoldable pub reported : ℕ → ℕ
reported at = min at (2 ^ 64 - 1)

-- A value's bytes are not all there; or they pass the end of an array, whose length stands at this offset.
abbrev pub cut_off : Option ℕ → ℕ → ValueFault
cut_off None at = Short (reported at)
cut_off (Some place) at = BadLength place

-- goes on with what was read, or ends with the fault
abbrev pub and_then : {A B : Type 0} → Result A ValueFault → (A → Result B ValueFault) → Result B ValueFault
and_then (Ok a) f = f a
and_then (Err e) f = Err e

-- padding is zero: else the fault is at its first other byte
unfoldable pub zeros : ℕ → List ℕ → Result (Unit {0}) ValueFault
zeros at [] = Ok tt
zeros at (b ∷ bs) = if b == 0 then zeros (at + 1) bs else Err (Padding (reported at))

-- Padding of which not all is there. In an array it passes the array's end; else the value behind it is not there.
abbrev pub short_padding : Option ℕ → ℕ → ℕ → List ℕ → Result (Unit {0}) ValueFault
short_padding array at count bytes = if is_some array then Err (cut_off array at) else and_then (zeros at bytes) (λ u. Err (Short (reported (at + count))))

-- the padding in front of a value
unfoldable pub check_padding : Option ℕ → ℕ → ℕ → List ℕ → Result (Unit {0}) ValueFault
check_padding array at align bytes =
    let count = pad_size at align in
    if nat_lt (length bytes) count then short_padding array at count bytes else zeros at (take count bytes)
