-- The values of a body as arguments.
use Rattle.std.specs.Prelude.{ℕ, ℤ, pos, nat_le, Bool, false, Option, Some, List, [], length, slice_get}
use Rattle.std.specs.List.{list_all}
use Rattle.std.specs.Option.{option_and_then}
use Rattle.login_base.specs.declared.ids.DevNo.{DevNo}
use Rattle.login_model.specs.Limits.{text_limit}
use Rattle.bus_names.specs.Types.{signature_text}
use Rattle.bus_value.specs.declared.basic_value.BasicValue.{BasicValue}
use Rattle.bus_value.specs.declared.basic_value.BasicValue.TheVariants as value
use Rattle.bus_value.specs.Fields.{basic_in}
use Rattle.bus_value.specs.Values.{Val, vals, shapes}

-- the signature of values
abbrev pub signature_of : List Val → List ℕ
signature_of vs = signature_text (shapes (vals vs))

-- the value at a place, where it is of a basic type
abbrev pub basic_at : ℕ → List Val → Option BasicValue
basic_at n vs = option_and_then basic_in (slice_get vs n)

-- what a value says that is a text, a number, a signed number or a flag
abbrev pub text_in : Option BasicValue → List ℕ
text_in (Some (value.Str text)) = text
text_in a = []

abbrev pub number_in : Option BasicValue → ℕ
number_in (Some (value.U32 n)) = n
number_in a = 0

abbrev pub signed_in : Option BasicValue → ℤ
signed_in (Some (value.I32 n)) = n
signed_in a = pos 0

abbrev pub flag_in : Option BasicValue → Bool
flag_in (Some (value.Bool b)) = b
flag_in a = false

-- the same of the value at a place
abbrev pub text_at : ℕ → List Val → List ℕ
text_at n vs = text_in (basic_at n vs)

abbrev pub number_at : ℕ → List Val → ℕ
number_at n vs = number_in (basic_at n vs)

abbrev pub signed_at : ℕ → List Val → ℤ
signed_at n vs = signed_in (basic_at n vs)

abbrev pub flag_at : ℕ → List Val → Bool
flag_at n vs = flag_in (basic_at n vs)

-- a device, by the two numbers in front
abbrev pub device_in : List Val → DevNo
device_in vs = record { major = number_at 0 vs; minor = number_at 1 vs }

-- a text within the limit
abbrev pub is_short : List ℕ → Bool
is_short text = nat_le (length text) text_limit

abbrev pub is_short_value : Val → Bool
is_short_value v = is_short (text_in (basic_in v))

-- the texts among arguments are within it; what stands inside of arrays and variants has no limit
abbrev pub are_short : List Val → Bool
are_short vs = list_all is_short_value vs
