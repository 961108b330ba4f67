-- Numbered variants, as the fields of a message's header are: those that are kept, of which each has a number that is
-- known, and what is kept of them.
use Rattle.std.specs.Prelude.{ℕ, ◌+◌, nat_le, List, [], ◌∷◌, ◌++◌, length, Option, Some, None, Result, Ok, Err, if◌then◌else◌}
use Rattle.bus_names.specs.declared.basic.Basic.TheVariants as kinds
use Rattle.bus_names.specs.Types.{Shape}
use Rattle.bus_names.specs.Types as types
use Rattle.bus_value.specs.declared.basic_value.BasicValue.{BasicValue}
use Rattle.bus_value.specs.declared.basic_value.BasicValue.TheVariants.{Byte}
use Rattle.bus_value.specs.declared.fault.ValueFault.{ValueFault}
use Rattle.bus_value.specs.declared.fields.Field.{Field}
use Rattle.bus_value.specs.declared.order.Order.{Order}
use Rattle.bus_value.specs.Values.{Val, Vals, basic, array, struct, variant, none, more}
use Rattle.bus_value.specs.Spelling.{pad_size, first_element, spelling}

-- a field is a struct of a byte and a variant, and the fields are an array of these
abbrev pub field_type : Shape
field_type = types.struct (types.basic kinds.Byte) (types.more types.variant types.none)

abbrev pub list_type : Shape
list_type = types.array field_type

-- the values of an array as a list
abbrev pub listed : Vals → List Val
listed none = []
listed (more v vs) = v ∷ listed vs

-- the elements of the array that was read
abbrev pub elements : Val → List Val
elements (array t vs) = listed vs
elements v = []

abbrev pub fields_in : List Val → List Val
fields_in (v ∷ []) = elements v
fields_in vs = []

-- a field's number
abbrev pub byte_in : BasicValue → ℕ
byte_in (Byte n) = n
byte_in a = 0

abbrev pub byte_of : Val → ℕ
byte_of (basic a) = byte_in a
byte_of v = 0

abbrev pub number : Val → ℕ
number (struct (more v vs)) = byte_of v
number v = 0

-- a field's value
abbrev pub inside : Val → Val
inside (variant v) = v
inside v = v

abbrev pub held : Val → Val
held (struct (more v (more w vs))) = inside w
held v = v

-- a value, where it is of a basic type
abbrev pub basic_in : Val → Option BasicValue
basic_in (basic a) = Some a
basic_in v = None

-- what is kept of a field that may begin at an offset, behind its padding
abbrev pub field_at : ℕ → Val → Field
field_at at f = record { number = number f; offset = at + pad_size at 8; value = basic_in (held f) }

-- the field, where its number is not above the most
abbrev pub kept_if : ℕ → ℕ → Val → List Field
kept_if most at f = if nat_le (number f) most then field_at at f ∷ [] else []

-- those of the fields that stand from an offset on
abbrev pub kept_of : ℕ → Order → ℕ → List Val → List Field
kept_of most o at [] = []
kept_of most o at (f ∷ fs) = kept_if most at f ++ kept_of most o (at + length (spelling o at f)) fs

-- those of the array that was read at an offset
abbrev pub kept_in : ℕ → Order → ℕ → Result (List Val) ValueFault → Result (List Field) ValueFault
kept_in most o start (Ok vs) = Ok (kept_of most o (first_element start 8) (fields_in vs))
kept_in most o start (Err e) = Err e
