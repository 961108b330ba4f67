-- The bytes of values: the D-Bus Specification, "Marshaling (Wire Format)".
use Rattle.std.specs.Prelude.{ℕ, ◌+◌, ◌-◌, ◌%◌, List, [], ◌∷◌, ◌++◌, length, replicate, if◌then◌else◌}
use Rattle.std.specs.Int.{w16, w32, w64, cast_unsigned}
use Rattle.bus_names.specs.Types.{Shape, signature_text}
use Rattle.bus_value.specs.declared.basic_value.BasicValue.{BasicValue}
use Rattle.bus_value.specs.declared.basic_value.BasicValue.TheVariants.{Byte, Bool, I16, U16, I32, U32, I64, U64, Double, Str, Path, Sig, Handle}
use Rattle.bus_value.specs.declared.order.Order.{Order}
use Rattle.bus_value.specs.Alignment.{alignment, boundary}
use Rattle.bus_value.specs.Numbers.{number_bytes}
use Rattle.bus_value.specs.BasicValues.{kind_of}
use Rattle.bus_value.specs.Values.{Val, Vals, Entries, basic, array, struct, dict, variant, none, more, no_entries, entry, shape}

-- how many bytes stand between an offset and the next boundary
abbrev pub pad_size : ℕ → ℕ → ℕ
pad_size at align = (align - at % align) % align

-- these bytes are zero
abbrev pub padding : ℕ → ℕ → List ℕ
padding at align = replicate (pad_size at align) 0

-- a length, a text and a zero byte
abbrev pub text_bytes : Order → List ℕ → List ℕ
text_bytes o text = number_bytes o 4 (length text) ++ (text ++ 0 ∷ [])

-- a length in one byte, the letters and a zero byte
abbrev pub signature_bytes : List Shape → List ℕ
signature_bytes ts = length (signature_text ts) ∷ (signature_text ts ++ 0 ∷ [])

-- a basic value behind its padding
abbrev pub basic_bytes : Order → BasicValue → List ℕ
basic_bytes o (Byte n) = n ∷ []
basic_bytes o (Bool b) = number_bytes o 4 (if b then 1 else 0)
basic_bytes o (I16 n) = number_bytes o 2 (cast_unsigned w16 n)
basic_bytes o (U16 n) = number_bytes o 2 n
basic_bytes o (I32 n) = number_bytes o 4 (cast_unsigned w32 n)
basic_bytes o (U32 n) = number_bytes o 4 n
basic_bytes o (I64 n) = number_bytes o 8 (cast_unsigned w64 n)
basic_bytes o (U64 n) = number_bytes o 8 n
basic_bytes o (Double bytes) = bytes
basic_bytes o (Str text) = text_bytes o text
basic_bytes o (Path text) = text_bytes o text
basic_bytes o (Sig ts) = signature_bytes ts
basic_bytes o (Handle n) = number_bytes o 4 n

-- a basic value at an offset
abbrev pub basic_spelling : Order → ℕ → BasicValue → List ℕ
basic_spelling o at a = padding at (alignment (kind_of a)) ++ basic_bytes o a

-- the offset behind an array's length, and that of its first element
abbrev pub behind_length : ℕ → ℕ
behind_length at = at + pad_size at 4 + 4

abbrev pub first_element : ℕ → ℕ → ℕ
first_element at align = behind_length at + pad_size (behind_length at) align

-- an array: the length of its elements without the padding in front of the first, that padding, the elements
abbrev pub array_bytes : Order → ℕ → ℕ → List ℕ → List ℕ
array_bytes o at align elements = padding at 4 ++ (number_bytes o 4 (length elements) ++ (padding (behind_length at) align ++ elements))

-- the next boundary of 8, on which structs begin, and the key of a dict entry
abbrev pub next_boundary : ℕ → ℕ
next_boundary at = at + pad_size at 8

-- the offset of the value of a dict entry
abbrev pub value_at : Order → ℕ → BasicValue → ℕ
value_at o at a = next_boundary at + length (basic_spelling o (next_boundary at) a)

-- a dict entry, as a struct of its key and its value
abbrev pub pair_bytes : Order → ℕ → BasicValue → List ℕ → List ℕ
pair_bytes o at a value = padding at 8 ++ (basic_spelling o (next_boundary at) a ++ value)

abbrev mutual
  -- a value at an offset
  pub spelling : Order → ℕ → Val → List ℕ
  spelling o at (basic a) = basic_spelling o at a
  spelling o at (array t vs) = array_bytes o at (boundary t) (spellings o (first_element at (boundary t)) vs)
  spelling o at (struct vs) = padding at 8 ++ spellings o (at + pad_size at 8) vs
  spelling o at (dict b t es) = array_bytes o at 8 (entry_spellings o (first_element at 8) es)
  spelling o at (variant v) = signature_bytes (shape v ∷ []) ++ spelling o (at + length (signature_bytes (shape v ∷ []))) v

  -- values one behind the other
  pub spellings : Order → ℕ → Vals → List ℕ
  spellings o at none = []
  spellings o at (more v vs) = spelling o at v ++ spellings o (at + length (spelling o at v)) vs

  -- dict entries one behind the other
  pub entry_spellings : Order → ℕ → Entries → List ℕ
  entry_spellings o at no_entries = []
  entry_spellings o at (entry a v es) =
      pair_bytes o at a (spelling o (value_at o at a) v) ++ entry_spellings o (at + length (pair_bytes o at a (spelling o (value_at o at a) v))) es
