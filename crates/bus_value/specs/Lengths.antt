-- Where spellings end, which the order of bytes does not change.
use Rattle.std.specs.Prelude.{ℕ, ◌+◌, [], ◌∷◌, length}
use Rattle.bus_names.specs.Types.{signature_text}
use Rattle.bus_value.specs.declared.basic_value.BasicValue.{BasicValue}
use Rattle.bus_value.specs.declared.basic_value.BasicValue.TheVariants.{Byte, Bool, I16, U16, I32, U32, I64, U64, Double, Str, Path, Sig, Handle}
use Rattle.bus_value.specs.BasicValues.{kind_of}
use Rattle.bus_value.specs.Values.{Val, Vals, Entries, basic, array, struct, dict, variant, none, more, no_entries, entry, shape}
use Rattle.bus_value.specs.Spelling.{pad_size, first_element, next_boundary}
use Rattle.bus_value.specs.Alignment.{alignment, boundary}

-- how many bytes a basic value has behind its padding
abbrev pub basic_size : BasicValue → ℕ
basic_size (Byte n) = 1
basic_size (Bool b) = 4
basic_size (I16 n) = 2
basic_size (U16 n) = 2
basic_size (I32 n) = 4
basic_size (U32 n) = 4
basic_size (I64 n) = 8
basic_size (U64 n) = 8
basic_size (Double bytes) = length bytes
basic_size (Str text) = length text + 5
basic_size (Path text) = length text + 5
basic_size (Sig ts) = length (signature_text ts) + 2
basic_size (Handle n) = 4

-- the offset behind a basic value
abbrev pub basic_end : ℕ → BasicValue → ℕ
basic_end at a = at + pad_size at (alignment (kind_of a)) + basic_size a

abbrev mutual
  -- the offset behind a value
  pub value_end : ℕ → Val → ℕ
  value_end at (basic a) = basic_end at a
  value_end at (array t vs) = values_end (first_element at (boundary t)) vs
  value_end at (struct vs) = values_end (at + pad_size at 8) vs
  value_end at (dict b t es) = entries_end (first_element at 8) es
  value_end at (variant v) = value_end (at + (length (signature_text (shape v ∷ [])) + 2)) v

  -- the offset behind values one behind the other
  pub values_end : ℕ → Vals → ℕ
  values_end at none = at
  values_end at (more v vs) = values_end (value_end at v) vs

  -- the same of dict entries
  pub entries_end : ℕ → Entries → ℕ
  entries_end at no_entries = at
  entries_end at (entry a v es) = entries_end (value_end (basic_end (next_boundary at) a) v) es
