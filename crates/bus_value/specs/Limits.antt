-- The limits of the D-Bus Specification on values.
use Rattle.std.specs.Prelude.{ℕ, ◌<◌, ◌≤◌, ◌+◌, ◌^◌, [], ◌∷◌, length}
use Rattle.bus_names.specs.Signatures.{IsWithin}
use Rattle.bus_value.specs.declared.basic_value.BasicValue.{BasicValue}
use Rattle.bus_value.specs.declared.basic_value.BasicValue.TheVariants.{Byte, Bool, I16, U16, I32, U32, I64, U64, Double, Str, Path, Sig, Handle}
use Rattle.bus_value.specs.declared.order.Order.{Order}
use Rattle.bus_value.specs.Values.{Val, Vals, Entries, basic, array, struct, dict, variant, none, more, no_entries, entry, shape}
use Rattle.bus_value.specs.Spelling.{pad_size, first_element, spelling, spellings, entry_spellings, signature_bytes, pair_bytes, value_at}
use Rattle.bus_value.specs.Alignment.{boundary, most_element_bytes}

-- how many containers are open at most in a variant's value, the variant among them
abbrev pub most_open : ℕ
most_open = 64

-- how many containers can be open at most: 32 arrays with a dict entry in each, 32 structs and a variant
abbrev pub most_depth : ℕ
most_depth = 97

-- how many parts values have at most for each of their bytes: 32 structs can begin with it, and a value in them
abbrev pub most_parts : ℕ
most_parts = 33

-- a text's length is a number of four bytes
abbrev pub HasShortLength : BasicValue → Type 0
HasShortLength (Byte n) = 0 < 1
HasShortLength (Bool b) = 0 < 1
HasShortLength (I16 n) = 0 < 1
HasShortLength (U16 n) = 0 < 1
HasShortLength (I32 n) = 0 < 1
HasShortLength (U32 n) = 0 < 1
HasShortLength (I64 n) = 0 < 1
HasShortLength (U64 n) = 0 < 1
HasShortLength (Double bytes) = 0 < 1
HasShortLength (Str text) = length text < 2 ^ 32
HasShortLength (Path text) = length text < 2 ^ 32
HasShortLength (Sig types) = 0 < 1
HasShortLength (Handle n) = 0 < 1

abbrev mutual
  -- a value's texts, arrays and signatures are within the limits, where it stands at an offset
  pub Fits : Order → ℕ → Val → Type 0
  Fits o at (basic a) = HasShortLength a
  Fits o at (array t vs) = (length (spellings o (first_element at (boundary t)) vs) ≤ most_element_bytes) × AllFit o (first_element at (boundary t)) vs
  Fits o at (struct vs) = AllFit o (at + pad_size at 8) vs
  Fits o at (dict b t es) = (length (entry_spellings o (first_element at 8) es) ≤ most_element_bytes) × EntriesFit o (first_element at 8) es
  Fits o at (variant v) = IsWithin (shape v ∷ []) × Fits o (at + length (signature_bytes (shape v ∷ []))) v

  pub AllFit : Order → ℕ → Vals → Type 0
  AllFit o at none = Unit {0}
  AllFit o at (more v vs) = Fits o at v × AllFit o (at + length (spelling o at v)) vs

  pub EntriesFit : Order → ℕ → Entries → Type 0
  EntriesFit o at no_entries = Unit {0}
  EntriesFit o at (entry a v es) =
      (HasShortLength a × Fits o (value_at o at a) v) × EntriesFit o (at + length (pair_bytes o at a (spelling o (value_at o at a) v))) es
