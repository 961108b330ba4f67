-- Values that have their types within the limits, said of the spelling that is computed.
use Rattle.std.specs.Prelude.{ℕ, ◌≡◌, ◌≤◌, ◌<◌, ◌+◌, ◌^◌, List, [], ◌∷◌, length, true, None, FitsSigned}
use Rattle.std.specs.Int.{w16, w32, w64}
use Rattle.bus_names.specs.declared.basic.Basic.{Basic}
use Rattle.bus_names.specs.Types.{Shape, struct_of}
use Rattle.bus_names.specs.Types as types
use Rattle.bus_names.specs.Signatures.{IsWithin}
use Rattle.bus_names.specs.Reading.{path_fault}
use Rattle.bus_value.specs.declared.basic_value.BasicValue.{BasicValue}
use Rattle.bus_value.specs.declared.basic_value.BasicValue.TheVariants.{Byte, Bool, I16, U16, I32, U32, I64, U64, Double, Str, Path, Sig, Handle}
use Rattle.bus_value.specs.declared.order.Order.{Order}
use Rattle.bus_value.specs.BasicValues.{kind_of}
use Rattle.bus_value.specs.Values.{Val, Vals, Entries, basic, array, struct, dict, variant, none, more, no_entries, entry, shape, shapes, vals}
use Rattle.bus_value.specs.Spelling.{pad_size, first_element, spelling, spellings, entry_spellings, signature_bytes, pair_bytes, value_at}
use Rattle.bus_value.specs.Alignment.{boundary}
use Rattle.login_base.specs.Texts.{is_text}
use Rattle.bus_value.specs.Nesting.{nesting}

-- a value is one of its type
abbrev pub IsLegal : BasicValue → Type 0
IsLegal (Byte n) = n < 2 ^ 8
IsLegal (Bool b) = Unit {0}
IsLegal (I16 n) = FitsSigned w16 n
IsLegal (U16 n) = n < 2 ^ 16
IsLegal (I32 n) = FitsSigned w32 n
IsLegal (U32 n) = n < 2 ^ 32
IsLegal (I64 n) = FitsSigned w64 n
IsLegal (U64 n) = n < 2 ^ 64
IsLegal (Double bytes) = length bytes ≡ 8
IsLegal (Str text) = (is_text text ≡ true) × (length text < 2 ^ 32)
IsLegal (Path text) = (path_fault text ≡ None) × (length text < 2 ^ 32)
IsLegal (Sig ts) = IsWithin ts
IsLegal (Handle n) = n < 2 ^ 32

abbrev mutual
  -- The value has the type, where it stands at an offset in so many containers. An array has up to 2^26 bytes of
  -- elements; a variant's signature is one of the format, and up to 64 containers are open in it.
  pub HasType : Order → ℕ → ℕ → Shape → Val → Type 0
  HasType o depth at t (basic a) = (t ≡ types.basic (kind_of a)) × IsLegal a
  HasType o depth at t (array u vs) =
      (t ≡ types.array u) × ((length (spellings o (first_element at (boundary u)) vs) ≤ 2 ^ 26) × AllHave o (depth + 1) (first_element at (boundary u)) u vs)
  HasType o depth at t (struct vs) = (t ≡ struct_of (shapes vs)) × ((0 < length (shapes vs)) × EachHas o (depth + 1) (at + pad_size at 8) vs)
  HasType o depth at t (dict b u es) =
      (t ≡ types.dict b u) × ((length (entry_spellings o (first_element at 8) es) ≤ 2 ^ 26) × EntriesHave o (depth + 2) (first_element at 8) b u es)
  HasType o depth at t (variant v) =
      (t ≡ types.variant) × ((depth + 1 + nesting (shape v) ≤ 64) × (IsWithin (shape v ∷ []) × HasType o (depth + 1) (at + length (signature_bytes (shape v ∷ []))) (shape v) v))

  -- all values have the one type
  pub AllHave : Order → ℕ → ℕ → Shape → Vals → Type 0
  AllHave o depth at t none = Unit {0}
  AllHave o depth at t (more v vs) = HasType o depth at t v × AllHave o depth (at + length (spelling o at v)) t vs

  -- each value has a type of its own
  pub EachHas : Order → ℕ → ℕ → Vals → Type 0
  EachHas o depth at none = Unit {0}
  EachHas o depth at (more v vs) = HasType o depth at (shape v) v × EachHas o depth (at + length (spelling o at v)) vs

  -- all keys have the one type, and all values the other
  pub EntriesHave : Order → ℕ → ℕ → Basic → Shape → Entries → Type 0
  EntriesHave o depth at b t no_entries = Unit {0}
  EntriesHave o depth at b t (entry a v es) =
      ((b ≡ kind_of a) × (IsLegal a × HasType o depth (value_at o at a) t v)) × EntriesHave o depth (at + length (pair_bytes o at a (spelling o (value_at o at a) v))) b t es

-- the bytes, which stand from an offset on, are computed from values of these types
pub record IsComputed (o : Order) (start : ℕ) (ts : List Shape) (vs : List Val) (bytes : List ℕ) : Type 0 where
  pub types : shapes (vals vs) ≡ ts
  pub legal : EachHas o 0 start (vals vs)
  pub spelled : bytes ≡ spellings o start (vals vs)
