-- Which bytes spell which values, by a rule for each type: the D-Bus Specification, "Marshaling (Wire Format)", with
-- its limits on lengths and depth.
use Rattle.std.specs.Prelude.{ℕ, ◌≡◌, ◌≤◌, ◌<◌, ◌+◌, ◌%◌, ◌^◌, List, [], ◌∷◌, ◌++◌, length, replicate, true, FitsSigned, if◌then◌else◌}
use Rattle.std.specs.Int.{w16, w32, w64, cast_unsigned}
use Rattle.login_base.specs.Names.{IsPath}
use Rattle.bus_names.specs.declared.basic.Basic.{Basic}
use Rattle.bus_names.specs.declared.basic.Basic.TheVariants as kinds
use Rattle.bus_names.specs.Types.{Shape, Shapes, listed, signature_text}
use Rattle.bus_names.specs.Types as types
use Rattle.bus_names.specs.Signatures.{IsWithin}
use Rattle.bus_value.specs.declared.basic_value.BasicValue.{BasicValue}
use Rattle.bus_value.specs.declared.basic_value.BasicValue.TheVariants.{Byte, Bool as Boolean, I16, U16, I32, U32, I64, U64, Double, Str, Path, Sig, Handle}
use Rattle.bus_value.specs.declared.order.Order.{Order}
use Rattle.bus_value.specs.Values.{Val, Vals, Entries, vals, count}
use Rattle.bus_value.specs.Values as values
use Rattle.bus_value.specs.Alignment.{alignment, boundary, most_element_bytes}
use Rattle.bus_value.specs.Limits.{most_open}
use Rattle.bus_value.specs.Nesting.{nesting}
use Rattle.bus_value.specs.Numbers.{number_bytes}
use Rattle.login_base.specs.Texts.{is_text}

-- from an offset on, zero bytes up to the next multiple of the boundary
pub record IsPadding (at align : ℕ) (zeros : List ℕ) : Type 0 where
  pub zero : zeros ≡ replicate (length zeros) 0
  pub aligned : (at + length zeros) % align ≡ 0
  pub least : length zeros < align

-- a value of a basic type, behind its padding
pub data IsBasic (o : Order) : Basic → BasicValue → List ℕ → Type 0 where
  byte : {n : ℕ} → n < 2 ^ 8 → IsBasic o kinds.Byte (Byte n) (n ∷ [])
  boolean : {b : _} → IsBasic o kinds.Bool (Boolean b) (number_bytes o 4 (if b then 1 else 0))
  int16 : {n : _} → FitsSigned w16 n → IsBasic o kinds.I16 (I16 n) (number_bytes o 2 (cast_unsigned w16 n))
  uint16 : {n : ℕ} → n < 2 ^ 16 → IsBasic o kinds.U16 (U16 n) (number_bytes o 2 n)
  int32 : {n : _} → FitsSigned w32 n → IsBasic o kinds.I32 (I32 n) (number_bytes o 4 (cast_unsigned w32 n))
  uint32 : {n : ℕ} → n < 2 ^ 32 → IsBasic o kinds.U32 (U32 n) (number_bytes o 4 n)
  int64 : {n : _} → FitsSigned w64 n → IsBasic o kinds.I64 (I64 n) (number_bytes o 8 (cast_unsigned w64 n))
  uint64 : {n : ℕ} → n < 2 ^ 64 → IsBasic o kinds.U64 (U64 n) (number_bytes o 8 n)
  -- the eight bytes of a double are kept as they stand
  double : {bytes : List ℕ} → length bytes ≡ 8 → IsBasic o kinds.Double (Double bytes) bytes
  -- UTF-8 with no zero byte inside: its length, the text and a zero byte
  string : {text : List ℕ} → is_text text ≡ true → length text < 2 ^ 32 → IsBasic o kinds.Str (Str text) (number_bytes o 4 (length text) ++ (text ++ 0 ∷ []))
  -- the same of the path of an object
  path : {text : List ℕ} → IsPath text → length text < 2 ^ 32 → IsBasic o kinds.Path (Path text) (number_bytes o 4 (length text) ++ (text ++ 0 ∷ []))
  -- a length in one byte, the letters and a zero byte
  signature : {ts : List Shape} → IsWithin ts → IsBasic o kinds.Sig (Sig ts) (length (signature_text ts) ∷ (signature_text ts ++ 0 ∷ []))
  -- the index of a file descriptor
  handle : {n : ℕ} → n < 2 ^ 32 → IsBasic o kinds.Handle (Handle n) (number_bytes o 4 n)

-- a dict entry is a struct of its key and its value
abbrev pub pair_type : Basic → Shape → Shape
pair_type b t = types.struct (types.basic b) (types.more t types.none)

abbrev pub pairs : Entries → Vals
pairs values.no_entries = values.none
pairs (values.entry a v es) = values.more (values.struct (values.more (values.basic a) (values.more v values.none))) (pairs es)

mutual
  -- In an order of bytes and in so many open containers, the bytes, which stand from an offset on, spell a value of the
  -- type.
  pub data IsSpelled (o : Order) : ℕ → ℕ → Shape → Val → List ℕ → Type 0 where
    -- A basic type: padding to its boundary, and the value.
    basic : {depth at : ℕ} {b : Basic} {a : BasicValue} {zeros body : List ℕ} → IsPadding at (alignment b) zeros → IsBasic o b a body →
        IsSpelled o depth at (types.basic b) (values.basic a) (zeros ++ body)
    -- An array: padding to 4, a length, padding to the boundary of the elements' type, and the elements, all of this
    -- type.
    -- The length is that of the elements alone, and limited.
    array : {depth at : ℕ} {t : Shape} {vs : Vals} {zeros gap elements : List ℕ} → IsPadding at 4 zeros → IsPadding (at + length zeros + 4) (boundary t) gap → length elements ≤ most_element_bytes →
        AreSpelled o (depth + 1) (at + length zeros + 4 + length gap) (replicate (count vs) t) vs elements →
        IsSpelled o depth at (types.array t) (values.array t vs) (zeros ++ (number_bytes o 4 (length elements) ++ (gap ++ elements)))
    -- A struct: padding to 8, and the fields.
    struct : {depth at : ℕ} {t : Shape} {ts : Shapes} {vs : Vals} {zeros fields : List ℕ} → IsPadding at 8 zeros → AreSpelled o (depth + 1) (at + length zeros) (t ∷ listed ts) vs fields →
        IsSpelled o depth at (types.struct t ts) (values.struct vs) (zeros ++ fields)
    -- A dict: the array of its entries.
    dict : {depth at : ℕ} {b : Basic} {t : Shape} {es : Entries} {bytes : List ℕ} → IsSpelled o depth at (types.array (pair_type b t)) (values.array (pair_type b t) (pairs es)) bytes →
        IsSpelled o depth at (types.dict b t) (values.dict b t es) bytes
    -- A variant: the signature of the value's type, and the value. The containers that are open, the variant and those
    -- in this type are limited.
    variant : {depth at : ℕ} {t : Shape} {v : Val} {letters body : List ℕ} → IsBasic o kinds.Sig (Sig (t ∷ [])) letters → depth + 1 + nesting t ≤ most_open →
        IsSpelled o (depth + 1) (at + length letters) t v body → IsSpelled o depth at types.variant (values.variant v) (letters ++ body)

  -- the same of values of several types, one behind the other
  pub data AreSpelled (o : Order) : ℕ → ℕ → List Shape → Vals → List ℕ → Type 0 where
    none : {depth at : ℕ} → AreSpelled o depth at [] values.none []
    more : {depth at : ℕ} {t : Shape} {ts : List Shape} {v : Val} {vs : Vals} {first others : List ℕ} → IsSpelled o depth at t v first →
        AreSpelled o depth (at + length first) ts vs others → AreSpelled o depth at (t ∷ ts) (values.more v vs) (first ++ others)

-- the bytes, which stand from an offset on, spell values of these types
abbrev pub Spells : Order → ℕ → List Shape → List Val → List ℕ → Type 0
Spells o start ts vs bytes = AreSpelled o 0 start ts (vals vs) bytes
