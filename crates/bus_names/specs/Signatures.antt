-- Signatures of the D-Bus Specification ("Type System"), and what their faults mean.
use Rattle.std.specs.Prelude.{ℕ, ◌≡◌, ◌≤◌, ◌<◌, ◌+◌, List, ◌++◌, length, take, Result, Ok, Err, ◌⊎◌}
use Rattle.login_base.specs.Names.{IsFault}
use Rattle.bus_names.specs.declared.fault.NameFault.{NameFault}
use Rattle.bus_names.specs.declared.fault.NameFault.TheVariants.{BadName, BadLabel, BadSignature, TooDeep, NoMemory}
use Rattle.bus_names.specs.Limits.{most_letters, most_nested}
use Rattle.bus_names.specs.Types.{Shape, signature_text, arrays_all, structs_all}

-- arrays and structs are nested within a limit, each counted apart
pub record IsNested (limit : ℕ) (ts : List Shape) : Type 0 where
  pub in_arrays : arrays_all ts ≤ limit
  pub in_structs : structs_all ts ≤ limit

-- the types of a signature: arrays and structs are nested within the limit, and so are its letters
pub record IsWithin (ts : List Shape) : Type 0 where
  pub nested : IsNested most_nested ts
  pub short : length (signature_text ts) ≤ most_letters

-- a text of types that are nested within a limit
pub record IsSignature (limit : ℕ) (text : List ℕ) : Type 0 where
  pub types : List Shape
  pub nested : IsNested limit types
  pub spelled : text ≡ signature_text types

-- a text of types that are nested however deep
pub record IsUnlimited (text : List ℕ) : Type 0 where
  pub types : List Shape
  pub spelled : text ≡ signature_text types

-- the letter at the offset opens a container that is one too many
pub record IsTooDeep (text : List ℕ) (offset : ℕ) : Type 0 where
  pub letter : offset < length text
  pub fault : IsFault (IsSignature most_nested) text offset
  pub opening : (more : List ℕ) × IsUnlimited (take (offset + 1) text ++ more)

-- no continuation of the text through the offset is one of types, however deep they are nested
pub record IsBad (text : List ℕ) (offset : ℕ) : Type 0 where
  pub fault : IsFault (IsSignature most_nested) text offset
  pub whatever_depth : IsFault IsUnlimited text offset

-- A text is the signature of the types; or it is too long; or a fault is the first letter with which no
-- continuation is a signature, with no limit on the length: a bad one, however deep it may be nested, or
-- an opening that is one too many.
abbrev pub ExplainsTypes : List ℕ → Result (List Shape) NameFault → Type 0
ExplainsTypes text (Ok ts) = (text ≡ signature_text ts) × IsWithin ts
ExplainsTypes text (Err (BadSignature offset)) = ((most_letters < length text) × (offset ≡ most_letters)) ⊎ ((length text ≤ most_letters) × IsBad text offset)
ExplainsTypes text (Err (TooDeep offset)) = (length text ≤ most_letters) × IsTooDeep text offset
ExplainsTypes text (Err (BadName offset)) = ⊥
ExplainsTypes text (Err BadLabel) = ⊥
ExplainsTypes text (Err NoMemory) = ⊥
