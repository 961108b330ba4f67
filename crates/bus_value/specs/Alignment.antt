-- The boundaries of the format, and its limit on arrays.
use Rattle.std.specs.Prelude.{ℕ, ◌≡◌, ◌^◌, ◌⊎◌}
use Rattle.bus_names.specs.declared.basic.Basic.{Basic}
use Rattle.bus_names.specs.declared.basic.Basic.TheVariants as kinds
use Rattle.bus_names.specs.Types.{Shape}
use Rattle.bus_names.specs.Types as types

-- the boundary on which the values of a type begin
abbrev pub alignment : Basic → ℕ
alignment kinds.Byte = 1
alignment kinds.Bool = 4
alignment kinds.I16 = 2
alignment kinds.U16 = 2
alignment kinds.I32 = 4
alignment kinds.U32 = 4
alignment kinds.I64 = 8
alignment kinds.U64 = 8
alignment kinds.Double = 8
alignment kinds.Str = 4
alignment kinds.Path = 4
alignment kinds.Sig = 1
alignment kinds.Handle = 4

abbrev pub boundary : Shape → ℕ
boundary (types.basic b) = alignment b
boundary types.variant = 1
boundary (types.array t) = 4
boundary (types.dict b t) = 4
boundary (types.struct t ts) = 8

-- how many bytes the elements of an array have at most
abbrev pub most_element_bytes : ℕ
most_element_bytes = 2 ^ 26

abbrev pub IsAlignment : ℕ → Type 0
IsAlignment align = (align ≡ 1) ⊎ ((align ≡ 2) ⊎ ((align ≡ 4) ⊎ (align ≡ 8)))
