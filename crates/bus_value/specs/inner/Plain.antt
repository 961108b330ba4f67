-- Basic types of which any bytes of the right number spell a value.
use Rattle.std.specs.Prelude.{ℕ, Option, Some, None}
use Rattle.bus_names.specs.declared.basic.Basic.{Basic}
use Rattle.bus_names.specs.declared.basic.Basic.TheVariants as kinds

-- how many bytes each value has
abbrev pub plain_size : Basic → Option ℕ
plain_size kinds.Byte = Some 1
plain_size kinds.Bool = None
plain_size kinds.I16 = Some 2
plain_size kinds.U16 = Some 2
plain_size kinds.I32 = Some 4
plain_size kinds.U32 = Some 4
plain_size kinds.I64 = Some 8
plain_size kinds.U64 = Some 8
plain_size kinds.Double = Some 8
plain_size kinds.Str = None
plain_size kinds.Path = None
plain_size kinds.Sig = None
plain_size kinds.Handle = Some 4
