-- How long basic values are at least.
use Rattle.std.specs.Prelude.{ℕ}
use Rattle.bus_names.specs.declared.basic.Basic.{Basic}
use Rattle.bus_names.specs.declared.basic.Basic.TheVariants as kinds

-- how many bytes a basic value has at least
abbrev pub least : Basic → ℕ
least kinds.Byte = 1
least kinds.Bool = 4
least kinds.I16 = 2
least kinds.U16 = 2
least kinds.I32 = 4
least kinds.U32 = 4
least kinds.I64 = 8
least kinds.U64 = 8
least kinds.Double = 8
least kinds.Str = 5
least kinds.Path = 5
least kinds.Sig = 2
least kinds.Handle = 4
