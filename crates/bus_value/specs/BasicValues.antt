-- Values of basic types.
use Rattle.bus_names.specs.declared.basic.Basic.{Basic}
use Rattle.bus_names.specs.declared.basic.Basic.TheVariants as kinds
use Rattle.bus_value.specs.declared.basic_value.BasicValue.{BasicValue}
use Rattle.bus_value.specs.declared.basic_value.BasicValue.TheVariants.{Byte, Bool, I16, U16, I32, U32, I64, U64, Double, Str, Path, Sig, Handle}

abbrev pub kind_of : BasicValue → Basic
kind_of (Byte n) = kinds.Byte
kind_of (Bool b) = kinds.Bool
kind_of (I16 n) = kinds.I16
kind_of (U16 n) = kinds.U16
kind_of (I32 n) = kinds.I32
kind_of (U32 n) = kinds.U32
kind_of (I64 n) = kinds.I64
kind_of (U64 n) = kinds.U64
kind_of (Double bytes) = kinds.Double
kind_of (Str text) = kinds.Str
kind_of (Path text) = kinds.Path
kind_of (Sig types) = kinds.Sig
kind_of (Handle n) = kinds.Handle
