-- The letters of basic types.
use Rattle.std.specs.Prelude.{ℕ, ◌==◌, if◌then◌else◌, Option, Some, None}
use Rattle.bus_names.specs.declared.basic.Basic.{Basic}
use Rattle.bus_names.specs.declared.basic.Basic.TheVariants.{Byte, Bool, I16, U16, I32, U32, I64, U64, Double, Str, Path, Sig, Handle}

-- the basic type whose letter it is
abbrev pub basic_at : ℕ → Option Basic
basic_at n =
    if n == 121 then Some Byte else (if n == 98 then Some Bool else (if n == 110 then Some I16 else (if n == 113 then Some U16 else
    (if n == 105 then Some I32 else (if n == 117 then Some U32 else (if n == 120 then Some I64 else (if n == 116 then Some U64 else
    (if n == 100 then Some Double else (if n == 115 then Some Str else (if n == 111 then Some Path else (if n == 103 then Some Sig else
    (if n == 104 then Some Handle else None))))))))))))
