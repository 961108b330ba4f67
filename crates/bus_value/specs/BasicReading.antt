-- How values of basic types are read.
use Rattle.std.specs.Prelude.{ℕ, ◌+◌, ◌-◌, ◌==◌, ◌&&◌, nat_lt, List, [], ◌∷◌, length, take, drop, slice_index, Bool, true, false, Option, Some, None, Result, Ok, Err, if◌then◌else◌}
use Rattle.std.specs.Int.{w16, w32, w64, cast_signed}
use Rattle.bus_names.specs.declared.fault.NameFault.{NameFault}
use Rattle.bus_names.specs.declared.basic.Basic.{Basic}
use Rattle.bus_names.specs.declared.basic.Basic.TheVariants as kinds
use Rattle.bus_names.specs.Types.{Shape}
use Rattle.bus_names.specs.Reading.{path_fault}
use Rattle.bus_names.specs.Parsing.{signature_of}
use Rattle.bus_value.specs.declared.basic_value.BasicValue.{BasicValue}
use Rattle.bus_value.specs.declared.basic_value.BasicValue.TheVariants.{Byte, Bool as Boolean, I16, U16, I32, U32, I64, U64, Double, Str, Path, Sig, Handle}
use Rattle.bus_value.specs.declared.fault.ValueFault.{ValueFault}
use Rattle.bus_value.specs.declared.fault.ValueFault.TheVariants.{BadBool, BadText}
use Rattle.bus_value.specs.declared.order.Order.{Order}
use Rattle.bus_value.specs.Faults.{reported, cut_off, and_then}
use Rattle.bus_value.specs.Numbers.{number}
use Rattle.login_base.specs.Texts.{is_text}

-- how many bytes a text has, with its length and the zero byte behind it, where its length is there
abbrev pub text_size : Order → List ℕ → Option ℕ
text_size o bytes = if nat_lt (length bytes) 4 then None else Some (number o 4 bytes + 5)

abbrev pub signature_size : List ℕ → Option ℕ
signature_size [] = None
signature_size (n ∷ bytes) = Some (n + 2)

-- how many bytes a value has, where its length is there
abbrev pub size : Order → Basic → List ℕ → Option ℕ
size o kinds.Byte bytes = Some 1
size o kinds.Bool bytes = Some 4
size o kinds.I16 bytes = Some 2
size o kinds.U16 bytes = Some 2
size o kinds.I32 bytes = Some 4
size o kinds.U32 bytes = Some 4
size o kinds.I64 bytes = Some 8
size o kinds.U64 bytes = Some 8
size o kinds.Double bytes = Some 8
size o kinds.Str bytes = text_size o bytes
size o kinds.Path bytes = text_size o bytes
size o kinds.Sig bytes = signature_size bytes
size o kinds.Handle bytes = Some 4

-- the same, where all these bytes are there
abbrev pub whole : Option ℕ → ℕ → List ℕ → Option ℕ → Result ℕ ValueFault
whole array at bytes None = Err (cut_off array at)
whole array at bytes (Some n) = if nat_lt (length bytes) n then Err (cut_off array at) else Ok n

unfoldable pub body_size : Order → Option ℕ → Basic → ℕ → List ℕ → Result ℕ ValueFault
body_size o array b at bytes = whole array at bytes (size o b bytes)

-- what stands between a length of so many bytes and a zero byte at the end
abbrev pub text_in : ℕ → List ℕ → List ℕ
text_in n body = take (length body - 1 - n) (drop n body)

abbrev pub ends_with_zero : List ℕ → Bool
ends_with_zero body = slice_index body (length body - 1) == 0

-- a text, with its length and the zero byte
unfoldable pub text_at : ℕ → List ℕ → Result BasicValue ValueFault
text_at at body = if ends_with_zero body && is_text (text_in 4 body) then Ok (Str (text_in 4 body)) else Err (BadText (reported at))

abbrev pub path_by : ℕ → List ℕ → Option ℕ → Result BasicValue ValueFault
path_by at text None = Ok (Path text)
path_by at text (Some n) = Err (BadText (reported at))

-- an object path, with its length and the zero byte
unfoldable pub path_at : ℕ → List ℕ → Result BasicValue ValueFault
path_at at body = if ends_with_zero body then path_by at (text_in 4 body) (path_fault (text_in 4 body)) else Err (BadText (reported at))

abbrev pub types_by : ℕ → Result (List Shape) NameFault → Result (List Shape) ValueFault
types_by at (Ok ts) = Ok ts
types_by at (Err e) = Err (BadText (reported at))

-- a signature, with its length and the zero byte
unfoldable pub types_in : ℕ → List ℕ → Result (List Shape) ValueFault
types_in at body = if ends_with_zero body then types_by at (signature_of (text_in 1 body)) else Err (BadText (reported at))

abbrev pub bool_by : ℕ → ℕ → Result BasicValue ValueFault
bool_by at n = if n == 0 then Ok (Boolean false) else (if n == 1 then Ok (Boolean true) else Err (BadBool (reported at)))

-- the value that the bytes of one spell
unfoldable pub decoded : Order → Basic → ℕ → List ℕ → Result BasicValue ValueFault
decoded o kinds.Byte at body = Ok (Byte (slice_index body 0))
decoded o kinds.Bool at body = bool_by at (number o 4 body)
decoded o kinds.I16 at body = Ok (I16 (cast_signed w16 (number o 2 body)))
decoded o kinds.U16 at body = Ok (U16 (number o 2 body))
decoded o kinds.I32 at body = Ok (I32 (cast_signed w32 (number o 4 body)))
decoded o kinds.U32 at body = Ok (U32 (number o 4 body))
decoded o kinds.I64 at body = Ok (I64 (cast_signed w64 (number o 8 body)))
decoded o kinds.U64 at body = Ok (U64 (number o 8 body))
decoded o kinds.Double at body = Ok (Double (take 8 body))
decoded o kinds.Str at body = text_at at body
decoded o kinds.Path at body = path_at at body
decoded o kinds.Sig at body = and_then (types_in at body) (λ ts. Ok (Sig ts))
decoded o kinds.Handle at body = Ok (Handle (number o 4 body))
