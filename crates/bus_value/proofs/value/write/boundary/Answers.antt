use Rattle.std.proofs.Common.{◌≡◌, ◌<◌, List, [], ◌∷◌, length, ap, sym, arith}
use Rattle.bus_names.specs.Types.{Shape, struct_of}
use Rattle.bus_value.specs.Alignment.{boundary}
use Rattle.bus_value.proofs.value.write.boundary.Goals as goal

of_struct : (fs : List Shape) (t : Shape) → 0 < length fs → t ≡ struct_of fs → 8 ≡ boundary t
of_struct [] t h e = absurd (omega arith)
of_struct (f ∷ fs) t h e = ap boundary (sym e)

pub returns-in-Struct-clause-value : goal.returns-in-Struct-clause-value
returns-in-Struct-clause-value c = of_struct c.in-Struct.field-0.now c.args.kind.now c.in-Struct.ensures.0 c.in-Struct.ensures.1
