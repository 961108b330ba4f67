-- Each part of a type is smaller than the type.
use Rattle.std.specs.Prelude.{◌≤◌, ◌<◌, ◌+◌, List, [], ◌∷◌, max, length}
use Rattle.std.proofs.Common.{arith}
use denote.Param.Weighed.{most}
use Rattle.bus_names.specs.Types.{Shape, struct_of, fields_of}
use Rattle.bus_names.specs.declared.types.Node.{Node}
use Rattle.bus_names.specs.declared.types.Node.TheVariants.{Basic, Variant, Array, Dict, Struct}
use Rattle.bus_names.specs.declared.types.Type.TheDeep.{deep-Node}
use Rattle.bus_names.specs.inner.Nodes.{shape_of, HasField}
use Rattle.bus_names.specs.inner.Parts.{parts, parts_in}

most_fields : (ts : List Shape) → most (λ t. parts t + 1) ts ≤ parts_in (fields_of ts) + 1
most_fields [] = omega arith
most_fields (t ∷ ts) = omega (arith, most_fields ts)

pub deep_parts : (n : Node) → HasField n → max (deep-Node n) 0 ≤ parts (shape_of n)
deep_parts (Basic b) h = omega arith
deep_parts Variant h = omega arith
deep_parts (Array t) h = omega arith
deep_parts (Dict b t) h = omega arith
deep_parts (Struct ts) h = of_fields ts.value.items h
  where
    of_fields : (us : List Shape) → 0 < length us → max (max (most (λ t. parts t + 1) us) 0) 0 ≤ parts (struct_of us)
    of_fields [] h = absurd (omega arith)
    of_fields (t ∷ us) h = omega (arith, most_fields us)
