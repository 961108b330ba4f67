-- What a node of a type is to a contract.
use Rattle.std.specs.Prelude.{◌<◌, length}
use Rattle.bus_names.specs.Types.{Shape, basic, variant, array, dict, struct_of}
use Rattle.bus_names.specs.declared.types.Node.{Node}
use Rattle.bus_names.specs.declared.types.Node.TheVariants.{Basic, Variant, Array, Dict, Struct}

abbrev pub shape_of : Node → Shape
shape_of (Basic b) = basic b
shape_of Variant = variant
shape_of (Array t) = array t.value
shape_of (Dict b t) = dict b t.value
shape_of (Struct ts) = struct_of ts.value.items

-- a struct has a field
abbrev pub HasField : Node → Type 0
HasField (Struct ts) = 0 < length ts.value.items
HasField (Basic b) = 0 < 1
HasField Variant = 0 < 1
HasField (Array t) = 0 < 1
HasField (Dict b t) = 0 < 1
