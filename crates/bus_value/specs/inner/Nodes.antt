-- What a node of a value is to a contract.
use Rattle.std.specs.Prelude.{◌<◌, length}
use Rattle.bus_value.specs.Values.{Val, basic, array, struct, dict, variant, vals, entries}
use Rattle.bus_value.specs.declared.value.Node.{Node}
use Rattle.bus_value.specs.declared.value.Node.TheVariants.{Basic, Array, Struct, Dict, Variant}

abbrev pub value_of : Node → Val
value_of (Basic a) = basic a
value_of (Array t vs) = array t (vals vs.items)
value_of (Struct vs) = struct (vals vs.items)
value_of (Dict b t es) = dict b t (entries es.items)
value_of (Variant v) = variant v.value

-- a struct has a field
abbrev pub HasField : Node → Type 0
HasField (Basic a) = 0 < 1
HasField (Array t vs) = 0 < 1
HasField (Struct vs) = 0 < length vs.items
HasField (Dict b t es) = 0 < 1
HasField (Variant v) = 0 < 1
