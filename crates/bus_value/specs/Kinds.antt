-- What a value is made of.
use Rattle.std.specs.Prelude.{◌≡◌}
use Rattle.bus_value.specs.declared.value.ValueKind.{ValueKind}
use Rattle.bus_value.specs.declared.value.ValueKind.TheVariants.{Basic, Array, Struct, Dict, Variant}
use Rattle.bus_value.specs.Values.{Val, basic, array, struct, dict, variant, vals, entries}

abbrev pub IsKind : ValueKind → Val → Type 0
IsKind (Basic a) v = v ≡ basic a.now
IsKind (Array t vs) v = v ≡ array t.now (vals vs.now)
IsKind (Struct vs) v = v ≡ struct (vals vs.now)
IsKind (Dict b t es) v = v ≡ dict b t.now (entries es.now)
IsKind (Variant w) v = v ≡ variant w.now
