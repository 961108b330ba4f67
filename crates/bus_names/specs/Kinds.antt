-- What a type is made of.
use Rattle.std.specs.Prelude.{◌≡◌, ◌<◌, length}
use Rattle.bus_names.specs.declared.types.Kind.{Kind}
use Rattle.bus_names.specs.declared.types.Kind.TheVariants.{Basic, Variant, Array, Dict, Struct}
use Rattle.bus_names.specs.Types.{Shape, basic, variant, array, dict, struct_of}

abbrev pub IsKind : Kind → Shape → Type 0
IsKind (Basic b) t = t ≡ basic b
IsKind Variant t = t ≡ variant
IsKind (Array e) t = t ≡ array e.now
IsKind (Dict k e) t = t ≡ dict k e.now
IsKind (Struct fs) t = (0 < length fs.now) × (t ≡ struct_of fs.now)
