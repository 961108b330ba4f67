-- The containers that are open in a signature, the innermost first.
use Rattle.std.specs.Prelude.{ℕ, ◌+◌, Bool, true, false, List, [], ◌∷◌, if◌then◌else◌}
use Rattle.bus_names.specs.declared.parse.Frame.{Frame}
use Rattle.bus_names.specs.declared.parse.Frame.TheVariants.{Array, Struct, Value}

abbrev pub is_array : Frame → Bool
is_array Array = true
is_array (Struct ts) = false
is_array (Value b) = true

abbrev pub is_struct : Frame → Bool
is_struct Array = false
is_struct (Struct ts) = true
is_struct (Value b) = false

-- how many containers are of a kind
abbrev pub counted : (Frame → Bool) → List Frame → ℕ
counted test [] = 0
counted test (f ∷ fs) = counted test fs + (if test f then 1 else 0)

-- how many arrays are open, those of dict entries among them
abbrev pub array_count : List Frame → ℕ
array_count fs = counted is_array fs

-- how many structs are open
abbrev pub struct_count : List Frame → ℕ
struct_count fs = counted is_struct fs

abbrev pub is_closed : List Frame → Bool
is_closed [] = true
is_closed (f ∷ fs) = false
