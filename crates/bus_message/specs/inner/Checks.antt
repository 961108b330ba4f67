-- A field at a place.
use Rattle.std.specs.Prelude.{ℕ, List, slice_index_or}
use Rattle.bus_value.specs.declared.basic_value.BasicValue.TheVariants.{Byte}
use Rattle.bus_value.specs.Values.{Val, basic}

-- the field at a place
abbrev pub field_at : List Val → ℕ → Val
field_at fs i = slice_index_or fs i (basic (Byte 0))
