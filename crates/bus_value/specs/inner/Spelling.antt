-- What stands in front of the elements.
use Rattle.std.specs.Prelude.{ℕ, ◌+◌, List, ◌++◌}
use Rattle.bus_value.specs.declared.order.Order.{Order}
use Rattle.bus_value.specs.Numbers.{number_bytes}
use Rattle.bus_value.specs.Spelling.{padding, behind_length}

-- the front of an array whose elements have so many bytes
abbrev pub array_front : Order → ℕ → ℕ → ℕ → List ℕ
array_front o at align count = padding at 4 ++ (number_bytes o 4 count ++ padding (behind_length at) align)
