-- Numbers as bytes, in either order.
use Rattle.std.specs.Prelude.{ℕ, List}
use Rattle.byteorder.specs.Endian.{little_bytes, big_bytes, little_number, big_number}
use Rattle.bus_value.specs.declared.order.Order.{Order}
use Rattle.bus_value.specs.declared.order.Order.TheVariants.{Little, Big}

-- the bytes of a number
abbrev pub number_bytes : Order → ℕ → ℕ → List ℕ
number_bytes Little n x = little_bytes n x
number_bytes Big n x = big_bytes n x

-- the number in the first n bytes
abbrev pub number : Order → ℕ → List ℕ → ℕ
number Little n bytes = little_number n bytes
number Big n bytes = big_number n bytes
