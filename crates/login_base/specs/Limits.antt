-- The limits of names, in bytes.
use Rattle.std.specs.Prelude.{ℕ}

-- a name of the D-Bus Specification ("Valid Names"), unless it is a path
abbrev pub most_name : ℕ
most_name = 255

-- a seat's name
abbrev pub most_seat_name : ℕ
most_seat_name = 255
