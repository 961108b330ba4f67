-- The limits of the D-Bus Specification ("Type System").
use Rattle.std.specs.Prelude.{ℕ}

-- how many letters a signature has at most
abbrev pub most_letters : ℕ
most_letters = 255

-- how many arrays, and how many structs, are nested at most
abbrev pub most_nested : ℕ
most_nested = 32
