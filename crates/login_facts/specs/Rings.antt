-- The rings in which handles hear.
use Rattle.std.specs.Prelude.{ℕ, ◌+◌, List, length}
use Rattle.device_model.specs.declared.ears.Ear.{Ear}

-- the rings, in use or spare
abbrev pub ring_count : List Ear → ℕ → ℕ
ring_count ears rings = length ears + rings
