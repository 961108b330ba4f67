-- Bytes of which any row is a text.
use Rattle.std.specs.Prelude.{ℕ, nat_lt, Bool, ◌&&◌}

-- ASCII, and not zero
abbrev pub is_plain : ℕ → Bool
is_plain byte = nat_lt 0 byte && nat_lt byte 0x80
