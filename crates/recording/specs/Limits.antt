-- The limits of a recording's lines.
use Rattle.std.specs.Prelude.{ℕ}

-- the bytes of a line before its line feed, and so those of any text in it
abbrev pub line_limit : ℕ
line_limit = 16384

-- the bytes of a line that are looked at: those that it may have, and its line feed
abbrev pub line_room : ℕ
line_room = 16385
