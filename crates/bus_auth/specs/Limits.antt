-- The limits of a handshake.
use Rattle.std.specs.Prelude.{ℕ}

-- how many bytes a line has at most before its CR LF
abbrev pub most_bytes : ℕ
most_bytes = 512

-- how many lines are answered at most
abbrev pub most_lines : ℕ
most_lines = 64
