-- The pieces that the line of what a link is due is written in.
use Rattle.std.specs.Prelude.{ℕ, List, [], ◌∷◌, ◌++◌, codes}
use Rattle.std.specs.Fmt.{decimal}
use Rattle.login_base.specs.declared.ids.ConnId.{ConnId}
use Rattle.recording.specs.Hex.{spell_hex}

-- what stands in front of the bytes
abbrev pub out_front : ConnId → List ℕ
out_front who = (codes "out" ++ 32 ∷ decimal who.0) ++ 32 ∷ []

-- the end of a line: bytes in hex, and the line feed
abbrev pub hex_end : List ℕ → List ℕ
hex_end bytes = spell_hex bytes ++ 10 ∷ []

-- room for a piece in hex, and for the line feed
abbrev pub piece_room : ℕ
piece_room = 8193
