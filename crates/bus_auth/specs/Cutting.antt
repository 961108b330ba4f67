-- The lines of a text, each ended by CR LF.
use Rattle.std.specs.Prelude.{ℕ, ◌≡◌, ◌≤◌, ◌+◌, ◌==◌, ◌&&◌, Bool, List, [], ◌∷◌, ◌++◌, length, take, if◌then◌else◌}

-- the whole lines without their CR LF, each with the bytes behind it; and then the line that is open,
-- of which no CR LF has come
pub data Lines : Type 0 where
  Whole : (line behind : List ℕ) → Lines → Lines
  Open : (line : List ℕ) → Lines

-- CR, LF
abbrev pub is_line_end : ℕ → ℕ → Bool
is_line_end b c = (b == 13) && (c == 10)

-- a byte in front of the first line
abbrev pub before : ℕ → Lines → Lines
before b (Whole line behind more) = Whole (b ∷ line) behind more
before b (Open line) = Open (b ∷ line)

-- the lines of a text
abbrev pub cut : List ℕ → Lines
cut [] = Open []
cut (b ∷ []) = Open (b ∷ [])
cut (b ∷ c ∷ bs) = if is_line_end b c then Whole [] bs (cut bs) else before b (cut (c ∷ bs))

-- an open line without a CR at its end, which may begin its CR LF
abbrev pub without_cr : List ℕ → List ℕ
without_cr [] = []
without_cr (b ∷ []) = if b == 13 then [] else b ∷ []
without_cr (b ∷ c ∷ bs) = b ∷ without_cr (c ∷ bs)

-- whatever follows, an open line has so many bytes before its CR LF, and with some bytes no more
pub record IsLeastLength (line : List ℕ) (count : ℕ) : Type 0 where
  pub bound : (more whole behind : List ℕ) (lines : Lines) → cut (line ++ more) ≡ Whole whole behind lines → count ≤ length whole
  pub reached : (more : List ℕ) × (cut (line ++ more) ≡ Whole (take count line) [] (Open []))
