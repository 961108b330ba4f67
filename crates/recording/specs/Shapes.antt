-- Which words a line has, by its first word.
use Rattle.std.specs.Prelude.{ℕ, if◌then◌else◌, Option, Some, None, List, [], ◌∷◌, codes}
use Rattle.std.specs.Str.{bytes_eq}
use Rattle.recording.specs.declared.argument.WordKind.{WordKind}
use Rattle.recording.specs.declared.argument.WordKind.TheVariants.{Number, Positive, Small, Signed, Moment, Flag, UserName, SessionId, SeatName, Hex, Guid, Version, DeviceKind, Key, Anything}

-- a word, and the kinds of the words behind it
pub record Shape : Type 0 where
  pub word : List ℕ
  pub behind : List WordKind

abbrev pub shape : List ℕ → List WordKind → Shape
shape word behind = record { word = word; behind = behind }

-- the lines of links, and the last line
abbrev pub link_shapes : List Shape
link_shapes =
    shape (codes "link") (Positive ∷ Number ∷ [])
    ∷ shape (codes "in") (Positive ∷ Hex ∷ [])
    ∷ shape (codes "hangup") (Positive ∷ [])
    ∷ shape (codes "end") []
    ∷ []

-- the lines of the hardware, and the others
abbrev pub hardware_shapes : List Shape
hardware_shapes =
    shape (codes "add") (Number ∷ Number ∷ DeviceKind ∷ SeatName ∷ [])
    ∷ shape (codes "remove") (Number ∷ Number ∷ [])
    ∷ shape (codes "input") (Number ∷ Number ∷ Small ∷ Small ∷ Signed ∷ [])
    ∷ shape (codes "vtkey") (Number ∷ [])
    ∷ shape (codes "key") (Key ∷ [])
    ∷ shape (codes "dock") (Flag ∷ [])
    ∷ shape (codes "exit") (SessionId ∷ [])
    ∷ shape (codes "jobdone") []
    ∷ link_shapes

-- the lines of events but for calls, and the others
abbrev pub event_shapes : List Shape
event_shapes =
    shape (codes "connect") (Positive ∷ Number ∷ [])
    ∷ shape (codes "disconnect") (Positive ∷ [])
    ∷ shape (codes "tick") (Moment ∷ [])
    ∷ shape (codes "stop") []
    ∷ hardware_shapes

-- the lines but those of calls and of the configuration
abbrev pub line_shapes : List Shape
line_shapes =
    shape (codes "login-recording") (Version ∷ [])
    ∷ shape (codes "guid") (Guid ∷ [])
    ∷ shape (codes "user") (Positive ∷ Number ∷ UserName ∷ [])
    ∷ shape (codes "action") (Anything ∷ Anything ∷ Anything ∷ Anything ∷ [])
    ∷ shape (codes "go") []
    ∷ event_shapes

-- the kinds of the words behind a word, if it is one of these
abbrev pub behind_in : List ℕ → List Shape → Option (List WordKind)
behind_in word [] = None
behind_in word (s ∷ ss) = if bytes_eq word s.word then Some s.behind else behind_in word ss
