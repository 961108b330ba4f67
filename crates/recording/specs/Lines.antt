-- The lines of a recording, and how they are spelled.
use Rattle.std.specs.Prelude.{ℕ, ◌≡◌, ◌+◌, ◌<◌, ◌≤◌, ◌^◌, ◌==◌, true, List, [], ◌∷◌, ◌++◌, length, codes}
use Rattle.std.specs.List.{join_with_byte, slice_split}
use Rattle.std.specs.Fmt.{decimal}
use Rattle.login_model.specs.declared.event.Event.{Event}
use Rattle.login_model.specs.Texts.{IsText}
use Rattle.recording.specs.declared.line.Line.{Line}
use Rattle.recording.specs.declared.line.Line.TheVariants.{Header, Guid, User, Conf, Action, Go, Event as EventLine, Link, In, Hangup, End}
use Rattle.recording.specs.Text.{spell_text}
use Rattle.recording.specs.Hex.{spell_hex, is_guid}
use Rattle.recording.specs.Bytes.{AreBytes, AreRaw}
pub use Rattle.recording.specs.Calls.{call_words, FitsCall}
pub use Rattle.recording.specs.EventSpelling.{request_word, event_words, Fits, IsWrittenEvent}
use Rattle.login_model.specs.Limits.{name_limit}
use Rattle.recording.specs.Limits.{line_limit}

-- the words of a line of the configuration: the raw line, with all its spaces, counts as one, and an
-- empty one is left out
abbrev pub conf_words : List ℕ → List (List ℕ)
conf_words [] = codes "conf" ∷ []
conf_words (b ∷ bs) = codes "conf" ∷ (b ∷ bs) ∷ []

-- the words of a line
abbrev pub fields : Line → List (List ℕ)
fields (Header version) = codes "login-recording" ∷ decimal version ∷ []
fields (Guid guid) = codes "guid" ∷ guid ∷ []
fields (User u) = codes "user" ∷ decimal u.uid.0 ∷ decimal u.gid ∷ spell_text u.name ∷ []
fields (Conf text) = conf_words text
fields (Action text) = codes "action" ∷ text ∷ []
fields Go = codes "go" ∷ []
fields (EventLine e) = event_words e
fields (Link c u) = codes "link" ∷ decimal c.0 ∷ decimal u.0 ∷ []
fields (In c bytes) = codes "in" ∷ decimal c.0 ∷ spell_hex bytes ∷ []
fields (Hangup c) = codes "hangup" ∷ decimal c.0 ∷ []
fields End = codes "end" ∷ []

-- a line, through its line feed
abbrev pub spell : Line → List ℕ
spell line = join_with_byte 32 (fields line) ++ 10 ∷ []

-- an event that a line of a recording can have
abbrev pub IsEventLine : Event → Type 0
IsEventLine e = Fits e

-- the values of a line are within their types and bounds; what stands as it is written, or in
-- hex, leaves the line within its limit
abbrev pub IsLine : Line → Type 0
IsLine (Header version) = version ≡ 1
IsLine (Guid guid) = is_guid guid ≡ true
IsLine (User u) = (0 < u.uid.0) × (u.uid.0 < 2 ^ 32) × (u.gid < 2 ^ 32) × IsText name_limit u.name
IsLine (Conf text) = AreRaw text × (length (spell (Conf text)) ≤ line_limit + 1)
IsLine (Action text) = AreRaw text × (length (slice_split (λ b. b == 32) text) ≡ 4) × (length (spell (Action text)) ≤ line_limit + 1)
IsLine Go = Unit {0}
IsLine (EventLine e) = IsEventLine e
IsLine (Link c u) = (0 < c.0) × (c.0 < 2 ^ 32) × (u.0 < 2 ^ 32)
IsLine (In c bytes) = (0 < c.0) × (c.0 < 2 ^ 32) × AreBytes bytes × (0 < length bytes) × (length (spell (In c bytes)) ≤ line_limit + 1)
IsLine (Hangup c) = (0 < c.0) × (c.0 < 2 ^ 32)
IsLine End = Unit {0}

-- the values of a line as it is written are within their types and bounds; a raw line has no line feed, and the words
-- of an action are four, whatever they are
abbrev pub IsWritten : Line → Type 0
IsWritten (Header version) = version ≡ 1
IsWritten (Guid guid) = is_guid guid ≡ true
IsWritten (User u) = (0 < u.uid.0) × (u.uid.0 < 2 ^ 32) × (u.gid < 2 ^ 32) × IsText name_limit u.name
IsWritten (Conf text) = AreRaw text
IsWritten (Action text) = AreRaw text × (length (slice_split (λ b. b == 32) text) ≡ 4)
IsWritten Go = Unit {0}
IsWritten (EventLine e) = IsWrittenEvent e
IsWritten (Link c u) = (0 < c.0) × (c.0 < 2 ^ 32) × (u.0 < 2 ^ 32)
IsWritten (In c bytes) = (0 < c.0) × (c.0 < 2 ^ 32) × AreBytes bytes × (0 < length bytes)
IsWritten (Hangup c) = (0 < c.0) × (c.0 < 2 ^ 32)
IsWritten End = Unit {0}

-- the bytes are this line with its line feed: its spelling, within the limit before the line feed.
-- An empty line of the configuration may have a space behind its word
pub data Spells : Line → List ℕ → Type 0 where
  plain : (line : Line) → length (spell line) ≤ line_limit + 1 → Spells line (spell line)
  empty : Spells (Conf []) (codes "conf " ++ 10 ∷ [])
