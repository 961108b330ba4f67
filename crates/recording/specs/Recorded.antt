-- The recording of a journal: the lines of its setup, and a line for each of its events.
use Rattle.std.specs.Prelude.{ℕ, ◌≡◌, ◌==◌, nat_lt, if◌then◌else◌, List, [], ◌∷◌, ◌++◌, map, Option, Result, Ok, Err}
use Rattle.std.specs.List.{flat_map, slice_split}
use Rattle.login_edge.specs.Faults.{Rose}
use Rattle.login_edge.specs.Texts.{Gains, GainsFront}
use Rattle.login_model.specs.declared.mark.Entry.{Entry}
use Rattle.login_model.specs.declared.setup.Setup.{Setup}
use Rattle.login_model.specs.declared.setup.UserRow.{UserRow}
use Rattle.recording.specs.declared.entry.WriteEnd.{WriteEnd}
use Rattle.recording.specs.declared.entry.WriteEnd.TheVariants.{WriteFault, NoMemory}
use Rattle.recording.specs.declared.line.Line.{Line}
use Rattle.recording.specs.declared.line.Line.TheVariants.{Header, Guid, User, Conf, Action, Go, Event, End}
use Rattle.recording.specs.Lines.{spell}

-- a user put among users who are in the order of their numbers
abbrev pub place_user : UserRow → List UserRow → List UserRow
place_user row [] = row ∷ []
place_user row (r ∷ rows) = if nat_lt row.uid.0 r.uid.0 then row ∷ r ∷ rows else r ∷ place_user row rows

-- users in the order of their numbers
unfoldable pub by_number : List UserRow → List UserRow
by_number [] = []
by_number (row ∷ rows) = place_user row (by_number rows)

-- all but what stands behind the last line feed
abbrev pub but_last : List (List ℕ) → List (List ℕ)
but_last [] = []
but_last (part ∷ []) = []
but_last (part ∷ next ∷ more) = part ∷ but_last (next ∷ more)

-- the lines of a text, each without the line feed that ends it
unfoldable pub text_lines : List ℕ → List (List ℕ)
text_lines text = but_last (slice_split (λ b. b == 10) text)

-- the preamble that gives a setup: its identity, its users in the order of their numbers, and the lines of its
-- configuration and of its table of actions, as they are written
abbrev pub preamble_of : Setup → List Line
preamble_of U = Guid U.guid ∷ (map User (by_number U.users) ++ (map Conf (text_lines U.conf_text) ++ map Action (text_lines U.table_text)))

abbrev pub event_line : Entry → Line
event_line e = Event e.event

-- the recording of a journal under a setup
abbrev pub recording_of : Setup → List Entry → List Line
recording_of U journal = Header 1 ∷ (preamble_of U ++ (Go ∷ (map event_line journal ++ (End ∷ []))))

-- the same, spelled
unfoldable pub recording_text : Setup → List Entry → List ℕ
recording_text U journal = flat_map spell (recording_of U journal)

-- what is held gained the text, or a front of it where the writing ended early
abbrev pub Writes : Option (List ℕ) → Option (List ℕ) → List ℕ → Result (Unit {0}) WriteEnd → Type 0
Writes old new text (Ok u) = Gains old new text
Writes old new text (Err e) = GainsFront old new text

-- the count of faults rises where a fault is answered, and only there
abbrev pub FaultRises : ℕ → ℕ → Result (Unit {0}) WriteEnd → Type 0
FaultRises before now (Ok u) = now ≡ before
FaultRises before now (Err WriteFault) = Rose before now
FaultRises before now (Err NoMemory) = now ≡ before
