-- The parts that a recording is written in.
use Rattle.std.specs.Prelude.{ℕ, ◌≡◌, ◌<◌, ◌≤◌, ◌⊎◌, nat_le, nat_lt, if◌then◌else◌, List, [], ◌∷◌, ◌++◌, map, Option, Some, None}
use Rattle.std.specs.List.{flat_map, AllByRecursion}
use Rattle.login_model.specs.declared.mark.Entry.{Entry}
use Rattle.login_model.specs.declared.setup.Setup.{Setup}
use Rattle.login_model.specs.declared.setup.UserRow.{UserRow}
use Rattle.recording.specs.declared.line.Line.{Line}
use Rattle.recording.specs.declared.line.Line.TheVariants.{Header, Guid, User, Conf, Action}
use Rattle.recording.specs.declared.recorded.RawText.{RawText}
use Rattle.recording.specs.declared.recorded.RawText.TheVariants as raw
use Rattle.recording.specs.Lines.{spell}
use Rattle.recording.specs.Recorded.{by_number, text_lines, event_line}

-- a line of a word, and of what stands behind it
abbrev pub word_text : List ℕ → List ℕ → List ℕ
word_text word behind = word ++ 32 ∷ (behind ++ 10 ∷ [])

-- a line of one of the two texts
abbrev pub line_of : RawText → List ℕ → Line
line_of raw.Conf line = Conf line
line_of raw.Table line = Action line

-- the parts: the first line and the identity, the users, the lines of a text, the setup, the events
unfoldable pub front_text : List ℕ → List ℕ
front_text guid = spell (Header 1) ++ spell (Guid guid)

unfoldable pub users_text : List UserRow → List ℕ
users_text rows = flat_map spell (map User (by_number rows))

unfoldable pub lines_text : RawText → List ℕ → List ℕ
lines_text t bytes = flat_map spell (map (line_of t) (text_lines bytes))

unfoldable pub setup_text : Setup → List ℕ
setup_text U = front_text U.guid ++ (users_text U.users ++ (lines_text raw.Conf U.conf_text ++ lines_text raw.Table U.table_text))

unfoldable pub events_text : List Entry → List ℕ
events_text journal = flat_map spell (map event_line journal)

-- of the users above a number, the one with the lesser number
abbrev pub lesser : Option UserRow → UserRow → Option UserRow
lesser None row = Some row
lesser (Some least) row = if nat_lt row.uid.0 least.uid.0 then Some row else Some least

abbrev pub nearer : ℕ → Option UserRow → UserRow → Option UserRow
nearer last next row = if nat_le row.uid.0 last then next else lesser next row

-- a user of these rows
abbrev pub IsRow : UserRow → List UserRow → Type 0
IsRow x [] = ⊥
IsRow x (row ∷ rows) = (x ≡ row) ⊎ IsRow x rows

-- the user with the least number above this one, or there is none
abbrev pub IsNextUser : List UserRow → ℕ → Option UserRow → Type 0
IsNextUser rows last None = AllByRecursion (λ (row : UserRow). row.uid.0 ≤ last) rows
IsNextUser rows last (Some x) = IsRow x rows × (last < x.uid.0) × AllByRecursion (λ (row : UserRow). last < row.uid.0 → x.uid.0 ≤ row.uid.0) rows
