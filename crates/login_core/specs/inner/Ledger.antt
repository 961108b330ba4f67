-- The journal, and the room that is kept for its next entries.
use Rattle.std.specs.Prelude.{ℕ, zero, suc, ◌≡◌, ◌≤◌, Option, Some, None, List, []}
use Rattle.login_base.specs.Room.{Room}
use Rattle.login_base.specs.declared.ids.ConnId.{ConnId}
use Rattle.login_model.specs.declared.mark.Entry.{Entry}
use Rattle.login_model.specs.declared.mark.Mark.{Mark}
use Rattle.login_core.specs.Ends.{list_of, room_of}

-- the entries, for how many more there is room, and of how many the marks are in memory of their size; the lists for the
-- marks of connections' ends, by the numbers of the connections; that of the connection that comes next; and for how many
-- more connections there are rows
pub record LedgerState : Type 0 where
  pub items : List Entry
  pub entries : ℕ
  pub trimmed : ℕ
  pub ends : List (ℕ × Room Mark)
  pub next_end : Room Mark
  pub ends_spare : ℕ

-- the marks in a list that may be there
abbrev pub marks_in : Option (Room Mark) → List Mark
marks_in None = []
marks_in (Some list) = list.items

-- for how many marks of a connection's end there is room
abbrev pub end_room : LedgerState → ConnId → ℕ
end_room l c = room_of l.ends c

-- the room of a list, where there is a row to put it in
abbrev pub with_row : ℕ → ℕ → ℕ
with_row zero room = 0
with_row (suc rows) room = room

-- for how many marks there is room at the end of the connection that comes next
abbrev pub next_room : LedgerState → ℕ
next_room l = with_row l.ends_spare l.next_end.spare

-- there is room for so many entries
abbrev pub with_entries : ℕ → LedgerState → LedgerState
with_entries n l = record l { entries = n }

-- the marks of so many entries are in memory of their size
abbrev pub with_trimmed : ℕ → LedgerState → LedgerState
with_trimmed n l = record l { trimmed = n }

-- the room that is told is there, the lists of ends are empty, and no more entries are trimmed than there are
pub record IsLedger (entries spare trimmed closed : ℕ) (ends : List (ℕ × Room Mark)) (next : Room Mark) : Type 0 where
  pub entries_fit : entries ≤ spare
  pub ends_empty : (n : ℕ) → marks_in (list_of ends n) ≡ []
  pub next_empty : next.items ≡ []
  pub trimmed_fit : trimmed ≤ closed
