-- What the reading of the next line answers.
use Rattle.std.specs.Prelude.{ℕ, ◌≡◌, ◌<◌, List, [], length, take, Option, IfSome}
use Rattle.login_edge.specs.Faults.{Rose}
use Rattle.recording.specs.Cut.{first_line, NoLineFeed}
use Rattle.recording.specs.Limits.{line_room}
use Rattle.recording.specs.Reading.{Reading}
use Rattle.recording.specs.declared.line_reader.Next.{Next}
use Rattle.recording.specs.declared.line_reader.Next.TheVariants.{Line, End, ReadFault}

-- a line is the first of what was left; at the end nothing was left;
-- before a fault no whole line is left unread
abbrev pub NextIs : Option (List ℕ) → Reading → Next → Type 0
NextIs left new Line = (0 < length new.line) × IfSome left (λ text. new.line ≡ take line_room (first_line text))
NextIs left new End = (new.line ≡ []) × (new.held ≡ []) × IfSome left (λ text. text ≡ [])
NextIs left new ReadFault = NoLineFeed new.line × (new.held ≡ [])

-- the source's count of faults rises where a fault of reading is answered, and only there
abbrev pub NextCause : ℕ → ℕ → Next → Type 0
NextCause before now Line = now ≡ before
NextCause before now End = now ≡ before
NextCause before now ReadFault = Rose before now
