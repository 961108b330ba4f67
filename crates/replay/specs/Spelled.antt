-- Laws of recordings: those that are spelled line by line, what a text is a recording of, and which lines one has.
use Rattle.std.specs.Prelude.{ℕ, ◌≡◌, ◌≤◌, List, length}
use Rattle.std.specs.List.{flat_map, AllByRecursion}
use Rattle.login_model.specs.declared.mark.Entry.{Entry}
use Rattle.recording.specs.declared.line.Line.{Line}
use Rattle.login_model.specs.declared.setup.Setup.{Setup}
use Rattle.login_model.specs.Legal.{IsLegal, IsLegalAfter}
use Rattle.recording.specs.Lines.{spell, IsEventLine, IsLine}
use Rattle.replay.specs.Played.{Played, journal_of}
use Rattle.replay.specs.PreambleLines.{setup_of, IsPreamble, HasTable}
use Rattle.replay.specs.Recording.{recording, typed, AreTurns, IsNeverFull, IsTurn, MayCome, most_lines}
use Rattle.replay.specs.Outcome.{IsRecordingText}

-- the bytes of lines
abbrev pub spelling : List Line → List ℕ
spelling lines = flat_map spell lines

-- the text is a recording, and its journal is this one
pub record IsRecordingOf (journal : List Entry) (text : List ℕ) : Type 0 where
  pub recorded : IsRecordingText text
  pub plays : journal_of recorded.played ≡ journal

-- a preamble, and a legal journal each of whose events has a line
pub record IsTyped (preamble : List Line) (journal : List Entry) : Type 0 where
  pub preamble_is : IsPreamble preamble
  pub legal : IsLegal (setup_of preamble) journal
  pub events : AllByRecursion (λ (e : Entry). IsEventLine e.event) journal

-- these, spelled, are a recording of this journal
abbrev pub SpelledIsRecording : Type 0
SpelledIsRecording = (preamble : List Line) (journal : List Entry) → IsTyped preamble journal → HasTable preamble → IsNeverFull (setup_of preamble) journal
    → length (recording preamble (typed journal)) ≤ most_lines → IsRecordingOf journal (spelling (recording preamble (typed journal)))

-- a text is a recording in one way at most: with one preamble, and with one journal, parted among its lines in one way
abbrev pub OneRecording : Type 0
OneRecording = (text : List ℕ) (a b : IsRecordingText text) → (a.preamble ≡ b.preamble) × (a.played ≡ b.played)

-- a line behind these, with its entries
pub record HasTurn (U : Setup) (before : List Played) (line : Line) : Type 0 where
  pub made : List Entry
  pub turn : IsTurn U before (record { line = line; made = made })
  pub legal : IsLegalAfter U (journal_of before) made

-- each line that may come has its entries: whether it may come is all that is asked of it
abbrev pub LinesHaveTurns : Type 0
LinesHaveTurns = (U : Setup) (before : List Played) (line : Line) → AreTurns U before → IsLegal U (journal_of before) → IsLine line → MayCome before line → HasTurn U before line
