-- Lines behind `go`, with the entries that they made.
use Rattle.std.specs.Prelude.{List, map}
use Rattle.std.specs.List.{flat_map}
use Rattle.login_model.specs.declared.mark.Entry.{Entry}
use Rattle.recording.specs.declared.line.Line.{Line}

-- a line, and the entries that it made: one of an event, and of a link as many as its bytes are events
pub record Played : Type 0 where
  pub line : Line
  pub made : List Entry

abbrev pub played_lines : List Played → List Line
played_lines played = map (λ p. p.line) played

-- the journal of these lines
abbrev pub journal_of : List Played → List Entry
journal_of played = flat_map (λ p. p.made) played
