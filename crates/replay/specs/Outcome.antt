-- What was read of a text, and what was written, when a replay ends.
use Rattle.std.specs.Prelude.{ℕ, ◌≡◌, ◌+◌, ◌<◌, ◌≤◌, ◌⊎◌, List, [], ◌∷◌, ◌++◌, length, Option, Some}
use Rattle.login_edge.specs.Texts.{Gains, GainsFront}
use Rattle.login_model.specs.declared.fullness.Fullness.{Fullness}
use Rattle.login_model.specs.declared.event.Event.{Event as AnEvent}
use Rattle.login_model.specs.declared.mark.Entry.{Entry}
use Rattle.login_model.specs.Full.{full}
use Rattle.login_model.specs.Legal.{IsLegal, events_of}
use Rattle.login_laws.specs.Lawful.{IsLawful}
use Rattle.recording.specs.declared.line.Line.{Line}
use Rattle.recording.specs.Cut.{NoLineFeed, cut}
use Rattle.replay.specs.Written.{AreReadAs, Splits}
use Rattle.replay.specs.Links.{line_events}
use Rattle.replay.specs.Played.{Played, journal_of}
use Rattle.replay.specs.Transcript.{transcript, entries_text}
use Rattle.replay.specs.PreambleLines.{setup_of, HasTable}
use Rattle.replay.specs.Recording.{recording, IsPlay, MayCome, IsNeverFull, most_lines}
use Rattle.replay.specs.Front.{Front, going, lines_of, text_of, IsFront}
use Rattle.replay.specs.Refused.{Refused}
use Rattle.replay.specs.Causes.{IsCause, refused_line}
use Rattle.replay.specs.declared.cause.Cause.{Cause}
use Rattle.replay.specs.declared.cause.Cause.TheVariants.{TooLong, Ended}

-- the text is a recording with no more lines than one may have, and no event of it finds the journal full
pub record IsRecordingText (text : List ℕ) : Type 0 where
  pub preamble : List Line
  pub played : List Played
  pub play : IsPlay preamble played
  pub table : HasTable preamble
  pub room : IsNeverFull (setup_of preamble) (journal_of played)
  pub read : AreReadAs (cut text) (recording preamble played)
  pub within : length (recording preamble played) ≤ most_lines

-- the text is a recording, its journal has what every legal journal has, it was read to its end, and its transcript was
-- written
pub record Replayed (text : List ℕ) (left before after : Option (List ℕ)) : Type 0 where
  pub recorded : IsRecordingText text
  pub lawful : IsLawful (setup_of recorded.preamble) (journal_of recorded.played)
  pub read_to_end : left ≡ Some []
  pub wrote : Gains before after (transcript recorded.preamble recorded.played)

-- behind the most lines each line is too long a recording, and `end` may be missing
abbrev pub IsPast : Cause → List ℕ → Type 0
IsPast TooLong rest = rest ≡ [] → ⊥
IsPast Ended rest = rest ≡ []
IsPast _ rest = ⊥

-- the cause is that of the first line of what is left
pub record IsRefusal (cause : Cause) (front : Front) (rest : List ℕ) : Type 0 where
  pub own : length (lines_of front) < most_lines → IsCause cause front rest
  pub past : length (lines_of front) ≡ most_lines → IsPast cause rest

-- the line with this number is refused for this cause, and the transcript of the lines before it was written
pub record RefusedAt (number : ℕ) (cause : Cause) (text : List ℕ) (before after : Option (List ℕ)) : Type 0 where
  pub front : Front
  pub rest : List ℕ
  pub is_front : IsFront front
  pub read : Splits text (lines_of front) rest
  pub number_is : number ≡ refused_line cause front
  pub refused : Refused text (length (lines_of front))
  pub caused : IsRefusal cause front rest
  pub wrote : Gains before after (text_of front)

-- behind these lines comes one that may come next; so many of its events were made as these entries, none of which
-- found the journal full, and these events follow
pub record IsUnderWay (front : Front) (line : Line) (made : List Entry) (more : List AnEvent) : Type 0 where
  pub going_on : front.stage ≡ going
  pub may_come : MayCome front.played line
  pub events : line_events (setup_of front.preamble) front.played line ≡ events_of made ++ more
  pub legal : IsLegal (setup_of front.preamble) (journal_of front.played ++ made)
  pub room : IsNeverFull (setup_of front.preamble) (journal_of front.played ++ made)

-- of the line behind these, the next event finds the journal full by this count
pub record IsFull (count : Fullness) (front : Front) (rest : List ℕ) : Type 0 where
  pub line : Line
  pub made : List Entry
  pub event : AnEvent
  pub more : List AnEvent
  pub behind : List ℕ
  pub next : Splits rest (line ∷ []) behind
  pub under_way : IsUnderWay front line made (event ∷ more)
  pub full : full (setup_of front.preamble) (journal_of front.played ++ made) event ≡ Some count

-- an event of a line finds the journal full by this count; the transcript of the lines before it was written, and
-- of it the entries that were made
pub record FullAt (count : Fullness) (text : List ℕ) (before after : Option (List ℕ)) : Type 0 where
  pub front : Front
  pub rest : List ℕ
  pub is_front : IsFront front
  pub read : Splits text (lines_of front) rest
  pub within : length (lines_of front) < most_lines
  pub is_full : IsFull count front rest
  pub wrote : Gains before after (text_of front ++ entries_text front.played is_full.made)

-- these lines were read, and their transcript written; then a part of a line, and the rest is left
pub record Broken (text : List ℕ) (left before after : Option (List ℕ)) : Type 0 where
  pub front : Front
  pub part : List ℕ
  pub rest : List ℕ
  pub is_front : IsFront front
  pub feedless : NoLineFeed part
  pub read : Splits text (lines_of front) (part ++ rest)
  pub left_is : left ≡ Some rest
  pub wrote : Gains before after (text_of front)

-- a front of the transcript of these lines was written, and of the entries that the line behind them made so far
pub record WroteUnderWay (front : Front) (behind : List ℕ) (before after : Option (List ℕ)) : Type 0 where
  pub line : Line
  pub made : List Entry
  pub more : List AnEvent
  pub rest : List ℕ
  pub next : Splits behind (line ∷ []) rest
  pub under_way : IsUnderWay front line made more
  pub wrote : GainsFront before after (text_of front ++ entries_text front.played made)

-- these lines were read, and maybe a part of what follows them; the rest is left;
-- and a front of the transcript of these lines was written, or of these and of entries of the next
pub record Fronted (text : List ℕ) (left before after : Option (List ℕ)) : Type 0 where
  pub front : Front
  pub part : List ℕ
  pub rest : List ℕ
  pub is_front : IsFront front
  pub read : Splits text (lines_of front) (part ++ rest)
  pub left_is : left ≡ Some rest
  pub wrote : GainsFront before after (text_of front) ⊎ WroteUnderWay front part before after
