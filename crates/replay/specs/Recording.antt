-- Recordings: a setup, and lines whose events are those of a legal journal.
use Rattle.std.specs.Prelude.{ℕ, ◌≡◌, None, true, List, [], ◌∷◌, ◌++◌, map}
use Rattle.login_base.specs.declared.ids.ConnId.{ConnId}
use Rattle.login_model.specs.declared.event.Event.{Event as AnEvent}
use Rattle.login_model.specs.declared.event.Event.TheVariants as event
use Rattle.login_model.specs.declared.setup.Setup.{Setup}
use Rattle.login_model.specs.declared.mark.Entry.{Entry}
use Rattle.login_model.specs.Full.{full}
use Rattle.login_model.specs.Legal.{IsLegal, IsPlaced, IsUnused, events_of}
use Rattle.login_model.specs.Stopping.{stopped}
use Rattle.recording.specs.declared.line.Line.{Line}
use Rattle.recording.specs.declared.line.Line.TheVariants.{Header, Go, Event, Link, In, Hangup, End}
use Rattle.recording.specs.Lines.{IsLine}
use Rattle.replay.specs.Links.{link_user, is_open_link, line_events}
use Rattle.replay.specs.Played.{Played, played_lines, journal_of}
use Rattle.replay.specs.PreambleLines.{setup_of, IsPreamble, HasTable}

-- the number is not that of a link
abbrev pub IsNoLink : List Line → ConnId → Type 0
IsNoLink lines c = link_user lines c ≡ None

-- a link's connect and its disconnect have no line of their own: they come of its bytes
abbrev pub IsOfNoLink : List Line → AnEvent → Type 0
IsOfNoLink lines (event.Connect c u) = IsNoLink lines c
IsOfNoLink lines (event.Disconnect c) = IsNoLink lines c
IsOfNoLink lines _ = Unit {0}

-- a line may stand behind these: an event that may come next; a link of a number that neither a connect nor a link
-- had, before the stop; bytes or the end of an open link
abbrev pub MayCome : List Played → Line → Type 0
MayCome before (Event e) = IsPlaced (journal_of before) e × IsOfNoLink (played_lines before) e
MayCome before (Link c u) = IsUnused c (journal_of before) × IsNoLink (played_lines before) c × (stopped (journal_of before) (event.Connect c u) ≡ None)
MayCome before (In c bytes) = is_open_link (played_lines before) c ≡ true
MayCome before (Hangup c) = is_open_link (played_lines before) c ≡ true
MayCome before _ = ⊥

-- a line behind these, with the entries of its events
pub record IsTurn (U : Setup) (before : List Played) (p : Played) : Type 0 where
  pub line_is : IsLine p.line
  pub may_come : MayCome before p.line
  pub events : events_of p.made ≡ line_events U before p.line

abbrev pub AreTurnsAfter : Setup → List Played → List Played → Type 0
AreTurnsAfter U before [] = Unit {0}
AreTurnsAfter U before (p ∷ ps) = IsTurn U before p × AreTurnsAfter U (before ++ p ∷ []) ps

-- each of these lines may stand behind those before it, and made the entries of its events
abbrev pub AreTurns : Setup → List Played → Type 0
AreTurns U played = AreTurnsAfter U [] played

-- the lines of a recording with this preamble and these lines behind `go`
abbrev pub recording : List Line → List Played → List Line
recording preamble played = Header 1 ∷ (preamble ++ (Go ∷ (played_lines played ++ (End ∷ []))))

-- what a recording plays: a journal that is legal under the setup that its preamble says, and that its lines made
pub record IsPlay (preamble : List Line) (played : List Played) : Type 0 where
  pub preamble_is : IsPreamble preamble
  pub turns : AreTurns (setup_of preamble) played
  pub legal : IsLegal (setup_of preamble) (journal_of played)

-- the lines are a recording
pub record IsRecording (lines : List Line) : Type 0 where
  pub preamble : List Line
  pub played : List Played
  pub play : IsPlay preamble played
  pub table : HasTable preamble
  pub is : lines ≡ recording preamble played

-- a recording has at most so many lines
abbrev pub most_lines : ℕ
most_lines = 4000000000

abbrev pub IsNeverFullAfter : Setup → List Entry → List Entry → Type 0
IsNeverFullAfter U before [] = Unit {0}
IsNeverFullAfter U before (e ∷ es) = (full U before e.event ≡ None) × IsNeverFullAfter U (before ++ e ∷ []) es

-- no event of these entries finds the journal full of the entries before it
abbrev pub IsNeverFull : Setup → List Entry → Type 0
IsNeverFull U journal = IsNeverFullAfter U [] journal

-- a journal whose events have a line each
abbrev pub typed_entry : Entry → Played
typed_entry e = record { line = Event e.event; made = e ∷ [] }

abbrev pub typed : List Entry → List Played
typed journal = map typed_entry journal
