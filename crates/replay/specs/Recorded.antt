-- The recording of a journal, and the journal that it plays.
use Rattle.std.specs.Prelude.{ℕ, ◌≡◌, ◌<◌, ◌≤◌, ◌^◌, List, length, Ok, FitsSigned}
use Rattle.std.specs.Int.{w32}
use Rattle.std.specs.List.{AllByRecursion}
use Rattle.login_conf.specs.Reading.{conf_of}
use Rattle.login_model.specs.Legal.{IsLegal}
use Rattle.login_model.specs.Setups.{IsSetup}
use Rattle.login_model.specs.declared.event.Event.{Event}
use Rattle.login_model.specs.declared.event.Event.TheVariants as event
use Rattle.login_model.specs.declared.hardware.Hardware.{Hardware}
use Rattle.login_model.specs.declared.hardware.Hardware.TheVariants.{Add, Remove, Input, VtKey, Key, Dock, Exit, JobDone}
use Rattle.login_model.specs.declared.mark.Entry.{Entry}
use Rattle.login_model.specs.declared.setup.Setup.{Setup}
use Rattle.login_policy.specs.Reading.{table_of}
use Rattle.recording.specs.Calls.{FitsCall, FitsDevice}
use Rattle.recording.specs.Cut.{cut}
use Rattle.recording.specs.Lines.{IsLine}
use Rattle.recording.specs.Recorded.{by_number, preamble_of, recording_of, recording_text}
use Rattle.recording.specs.declared.line.Line.{Line}
use Rattle.replay.specs.Outcome.{IsRecordingText}
use Rattle.replay.specs.Played.{Played, journal_of}
use Rattle.replay.specs.PreambleLines.{setup_of, HasTable}
use Rattle.replay.specs.Recording.{recording, IsNeverFull, IsPlay, most_lines}
use Rattle.replay.specs.Written.{AreReadAs}

-- the setup is one that a preamble can give: each of its lines is one of a recording, and its configuration and its
-- table are what its texts say
pub record IsGiven (U : Setup) : Type 0 where
  pub setup : IsSetup U
  pub lines : AllByRecursion IsLine (preamble_of U)
  pub conf : U.conf ≡ conf_of U.conf_text
  pub table : table_of U.table_text ≡ Ok U.table

-- the numbers of what happens to the machine are within their types
abbrev pub HardwareFits : Hardware → Type 0
HardwareFits (Add d kind seat) = FitsDevice d
HardwareFits (Remove d) = FitsDevice d
HardwareFits (Input d type code value) = FitsDevice d × (type < 2 ^ 16) × (code < 2 ^ 16) × FitsSigned w32 value
HardwareFits (VtKey vt) = vt < 2 ^ 32
HardwareFits (Key key) = Unit {0}
HardwareFits (Dock on) = Unit {0}
HardwareFits (Exit id) = Unit {0}
HardwareFits JobDone = Unit {0}

-- the numbers of an event are within their types, as those of each value of the type are
abbrev pub NumbersFit : Event → Type 0
NumbersFit (event.Connect c u) = (c.0 < 2 ^ 32) × (u.0 < 2 ^ 32)
NumbersFit (event.Disconnect c) = c.0 < 2 ^ 32
NumbersFit (event.Call r) = (r.who.0 < 2 ^ 32) × (r.serial < 2 ^ 32) × FitsCall r.call
NumbersFit (event.Hardware x) = HardwareFits x
NumbersFit (event.Tick m) = m.0 < 2 ^ 64
NumbersFit event.Stop = Unit {0}

-- the text is a recording with no more lines than one may have; an event of it may find the journal full
pub record IsScript (text : List ℕ) : Type 0 where
  pub preamble : List Line
  pub played : List Played
  pub play : IsPlay preamble played
  pub table : HasTable preamble
  pub read : AreReadAs (cut text) (recording preamble played)
  pub within : length (recording preamble played) ≤ most_lines

-- the same setup with its users in the order of their numbers
abbrev pub in_order : Setup → Setup
in_order U = record U { users = by_number U.users }

-- the text is a recording of this setup, but for the order of its users, and of this journal; and of no other one
pub record Plays (U : Setup) (journal : List Entry) (text : List ℕ) : Type 0 where
  pub script : IsScript text
  pub setup_is : setup_of script.preamble ≡ in_order U
  pub journal_is : journal_of script.played ≡ journal
  pub no_other : (other : IsScript text) → journal_of other.played ≡ journal

-- a legal journal of so many entries that its recording has no more lines than one may have
pub record IsRecorded (U : Setup) (journal : List Entry) : Type 0 where
  pub given : IsGiven U
  pub legal : IsLegal U journal
  pub fits : AllByRecursion (λ (e : Entry). NumbersFit e.event) journal
  pub within : length (recording_of U journal) ≤ most_lines

-- the law: its recording plays it, also where an event of it found the journal full; and where none did, it is
-- replayed whole
pub record RecordingPlays : Type 0 where
  pub plays : (U : Setup) (journal : List Entry) → IsRecorded U journal → Plays U journal (recording_text U journal)
  pub replays : (U : Setup) (journal : List Entry) → IsRecorded U journal → IsNeverFull U journal → IsRecordingText (recording_text U journal)
