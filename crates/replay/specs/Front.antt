-- How far a recording has come, and what was said of it.
use Rattle.std.specs.Prelude.{ℕ, ◌≡◌, List, [], ◌∷◌, ◌++◌}
use Rattle.recording.specs.declared.line.Line.{Line}
use Rattle.recording.specs.declared.line.Line.TheVariants.{Header, Guid, User, Conf, Action, Go, End}
use Rattle.replay.specs.PreambleLines.{setup_of, HasTable, MayFollow}
use Rattle.replay.specs.Played.{Played, played_lines, journal_of}
use Rattle.replay.specs.Transcript.{transcript_front, transcript}
use Rattle.replay.specs.Recording.{recording, IsPlay, MayCome, IsNeverFull}

pub data Stage : Type 0 where
  fresh : Stage
  headed : Stage
  going : Stage
  ended : Stage

-- the lines so far, by what they said
pub record Front : Type 0 where
  pub stage : Stage
  pub preamble : List Line
  pub played : List Played

abbrev pub lines_at : Stage → List Line → List Played → List Line
lines_at fresh preamble played = []
lines_at headed preamble played = Header 1 ∷ preamble
lines_at going preamble played = Header 1 ∷ (preamble ++ (Go ∷ played_lines played))
lines_at ended preamble played = recording preamble played

abbrev pub lines_of : Front → List Line
lines_of f = lines_at f.stage f.preamble f.played

abbrev pub text_at : Stage → List Line → List Played → List ℕ
text_at fresh preamble played = []
text_at headed preamble played = []
text_at going preamble played = transcript_front preamble played
text_at ended preamble played = transcript preamble played

-- the transcript of the lines so far
abbrev pub text_of : Front → List ℕ
text_of f = text_at f.stage f.preamble f.played

abbrev pub StageFits : Stage → List Line → List Played → Type 0
StageFits fresh preamble played = (preamble ≡ []) × (played ≡ [])
StageFits headed preamble played = played ≡ []
StageFits going preamble played = HasTable preamble
StageFits ended preamble played = HasTable preamble

-- the lines so far begin a recording, and none of their events found the journal full
pub record IsFront (f : Front) : Type 0 where
  pub play : IsPlay f.preamble f.played
  pub stage_fits : StageFits f.stage f.preamble f.played
  pub room : IsNeverFull (setup_of f.preamble) (journal_of f.played)

-- a line may come next, whatever a table says that is read at `go`
abbrev pub takes_at : Stage → List Line → List Played → Line → Type 0
takes_at fresh preamble played (Header version) = Unit {0}
takes_at headed preamble played (Guid guid) = MayFollow preamble (Guid guid)
takes_at headed preamble played (User row) = MayFollow preamble (User row)
takes_at headed preamble played (Conf text) = MayFollow preamble (Conf text)
takes_at headed preamble played (Action text) = MayFollow preamble (Action text)
takes_at headed preamble played Go = Unit {0}
takes_at going preamble played End = Unit {0}
takes_at going preamble played line = MayCome played line
takes_at _ _ _ _ = ⊥

abbrev pub Takes : Front → Line → Type 0
Takes f line = takes_at f.stage f.preamble f.played line
