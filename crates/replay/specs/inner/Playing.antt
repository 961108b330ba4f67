-- What the playing of a line does.
use Rattle.std.specs.Prelude.{ℕ, ◌≡◌, ◌⊎◌, List, [], ◌∷◌, ◌++◌, Option, Some, Result, Ok, Err}
use Rattle.login_edge.specs.Texts.{Gains, GainsFront}
use Rattle.login_model.specs.declared.fullness.Fullness.{Fullness}
use Rattle.login_model.specs.declared.event.Event.{Event}
use Rattle.login_model.specs.declared.mark.Entry.{Entry}
use Rattle.login_model.specs.declared.setup.Setup.{Setup}
use Rattle.login_model.specs.Full.{full}
use Rattle.login_model.specs.Legal.{IsLegal, events_of}
use Rattle.recording.specs.declared.line.Line.{Line}
use Rattle.recording.specs.Lines.{IsLine}
use Rattle.replay.specs.Links.{line_events}
use Rattle.replay.specs.Played.{Played, journal_of, played_lines}
use Rattle.replay.specs.Recording.{IsNeverFull, IsTurn, MayCome}
use Rattle.replay.specs.Transcript.{entries_text, turn_text}
use Rattle.replay.specs.declared.early.Early.{Early}
use Rattle.replay.specs.declared.early.Early.TheVariants.{Full, WriteFault, NoMemory}
use Rattle.replay.specs.declared.own.Own.{Own}
use Rattle.replay.specs.inner.Telling.{IsOwnOf}
use Rattle.replay.specs.inner.Player.{AreOpen, AreUsed, Brings, HasMade, PlayerState, StandsBehind}

-- a line that may come next, where the player stands
pub record ComesNext (player : PlayerState) (line : Line) : Type 0 where
  pub played : List Played
  pub behind : StandsBehind player played
  pub line_is : IsLine line
  pub may_come : MayCome played line

-- so many events of a line were made as these entries, each with room, and these follow
pub record MadeSoFar (U : Setup) (before : List Played) (line : Line) (made : List Entry) (more : List Event) : Type 0 where
  pub events : line_events U before line ≡ events_of made ++ more
  pub legal : IsLegal U (journal_of before ++ made)
  pub room : IsNeverFull U (journal_of before) → IsNeverFull U (journal_of before ++ made)

-- a line with all of its entries, each made with room
pub record IsMade (U : Setup) (before : List Played) (line : Line) (made : List Entry) : Type 0 where
  pub turn : IsTurn U before (record { line = line; made = made })
  pub legal : IsLegal U (journal_of (before ++ record { line = line; made = made } ∷ []))
  pub room : IsNeverFull U (journal_of before) → IsNeverFull U (journal_of (before ++ record { line = line; made = made } ∷ []))

-- the entries of the line were made and written, and this it brought about on its link
pub record LineMade (U : Setup) (before : List Played) (line : Line) (new : PlayerState) (own : Option Own) (held now : Option (List ℕ)) : Type 0 where
  pub made : List Entry
  pub is_made : IsMade U before line made
  pub setup : new.office.core.setup ≡ U
  pub has_made : HasMade new.office before (record { line = line; made = made })
  pub brings : Brings U before (record { line = line; made = made }) own
  pub is_own : IsOwnOf new.office (record { line = line; made = made }) own
  pub used : AreUsed new.used (before ++ record { line = line; made = made } ∷ [])
  pub links : AreOpen new.links (played_lines (before ++ record { line = line; made = made } ∷ []))
  pub wrote : Gains held now (entries_text before made)

-- the line was played, and its part of the transcript written
pub record LinePlayed (U : Setup) (before : List Played) (line : Line) (new : PlayerState) (held now : Option (List ℕ)) : Type 0 where
  pub made : List Entry
  pub is_made : IsMade U before line made
  pub setup : new.office.core.setup ≡ U
  pub stands : StandsBehind new (before ++ record { line = line; made = made } ∷ [])
  pub wrote : Gains held now (turn_text U before (record { line = line; made = made }))

-- an event of the line finds the journal full by this count, and the entries before it were written
pub record LineFull (count : Fullness) (U : Setup) (before : List Played) (line : Line) (held now : Option (List ℕ)) : Type 0 where
  pub made : List Entry
  pub event : Event
  pub more : List Event
  pub so_far : MadeSoFar U before line made (event ∷ more)
  pub full : full U (journal_of before ++ made) event ≡ Some count
  pub wrote : Gains held now (entries_text before made)

-- a front of the entries that were made was written
pub record EntriesBroken (U : Setup) (before : List Played) (line : Line) (held now : Option (List ℕ)) : Type 0 where
  pub made : List Entry
  pub more : List Event
  pub so_far : MadeSoFar U before line made more
  pub wrote : GainsFront held now (entries_text before made)

-- the entries of the line were made; or the journal is full for an event of it, or the sink failed, or there was no
-- memory
abbrev pub EntriesGive : Setup → List Played → Line → PlayerState → Option (List ℕ) → Option (List ℕ) → Result (Option Own) Early → Type 0
EntriesGive U before line new held now (Ok own) = LineMade U before line new own held now
EntriesGive U before line new held now (Err (Full count)) = LineFull count U before line held now
EntriesGive U before line new held now (Err WriteFault) = EntriesBroken U before line held now
EntriesGive U before line new held now (Err NoMemory) = EntriesBroken U before line held now
EntriesGive U before line new held now (Err _) = ⊥

-- so they are of a line that may come next, behind whatever lines the player stands
abbrev pub MakesLine : PlayerState → Line → PlayerState → Option (List ℕ) → Option (List ℕ) → Result (Option Own) Early → Type 0
MakesLine old line new held now result = (played : List Played) → StandsBehind old played → MayCome played line → EntriesGive old.office.core.setup played line new held now result

-- the same of a line that brings something about on its link
abbrev pub with_own : Result Own Early → Result (Option Own) Early
with_own (Ok own) = Ok (Some own)
with_own (Err early) = Err early

-- a front of the line's part of the transcript was written, all of whose entries were made
pub record LineBroken (U : Setup) (before : List Played) (line : Line) (held now : Option (List ℕ)) : Type 0 where
  pub made : List Entry
  pub is_made : IsMade U before line made
  pub wrote : GainsFront held now (turn_text U before (record { line = line; made = made }))

-- the line was played; or the journal is full for an event of it, or the sink failed, or there was no memory
abbrev pub LineGives : Setup → List Played → Line → PlayerState → Option (List ℕ) → Option (List ℕ) → Result (Unit {0}) Early → Type 0
LineGives U before line new held now (Ok u) = LinePlayed U before line new held now
LineGives U before line new held now (Err (Full count)) = LineFull count U before line held now
LineGives U before line new held now (Err WriteFault) = EntriesBroken U before line held now ⊎ LineBroken U before line held now
LineGives U before line new held now (Err NoMemory) = EntriesBroken U before line held now ⊎ LineBroken U before line held now
LineGives U before line new held now (Err _) = ⊥

-- so a line that may come next is played, behind whatever lines the player stands
abbrev pub PlaysLine : PlayerState → Line → PlayerState → Option (List ℕ) → Option (List ℕ) → Result (Unit {0}) Early → Type 0
PlaysLine old line new held now result = (played : List Played) → StandsBehind old played → MayCome played line → LineGives old.office.core.setup played line new held now result
