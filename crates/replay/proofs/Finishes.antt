-- How a replay ends behind its last event.
use Rattle.std.proofs.Common.{◌≡◌, ◌≤◌, ◌<◌, ℕ, ◌+◌, List, [], ◌∷◌, ◌++◌, length, refl, ap, sym, ◌∙◌, subst, append-nil, Some, None, Err}
use Rattle.std.specs.Option.{IfSome}
use Rattle.login_edge.specs.Texts.{Gains}
use Rattle.login_edge.proofs.Gained.{Gains-more}
use Rattle.login_model.specs.declared.mark.Entry.{Entry}
use Rattle.login_laws.proofs.LawfulLaws.{legal-is-lawful}
use Rattle.recording.specs.declared.line.Line.{Line}
use Rattle.recording.specs.Cut.{cut}
use Rattle.replay.specs.Played.{Played, journal_of}
use Rattle.replay.specs.Transcript.{transcript_end}
use Rattle.replay.specs.Written.{AreReadAs, WereRead}
use Rattle.replay.specs.PreambleLines.{setup_of}
use Rattle.replay.specs.Recording.{most_lines, recording}
use Rattle.replay.specs.Front.{Front, Stage, going, ended, text_at}
use Rattle.replay.specs.Outcome.{Replayed, RefusedAt}
use Rattle.replay.specs.Ahead.{IsNoLine, Partly, BreaksOff}
use Rattle.replay.specs.inner.Player.{PlayerState}
use Rattle.replay.specs.inner.Running.{EndsEarly, SoFar}
use Rattle.replay.specs.inner.Writing.{Writes}
use Rattle.replay.specs.declared.cause.Cause.{Cause}
use Rattle.replay.specs.declared.cause.Cause.TheVariants.{WrongPlace, TooLong}
use Rattle.replay.specs.declared.early.Early.{Early}
use Rattle.replay.proofs.Written.{told_split, cut_joined, TextTold}
use Rattle.replay.proofs.Ends.{nothing_left, breaks_here, line_behind, none_behind, writes_here}

abbrev pub ended_front : List Line → List Played → Front
ended_front ls ps = record { stage = ended; preamble = ls; played = ps }

-- how many entries the player has is how many the lines made
end_is : (stage : Stage) (player : PlayerState) (number : ℕ) (all left start held : TextTold) → (s : SoFar stage player number all left start held)
    → transcript_end (length player.office.core.journal) ≡ transcript_end (length (journal_of s.played))
end_is stage player number all left start held s = ap (λ (es : List Entry). transcript_end (length es)) s.stands.journal

-- the whole transcript was written
wrote_all : (player : PlayerState) (number : ℕ) (all left start held after : TextTold) → (s : SoFar ended player number all left start held) → Gains held after (transcript_end (length player.office.core.journal))
    → Gains start after (text_at ended s.preamble s.played)
wrote_all player number all left start held after s e =
    let text = text_at going s.preamble s.played in
    Gains-more start held after text (transcript_end (length (journal_of s.played))) s.wrote
    (subst (λ (t : List ℕ). Gains held after t) (end_is ended player number all left start held s) e)

-- the last line is not written whole
pub finish_writes : (player : PlayerState) (number : ℕ) (all left now start held after : TextTold) (e : Early) → SoFar ended player number all left start held → IfSome left (λ text. Partly text now)
    → Writes held after (transcript_end (length player.office.core.journal)) (Err e) → EndsEarly all now start after e
finish_writes player number all left now start held after e s part w =
    writes_here (ended_front s.preamble s.played) all left now start held after (text_at going s.preamble s.played) (transcript_end (length (journal_of s.played))) e s.is_front s.read part refl s.wrote
    (subst (λ (t : List ℕ). Writes held after t (Err e)) (end_is ended player number all left start held s) w)

-- the last line was written, and then the source failed or memory lacked
pub finish_breaks : (player : PlayerState) (number : ℕ) (all left now start held after : TextTold) (e : Early) → SoFar ended player number all left start held → Gains held after (transcript_end (length player.office.core.journal))
    → BreaksOff left now e → EndsEarly all now start after e
finish_breaks player number all left now start held after e s w b =
    breaks_here (ended_front s.preamble s.played) all left now start after e s.is_front s.read (wrote_all player number all left start held after s w) b

-- or a line follows, or what is none
pub finish_line : (player : PlayerState) (number : ℕ) (all left next start held after : TextTold) (l : Line) (cause : Cause) → SoFar ended player number all left start held → number ≤ most_lines
    → Gains held after (transcript_end (length player.office.core.journal)) → WereRead left (l ∷ []) next → (number < most_lines → cause ≡ WrongPlace) → (number ≡ most_lines → cause ≡ TooLong)
    → IfSome all (λ text. RefusedAt (number + 1) cause text start after)
finish_line player number all left next start held after l cause s within w r below past =
    line_behind (ended_front s.preamble s.played) number all left next start after l cause s.is_front s.read s.number_is within (wrote_all player number all left start held after s w) r (λ t. t) below past

pub finish_none : (player : PlayerState) (number : ℕ) (all left start held after : TextTold) (own cause : Cause) → SoFar ended player number all left start held → number ≤ most_lines
    → Gains held after (transcript_end (length player.office.core.journal)) → IfSome left (λ text. (text ≡ [] → ⊥) × IsNoLine own text) → (number < most_lines → cause ≡ own) → (number ≡ most_lines → cause ≡ TooLong)
    → IfSome all (λ text. RefusedAt (number + 1) cause text start after)
finish_none player number all left start held after own cause s within w none below past =
    none_behind (ended_front s.preamble s.played) number all left start after own cause s.is_front s.read s.number_is within (wrote_all player number all left start held after s w) none below past

-- or nothing follows
pub finish_done : (player : PlayerState) (number : ℕ) (all left now start held after : TextTold) → SoFar ended player number all left start held → number ≤ most_lines
    → Gains held after (transcript_end (length player.office.core.journal)) → IfSome left (λ text. (text ≡ []) × (now ≡ Some [])) → IfSome all (λ text. Replayed text now start after)
finish_done player number None left now start held after s within e h = tt
finish_done player number (Some text) None now start held after s within e h = absurd (nothing_left text s.read.split)
finish_done player number (Some text) (Some rest) now start held after s within e h =
    let ls = s.preamble in
    let ps = s.played in
    let split = told_split text (recording ls ps) rest s.read in
    let whole : cut text ≡ split.written = ap cut split.split ∙ (cut_joined split.written (recording ls ps) rest split.are ∙ (ap (λ (t : List ℕ). split.written ++ cut t) h.0 ∙ append-nil split.written)) in
    record {
      recorded = record {
        preamble = ls;
        played = ps;
        play = s.is_front.play;
        table = s.is_front.stage_fits;
        room = s.is_front.room;
        read = subst (λ (a : List (List ℕ)). AreReadAs a (recording ls ps)) (sym whole) split.are;
        within = subst (λ (n : ℕ). n ≤ most_lines) s.number_is within;
      };
      lawful = legal-is-lawful (setup_of ls) (journal_of ps) s.is_front.play.legal;
      read_to_end = h.1;
      wrote = wrote_all player number (Some text) (Some rest) start held after s e;
    }
