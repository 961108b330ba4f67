-- How a replay goes on behind `go`.
use Rattle.std.proofs.Common.{◌≡◌, ◌<◌, ℕ, ◌+◌, true, false, List, [], ◌∷◌, ◌++◌, length, refl, arith, ap, sym, ◌∙◌, subst, append_assoc, append-nil, length-append, Some, Result, Ok, Err, ◌⊎◌, inl, inr}
use Rattle.std.specs.Option.{IfSome}
use Rattle.login_edge.specs.Texts.{Gains, GainsFront}
use Rattle.login_edge.proofs.Gained.{Gains-nothing, Gains-more, Gains-front-more}
use Rattle.login_model.specs.declared.fullness.Fullness.{Fullness}
use Rattle.login_model.specs.declared.event.Event.{Event as AnEvent}
use Rattle.login_model.specs.declared.mark.Entry.{Entry}
use Rattle.login_model.specs.declared.setup.Setup.{Setup}
use Rattle.login_model.specs.Full.{full}
use Rattle.recording.specs.declared.line.Line.{Line}
use Rattle.recording.specs.declared.line.Line.TheVariants.{Header, Guid, User, Conf, Action, Go, Event, Link, In, Hangup, End}
use Rattle.login_conf.specs.declared.diagnostic.Diagnostic.{Diagnostic}
use Rattle.replay.specs.Played.{Played, journal_of}
use Rattle.replay.specs.Transcript.{entries_text, start_of, transcript_start, turn_text, turns_text}
use Rattle.replay.specs.Written.{WereRead}
use Rattle.replay.specs.PreambleLines.{setup_of}
use Rattle.replay.specs.Recording.{most_lines, MayCome}
use Rattle.replay.specs.Front.{going, ended, lines_at, text_at, Takes, IsFront}
use Rattle.replay.specs.Outcome.{RefusedAt, Fronted, IsUnderWay}
use Rattle.replay.specs.Preamble.{WasSetUp}
use Rattle.replay.specs.Ahead.{Partly, EndsBehind, EndsPast}
use Rattle.replay.specs.inner.Behind.{is_end}
use Rattle.replay.specs.inner.Player.{PlayerState, StandsBehind}
use Rattle.replay.specs.inner.Playing.{EntriesBroken, IsMade, LineBroken, LineFull, LinePlayed, MadeSoFar, PlaysLine}
use Rattle.replay.specs.Replaying.{ReplayGives}
use Rattle.replay.specs.inner.Running.{EndsEarly, RunGives, end_of, SoFar}
use Rattle.replay.specs.inner.Turns.{TakesTurn}
use Rattle.replay.specs.inner.Writing.{Writes}
use Rattle.replay.specs.declared.early.Early.{Early}
use Rattle.replay.specs.declared.early.Early.TheVariants as early
use Rattle.replay.specs.declared.cause.Cause.TheVariants.{WrongPlace}
use Rattle.replay.specs.declared.run.Turn.TheVariants.{Next}
use Rattle.replay.proofs.Written.{TextTold, read_on}
use Rattle.replay.proofs.PlayedLines.{IsNoEnd, lines_push}
use Rattle.replay.proofs.Recordings.{nothing_played, take_may}
use Rattle.replay.proofs.Ends.{ends_filled, ends_front, ends_under_way, behind_here, past_here, misplaced_here, writes_here, going_front}
use Rattle.replay.proofs.LinkLines.{turns-after}

lines_more : (ls : List Line) (ps : List Played) (p : Played) → lines_at going ls (ps ++ p ∷ []) ≡ lines_at going ls ps ++ p.line ∷ []
lines_more ls ps p = simp (lines_push ps p, append_assoc)

lines_ended : (ls : List Line) (ps : List Played) → lines_at ended ls ps ≡ lines_at going ls ps ++ End ∷ []
lines_ended ls ps = simp append_assoc

turns_push : (U : Setup) (before ps : List Played) (p : Played) → turns_text U before (ps ++ p ∷ []) ≡ turns_text U before ps ++ turn_text U (before ++ ps) p
unfolding turns_text
turns_push U before [] p = append-nil (turn_text U before p) ∙ ap (λ (b : List Played). turn_text U b p) (sym (append-nil before))
turns_push U before (x ∷ ps) p =
    ap (λ (t : List ℕ). turn_text U before x ++ t) (turns_push U (before ++ x ∷ []) ps p)
    ∙ (sym (append_assoc (turn_text U before x) (turns_text U (before ++ x ∷ []) ps) (turn_text U ((before ++ x ∷ []) ++ ps) p))
    ∙ ap (λ (b : List Played). (turn_text U before x ++ turns_text U (before ++ x ∷ []) ps) ++ turn_text U b p) (append_assoc before (x ∷ []) ps))

text_more : (ls : List Line) (ps : List Played) (p : Played) → text_at going ls (ps ++ p ∷ []) ≡ text_at going ls ps ++ turn_text (setup_of ls) ps p
text_more ls ps p =
    ap (λ (t : List ℕ). transcript_start ls ++ t) (turns_push (setup_of ls) [] ps p)
    ∙ sym (append_assoc (transcript_start ls) (turns_text (setup_of ls) [] ps) (turn_text (setup_of ls) ps p))

-- the line of a turn was read
read_turn : (ls : List Line) (ps : List Played) (p : Played) (all left after : TextTold) → WereRead all (lines_at going ls ps) left → WereRead left (p.line ∷ []) after
    → WereRead all (lines_at going ls (ps ++ p ∷ [])) after
read_turn ls ps p all left after h r =
    subst (λ (x : List Line). WereRead all x after) (sym (lines_more ls ps p)) (read_on all (lines_at going ls ps) left (p.line ∷ []) after h r)

count_more : (ls : List Line) (ps : List Played) (p : Played) (n : ℕ) → n ≡ length (lines_at going ls ps) → n + 1 ≡ length (lines_at going ls (ps ++ p ∷ []))
count_more ls ps p n c = omega (arith, c, ap length (lines_more ls ps p), length-append (lines_at going ls ps) (p.line ∷ []))

count_end : (ls : List Line) (ps : List Played) (n : ℕ) → n ≡ length (lines_at going ls ps) → n + 1 ≡ length (lines_at ended ls ps)
count_end ls ps n c = omega (arith, c, ap length (lines_ended ls ps), length-append (lines_at going ls ps) (End ∷ []))

-- the first line of the transcript is all that a setup without lines has
start_alone : (ls : List Line) → transcript_start ls ≡ text_at going ls []
unfolding turns_text
start_alone ls = sym (append-nil (transcript_start ls))

-- a setup was read, and the first line of the transcript is not written whole
pub setup_ends : (setup : Setup) (wrong : List Diagnostic) (first : ℕ) (all left now held after : TextTold) (e : Early) → WasSetUp all setup wrong first left → IfSome left (λ text. Partly text now)
    → Writes held after (start_of wrong) (Err e) → EndsEarly all now held after e
setup_ends setup wrong first all left now held after e s part w =
    let ls = s.preamble in
    writes_here (going_front ls []) all left now held held after [] (transcript_start ls) e (record { play = nothing_played ls s.is_preamble; stage_fits = s.table; room = tt }) s.read part
    (sym (start_alone ls)) (Gains-nothing held) (subst (λ (t : List ℕ). Writes held after t (Err e)) (ap start_of s.wrong_is) w)

-- a text whose setup was read
pub set_up : (player : PlayerState) (wrong : List Diagnostic) (first : ℕ) (all left start held : TextTold) → StandsBehind player [] → WasSetUp all player.office.core.setup wrong first left
    → Gains start held (start_of wrong) → SoFar going player first all left start held
set_up player wrong first all left start held stands s w = record {
  preamble = s.preamble;
  played = [];
  stands = stands;
  setup_is = s.setup_is;
  is_front = record { play = nothing_played s.preamble s.is_preamble; stage_fits = s.table; room = tt };
  number_is = s.count_is;
  read = s.read;
  wrote = subst (λ (t : List ℕ). Gains start held t) (ap start_of s.wrong_is ∙ start_alone s.preamble) w;
}

-- the front behind a line whose entries were made
front_more : (U : Setup) (ls : List Line) (ps : List Played) (line : Line) (made : List Entry) → U ≡ setup_of ls → IsFront (going_front ls ps) → IsMade U ps line made
    → IsFront (going_front ls (ps ++ record { line = line; made = made } ∷ []))
front_more U ls ps line made setup f m =
    let p : Played = record { line = line; made = made } in
    let there : IsMade (setup_of ls) ps line made = subst (λ (v : Setup). IsMade v ps line made) setup m in
    record {
      play = record { preamble_is = f.play.preamble_is; turns = turns-after (setup_of ls) [] ps p f.play.turns there.turn; legal = there.legal };
      stage_fits = f.stage_fits;
      room = there.room f.room;
    }

-- one more line was played
pub so_far_more : (old new : PlayerState) (number : ℕ) (all left after start held now : TextTold) (line : Line) → (s : SoFar going old number all left start held) → WereRead left (line ∷ []) after
    → LinePlayed old.office.core.setup s.played line new held now → SoFar going new (number + 1) all after start now
so_far_more old new number all left after start held now line s r step =
    let ls = s.preamble in
    let ps = s.played in
    let p : Played = record { line = line; made = step.made } in
    let U = setup_of ls in
    let setup : new.office.core.setup ≡ U = step.setup ∙ s.setup_is in
    let wrote : Gains held now (turn_text U ps p) = subst (λ (v : Setup). Gains held now (turn_text v ps p)) s.setup_is step.wrote in
    record {
      preamble = ls;
      played = ps ++ p ∷ [];
      stands = step.stands;
      setup_is = setup;
      is_front = front_more old.office.core.setup ls ps line step.made s.setup_is s.is_front step.is_made;
      number_is = count_more ls ps p number s.number_is;
      read = read_turn ls ps p all left after s.read r;
      wrote = subst (λ (t : List ℕ). Gains start now t) (sym (text_more ls ps p)) (Gains-more start held now (text_at going ls ps) (turn_text U ps p) s.wrote wrote);
    }

-- the line `end` was read
pub so_far_ended : (player : PlayerState) (number : ℕ) (all left after start held : TextTold) (l : Line) → SoFar going player number all left start held → WereRead left (l ∷ []) after → l ≡ End
    → SoFar ended player (number + 1) all after start held
so_far_ended player number all left after start held l s r is =
    let ls = s.preamble in
    let ps = s.played in
    let more : lines_at going ls ps ++ l ∷ [] ≡ lines_at ended ls ps = ap (λ (x : Line). lines_at going ls ps ++ x ∷ []) is ∙ sym (lines_ended ls ps) in
    record {
      preamble = ls;
      played = ps;
      stands = s.stands;
      setup_is = s.setup_is;
      is_front = record { play = s.is_front.play; stage_fits = s.is_front.stage_fits; room = s.is_front.room };
      number_is = count_end ls ps number s.number_is;
      read = subst (λ (x : List Line). WereRead all x after) more (read_on all (lines_at going ls ps) left (l ∷ []) after s.read r);
      wrote = s.wrote;
    }

-- how it ends where no line follows, or more lines than there may be
pub events_behind : (player : PlayerState) (number : ℕ) (all left now start held : TextTold) (e : Early) → SoFar going player number all left start held → number < most_lines → EndsBehind number left now e
    → EndsEarly all now start held e
events_behind player number all left now start held e s within b =
    behind_here (going_front s.preamble s.played) number all left now start held e s.is_front s.read s.number_is within (λ k. cc) s.wrote b

pub events_past : (player : PlayerState) (number : ℕ) (all left now start held : TextTold) (e : Early) → SoFar going player number all left start held → number ≡ most_lines → EndsPast left now e
    → EndsEarly all now start held e
events_past player number all left now start held e s full b =
    past_here (going_front s.preamble s.played) all left now start held e s.is_front s.read (sym s.number_is ∙ full) (λ k. cc) s.wrote b

-- where a line follows that may not stand there
pub events_misplaced : (player : PlayerState) (number : ℕ) (all left after start held : TextTold) (l : Line) → (s : SoFar going player number all left start held) → number < most_lines
    → WereRead left (l ∷ []) after → (Takes (going_front s.preamble s.played) l → ⊥) → IfSome all (λ text. RefusedAt (number + 1) WrongPlace text start held)
events_misplaced player number all left after start held l s within r bars =
    misplaced_here (going_front s.preamble s.played) number all left after start held l s.is_front s.read s.number_is within s.wrote r bars

-- a line that is under way
way_of : (U : Setup) (ls : List Line) (ps : List Played) (line : Line) (made : List Entry) (more : List AnEvent) → U ≡ setup_of ls → IsFront (going_front ls ps) → MayCome ps line → MadeSoFar U ps line made more
    → IsUnderWay (going_front ls ps) line made more
way_of U ls ps line made more setup f may m =
    let there : MadeSoFar (setup_of ls) ps line made more = subst (λ (v : Setup). MadeSoFar v ps line made more) setup m in
    record { going_on = refl; may_come = may; events = there.events; legal = there.legal; room = there.room f.room }

line_full : (old : PlayerState) (number : ℕ) (all left after start held now : TextTold) (line : Line) (count : Fullness) → (s : SoFar going old number all left start held) → number < most_lines
    → WereRead left (line ∷ []) after → MayCome s.played line → LineFull count old.office.core.setup s.played line held now → EndsEarly all now start now (early.Full count)
line_full old number all left after start held now line count s within r may h =
    let ls = s.preamble in
    let ps = s.played in
    let found : full (setup_of ls) (journal_of ps ++ h.made) h.event ≡ Some count = subst (λ (v : Setup). full v (journal_of ps ++ h.made) h.event ≡ Some count) s.setup_is h.full in
    ends_filled (going_front ls ps) all left after start now count line h.made h.event h.more s.is_front s.read (omega (arith, within, s.number_is)) r
    (way_of old.office.core.setup ls ps line h.made (h.event ∷ h.more) s.setup_is s.is_front may h.so_far) found
    (Gains-more start held now (text_at going ls ps) (entries_text ps h.made) s.wrote h.wrote)

line_broken : (old new : PlayerState) (number : ℕ) (all left after source start held now : TextTold) (line : Line) → (s : SoFar going old number all left start held) → WereRead left (line ∷ []) after
    → IfSome after (λ text. Partly text source) → MayCome s.played line → EntriesBroken old.office.core.setup s.played line held now ⊎ LineBroken old.office.core.setup s.played line held now
    → IfSome all (λ text. Fronted text source start now)
line_broken old new number all left after source start held now line s r part may (inl h) =
    let ls = s.preamble in
    let ps = s.played in
    ends_under_way (going_front ls ps) all left after source start now line h.made h.more s.is_front s.read r part
    (way_of old.office.core.setup ls ps line h.made h.more s.setup_is s.is_front may h.so_far)
    (Gains-front-more start held now (text_at going ls ps) (entries_text ps h.made) s.wrote h.wrote)
line_broken old new number all left after source start held now line s r part may (inr h) =
    let ls = s.preamble in
    let ps = s.played in
    let p : Played = record { line = line; made = h.made } in
    let wrote : GainsFront held now (turn_text (setup_of ls) ps p) = subst (λ (v : Setup). GainsFront held now (turn_text v ps p)) s.setup_is h.wrote in
    ends_front (going_front ls (ps ++ p ∷ [])) all after source start now (front_more old.office.core.setup ls ps line h.made s.setup_is s.is_front h.is_made) (read_turn ls ps p all left after s.read r) part
    (subst (λ (t : List ℕ). GainsFront start now t) (sym (text_more ls ps p)) (Gains-front-more start held now (text_at going ls ps) (turn_text (setup_of ls) ps p) s.wrote wrote))

-- a line that may come next was played, or not whole
pub plays_turn : (old new : PlayerState) (number : ℕ) (line : Line) (held now : TextTold) (u : Unit {0}) → ((ps : List Played) → StandsBehind old ps → MayCome ps line)
    → PlaysLine old line new held now (Ok u) → TakesTurn old new line number held now (Ok Next)
plays_turn old new number line held now u may h = λ before after source r part all start s.
    so_far_more old new number all before after start held now line s r (h s.played s.stands (may s.played s.stands))

pub plays_early : (old new : PlayerState) (number : ℕ) (line : Line) (held now : TextTold) (e : Early) → number < most_lines → ((ps : List Played) → StandsBehind old ps → MayCome ps line)
    → PlaysLine old line new held now (Err e) → TakesTurn old new line number held now (Err e)
plays_early old new number line held now (early.Full count) within may h = λ before after source r part all start s.
    line_full old number all before after start held now line count s within r (may s.played s.stands) (h s.played s.stands (may s.played s.stands))
plays_early old new number line held now early.WriteFault within may h = λ before after source r part all start s.
    line_broken old new number all before after source start held now line s r part (may s.played s.stands) (h s.played s.stands (may s.played s.stands))
plays_early old new number line held now early.NoMemory within may h = λ before after source r part all start s.
    line_broken old new number all before after source start held now line s r part (may s.played s.stands) (h s.played s.stands (may s.played s.stands))
plays_early old new number line held now early.ReadFault within may h = λ before after source r part all start s. absurd (h s.played s.stands (may s.played s.stands))
plays_early old new number line held now (early.Script at cause) within may h = λ before after source r part all start s. absurd (h s.played s.stands (may s.played s.stands))

-- a line that may not come next
pub plays_not : (old new : PlayerState) (number : ℕ) (line : Line) (held : TextTold) → number < most_lines → IsNoEnd line → ((ps : List Played) → StandsBehind old ps → MayCome ps line → ⊥)
    → TakesTurn old new line number held held (Err (early.Script (number + 1) WrongPlace))
plays_not old new number line held within other bars = λ before after source r part all start s.
    events_misplaced old number all before after start held line s within r (λ t. bars s.played s.stands (take_may s.preamble s.played line other t))

-- whether a line is the end
pub at_end : (l : Line) → is_end l ≡ true → l ≡ End
at_end End e = refl
at_end (Header version) e = cc
at_end (Guid guid) e = cc
at_end (User row) e = cc
at_end (Conf text) e = cc
at_end (Action text) e = cc
at_end Go e = cc
at_end (Event x) e = cc
at_end (Link c u) e = cc
at_end (In c bytes) e = cc
at_end (Hangup c) e = cc

pub not_at_end : (l : Line) → is_end l ≡ false → IsNoEnd l
not_at_end l e h = let wrong : true ≡ false = ap is_end (sym h) ∙ e in cc

-- the end that is answered
pub gives_end : (all left before after : TextTold) (r : Result (Unit {0}) Early) → RunGives all left before after r → ReplayGives all left before after (end_of r)
gives_end all left before after (Ok u) h = h
gives_end all left before after (Err (early.Script line cause)) h = h
gives_end all left before after (Err (early.Full count)) h = h
gives_end all left before after (Err early.ReadFault) h = h
gives_end all left before after (Err early.WriteFault) h = h
gives_end all left before after (Err early.NoMemory) h = h
