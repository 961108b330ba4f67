-- Recordings that are spelled line by line are read as them.
use Rattle.std.proofs.Common.{◌≡◌, ℕ, List, [], ◌∷◌, ◌++◌, map, refl, ap, sym, ◌∙◌, subst, append-nil, None}
use Rattle.std.specs.List.{AllByRecursion}
use Rattle.std.proofs.lemmas.List.{map-append}
use Rattle.login_base.specs.declared.ids.ConnId.{ConnId}
use Rattle.login_model.specs.declared.event.Event.{Event as AnEvent}
use Rattle.login_model.specs.declared.event.Event.TheVariants as event
use Rattle.login_model.specs.declared.mark.Entry.{Entry}
use Rattle.login_model.specs.declared.setup.Setup.{Setup}
use Rattle.login_model.specs.Legal.{IsLegal, IsLegalAfter, IsPlaced}
use Rattle.recording.specs.declared.line.Line.{Line}
use Rattle.recording.specs.Cut.{cut}
use Rattle.recording.specs.Lines.{spell, IsLine, IsEventLine}
use Rattle.recording.proofs.Spellings.{line_reads}
use Rattle.replay.specs.Written.{AreReadAs, joined}
use Rattle.replay.specs.Links.{link_user}
use Rattle.replay.specs.Played.{Played, played_lines, journal_of}
use Rattle.replay.specs.PreambleLines.{setup_of, IsPreambleAfter}
use Rattle.replay.specs.Recording.{recording, typed, typed_entry, AreTurnsAfter, IsNeverFull, IsOfNoLink, IsPlay}
use Rattle.replay.specs.Spelled.{spelling, IsTyped, SpelledIsRecording}
use Rattle.replay.proofs.PlayedLines.{are_lines}
use Rattle.replay.proofs.Written.{cut_joined}

abbrev AreLines : List Line → Type 0
AreLines lines = AllByRecursion IsLine lines

lines_append : (xs ys : List Line) → AreLines xs → AreLines ys → AreLines (xs ++ ys)
lines_append [] ys h k = k
lines_append (x ∷ xs) ys h k = (h.0, lines_append xs ys h.1 k)

preamble_lines : (before ls : List Line) → IsPreambleAfter before ls → AreLines ls
preamble_lines before [] h = tt
preamble_lines before (l ∷ ls) h = (h.0, preamble_lines (before ++ l ∷ []) ls h.2)

pub recording_lines : (ls : List Line) (ps : List Played) → IsPlay ls ps → AreLines (recording ls ps)
recording_lines ls ps p =
    (refl, lines_append ls _ (preamble_lines [] ls p.preamble_is) (tt, lines_append (played_lines ps) _ (are_lines (setup_of ls) [] ps p.turns) (tt, tt)))

spelled_read : (ls : List Line) → AreLines ls → AreReadAs (map spell ls) ls
spelled_read [] h = tt
spelled_read (l ∷ ls) h = (line_reads l h.0, spelled_read ls h.1)

spelling_joined : (ls : List Line) → joined (map spell ls) ≡ spelling ls
spelling_joined [] = refl
spelling_joined (l ∷ ls) = ap (λ (t : List ℕ). spell l ++ t) (spelling_joined ls)

pub cut_spelling : (ls : List Line) → AreLines ls → AreReadAs (cut (spelling ls)) ls
cut_spelling ls h =
    let read = spelled_read ls h in
    let whole : joined (map spell ls) ++ [] ≡ spelling ls = append-nil (joined (map spell ls)) ∙ spelling_joined ls in
    let pieces : cut (spelling ls) ≡ map spell ls = ap cut (sym whole) ∙ (cut_joined (map spell ls) ls [] read ∙ append-nil (map spell ls)) in
    subst (λ (a : List (List ℕ)). AreReadAs a ls) (sym pieces) read

-- events that have a line each
pub typed_journal : (es : List Entry) → journal_of (typed es) ≡ es
typed_journal [] = refl
typed_journal (e ∷ es) = ap (λ (v : List Entry). e ∷ v) (typed_journal es)

typed_no_link : (es : List Entry) (c : ConnId) → link_user (played_lines (typed es)) c ≡ None
typed_no_link [] c = refl
typed_no_link (e ∷ es) c = typed_no_link es c

typed_of_no_link : (es : List Entry) (e : AnEvent) → IsOfNoLink (played_lines (typed es)) e
typed_of_no_link es (event.Connect c u) = typed_no_link es c
typed_of_no_link es (event.Disconnect c) = typed_no_link es c
typed_of_no_link es (event.Call r) = tt
typed_of_no_link es (event.Hardware x) = tt
typed_of_no_link es (event.Tick m) = tt
typed_of_no_link es event.Stop = tt

typed_turns : (U : Setup) (before es : List Entry) → IsLegalAfter U before es → AllByRecursion (λ (e : Entry). IsEventLine e.event) es → AreTurnsAfter U (typed before) (typed es)
typed_turns U before [] h l = tt
typed_turns U before (e ∷ es) h l =
    let placed : IsPlaced (journal_of (typed before)) e.event = subst (λ (v : List Entry). IsPlaced v e.event) (sym (typed_journal before)) h.0.placed in
    let behind : AreTurnsAfter U (typed (before ++ e ∷ [])) (typed es) = typed_turns U (before ++ e ∷ []) es h.1 l.1 in (
      record { line_is = l.0; may_come = (placed, typed_of_no_link before e.event); events = refl },
      subst (λ (v : List Played). AreTurnsAfter U v (typed es)) (map-append typed_entry before (e ∷ [])) behind,
    )

pub typed_play : (ls : List Line) (es : List Entry) → IsTyped ls es → IsPlay ls (typed es)
typed_play ls es t = record {
  preamble_is = t.preamble_is;
  turns = typed_turns (setup_of ls) [] es t.legal t.events;
  legal = subst (IsLegal (setup_of ls)) (sym (typed_journal es)) t.legal;
}

pub spelled_recording : SpelledIsRecording
spelled_recording ls es t table room within =
    let play = typed_play ls es t in
    record {
      recorded = record {
        preamble = ls;
        played = typed es;
        play = play;
        table = table;
        room = subst (IsNeverFull (setup_of ls)) (sym (typed_journal es)) room;
        read = cut_spelling (recording ls (typed es)) (recording_lines ls (typed es) play);
        within = within;
      };
      plays = typed_journal es;
    }
