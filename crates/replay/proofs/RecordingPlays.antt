-- The recording of a journal plays it.
use Rattle.std.proofs.Common.{◌≡◌, ℕ, ◌+◌, ◌≤◌, List, [], ◌∷◌, ◌++◌, length, map, refl, ap, sym, ◌∙◌, subst, arith, append-nil, Ok}
use Rattle.std.specs.List.{AllByRecursion}
use Rattle.login_conf.specs.Reading.{conf_of}
use Rattle.login_model.specs.declared.mark.Entry.{Entry}
use Rattle.login_model.specs.declared.setup.Setup.{Setup}
use Rattle.login_model.specs.declared.setup.UserRow.{UserRow}
use Rattle.login_model.specs.Legal.{IsLegal}
use Rattle.login_model.specs.Limits.{users_limit}
use Rattle.login_policy.specs.Reading.{table_of}
use Rattle.recording.specs.Cut.{cut}
use Rattle.recording.specs.Lines.{IsLine}
use Rattle.recording.specs.Recorded.{by_number, event_line, preamble_of, recording_of, recording_text, text_lines}
use Rattle.recording.specs.declared.line.Line.{Line}
use Rattle.recording.specs.declared.line.Line.TheVariants.{Header, Guid, User, Conf, Action, Go, End}
use Rattle.recording.proofs.UserOrder.{ordered-ascending, ordered-length}
use Rattle.replay.specs.Outcome.{IsRecordingText}
use Rattle.replay.specs.Played.{played_lines, journal_of}
use Rattle.replay.specs.PreambleLines.{setup_of, table_or_default, users_in, conf_in, table_in, HasTable, IsRead, IsPreamble, IsPreambleAfter}
use Rattle.replay.specs.Recorded.{in_order, IsGiven, IsRecorded, IsScript, Plays, RecordingPlays}
use Rattle.replay.specs.Recording.{recording, typed, IsNeverFull, IsPlay, most_lines}
use Rattle.replay.specs.Spelled.{spelling}
use Rattle.replay.specs.Written.{AreReadAs}
use Rattle.replay.proofs.Determined.{lines_one, one_play}
use Rattle.replay.proofs.EventsFit.{event_lines}
use Rattle.replay.proofs.OrderedUsers.{ordered_same, users_follow}
use Rattle.replay.proofs.SameUsers.{legal-same, room-same}
use Rattle.replay.proofs.SpelledLines.{cut_spelling, recording_lines, typed_journal, typed_play}
use Rattle.replay.proofs.TextLines.{users_of_users, users_of_confs, users_of_actions, conf_of_users, conf_of_text, table_of_users, table_of_confs, table_of_text}

-- lines in two
front : (xs ys : List Line) → AllByRecursion IsLine (xs ++ ys) → AllByRecursion IsLine xs
front [] ys h = tt
front (x ∷ xs) ys h = (h.0, front xs ys h.1)

back : (xs ys : List Line) → AllByRecursion IsLine (xs ++ ys) → AllByRecursion IsLine ys
back [] ys h = h
back (x ∷ xs) ys h = back xs ys h.1

-- lines of the texts follow anything
confs_follow : (before : List Line) (ls : List (List ℕ)) (rest : List Line) → AllByRecursion IsLine (map Conf ls) → ((after : List Line) → IsPreambleAfter after rest) → IsPreambleAfter before (map Conf ls ++ rest)
confs_follow before [] rest h k = k before
confs_follow before (l ∷ ls) rest h k = (h.0, tt, confs_follow (before ++ Conf l ∷ []) ls rest h.1 k)

actions_follow : (before : List Line) (ls : List (List ℕ)) → AllByRecursion IsLine (map Action ls) → IsPreambleAfter before (map Action ls)
actions_follow before [] h = tt
actions_follow before (l ∷ ls) h = (h.0, tt, actions_follow (before ++ Action l ∷ []) ls h.1)

none_before : (rows : List UserRow) → AllByRecursion (λ (r : UserRow). AllByRecursion (λ (row : UserRow). row.uid.0 ≡ r.uid.0 → ⊥) []) rows
none_before [] = tt
none_before (row ∷ rows) = (tt, none_before rows)

module _ (U : Setup) (g : IsGiven U) where
  abbrev rows : List UserRow
  rows = by_number U.users

  abbrev confs : List Line
  confs = map Conf (text_lines U.conf_text)

  abbrev actions : List Line
  actions = map Action (text_lines U.table_text)

  given_preamble : IsPreamble (preamble_of U)
  given_preamble =
      let lines = g.lines.1 in
      let texts : AllByRecursion IsLine (confs ++ actions) = back (map User rows) (confs ++ actions) lines in
      let few : 0 + length rows ≤ users_limit = omega (arith, ordered-length U.users, g.setup.most) in (
        g.lines.0,
        refl,
        users_follow (Guid U.guid ∷ []) rows (confs ++ actions) (front (map User rows) (confs ++ actions) lines) (ordered-ascending U.users g.setup.distinct) (none_before rows) few
            (confs_follow (Guid U.guid ∷ map User rows) (text_lines U.conf_text) actions (front confs actions texts)
            (λ after. actions_follow after (text_lines U.table_text) (back confs actions texts))),
      )

  users_are : users_in (preamble_of U) ≡ rows
  users_are =
      users_of_users rows (confs ++ actions)
      ∙ (ap (λ (us : List UserRow). rows ++ us) (users_of_confs (text_lines U.conf_text) actions ∙ users_of_actions (text_lines U.table_text)) ∙ append-nil rows)

  conf_is : conf_in (preamble_of U) ≡ U.conf_text
  conf_is = conf_of_users rows (confs ++ actions) ∙ conf_of_text U.conf_text (text_lines U.table_text) g.setup.conf_text

  table_is : table_in (preamble_of U) ≡ U.table_text
  table_is = table_of_users rows (confs ++ actions) ∙ (table_of_confs (text_lines U.conf_text) actions ∙ table_of_text U.table_text g.setup.table_text)

  table_read : table_of (table_in (preamble_of U)) ≡ Ok U.table
  table_read = ap table_of table_is ∙ g.table

  given_table : HasTable (preamble_of U)
  given_table = subst IsRead (sym table_read) tt

  given_setup : setup_of (preamble_of U) ≡ in_order U
  unfolding setup_of
  given_setup =
      let read_conf : conf_of (conf_in (preamble_of U)) ≡ U.conf = ap conf_of conf_is ∙ sym g.conf in
      let read_table : table_or_default (table_of (table_in (preamble_of U))) ≡ U.table = ap table_or_default table_read in
      λ i. record { guid = U.guid; users = users_are i; conf = read_conf i; conf_text = conf_is i; table = read_table i; table_text = table_is i }

  given_legal : (journal : List Entry) → IsLegal U journal → IsLegal (setup_of (preamble_of U)) journal
  given_legal journal h = subst (λ (V : Setup). IsLegal V journal) (sym given_setup) (legal-same U rows (ordered_same U.users g.setup.distinct) journal h)

  given_room : (journal : List Entry) → IsNeverFull U journal → IsNeverFull (setup_of (preamble_of U)) journal
  given_room journal h = subst (λ (V : Setup). IsNeverFull V journal) (sym given_setup) (room-same U rows (ordered_same U.users g.setup.distinct) journal h)

-- the lines of the recording
event_lines_are : (journal : List Entry) → played_lines (typed journal) ≡ map event_line journal
event_lines_are [] = refl
event_lines_are (e ∷ es) = ap (λ (ls : List Line). event_line e ∷ ls) (event_lines_are es)

lines_are : (U : Setup) (journal : List Entry) → recording (preamble_of U) (typed journal) ≡ recording_of U journal
lines_are U journal = ap (λ (ls : List Line). Header 1 ∷ (preamble_of U ++ (Go ∷ (ls ++ (End ∷ []))))) (event_lines_are journal)

text_is : (U : Setup) (journal : List Entry) → spelling (recording (preamble_of U) (typed journal)) ≡ recording_text U journal
unfolding recording_text
text_is U journal = ap spelling (lines_are U journal)

module _ (U : Setup) (journal : List Entry) (r : IsRecorded U journal) where
  play : IsPlay (preamble_of U) (typed journal)
  play = typed_play (preamble_of U) journal (record {
    preamble_is = given_preamble U r.given;
    legal = given_legal U r.given journal r.legal;
    events = event_lines U journal r.legal r.fits;
  })

  read : AreReadAs (cut (recording_text U journal)) (recording (preamble_of U) (typed journal))
  read =
      let lines = recording (preamble_of U) (typed journal) in
      subst (λ (text : List ℕ). AreReadAs (cut text) lines) (text_is U journal) (cut_spelling lines (recording_lines (preamble_of U) (typed journal) play))

  within : length (recording (preamble_of U) (typed journal)) ≤ most_lines
  within = subst (λ (ls : List Line). length ls ≤ most_lines) (sym (lines_are U journal)) r.within

  script : IsScript (recording_text U journal)
  script = record { preamble = preamble_of U; played = typed journal; play = play; table = given_table U r.given; read = read; within = within }

  only : (other : IsScript (recording_text U journal)) → journal_of other.played ≡ journal
  only other =
      let lines = lines_one (cut (recording_text U journal)) (recording other.preamble other.played) (recording (preamble_of U) (typed journal)) other.read read in
      let one = one_play other.preamble (preamble_of U) other.played (typed journal) other.play play lines in
      ap journal_of one.played ∙ typed_journal journal

  plays_it : Plays U journal (recording_text U journal)
  unfolding script
  plays_it = record { script = script; setup_is = given_setup U r.given; journal_is = typed_journal journal; no_other = only }

  replays_it : IsNeverFull U journal → IsRecordingText (recording_text U journal)
  replays_it room = record {
    preamble = preamble_of U;
    played = typed journal;
    play = play;
    table = given_table U r.given;
    room = subst (IsNeverFull (setup_of (preamble_of U))) (sym (typed_journal journal)) (given_room U r.given journal room);
    read = read;
    within = within;
  }

pub recording_plays : RecordingPlays
recording_plays = record { plays = plays_it; replays = replays_it }
