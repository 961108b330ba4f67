-- The parts of a recording, and the lines that they are of.
use Rattle.std.proofs.Common.{◌≡◌, ℕ, ◌+◌, ◌-◌, ◌<◌, ◌≤◌, drop, take, get_or, eqb, List, [], ◌∷◌, ◌++◌, length, map, codes, refl, ap, sym, ◌∙◌, arith, append_assoc, append-nil, Result, Ok, Err, IfOk}
use Rattle.std.specs.Fmt.{decimal}
use Rattle.std.specs.List.{count_by, flat_map, join_with_byte, slice_split}
use Rattle.std.proofs.lemmas.Grind.{flat_map-append}
use Rattle.std.proofs.lemmas.List.{drop_all, drop_more, take_all}
use Rattle.std.proofs.lemmas.List.Splits.{length-slice_split}
use Rattle.login_model.specs.declared.event.Event.{Event}
use Rattle.login_model.specs.declared.mark.Entry.{Entry}
use Rattle.login_model.specs.declared.setup.Setup.{Setup}
use Rattle.login_model.specs.declared.setup.UserRow.{UserRow}
use Rattle.recording.specs.EventSpelling.{event_words}
use Rattle.recording.specs.Lines.{spell}
use Rattle.recording.specs.Recorded.{but_last, by_number, event_line, preamble_of, recording_text, text_lines}
use Rattle.recording.specs.Text.{spell_text}
use Rattle.recording.specs.declared.line.Line.{Line}
use Rattle.recording.specs.declared.line.Line.TheVariants.{Header, Guid, User, Conf, Action, Go, Event as EventLine, End}
use Rattle.recording.specs.declared.recorded.RawText.{RawText}
use Rattle.recording.specs.declared.recorded.RawText.TheVariants as raw
use Rattle.recording.specs.inner.Parts.{events_text, front_text, line_of, lines_text, setup_text, users_text, word_text}
use Rattle.login_model.specs.inner.Prefixed.{spaced}
use Rattle.recording.proofs.Arguments.{decimal_one}
use Rattle.recording.proofs.Printed.{join_with_byte-spaced}
use Rattle.recording.proofs.Spellings.{event_some}
use Rattle.recording.proofs.UserOrder.{above}

-- a line of four words
in_four : (a b c d n : List ℕ) → (((a ++ b) ++ c) ++ d) ++ n ≡ (a ++ (b ++ (c ++ d))) ++ n
in_four a b c d n = simp append_assoc

four_words : (a b c d : List ℕ) → (((a ++ 32 ∷ b) ++ 32 ∷ c) ++ 32 ∷ d) ++ 10 ∷ [] ≡ join_with_byte 32 (a ∷ b ∷ c ∷ d ∷ []) ++ 10 ∷ []
four_words a b c d = in_four a (32 ∷ b) (32 ∷ c) (32 ∷ d) (10 ∷ [])

pub user_line : (row : UserRow) → (((codes "user" ++ 32 ∷ decimal row.uid.0) ++ 32 ∷ decimal row.gid) ++ 32 ∷ spell_text row.name) ++ 10 ∷ [] ≡ spell (User row)
user_line row = four_words (codes "user") (decimal row.uid.0) (decimal row.gid) (spell_text row.name)

-- words with a space before each are a line behind a space
spaced_line : (ws : List (List ℕ)) → 0 < length ws → spaced ws ++ 10 ∷ [] ≡ 32 ∷ (join_with_byte 32 ws ++ 10 ∷ [])
spaced_line [] h = absurd (omega (arith, h))
spaced_line (w ∷ ws) h = ap (λ (t : List ℕ). 32 ∷ (t ++ 10 ∷ [])) (sym (join_with_byte-spaced w ws))

pub event_spaced : (e : Event) → spaced (event_words e) ++ 10 ∷ [] ≡ 32 ∷ spell (EventLine e)
event_spaced e = spaced_line (event_words e) (event_some e)

-- what stands behind the space
pub behind_first : (text line : List ℕ) (b : ℕ) → text ≡ b ∷ line → take (length text - 1) (drop 1 text) ≡ line
behind_first text line b e = ap (λ (t : List ℕ). take (length t - 1) (drop 1 t)) e ∙ take_all (length (b ∷ line) - 1) line (omega arith)

-- lines of a text
pub conf_some : (line : List ℕ) → 0 < length line → word_text (codes "conf") line ≡ spell (Conf line)
conf_some [] h = absurd (omega (arith, h))
conf_some (b ∷ bs) h = refl

pub conf_none : (line : List ℕ) → length line ≡ 0 → codes "conf" ++ 10 ∷ [] ≡ spell (Conf line)
conf_none [] h = refl
conf_none (b ∷ bs) h = absurd (omega (arith, h))

pub action_word : (line : List ℕ) → word_text (codes "action") line ≡ spell (Action line)
action_word line = refl

-- the first line of a text
but_last-more : (line : List ℕ) (parts : List (List ℕ)) (n : ℕ) → length parts ≡ n + 1 → but_last (line ∷ parts) ≡ line ∷ but_last parts
but_last-more line [] n e = absurd (omega (arith, e))
but_last-more line (next ∷ more) n e = refl

pub lines_more : (rest line behind : List ℕ) → slice_split (λ b. eqb b 10) rest ≡ line ∷ slice_split (λ b. eqb b 10) behind → text_lines rest ≡ line ∷ text_lines behind
unfolding text_lines
lines_more rest line behind e =
    ap but_last e ∙ but_last-more line (slice_split (λ b. eqb b 10) behind) (count_by (λ b. eqb b 10) behind) (length-slice_split (λ b. eqb b 10) behind)

pub text_more : (t : RawText) (rest line behind : List ℕ) → slice_split (λ b. eqb b 10) rest ≡ line ∷ slice_split (λ b. eqb b 10) behind
    → lines_text t rest ≡ spell (line_of t line) ++ lines_text t behind
unfolding lines_text
text_more t rest line behind e = ap (λ (ls : List (List ℕ)). flat_map spell (map (line_of t) ls)) (lines_more rest line behind e)

pub text_done : (t : RawText) (rest : List ℕ) → slice_split (λ b. eqb b 10) rest ≡ rest ∷ [] → lines_text t rest ≡ []
unfolding lines_text text_lines
text_done t rest e = ap (λ (parts : List (List ℕ)). flat_map spell (map (line_of t) (but_last parts))) e

-- the users above a number
unfoldable pub users_above : ℕ → List UserRow → List ℕ
users_above last rows = flat_map spell (map User (above last (by_number rows)))

pub users_more : (last : ℕ) (rows : List UserRow) (x : UserRow) → above last (by_number rows) ≡ x ∷ above x.uid.0 (by_number rows)
    → users_above last rows ≡ spell (User x) ++ users_above x.uid.0 rows
unfolding users_above
users_more last rows x e = ap (λ (us : List UserRow). flat_map spell (map User us)) e

pub users_done : (last : ℕ) (rows : List UserRow) → above last (by_number rows) ≡ [] → users_above last rows ≡ []
unfolding users_above
users_done last rows e = ap (λ (us : List UserRow). flat_map spell (map User us)) e

pub users_all : (rows : List UserRow) → above 0 (by_number rows) ≡ by_number rows → users_above 0 rows ≡ users_text rows
unfolding users_above users_text
users_all rows e = ap (λ (us : List UserRow). flat_map spell (map User us)) e

-- the events
events_more : (e : Entry) (es : List Entry) → events_text (e ∷ es) ≡ spell (EventLine e.event) ++ events_text es
unfolding events_text
events_more e es = refl

events_none : events_text [] ≡ []
unfolding events_text
events_none = refl

-- from the entry at a place on
pub events_here : (i : ℕ) (es : List Entry) (e : Entry) → i < length es → e ≡ get_or es i e → events_text (drop i es) ≡ spell (EventLine e.event) ++ events_text (drop (i + 1) es)
events_here i es e h is =
    let rest : drop i es ≡ e ∷ drop (i + 1) es = drop_more es i e h ∙ ap (λ (x : Entry). x ∷ drop (i + 1) es) (sym is) in
    ap events_text rest ∙ events_more e (drop (i + 1) es)

pub events_done : (i : ℕ) (es : List Entry) → length es ≤ i → events_text (drop i es) ≡ []
events_done i es h = ap events_text (drop_all i es h) ∙ events_none

-- the first line, and the word of the second
abbrev pub front_words : List ℕ
front_words = codes "login-recording 1" ++ 10 ∷ codes "guid "

header_is : spell (Header 1) ≡ codes "login-recording 1" ++ 10 ∷ []
header_is = ap (λ (number : List ℕ). (codes "login-recording" ++ 32 ∷ number) ++ 10 ∷ []) decimal_one

-- the whole
pub front_parts : (guid : List ℕ) → front_words ++ (guid ++ 10 ∷ []) ≡ front_text guid
unfolding front_text
front_parts guid = ap (λ (t : List ℕ). t ++ spell (Guid guid)) (sym header_is)

pub setup_parts : (U : Setup) → front_text U.guid ++ (users_text U.users ++ (lines_text raw.Conf U.conf_text ++ lines_text raw.Table U.table_text)) ≡ setup_text U
unfolding setup_text
setup_parts U = refl

regroup : (h g u c a go e end : List ℕ) → h ++ ((g ++ (u ++ (c ++ a))) ++ (go ++ (e ++ end))) ≡ ((h ++ g) ++ (u ++ (c ++ a))) ++ (go ++ (e ++ end))
regroup h g u c a go e end = simp append_assoc

pub recording_parts : (U : Setup) (journal : List Entry) → setup_text U ++ (spell Go ++ (events_text journal ++ spell End)) ≡ recording_text U journal
unfolding recording_text setup_text front_text users_text lines_text events_text
recording_parts U journal =
    let us : List Line = map User (by_number U.users) in
    let cs : List Line = map Conf (text_lines U.conf_text) in
    let rows : List Line = map Action (text_lines U.table_text) in
    let es : List Line = map event_line journal in
    let confs : flat_map spell (cs ++ rows) ≡ flat_map spell cs ++ flat_map spell rows = flat_map-append spell cs rows in
    let users : flat_map spell (us ++ (cs ++ rows)) ≡ flat_map spell us ++ (flat_map spell cs ++ flat_map spell rows)
    = flat_map-append spell us (cs ++ rows) ∙ ap (λ (t : List ℕ). flat_map spell us ++ t) confs in
    let events : flat_map spell (es ++ (End ∷ [])) ≡ flat_map spell es ++ spell End
    = flat_map-append spell es (End ∷ []) ∙ ap (λ (t : List ℕ). flat_map spell es ++ t) (append-nil (spell End)) in
    let lines : flat_map spell (preamble_of U ++ (Go ∷ (es ++ (End ∷ []))))
    ≡ (spell (Guid U.guid) ++ (flat_map spell us ++ (flat_map spell cs ++ flat_map spell rows))) ++ (spell Go ++ (flat_map spell es ++ spell End))
    = flat_map-append spell (preamble_of U) (Go ∷ (es ++ (End ∷ [])))
    ∙ (ap (λ (t : List ℕ). (spell (Guid U.guid) ++ t) ++ (spell Go ++ flat_map spell (es ++ (End ∷ [])))) users
    ∙ ap (λ (t : List ℕ). (spell (Guid U.guid) ++ (flat_map spell us ++ (flat_map spell cs ++ flat_map spell rows))) ++ (spell Go ++ t)) events) in
    sym (ap (λ (t : List ℕ). spell (Header 1) ++ t) lines
    ∙ regroup (spell (Header 1)) (spell (Guid U.guid)) (flat_map spell us) (flat_map spell cs) (flat_map spell rows) (spell Go) (flat_map spell es) (spell End))

-- the text of a call whose answer is handed on
pub same_ok : {E : Type 0} (r : Result (List ℕ) E) (x y : List ℕ) → IfOk r (λ w. w ≡ x) → x ≡ y → IfOk r (λ w. w ≡ y)
same_ok (Ok w) x y h e = h ∙ e
same_ok (Err f) x y h e = tt
