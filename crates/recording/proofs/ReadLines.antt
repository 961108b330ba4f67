-- The words of a line say the line, and nothing else; they say none exactly where they have a fault.
use Rattle.std.proofs.Common.{◌≡◌, ℕ, ℤ, ◌<◌, ◌≤◌, ◌^◌, List, [], ◌∷◌, ◌++◌, length, length-append, refl, ap, sym, ◌∙◌, subst, codes, Bool, true, false, eqb, cond, Option, Some, None, arith}
use Rattle.std.specs.Fmt.{decimal}
use Rattle.std.specs.List.{slice_split, join_with_byte, AllByRecursion}
use Rattle.std.specs.Option.{option_and_then, option_map}
use Rattle.std.specs.Str.{bytes_eq}
use Rattle.std.proofs.lemmas.Bool.Decides.{nat_tests}
use Rattle.std.proofs.lemmas.List.Elements.{All-from_recursion}
use Rattle.std.proofs.lemmas.List.Splits.{slice_split_at, join_with_byte-slice_split}
use Rattle.login_base.specs.declared.ids.Uid.{Uid}
use Rattle.login_base.specs.declared.ids.ConnId.{ConnId}
use Rattle.login_base.specs.declared.ids.DevNo.{DevNo}
use Rattle.login_base.specs.declared.ids.Millis.{Millis}
use Rattle.login_model.specs.declared.hardware.DevKind.{DevKind}
use Rattle.login_model.specs.declared.hardware.Hardware.{Hardware}
use Rattle.login_model.specs.declared.hardware.Hardware.TheVariants.{Add, Remove, Input, VtKey, Key, Dock, Exit, JobDone}
use Rattle.login_model.specs.declared.call.Call.{Call}
use Rattle.login_model.specs.declared.event.Event.{Event}
use Rattle.login_model.specs.declared.event.Event.TheVariants.{Connect, Disconnect, Call as Calls, Hardware as Happens, Tick, Stop}
use Rattle.login_model.specs.Texts.{IsText, texts}
use Rattle.recording.specs.declared.argument.WordKind.{WordKind}
use Rattle.recording.specs.declared.argument.WordKind.TheVariants as kind
use Rattle.recording.specs.declared.argument.Positive.{Positive}
use Rattle.recording.specs.declared.argument.UserName.{UserName}
use Rattle.recording.specs.declared.argument.SessionName.{SessionName}
use Rattle.recording.specs.declared.argument.Version.{Version}
use Rattle.recording.specs.declared.argument.Guid.{Guid}
use Rattle.recording.specs.declared.line.Line.{Line}
use Rattle.recording.specs.declared.line.Line.TheVariants.{Header, Guid as GuidLine, User, Conf, Action, Go, Event as EventLine, Link, In, Hangup, End}
use Rattle.recording.specs.declared.line.LineFault.{LineFault}
use Rattle.recording.specs.Bytes.{AreRaw}
use Rattle.recording.specs.Text.{spell_text}
use Rattle.recording.specs.Hex.{is_guid}
use Rattle.recording.specs.Calls.{call_words, FitsCall}
use Rattle.recording.specs.EventSpelling.{request_word, hardware_words, event_words, IsWrittenEvent}
use Rattle.recording.specs.Lines.{fields, IsWritten, Spells, plain, empty}
use Rattle.recording.specs.Shapes.{behind_in, line_shapes, event_shapes, hardware_shapes, link_shapes}
use Rattle.recording.specs.Causes.{first_fault, end_fault, call_fault, words_fault}
use Rattle.recording.specs.inner.Arguments.{single, pair_of, made, whole, name_of, version_of, connection_id}
use Rattle.login_base.specs.Number.{whole_of}
use Rattle.recording.specs.inner.Words.{guid_of}
use Rattle.recording.specs.inner.CallReadings.{call_of}
use Rattle.recording.specs.inner.LineReadings.{above_nought, millis, user_name as as_user_name, session_name as as_session_name, version as as_version, identity as as_identity, positives, connections, link_line_of, hardware_line_of, event_line_of, action_of, known_line_of, request, request_of, line_of}
use Rattle.recording.proofs.Chains.{mapped, by_word, with_rest}
use Rattle.recording.proofs.Arguments.{has_some, Agrees, IsReading, pair_reading, made_reading, read_again, number, flag, signed, positive, small, moment, device_kind, key, seat, guid, hex, user_name, session_name, version, RowIs, own_row, row, alone_row, no_row, mapped_agrees}
use Rattle.recording.proofs.Calls.{user, device, call_of_is, call_of-words, call_agrees}

-- a line and the words of its text: the text is the line's, if it is not too long, and the line's values
-- are in their bounds, if the text is one of a line's bytes that these words are cut from
pub record LineIs (line : Line) (words : List (List ℕ)) : Type 0 where
  pub spells : length (join_with_byte 32 words) ≤ 16384 → Spells line (join_with_byte 32 words ++ 10 ∷ [])
  pub written : AreRaw (join_with_byte 32 words) → slice_split (λ b. eqb b 32) (join_with_byte 32 words) ≡ words → IsWritten line

-- a text is that of the line whose fields it joins
plainly : (line : Line) (text : List ℕ) → text ≡ join_with_byte 32 (fields line) → length text ≤ 16384 → Spells line (text ++ 10 ∷ [])
plainly line text e short =
    let fits : length (join_with_byte 32 (fields line)) ≤ 16384 = omega (arith, short, ap length e) in
    subst (λ (t : List ℕ). Spells line (t ++ 10 ∷ [])) (sym e) (plain line (omega (arith, fits, length-append (join_with_byte 32 (fields line)) (10 ∷ []))))

-- words that are the line's fields
fielded : (line : Line) (words : List (List ℕ)) → words ≡ fields line → IsWritten line → LineIs line words
fielded line words e w = record { spells = plainly line (join_with_byte 32 words) (ap (join_with_byte 32) e); written = λ bytes cut. w }

conf_is : (words : List (List ℕ)) (text : List ℕ) → join_with_byte 32 words ≡ text → LineIs (Conf text) (codes "conf" ∷ words)
conf_is [] text e =
    let none : [] ≡ text = e in
    subst (λ (t : List ℕ). LineIs (Conf t) (codes "conf" ∷ [])) none (fielded (Conf []) (codes "conf" ∷ []) refl tt)
conf_is (w ∷ ws) text e = record { spells = by text e; written = λ bytes cut. subst AreRaw e bytes.1.1.1.1.1 }
  where
    by : (t : List ℕ) → join_with_byte 32 (w ∷ ws) ≡ t → length (join_with_byte 32 (codes "conf" ∷ w ∷ ws)) ≤ 16384 → Spells (Conf t) (join_with_byte 32 (codes "conf" ∷ w ∷ ws) ++ 10 ∷ [])
    by [] f short = subst (λ (t : List ℕ). Spells (Conf []) ((codes "conf " ++ t) ++ 10 ∷ [])) (sym f) empty
    by (b ∷ bs) f short = plainly (Conf (b ∷ bs)) (join_with_byte 32 (codes "conf" ∷ w ∷ ws)) (ap (λ (t : List ℕ). codes "conf " ++ t) f) short

conf_of_is : (words : List (List ℕ)) (line : Line) → Some (Conf (join_with_byte 32 words)) ≡ Some line → LineIs line (codes "conf" ∷ words)
conf_of_is words line e =
    let same : Conf (join_with_byte 32 words) ≡ line = cc in
    subst (λ (l : Line). LineIs l (codes "conf" ∷ words)) same (conf_is words (join_with_byte 32 words) refl)

no_space_conf : AllByRecursion (λ b. eqb b 32 ≡ false) (codes "conf")
no_space_conf = (refl, (refl, (refl, (refl, tt))))

no_space_action : AllByRecursion (λ b. eqb b 32 ≡ false) (codes "action")
no_space_action = (refl, (refl, (refl, (refl, (refl, (refl, tt))))))

-- what stands behind the first word and its space
pub behind_conf : (text : List ℕ) → slice_split (λ b. eqb b 32) (codes "conf " ++ text) ≡ codes "conf" ∷ slice_split (λ b. eqb b 32) text
behind_conf text = slice_split_at (λ b. eqb b 32) (codes "conf") 32 text (All-from_recursion (λ b. eqb b 32 ≡ false) (codes "conf") no_space_conf) refl

pub behind_action : (text : List ℕ) → slice_split (λ b. eqb b 32) (codes "action " ++ text) ≡ codes "action" ∷ slice_split (λ b. eqb b 32) text
behind_action text = slice_split_at (λ b. eqb b 32) (codes "action") 32 text (All-from_recursion (λ b. eqb b 32 ≡ false) (codes "action") no_space_action) refl

rest_same : {A : Type 0} (x y : A) (xs ys : List A) → x ∷ xs ≡ y ∷ ys → xs ≡ ys
rest_same x y xs ys e = cc

action_of_is : (words : List (List ℕ)) (line : Line) → action_of words ≡ Some line → LineIs line (codes "action" ∷ words)
action_of_is [] line e = cc
action_of_is (w ∷ ws) line e = by (eqb (length (w ∷ ws)) 4) refl e
  where
    text : List ℕ
    text = join_with_byte 32 (w ∷ ws)

    four : (n : ℕ) → eqb n 4 ≡ true → n ≡ 4
    four n h = grind (arith, nat_tests)

    action : length (w ∷ ws) ≡ 4 → LineIs (Action text) (codes "action" ∷ w ∷ ws)
    action count = record {
      spells = plainly (Action text) (join_with_byte 32 (codes "action" ∷ w ∷ ws)) refl;
      written = λ bytes cut.
          let parts = rest_same (codes "action") (codes "action") (slice_split (λ b. eqb b 32) text) (w ∷ ws) (sym (behind_action text) ∙ cut) in
          (bytes.1.1.1.1.1.1.1, ap length parts ∙ count);
    }

    by : (x : Bool) → eqb (length (w ∷ ws)) 4 ≡ x → cond x (Some (Action text)) None ≡ Some line → LineIs line (codes "action" ∷ w ∷ ws)
    by true h f = let same : Action text ≡ line = cc in subst (λ (l : Line). LineIs l (codes "action" ∷ w ∷ ws)) same (action (four (length (w ∷ ws)) h))
    by false h f = cc

-- readings of values that are made of others
connection : IsReading (kind.Positive ∷ []) connections (λ c. decimal c.0 ∷ []) (λ c. (0 < c.0) × (c.0 < 2 ^ 32))
connection = made_reading positive connection_id (λ c. c.0) (λ x. refl) (λ y. refl)

serial : IsReading (kind.Positive ∷ []) positives (λ p. decimal p.0 ∷ []) (λ p. (0 < p.0) × (p.0 < 2 ^ 32))
serial = made_reading positive above_nought (λ p. p.0) (λ x. refl) (λ y. refl)

caller : IsReading (kind.Positive ∷ kind.Positive ∷ []) (pair_of connections positives) (λ x. decimal x.0.0 ∷ decimal x.1.0 ∷ []) (λ x. ((0 < x.0.0) × (x.0.0 < 2 ^ 32)) × ((0 < x.1.0) × (x.1.0 < 2 ^ 32)))
caller = pair_reading connection serial

tick : IsReading (kind.Moment ∷ []) (made millis (single whole_of)) (λ m. decimal m.0 ∷ []) (λ m. m.0 < 2 ^ 64)
tick = made_reading moment millis (λ m. m.0) (λ x. refl) (λ y. refl)

ended : IsReading (kind.SessionId ∷ []) (made as_session_name (single (name_of 512))) (λ x. spell_text x.0 ∷ []) (λ x. IsText 512 x.0)
ended = made_reading session_name as_session_name (λ x. x.0) (λ x. refl) (λ y. refl)

named : IsReading (kind.UserName ∷ []) (made as_user_name (single (name_of 255))) (λ x. spell_text x.0 ∷ []) (λ x. IsText 255 x.0)
named = made_reading user_name as_user_name (λ x. x.0) (λ x. refl) (λ y. refl)

form : IsReading (kind.Version ∷ []) (made as_version (single version_of)) (λ x. decimal x.0 ∷ []) (λ x. x.0 ≡ 1)
form = made_reading version as_version (λ x. x.0) (λ x. refl) (λ y. refl)

identity : IsReading (kind.Guid ∷ []) (made as_identity (single guid_of)) (λ x. x.0 ∷ []) (λ x. is_guid x.0 ≡ true)
identity = made_reading guid as_identity (λ x. x.0) (λ x. refl) (λ y. refl)

-- a line whose word is this one, or another
line_row : {V : Type 0} {kinds : List WordKind} {of : List (List ℕ) → Option (V × List (List ℕ))} {s : V → List (List ℕ)} {F : V → Type 0} {o : Option Line} {ks : Option (List WordKind)}
    (make : V → Line) (reading : IsReading kinds of s F) (word first : List ℕ) (words : List (List ℕ)) → ((x : V) → fields (make x) ≡ first ∷ s x) → ((x : V) → F x → IsWritten (make x))
    → RowIs LineIs word words o ks → RowIs LineIs word words (cond (bytes_eq word first) (option_map make (whole (of words))) o) (cond (bytes_eq word first) (Some kinds) ks)
line_row {s = s} make reading word first words spelled fits others =
    row LineIs make reading word first words (λ x f a. fielded (make x) (first ∷ s x) (sym (spelled x)) (fits x f)) others

link_line : (word : List ℕ) (words : List (List ℕ)) → RowIs LineIs word words (link_line_of word words) (behind_in word link_shapes)
unfolding link_line_of
link_line word words =
    line_row (λ (x : ConnId × Uid). Link x.0 x.1) (pair_reading connection user) word (codes "link") words (λ x. refl) (λ x f. (f.0.0, f.0.1, f.1)) (
    line_row (λ (x : ConnId × List ℕ). In x.0 x.1) (pair_reading connection hex) word (codes "in") words (λ x. refl) (λ x f. (f.0.0, f.0.1, f.1.0, f.1.1)) (
    line_row Hangup connection word (codes "hangup") words (λ x. refl) (λ x f. f) (
    alone_row LineIs End word (codes "end") words (fielded End (codes "end" ∷ []) refl tt) (
    no_row LineIs word words))))

hardware_line : (word : List ℕ) (words : List (List ℕ)) → RowIs LineIs word words (hardware_line_of word words) (behind_in word hardware_shapes)
unfolding hardware_line_of event_words hardware_words
hardware_line word words =
    line_row (λ (x : DevNo × (DevKind × List ℕ)). EventLine (Happens (Add x.0 x.1.0 x.1.1))) (pair_reading device (pair_reading device_kind seat)) word (codes "add") words (λ x. refl) (λ x f. (f.0, f.1.1)) (
    line_row (λ (x : DevNo). EventLine (Happens (Remove x))) device word (codes "remove") words (λ x. refl) (λ x f. f) (
    line_row (λ (x : DevNo × (ℕ × (ℕ × ℤ))). EventLine (Happens (Input x.0 x.1.0 x.1.1.0 x.1.1.1))) (pair_reading device (pair_reading small (pair_reading small signed))) word (codes "input") words (λ x. refl) (λ x f. (f.0, f.1.0, f.1.1.0, f.1.1.1)) (
    line_row (λ (x : ℕ). EventLine (Happens (VtKey x))) number word (codes "vtkey") words (λ x. refl) (λ x f. f) (
    line_row (λ x. EventLine (Happens (Key x))) key word (codes "key") words (λ x. refl) (λ x f. tt) (
    line_row (λ (x : Bool). EventLine (Happens (Dock x))) flag word (codes "dock") words (λ x. refl) (λ x f. tt) (
    line_row (λ (x : SessionName). EventLine (Happens (Exit x.0))) ended word (codes "exit") words (λ x. refl) (λ x f. f) (
    alone_row LineIs (EventLine (Happens JobDone)) word (codes "jobdone") words (fielded (EventLine (Happens JobDone)) (codes "jobdone" ∷ []) refl tt) (
    link_line word words))))))))

event_line : (word : List ℕ) (words : List (List ℕ)) → RowIs LineIs word words (event_line_of word words) (behind_in word event_shapes)
unfolding event_line_of event_words
event_line word words =
    line_row (λ (x : ConnId × Uid). EventLine (Connect x.0 x.1)) (pair_reading connection user) word (codes "connect") words (λ x. refl) (λ x f. (f.0.0, f.0.1, f.1)) (
    line_row (λ (x : ConnId). EventLine (Disconnect x)) connection word (codes "disconnect") words (λ x. refl) (λ x f. f) (
    line_row (λ (x : Millis). EventLine (Tick x)) tick word (codes "tick") words (λ x. refl) (λ x f. f) (
    alone_row LineIs (EventLine Stop) word (codes "stop") words (fielded (EventLine Stop) (codes "stop" ∷ []) refl tt) (
    hardware_line word words))))

action_agrees : (words : List (List ℕ)) → Agrees (action_of words) (first_fault (kind.Anything ∷ kind.Anything ∷ kind.Anything ∷ kind.Anything ∷ []) end_fault words)
action_agrees (a ∷ b ∷ c ∷ d ∷ e ∷ words) = let many : eqb (length (a ∷ b ∷ c ∷ d ∷ e ∷ words)) 4 ≡ false = grind (arith, nat_tests) in rw many (record { is_so = refl })
action_agrees [] = record { is_so = refl }
action_agrees (a ∷ []) = record { is_so = refl }
action_agrees (a ∷ b ∷ []) = record { is_so = refl }
action_agrees (a ∷ b ∷ c ∷ []) = record { is_so = refl }
action_agrees (a ∷ b ∷ c ∷ d ∷ []) = record { is_so = refl }

abbrev user_line : Positive × (ℕ × UserName) → Line
user_line x = User (record { uid = record { 0 = x.0.0 }; gid = x.1.0; name = x.1.1.0 })

known_line : (word : List ℕ) (words : List (List ℕ)) → RowIs LineIs word words (known_line_of word words) (behind_in word line_shapes)
unfolding known_line_of
known_line word words =
    line_row (λ (x : Version). Header x.0) form word (codes "login-recording") words (λ x. refl) (λ x f. f) (
    line_row (λ (x : Guid). GuidLine x.0) identity word (codes "guid") words (λ x. refl) (λ x f. f) (
    line_row user_line (pair_reading serial (pair_reading number named)) word (codes "user") words (λ x. refl) (λ x f. (f.0.0, f.0.1, f.1.0, f.1.1)) (
    own_row LineIs (kind.Anything ∷ kind.Anything ∷ kind.Anything ∷ kind.Anything ∷ []) word (codes "action") words (action_of_is words) (action_agrees words) (
    alone_row LineIs Go word (codes "go") words (fielded Go (codes "go" ∷ []) refl tt) (
    event_line word words)))))

request_of_is : (quiet : Bool) (words : List (List ℕ)) (line : Line) → request_of quiet words ≡ Some line → LineIs line (request_word quiet ∷ words)
unfolding event_words
request_of_is quiet words line e = by (pair_of connections positives words) refl e
  where
    by : (o : Option ((ConnId × Positive) × List (List ℕ))) → pair_of connections positives words ≡ o → option_and_then (λ x. option_map (request quiet x) (call_of x.1)) o ≡ Some line → LineIs line (request_word quiet ∷ words)
    by None h f = cc
    by (Some x) h f =
        let t = mapped (request quiet x) (call_of x.1) line f in
        let k = caller.is words x.0 x.1 h in
        let c = call_of_is x.1 t.0 t.1 in
        let front : List (List ℕ) = decimal x.0.0.0 ∷ decimal x.0.1.0 ∷ [] in
        subst (λ (l : Line). LineIs l (request_word quiet ∷ words)) t.2
        (fielded (request quiet x t.0) (request_word quiet ∷ words) (with_rest refl (k.0 ∙ ap (λ (ws : List (List ℕ)). front ++ ws) c.words_are))
        (k.1.0.0.0, k.1.0.0.1, k.1.0.1.0, k.1.0.1.1, c.fits, c.are_texts))

request_agrees : (quiet : Bool) (words : List (List ℕ)) → Agrees (request_of quiet words) (first_fault (kind.Positive ∷ kind.Positive ∷ []) call_fault words)
request_agrees quiet words = by (pair_of connections positives words) refl
  where
    by : (o : Option ((ConnId × Positive) × List (List ℕ))) → pair_of connections positives words ≡ o → Agrees (option_and_then (λ x. option_map (request quiet x) (call_of x.1)) o) (first_fault (kind.Positive ∷ kind.Positive ∷ []) call_fault words)
    by None h = record { is_so = sym (caller.stops words h call_fault) }
    by (Some x) h = record { is_so = (mapped_agrees (request quiet x) (call_agrees x.1)).is_so ∙ sym (ap has_some (caller.goes_on words x.0 x.1 h call_fault)) }

-- what is read as a line has its words
pub line_of_is : (words : List (List ℕ)) (line : Line) → line_of words ≡ Some line → LineIs line words
unfolding line_of
line_of_is [] line e = cc
line_of_is (word ∷ words) line e =
    by_word LineIs word (codes "call") words (request_of false words) _ line e (request_of_is false words line) (λ e.
    by_word LineIs word (codes "send") words (request_of true words) _ line e (request_of_is true words line) (λ e.
    by_word LineIs word (codes "conf") words (Some (Conf (join_with_byte 32 words))) _ line e (conf_of_is words line) (λ e.
    (known_line word words).is line e)))

choose : {T : Type 0} {o p : Option T} {f g : Option LineFault} (b : Bool) → Agrees o f → Agrees p g → Agrees (cond b o p) (cond b f g)
choose true here there = here
choose false here there = there

-- a line says nothing exactly where it has a fault
pub line_agrees : (words : List (List ℕ)) → Agrees (line_of words) (words_fault words)
unfolding line_of
line_agrees [] = record { is_so = refl }
line_agrees (word ∷ words) =
    choose (bytes_eq word (codes "call")) (request_agrees false words)
    (choose (bytes_eq word (codes "send")) (request_agrees true words)
    (choose (bytes_eq word (codes "conf")) (record { is_so = refl }) (known_line word words).agrees))

request_of-words : (quiet : Bool) (who : ConnId) (n : ℕ) (call : Call) → 0 < who.0 → who.0 < 2 ^ 32 → 0 < n → n < 2 ^ 32 → FitsCall call → AllByRecursion (IsText 16384) (texts call)
    → request_of quiet (decimal who.0 ∷ decimal n ∷ call_words call) ≡ Some (EventLine (Calls (record { who = who; serial = n; quiet = quiet; call = call })))
request_of-words quiet who n call a b c d f t =
    ap (option_and_then (λ (x : (ConnId × Positive) × List (List ℕ)). option_map (request quiet x) (call_of x.1))) (caller.again (who, record { 0 = n }) (call_words call) ((a, b), (c, d)))
    ∙ ap (option_map (request quiet ((who, record { 0 = n }), call_words call))) (call_of-words call f t)

hardware_line_of-words : (x : Hardware) → IsWrittenEvent (Happens x) → line_of (hardware_words x) ≡ Some (EventLine (Happens x))
unfolding line_of known_line_of event_line_of hardware_line_of hardware_words
hardware_line_of-words (Add d k name) h = ap (option_map (λ (x : DevNo × (DevKind × List ℕ)). EventLine (Happens (Add x.0 x.1.0 x.1.1)))) (read_again (pair_reading device (pair_reading device_kind seat)) (d, (k, name)) (h.0, (tt, h.1)))
hardware_line_of-words (Remove d) h = ap (option_map (λ (x : DevNo). EventLine (Happens (Remove x)))) (read_again device d h)
hardware_line_of-words (Input d type code value) h =
    ap (option_map (λ (x : DevNo × (ℕ × (ℕ × ℤ))). EventLine (Happens (Input x.0 x.1.0 x.1.1.0 x.1.1.1)))) (read_again (pair_reading device (pair_reading small (pair_reading small signed))) (d, (type, (code, value))) (h.0, (h.1, (h.2, h.3))))
hardware_line_of-words (VtKey vt) h = ap (option_map (λ (x : ℕ). EventLine (Happens (VtKey x)))) (read_again number vt h)
hardware_line_of-words (Key k) h = ap (option_map (λ x. EventLine (Happens (Key x)))) (read_again key k tt)
hardware_line_of-words (Dock on) h = ap (option_map (λ (x : Bool). EventLine (Happens (Dock x)))) (read_again flag on tt)
hardware_line_of-words (Exit id) h = ap (option_map (λ (x : SessionName). EventLine (Happens (Exit x.0)))) (read_again ended (record { 0 = id }) h)
hardware_line_of-words JobDone h = refl

event_line_of-words : (e : Event) → IsWrittenEvent e → line_of (event_words e) ≡ Some (EventLine e)
unfolding line_of known_line_of event_line_of event_words
event_line_of-words (Connect c u) h = ap (option_map (λ (x : ConnId × Uid). EventLine (Connect x.0 x.1))) (read_again (pair_reading connection user) (c, u) ((h.0, h.1), h.2))
event_line_of-words (Disconnect c) h = ap (option_map (λ (x : ConnId). EventLine (Disconnect x))) (read_again connection c h)
event_line_of-words (Calls r) h = by r.quiet
  where
    by : (quiet : Bool) → line_of (request_word quiet ∷ decimal r.who.0 ∷ decimal r.serial ∷ call_words r.call) ≡ Some (EventLine (Calls (record { who = r.who; serial = r.serial; quiet = quiet; call = r.call })))
    by true = request_of-words true r.who r.serial r.call h.0 h.1 h.2 h.3 h.4 h.5
    by false = request_of-words false r.who r.serial r.call h.0 h.1 h.2 h.3 h.4 h.5
event_line_of-words (Happens x) h = hardware_line_of-words x h
event_line_of-words (Tick m) h = ap (option_map (λ (x : Millis). EventLine (Tick x))) (read_again tick m h)
event_line_of-words Stop h = refl

-- the words that the text of a line is cut into
abbrev pub parts : Line → List (List ℕ)
parts (Conf []) = codes "conf" ∷ []
parts (Conf (b ∷ bs)) = codes "conf" ∷ slice_split (λ b. eqb b 32) (b ∷ bs)
parts (Action text) = codes "action" ∷ slice_split (λ b. eqb b 32) text
parts line = fields line

-- the words of a line are read as it
pub line_of-parts : (line : Line) → IsWritten line → line_of (parts line) ≡ Some line
unfolding line_of known_line_of event_line_of hardware_line_of link_line_of
line_of-parts (Header n) h = ap (option_map (λ (x : Version). Header x.0)) (read_again form (record { 0 = n }) h)
line_of-parts (GuidLine x) h = ap (option_map (λ (x : Guid). GuidLine x.0)) (read_again identity (record { 0 = x }) h)
line_of-parts (User u) h = ap (option_map user_line) (read_again (pair_reading serial (pair_reading number named)) (record { 0 = u.uid.0 }, (u.gid, record { 0 = u.name })) ((h.0, h.1), (h.2, h.3)))
line_of-parts (Conf []) h = refl
line_of-parts (Conf (b ∷ bs)) h = ap (λ (t : List ℕ). Some (Conf t)) (join_with_byte-slice_split 32 (b ∷ bs))
line_of-parts (Action text) h = rw (h.1, join_with_byte-slice_split 32 text) refl
line_of-parts Go h = refl
line_of-parts (EventLine e) h = event_line_of-words e h
line_of-parts (Link c u) h = ap (option_map (λ (x : ConnId × Uid). Link x.0 x.1)) (read_again (pair_reading connection user) (c, u) ((h.0, h.1), h.2))
line_of-parts (In c bytes) h = ap (option_map (λ (x : ConnId × List ℕ). In x.0 x.1)) (read_again (pair_reading connection hex) (c, bytes) ((h.0, h.1), (h.2, h.3)))
line_of-parts (Hangup c) h = ap (option_map Hangup) (read_again connection c h)
line_of-parts End h = refl
