-- The spellings of lines: where their words part, that no line feed stands in them, and how long they are.
use Rattle.std.proofs.Common.{◌≡◌, ℕ, subst, ◌<◌, ◌≤◌, List, [], ◌∷◌, ◌++◌, length, refl, arith, rules, codes, ap, sym, ◌∙◌, Bool, true, false, eqb, leb, Some, length-append}
use Rattle.std.specs.List.{slice_split, join_with_byte, AllByRecursion}
use Rattle.std.proofs.lemmas.List.{append_cancel_right}
use Rattle.std.proofs.lemmas.List.Elements.{All-from_recursion}
use Rattle.std.proofs.lemmas.List.Splits.{slice_split_none, slice_split_at, join_with_byte-slice_split}
use Rattle.std.proofs.lemmas.Bool.Decides.{nat_tests}
use Rattle.login_base.specs.declared.ids.DevNo.{DevNo}
use Rattle.login_base.specs.Seat.{is_seat_name}
use Rattle.login_base.proofs.Decimals.{decimal_long, decimal_short}
use Rattle.login_model.specs.declared.hardware.DevKind.{DevKind}
use Rattle.login_model.specs.declared.hardware.DevKind.TheVariants.{Evdev, Drm}
use Rattle.login_model.specs.declared.hardware.HardKey.{HardKey}
use Rattle.login_model.specs.declared.hardware.HardKey.TheVariants as hard
use Rattle.login_model.specs.declared.hardware.Hardware.{Hardware}
use Rattle.login_model.specs.declared.hardware.Hardware.TheVariants.{Add, Remove, Input, VtKey, Key, Dock, Exit, JobDone}
use Rattle.login_model.specs.declared.event.Event.{Event}
use Rattle.login_model.specs.declared.event.Event.TheVariants.{Connect, Disconnect, Call as Calls, Hardware as Happens, Tick, Stop}
use Rattle.login_model.specs.Words.{device_kind_word, key_word}
use Rattle.recording.specs.declared.line.Line.{Line}
use Rattle.recording.specs.declared.line.Line.TheVariants.{Header, Guid, User, Conf, Action, Go, Event as EventLine, Link, In, Hangup, End}
use Rattle.recording.specs.Calls.{device_words, call_words, FitsDevice}
use Rattle.recording.specs.EventSpelling.{request_word, hardware_words, event_words, FitsHardware, Fits, IsWrittenEvent}
use Rattle.recording.specs.Bytes.{AreRaw}
use Rattle.recording.specs.Lines.{fields, spell, IsLine, IsWritten, Spells}
use Rattle.recording.specs.Meaning.{meant, IsReadAs}
use Rattle.recording.specs.Cut.{NoLineFeed}
use Rattle.recording.specs.inner.LineReadings.{line_of}
use Rattle.recording.proofs.Texts.{both}
use Rattle.recording.proofs.Arguments.{IsWord, AreWords, decimal_IsWord, number_IsWord, spell_text_IsWord, spell_flag_IsWord, signed_IsWord, device_kind_IsWord, key_IsWord, seat_IsWord, guid_IsWord, hex_IsWord}
use Rattle.recording.proofs.Calls.{call_of_is, call_of-words, call_short}
use Rattle.recording.proofs.Lengths.{size, join_short, spell_text_short, spell_flag_short, signed_short, request_word_short}
use Rattle.recording.proofs.Meant.{event_meant, event_written, means_itself}
use Rattle.recording.proofs.ReadLines.{LineIs, line_of_is, parts, line_of-parts, behind_conf, behind_action}

request_word_IsWord : (quiet : Bool) → IsWord (request_word quiet)
request_word_IsWord true = search rules
request_word_IsWord false = search rules

device_AreWords : (d : DevNo) → FitsDevice d → AreWords (device_words d)
device_AreWords d f = (number_IsWord d.major f.0, (number_IsWord d.minor f.1, tt))

hardware_AreWords : (x : Hardware) → FitsHardware x → AreWords (hardware_words x)
unfolding hardware_words
hardware_AreWords (Add d kind seat) f = (search rules, (number_IsWord d.major f.0.0, (number_IsWord d.minor f.0.1, (device_kind_IsWord kind, (seat_IsWord seat f.1, tt)))))
hardware_AreWords (Remove d) f = (search rules, device_AreWords d f)
hardware_AreWords (Input d type code value) f =
    (search rules, (number_IsWord d.major f.0.0, (number_IsWord d.minor f.0.1, (number_IsWord type (omega (arith, f.1)), (number_IsWord code (omega (arith, f.2)), (signed_IsWord value f.3, tt))))))
hardware_AreWords (VtKey vt) f = (search rules, (number_IsWord vt f, tt))
hardware_AreWords (Key key) f = (search rules, (key_IsWord key, tt))
hardware_AreWords (Dock on) f = (search rules, (spell_flag_IsWord on, tt))
hardware_AreWords (Exit id) f = (search rules, (spell_text_IsWord id, tt))
hardware_AreWords JobDone f = search rules

event_AreWords : (event : Event) → IsWrittenEvent event → AreWords (event_words event)
unfolding event_words
event_AreWords (Connect c u) f = (search rules, (number_IsWord c.0 f.1, (number_IsWord u.0 f.2, tt)))
event_AreWords (Disconnect c) f = (search rules, (number_IsWord c.0 f.1, tt))
event_AreWords (Calls r) f = (request_word_IsWord r.quiet, (number_IsWord r.who.0 f.1, (number_IsWord r.serial f.3, (call_of_is (call_words r.call) r.call (call_of-words r.call f.4 f.5)).are_words)))
event_AreWords (Happens x) f = hardware_AreWords x f
event_AreWords (Tick m) f = (search rules, (decimal_IsWord m.0 f, tt))
event_AreWords Stop f = search rules

above : (b : ℕ) → 32 < b → eqb b 32 ≡ false
above b h = grind (arith, nat_tests)

no_space : (w : List ℕ) → IsWord w → AllByRecursion (λ b. eqb b 32 ≡ false) w
no_space [] h = tt
no_space (b ∷ bs) h = (above b h.0, no_space bs h.1)

split_join : (w : List ℕ) (ws : List (List ℕ)) → IsWord w → AreWords ws → slice_split (λ b. eqb b 32) (join_with_byte 32 (w ∷ ws)) ≡ w ∷ ws
split_join w [] h hs = slice_split_none (λ b. eqb b 32) w (All-from_recursion _ w (no_space w h))
split_join w (v ∷ vs) h hs =
    slice_split_at (λ b. eqb b 32) w 32 (join_with_byte 32 (v ∷ vs)) (All-from_recursion _ w (no_space w h)) refl
    ∙ ap (λ (t : List (List ℕ)). w ∷ t) (split_join v vs hs.0 hs.1)

split_words : (ws : List (List ℕ)) → 0 < length ws → AreWords ws → slice_split (λ b. eqb b 32) (join_with_byte 32 ws) ≡ ws
split_words [] some h = absurd (omega (arith, some))
split_words (w ∷ ws) some h = split_join w ws h.0 h.1

hardware_some : (x : Hardware) → 0 < length (hardware_words x)
unfolding hardware_words
hardware_some (Add d kind seat) = omega arith
hardware_some (Remove d) = omega arith
hardware_some (Input d type code value) = omega arith
hardware_some (VtKey vt) = omega arith
hardware_some (Key key) = omega arith
hardware_some (Dock on) = omega arith
hardware_some (Exit id) = omega arith
hardware_some JobDone = omega arith

pub event_some : (e : Event) → 0 < length (event_words e)
unfolding event_words
event_some (Connect c u) = omega arith
event_some (Disconnect c) = omega arith
event_some (Calls r) = omega arith
event_some (Happens x) = hardware_some x
event_some (Tick m) = omega arith
event_some Stop = omega arith

-- a line whose fields are words: none that stands as it is written
abbrev IsWorded : Line → Type 0
IsWorded (Conf text) = ⊥
IsWorded (Action text) = ⊥
IsWorded _ = Unit {0}

line_AreWords : (line : Line) → IsWritten line → IsWorded line → AreWords (fields line)
line_AreWords (Header version) h w = (search rules, (number_IsWord version (omega (arith, h)), tt))
line_AreWords (Guid guid) h w = (search rules, (guid_IsWord guid h, tt))
line_AreWords (User u) h w = (search rules, (number_IsWord u.uid.0 h.1, (number_IsWord u.gid h.2, (spell_text_IsWord u.name, tt))))
line_AreWords Go h w = search rules
line_AreWords (EventLine e) h w = event_AreWords e h
line_AreWords (Link c u) h w = (search rules, (number_IsWord c.0 h.1, (number_IsWord u.0 h.2, tt)))
line_AreWords (In c bytes) h w = (search rules, (number_IsWord c.0 h.1, (hex_IsWord bytes, tt)))
line_AreWords (Hangup c) h w = (search rules, (number_IsWord c.0 h.1, tt))
line_AreWords End h w = search rules
line_AreWords (Conf text) h w = absurd w
line_AreWords (Action text) h w = absurd w

-- the text of a line is cut into its parts
pub slice_split-fields : (line : Line) → IsWritten line → slice_split (λ b. eqb b 32) (join_with_byte 32 (fields line)) ≡ parts line
slice_split-fields (Header version) h = split_words _ (omega arith) (line_AreWords (Header version) h tt)
slice_split-fields (Guid guid) h = split_words _ (omega arith) (line_AreWords (Guid guid) h tt)
slice_split-fields (User u) h = split_words _ (omega arith) (line_AreWords (User u) h tt)
slice_split-fields (Conf []) h = split_words (fields (Conf [])) (omega arith) (search rules)
slice_split-fields (Conf (b ∷ bs)) h = behind_conf (b ∷ bs)
slice_split-fields (Action text) h = behind_action text
slice_split-fields Go h = split_words _ (omega arith) (line_AreWords Go h tt)
slice_split-fields (EventLine e) h = split_words (event_words e) (event_some e) (event_AreWords e h)
slice_split-fields (Link c u) h = split_words _ (omega arith) (line_AreWords (Link c u) h tt)
slice_split-fields (In c bytes) h = split_words _ (omega arith) (line_AreWords (In c bytes) h tt)
slice_split-fields (Hangup c) h = split_words _ (omega arith) (line_AreWords (Hangup c) h tt)
slice_split-fields End h = split_words _ (omega arith) (line_AreWords End h tt)

-- a text before a line feed is spelled so only by the line that its words say
pub line_of-text : (text : List ℕ) (line : Line) → IsWritten line → text ++ 10 ∷ [] ≡ spell line → line_of (slice_split (λ b. eqb b 32) text) ≡ Some line
line_of-text text line h e =
    let same : text ≡ join_with_byte 32 (fields line) = append_cancel_right text (join_with_byte 32 (fields line)) (10 ∷ []) e in
    ap line_of (ap (slice_split (λ b. eqb b 32)) same ∙ slice_split-fields line h) ∙ line_of-parts line h

-- a line of a recording is written
pub line_written : (line : Line) → IsLine line → IsWritten line
line_written (Header version) h = h
line_written (Guid guid) h = h
line_written (User u) h = h
line_written (Conf text) h = h.0
line_written (Action text) h = (h.0, h.1)
line_written Go h = tt
line_written (EventLine e) h = event_written e h
line_written (Link c u) h = h
line_written (In c bytes) h = (h.0, h.1, h.2, h.3)
line_written (Hangup c) h = h
line_written End h = tt

no_feed_in : (w : List ℕ) (rest : List ℕ) → IsWord w → NoLineFeed rest → NoLineFeed (w ++ rest)
no_feed_in [] rest h k = k
no_feed_in (b ∷ bs) rest h k = (λ e. omega (arith, e, h.0), no_feed_in bs rest h.1 k)

no_feed_word : (w : List ℕ) → IsWord w → NoLineFeed w
no_feed_word [] h = tt
no_feed_word (b ∷ bs) h = (λ e. omega (arith, e, h.0), no_feed_word bs h.1)

no_feed_join : (ws : List (List ℕ)) → AreWords ws → NoLineFeed (join_with_byte 32 ws)
no_feed_join [] h = tt
no_feed_join (w ∷ []) h = no_feed_word w h.0
no_feed_join (w ∷ v ∷ vs) h = no_feed_in w (32 ∷ join_with_byte 32 (v ∷ vs)) h.0 (λ e. omega (arith, e), no_feed_join (v ∷ vs) h.1)

raw_no_feed : (text : List ℕ) → AreRaw text → NoLineFeed text
raw_no_feed [] h = tt
raw_no_feed (b ∷ bs) h = (h.0.1, raw_no_feed bs h.1)

-- nor has the text of any line of the grammar
pub written_no_feed : (line : Line) → IsWritten line → NoLineFeed (join_with_byte 32 (fields line))
written_no_feed (Header version) h = no_feed_join (fields (Header version)) (line_AreWords (Header version) h tt)
written_no_feed (Guid guid) h = no_feed_join (fields (Guid guid)) (line_AreWords (Guid guid) h tt)
written_no_feed (User u) h = no_feed_join (fields (User u)) (line_AreWords (User u) h tt)
written_no_feed (Conf []) h = no_feed_join (fields (Conf [])) (search rules)
written_no_feed (Conf (b ∷ bs)) h = no_feed_in (codes "conf") (32 ∷ b ∷ bs) (search rules) (λ e. omega (arith, e), raw_no_feed (b ∷ bs) h)
written_no_feed (Action text) h = no_feed_in (codes "action") (32 ∷ text) (search rules) (λ e. omega (arith, e), raw_no_feed text h.0)
written_no_feed Go h = no_feed_join (fields Go) (line_AreWords Go h tt)
written_no_feed (EventLine e) h = no_feed_join (event_words e) (event_AreWords e h)
written_no_feed (Link c u) h = no_feed_join (fields (Link c u)) (line_AreWords (Link c u) h tt)
written_no_feed (In c bytes) h = no_feed_join (fields (In c bytes)) (line_AreWords (In c bytes) h tt)
written_no_feed (Hangup c) h = no_feed_join (fields (Hangup c)) (line_AreWords (Hangup c) h tt)
written_no_feed End h = no_feed_join (fields End) (line_AreWords End h tt)

kind_short : (kind : DevKind) → length (device_kind_word kind) ≤ 5
kind_short Evdev = omega arith
kind_short Drm = omega arith

key_short : (key : HardKey) → length (key_word key) ≤ 9
key_short hard.Power = omega arith
key_short hard.Suspend = omega arith
key_short hard.Hibernate = omega arith
key_short hard.Lid = omega arith

seat_short : (seat : List ℕ) → is_seat_name seat ≡ true → length seat ≤ 255
seat_short seat e = short (both _ (leb (length seat) 255) e).1
  where
    short : leb (length seat) 255 ≡ true → length seat ≤ 255
    short h = grind (arith, nat_tests)

hardware_short : (x : Hardware) → FitsHardware x → size (hardware_words x) ≤ 16000
unfolding hardware_words
hardware_short (Add d kind seat) f = let a = decimal_short d.major f.0.0 in let e = decimal_short d.minor f.0.1 in let g = kind_short kind in let h = seat_short seat f.1 in omega arith
hardware_short (Remove d) f = let a = decimal_short d.major f.0 in let e = decimal_short d.minor f.1 in omega arith
hardware_short (Input d type code value) f =
    let a = decimal_short d.major f.0.0 in
    let e = decimal_short d.minor f.0.1 in
    let g = decimal_short type (omega (arith, f.1)) in
    let h = decimal_short code (omega (arith, f.2)) in
    let k = signed_short value f.3 in
    omega arith
hardware_short (VtKey vt) f = let a = decimal_short vt f in omega arith
hardware_short (Key key) f = let a = key_short key in omega arith
hardware_short (Dock on) f = let a = spell_flag_short on in omega arith
hardware_short (Exit id) f = let a = spell_text_short 512 id f in omega arith
hardware_short JobDone f = omega arith

event_short : (event : Event) → Fits event → size (event_words event) ≤ 16100
unfolding event_words
event_short (Connect c u) f = let x = decimal_short c.0 f.1 in let y = decimal_short u.0 f.2 in omega arith
event_short (Disconnect c) f = let x = decimal_short c.0 f.1 in omega arith
event_short (Calls r) f =
    let x = request_word_short r.quiet in
    let y = decimal_short r.who.0 f.1 in
    let z = decimal_short r.serial f.3 in
    let d = call_short r.call f.4 f.5 in
    omega arith
event_short (Happens x) f = let d = hardware_short x f in omega (arith, d)
event_short (Tick m) f = let x = decimal_long m.0 f in omega arith
event_short Stop f = omega arith

guid_long : (guid : List ℕ) → eqb (length guid) 32 ≡ true → length guid ≡ 32
guid_long guid e = grind (arith, nat_tests)

-- a line that is short since its values are: no other bound of its length is stated
abbrev IsMeasured : Line → Type 0
IsMeasured (Conf text) = ⊥
IsMeasured (Action text) = ⊥
IsMeasured (In c bytes) = ⊥
IsMeasured _ = Unit {0}

fields_short : (line : Line) → IsLine line → IsMeasured line → size (fields line) ≤ 16100
fields_short (Header version) h m = let a = decimal_short version (omega (arith, h)) in omega arith
fields_short (Guid guid) h m = let a = guid_long guid (both _ _ h).0 in omega arith
fields_short (User u) h m =
    let a = decimal_short u.uid.0 h.1 in
    let b = decimal_short u.gid h.2 in
    let c = spell_text_short 255 u.name h.3 in
    omega arith
fields_short Go h m = omega arith
fields_short (EventLine e) h m = event_short e h
fields_short (Link c u) h m = let a = decimal_short c.0 h.1 in let b = decimal_short u.0 h.2 in omega arith
fields_short (Hangup c) h m = let a = decimal_short c.0 h.1 in omega arith
fields_short End h m = omega arith
fields_short (Conf text) h m = absurd m
fields_short (Action text) h m = absurd m
fields_short (In c bytes) h m = absurd m

measured_short : (line : Line) → IsLine line → IsMeasured line → length (spell line) ≤ 16385
measured_short line h m =
    let a = join_short (fields line) in
    let b = fields_short line h m in
    simp length-append (omega arith)

-- a line fits where 16385 bytes do
pub spell_short : (line : Line) → IsLine line → length (spell line) ≤ 16385
spell_short (Conf text) h = h.1
spell_short (Action text) h = h.2
spell_short (In c bytes) h = h.4
spell_short (Header version) h = measured_short (Header version) h tt
spell_short (Guid guid) h = measured_short (Guid guid) h tt
spell_short (User u) h = measured_short (User u) h tt
spell_short Go h = measured_short Go h tt
spell_short (EventLine e) h = measured_short (EventLine e) h tt
spell_short (Link c u) h = measured_short (Link c u) h tt
spell_short (Hangup c) h = measured_short (Hangup c) h tt
spell_short End h = measured_short End h tt

-- so does one that is spelled
pub spells_short : (line : Line) (bytes : List ℕ) → Spells line bytes → length (spell line) ≤ 16385
spells_short line bytes (Spells.plain l short) = short
spells_short line bytes Spells.empty = omega arith

-- what is read of a text is a line that is written so
pub text_is : (text : List ℕ) (line : Line) → line_of (slice_split (λ b. eqb b 32) text) ≡ Some line → LineIs line (slice_split (λ b. eqb b 32) text)
text_is text line e = line_of_is (slice_split (λ b. eqb b 32) text) line e

pub text_spells : (text : List ℕ) (line : Line) → line_of (slice_split (λ b. eqb b 32) text) ≡ Some line → length text ≤ 16384 → Spells line (text ++ 10 ∷ [])
text_spells text line e short =
    let back = join_with_byte-slice_split 32 text in
    subst (λ (t : List ℕ). Spells line (t ++ 10 ∷ [])) back ((text_is text line e).spells (omega (arith, short, ap length back)))

pub text_written : (text : List ℕ) (line : Line) → line_of (slice_split (λ b. eqb b 32) text) ≡ Some line → AreRaw text → IsWritten line
text_written text line e bytes =
    let back = join_with_byte-slice_split 32 text in
    (text_is text line e).written (subst AreRaw (sym back) bytes) (ap (slice_split (λ b. eqb b 32)) back)

-- what a written line means is one of a recording
pub line_meant : (line : Line) → IsWritten line → length (spell line) ≤ 16385 → IsLine (meant line)
line_meant (Header version) w short = w
line_meant (Guid guid) w short = w
line_meant (User u) w short = w
line_meant (Conf text) w short = (w, short)
line_meant (Action text) w short = (w.0, w.1, short)
line_meant Go w short = tt
line_meant (EventLine e) w short = event_meant e w
line_meant (Link c u) w short = w
line_meant (In c bytes) w short = (w.0, w.1, w.2, w.3, short)
line_meant (Hangup c) w short = w
line_meant End w short = tt

-- a line of a recording means itself
pub line_means : (line : Line) → IsLine line → meant line ≡ line
line_means (EventLine e) h = ap EventLine (means_itself e h)
line_means (Header version) h = refl
line_means _ h = refl

-- the spelling of a line of a recording is read as it
pub line_reads : (line : Line) → IsLine line → IsReadAs (spell line) line
line_reads line h = record {
  written = line;
  spells = Spells.plain line (spell_short line h);
  fits = line_written line h;
  means = sym (line_means line h);
}

-- what is read is a line of a recording
pub read_IsLine : (bytes : List ℕ) (line : Line) → IsReadAs bytes line → IsLine line
read_IsLine bytes line r = subst IsLine (sym r.means) (line_meant r.written r.fits (spells_short r.written bytes r.spells))
