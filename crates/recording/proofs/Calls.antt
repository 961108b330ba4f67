-- The words of a call say the call, and nothing else; they say none exactly where they have a fault; and the
-- calls are short.
use Rattle.std.proofs.Common.{◌≡◌, ℕ, ℤ, ◌<◌, ◌^◌, ◌≤◌, List, [], ◌∷◌, ◌++◌, refl, arith, rules, ap, sym, codes, Bool, true, cond, Option, Some}
use Rattle.std.specs.Option.{option_map}
use Rattle.std.specs.List.{AllByRecursion}
use Rattle.std.specs.Str.{bytes_eq}
use Rattle.login_base.specs.declared.ids.Uid.{Uid}
use Rattle.login_base.specs.declared.ids.HandleNo.{HandleNo}
use Rattle.login_base.specs.declared.ids.DevNo.{DevNo}
use Rattle.login_base.proofs.Decimals.{decimal_short}
use Rattle.login_model.specs.declared.call.Creation.{Creation}
use Rattle.login_model.specs.declared.call.Inhibition.{Inhibition}
use Rattle.login_model.specs.declared.call.Call.{Call}
use Rattle.login_model.specs.declared.call.Call.TheVariants as call
use Rattle.login_model.specs.Texts.{IsText, texts}
use Rattle.std.specs.Fmt.{decimal}
use Rattle.recording.specs.declared.argument.WordKind.{WordKind}
use Rattle.recording.specs.declared.argument.WordKind.TheVariants.{Number, Text, Flag}
use Rattle.recording.specs.Text.{spell_text}
use Rattle.recording.specs.Calls.{call_words, device_words, property_words, FitsCall, FitsDevice, manager_shapes, session_shapes, seat_shapes, other_shapes}
use Rattle.recording.specs.Shapes.{behind_in}
use Rattle.recording.specs.Causes.{call_fault}
use Rattle.recording.specs.inner.Arguments.{users, devices, properties, inhibitions, creations, Created, user_id, handle_number, device_number, property as as_property, inhibition as as_inhibition, creation as as_creation, whole, alone}
use Rattle.recording.specs.inner.CallReadings.{handles, manager_call_of, session_call_of, seat_call_of, other_call_of, call_of}
use Rattle.recording.specs.inner.CallWords.{purpose_words, place_words}
use Rattle.recording.proofs.Arguments.{IsWord, AreWords, Agrees, IsReading, pair_reading, made_reading, read_again, number, text, flag, signed, operation, RowIs, row, alone_row, no_row}
use Rattle.recording.proofs.Lengths.{size, spell_text_short, spell_flag_short, signed_short, operation_short}

-- the words, the numbers and the texts of a call
pub record CallIs (call : Call) (words : List (List ℕ)) : Type 0 where
  pub words_are : words ≡ call_words call
  pub fits : FitsCall call
  pub are_texts : AllByRecursion (IsText 16384) (texts call)
  pub are_words : AreWords words

-- the values that are made of others
pub user : IsReading (Number ∷ []) users (λ u. decimal u.0 ∷ []) (λ u. u.0 < 2 ^ 32)
user = made_reading number user_id (λ u. u.0) (λ x. refl) (λ y. refl)

handle : IsReading (Number ∷ []) handles (λ h. decimal h.0 ∷ []) (λ h. h.0 < 2 ^ 32)
handle = made_reading number handle_number (λ h. h.0) (λ x. refl) (λ y. refl)

pub device : IsReading (Number ∷ Number ∷ []) devices device_words FitsDevice
device = made_reading (pair_reading number number) device_number (λ d. (d.major, d.minor)) (λ x. refl) (λ y. refl)

property : IsReading (Text ∷ Text ∷ Text ∷ []) properties property_words (λ x. IsText 16384 x.path × (IsText 16384 x.interface × IsText 16384 x.name))
property = made_reading (pair_reading text (pair_reading text text)) as_property (λ x. (x.path, (x.interface, x.name))) (λ x. refl) (λ y. refl)

abbrev inhibition_words : Inhibition → List (List ℕ)
inhibition_words x = spell_text x.what ∷ spell_text x.who ∷ spell_text x.why ∷ spell_text x.mode ∷ []

inhibition : IsReading (Text ∷ Text ∷ Text ∷ Text ∷ []) inhibitions inhibition_words (λ x. (IsText 16384 x.what × IsText 16384 x.who) × (IsText 16384 x.why × IsText 16384 x.mode))
inhibition = made_reading (pair_reading (pair_reading text text) (pair_reading text text)) as_inhibition (λ x. ((x.what, x.who), (x.why, x.mode))) (λ x. refl) (λ y. refl)

abbrev parts : Creation → Created
parts x = (((x.uid, (x.process, x.service)), (x.session_type, (x.class, x.desktop))), ((x.seat, (x.vt, x.tty)), ((x.display, x.remote), (x.remote_user, x.remote_host))))

abbrev creation_kinds : List WordKind
creation_kinds = Number ∷ Number ∷ Text ∷ Text ∷ Text ∷ Text ∷ Text ∷ Number ∷ Text ∷ Text ∷ Flag ∷ Text ∷ Text ∷ []

abbrev FitsCreation : Creation → Type 0
FitsCreation x =
    (((x.uid.0 < 2 ^ 32) × ((x.process < 2 ^ 32) × IsText 16384 x.service)) × (IsText 16384 x.session_type × (IsText 16384 x.class × IsText 16384 x.desktop)))
    × ((IsText 16384 x.seat × ((x.vt < 2 ^ 32) × IsText 16384 x.tty)) × ((IsText 16384 x.display × Unit {0}) × (IsText 16384 x.remote_user × IsText 16384 x.remote_host)))

abbrev creation_words : Creation → List (List ℕ)
creation_words x = purpose_words x ++ place_words x

creation : IsReading creation_kinds creations creation_words FitsCreation
creation =
    made_reading (pair_reading (pair_reading (pair_reading user (pair_reading number text)) (pair_reading text (pair_reading text text)))
    (pair_reading (pair_reading text (pair_reading number text)) (pair_reading (pair_reading text flag) (pair_reading text text)))) as_creation parts (λ x. refl) (λ y. refl)

-- a call whose word is this one, or another
call_row : {V : Type 0} {kinds : List WordKind} {of : List (List ℕ) → Option (V × List (List ℕ))} {s : V → List (List ℕ)} {F : V → Type 0} {o : Option Call} {ks : Option (List WordKind)}
    (make : V → Call) (reading : IsReading kinds of s F) (word first : List ℕ) (words : List (List ℕ)) → IsWord first → ((x : V) → call_words (make x) ≡ first ∷ s x)
    → ((x : V) → F x → FitsCall (make x) × AllByRecursion (IsText 16384) (texts (make x))) → RowIs CallIs word words o ks
    → RowIs CallIs word words (cond (bytes_eq word first) (option_map make (whole (of words))) o) (cond (bytes_eq word first) (Some kinds) ks)
call_row make reading word first words is_word spelled fits others =
    row CallIs make reading word first words (λ x f a. record { words_are = sym (spelled x); fits = (fits x f).0; are_texts = (fits x f).1; are_words = (is_word, a) }) others

-- the same of a call without arguments
plain_row : {o : Option Call} {ks : Option (List WordKind)} (value : Call) (word first : List ℕ) (words : List (List ℕ)) → IsWord first → call_words value ≡ first ∷ [] → FitsCall value → AllByRecursion (IsText 16384) (texts value)
    → RowIs CallIs word words o ks → RowIs CallIs word words (cond (bytes_eq word first) (alone value words) o) (cond (bytes_eq word first) (Some []) ks)
plain_row value word first words is_word spelled fits are_texts others =
    alone_row CallIs value word first words (record { words_are = sym spelled; fits = fits; are_texts = are_texts; are_words = (is_word, tt) }) others

-- a call of the bus itself, of a property, or a word for another message
other_call : (word : List ℕ) (words : List (List ℕ)) → RowIs CallIs word words (other_call_of word words) (behind_in word other_shapes)
unfolding other_call_of call_words
other_call word words =
    call_row call.GetProperty property word (codes "get") words (search rules) (λ x. refl) (λ x f. (tt, (f.0, (f.1.0, (f.1.1, tt))))) (
    call_row (λ (x : List ℕ × List ℕ). call.GetAllProperties x.0 x.1) (pair_reading text text) word (codes "get-all") words (search rules) (λ x. refl) (λ x f. (tt, (f.0, (f.1, tt)))) (
    call_row call.SetProperty property word (codes "set") words (search rules) (λ x. refl) (λ x f. (tt, (f.0, (f.1.0, (f.1.1, tt))))) (
    plain_row call.Ping word (codes "ping") words (search rules) refl tt tt (
    plain_row call.GetMachineId word (codes "machine-id") words (search rules) refl tt tt (
    plain_row call.Hello word (codes "hello") words (search rules) refl tt tt (
    call_row call.GetNameOwner text word (codes "owner") words (search rules) (λ x. refl) (λ x f. (tt, (f, tt))) (
    call_row call.AddMatch text word (codes "add-match") words (search rules) (λ x. refl) (λ x f. (tt, (f, tt))) (
    call_row call.RemoveMatch text word (codes "remove-match") words (search rules) (λ x. refl) (λ x f. (tt, (f, tt))) (
    plain_row call.NoCall word (codes "nothing") words (search rules) refl tt tt (
    plain_row call.NoObject word (codes "no-object") words (search rules) refl tt tt (
    plain_row call.NoMethod word (codes "no-method") words (search rules) refl tt tt (
    plain_row call.BadArguments word (codes "bad-args") words (search rules) refl tt tt (
    no_row CallIs word words)))))))))))))

-- a call of a seat, a user or the machine, or one of the others
seat_call : (word : List ℕ) (words : List (List ℕ)) → RowIs CallIs word words (seat_call_of word words) (behind_in word seat_shapes)
unfolding seat_call_of call_words
seat_call word words =
    call_row (λ (x : List ℕ × ℕ). call.SwitchTo x.0 x.1) (pair_reading text number) word (codes "switch") words (search rules) (λ x. refl) (λ x f. (f.1, (f.0, tt))) (
    call_row call.SwitchToNext text word (codes "next") words (search rules) (λ x. refl) (λ x f. (tt, (f, tt))) (
    call_row call.SwitchToPrevious text word (codes "prev") words (search rules) (λ x. refl) (λ x f. (tt, (f, tt))) (
    call_row call.TerminateSeat text word (codes "terminate-seat") words (search rules) (λ x. refl) (λ x f. (tt, (f, tt))) (
    call_row call.TerminateUser user word (codes "terminate-user") words (search rules) (λ x. refl) (λ x f. (f, tt)) (
    call_row (λ (x : Uid × ℤ). call.KillUser x.0 x.1) (pair_reading user signed) word (codes "kill-user") words (search rules) (λ x. refl) (λ x f. (f, tt)) (
    call_row (λ (x : Uid × Bool). call.SetLinger x.0 x.1) (pair_reading user flag) word (codes "linger") words (search rules) (λ x. refl) (λ x f. (f.0, tt)) (
    call_row call.ReadInput handle word (codes "read") words (search rules) (λ x. refl) (λ x f. (f, tt)) (
    call_row (λ (x : HandleNo × ℕ). call.SetMode x.0 x.1) (pair_reading handle number) word (codes "set-mode") words (search rules) (λ x. refl) (λ x f. (f, tt)) (
    call_row call.Close handle word (codes "close") words (search rules) (λ x. refl) (λ x f. (f, tt)) (
    other_call word words))))))))))

-- a call of a session, or one of the others
session_call : (word : List ℕ) (words : List (List ℕ)) → RowIs CallIs word words (session_call_of word words) (behind_in word session_shapes)
unfolding session_call_of call_words
session_call word words =
    call_row call.Activate text word (codes "activate") words (search rules) (λ x. refl) (λ x f. (tt, (f, tt))) (
    call_row (λ (x : List ℕ × List ℕ). call.ActivateOnSeat x.0 x.1) (pair_reading text text) word (codes "activate-on") words (search rules) (λ x. refl) (λ x f. (tt, (f.0, (f.1, tt)))) (
    call_row call.Lock text word (codes "lock") words (search rules) (λ x. refl) (λ x f. (tt, (f, tt))) (
    call_row call.Unlock text word (codes "unlock") words (search rules) (λ x. refl) (λ x f. (tt, (f, tt))) (
    call_row (λ (x : List ℕ × (List ℕ × ℤ)). call.Kill x.0 x.1.0 x.1.1) (pair_reading text (pair_reading text signed)) word (codes "kill") words (search rules) (λ x. refl) (λ x f. (f.1.1, (f.0, (f.1.0, tt)))) (
    call_row call.Terminate text word (codes "terminate") words (search rules) (λ x. refl) (λ x f. (tt, (f, tt))) (
    call_row (λ (x : List ℕ × Bool). call.SetIdle x.0 x.1) (pair_reading text flag) word (codes "idle") words (search rules) (λ x. refl) (λ x f. (tt, (f.0, tt))) (
    call_row (λ (x : List ℕ × Bool). call.SetLocked x.0 x.1) (pair_reading text flag) word (codes "locked") words (search rules) (λ x. refl) (λ x f. (tt, (f.0, tt))) (
    call_row (λ (x : List ℕ × Bool). call.Control x.0 x.1) (pair_reading text flag) word (codes "control") words (search rules) (λ x. refl) (λ x f. (tt, (f.0, tt))) (
    call_row call.Uncontrol text word (codes "uncontrol") words (search rules) (λ x. refl) (λ x f. (tt, (f, tt))) (
    call_row (λ (x : List ℕ × DevNo). call.TakeDevice x.0 x.1) (pair_reading text device) word (codes "take") words (search rules) (λ x. refl) (λ x f. (f.1, (f.0, tt))) (
    call_row (λ (x : List ℕ × DevNo). call.ReleaseDevice x.0 x.1) (pair_reading text device) word (codes "release") words (search rules) (λ x. refl) (λ x f. (f.1, (f.0, tt))) (
    call_row (λ (x : List ℕ × DevNo). call.PauseComplete x.0 x.1) (pair_reading text device) word (codes "paused") words (search rules) (λ x. refl) (λ x f. (f.1, (f.0, tt))) (
    seat_call word words)))))))))))))

-- a call of the manager, or one of the others
manager_call : (word : List ℕ) (words : List (List ℕ)) → RowIs CallIs word words (manager_call_of word words) (behind_in word manager_shapes)
unfolding manager_call_of call_words
manager_call word words =
    call_row call.Create creation word (codes "create") words (search rules) (λ x. refl) (λ x f. ((f.0.0.0, f.0.0.1.0, f.1.0.1.0), (f.0.0.1.1, (f.0.1.0, (f.0.1.1.0, (f.0.1.1.1, (f.1.0.0, (f.1.0.1.1, (f.1.1.0.0, (f.1.1.1.0, (f.1.1.1.1, tt))))))))))) (
    call_row call.GetSession text word (codes "get-session") words (search rules) (λ x. refl) (λ x f. (tt, (f, tt))) (
    call_row call.GetUser user word (codes "get-user") words (search rules) (λ x. refl) (λ x f. (f, tt)) (
    call_row call.GetSeat text word (codes "get-seat") words (search rules) (λ x. refl) (λ x f. (tt, (f, tt))) (
    plain_row call.ListSessions word (codes "list-sessions") words (search rules) refl tt tt (
    plain_row call.ListUsers word (codes "list-users") words (search rules) refl tt tt (
    plain_row call.ListSeats word (codes "list-seats") words (search rules) refl tt tt (
    plain_row call.ListInhibitors word (codes "list-inhibitors") words (search rules) refl tt tt (
    plain_row call.LockAll word (codes "lock-all") words (search rules) refl tt tt (
    plain_row call.UnlockAll word (codes "unlock-all") words (search rules) refl tt tt (
    call_row call.Power operation word (codes "power") words (search rules) (λ x. refl) (λ x f. (tt, tt)) (
    call_row call.Can operation word (codes "can") words (search rules) (λ x. refl) (λ x f. (tt, tt)) (
    call_row call.Inhibit inhibition word (codes "inhibit") words (search rules) (λ x. refl) (λ x f. (tt, (f.0.0, (f.0.1, (f.1.0, (f.1.1, tt)))))) (
    session_call word words)))))))))))))

-- what is read as a call has its words
pub call_of_is : (words : List (List ℕ)) (c : Call) → call_of words ≡ Some c → CallIs c words
unfolding call_of
call_of_is [] c e = cc
call_of_is (word ∷ words) c e = (manager_call word words).is c e

-- nothing is read exactly where there is a fault
pub call_agrees : (words : List (List ℕ)) → Agrees (call_of words) (call_fault words)
unfolding call_of
call_agrees [] = record { is_so = refl }
call_agrees (word ∷ words) = (manager_call word words).agrees

-- the words of a call are read as it
pub call_of-words : (c : Call) → FitsCall c → AllByRecursion (IsText 16384) (texts c) → call_of (call_words c) ≡ Some c
unfolding call_of manager_call_of session_call_of seat_call_of other_call_of call_words
call_of-words (call.Create x) fits t = ap (option_map call.Create) (read_again creation x (((fits.0, (fits.1, t.0)), (t.1.0, (t.1.1.0, t.1.1.1.0))), ((t.1.1.1.1.0, (fits.2, t.1.1.1.1.1.0)), ((t.1.1.1.1.1.1.0, tt), (t.1.1.1.1.1.1.1.0, t.1.1.1.1.1.1.1.1.0)))))
call_of-words (call.GetSession x) fits t = ap (option_map call.GetSession) (read_again text x t.0)
call_of-words (call.GetUser u) fits t = ap (option_map call.GetUser) (read_again user u fits)
call_of-words (call.GetSeat x) fits t = ap (option_map call.GetSeat) (read_again text x t.0)
call_of-words call.ListSessions fits t = refl
call_of-words call.ListUsers fits t = refl
call_of-words call.ListSeats fits t = refl
call_of-words call.ListInhibitors fits t = refl
call_of-words call.LockAll fits t = refl
call_of-words call.UnlockAll fits t = refl
call_of-words (call.Power kind) fits t = ap (option_map call.Power) (read_again operation kind tt)
call_of-words (call.Can kind) fits t = ap (option_map call.Can) (read_again operation kind tt)
call_of-words (call.Inhibit x) fits t = ap (option_map call.Inhibit) (read_again inhibition x ((t.0, t.1.0), (t.1.1.0, t.1.1.1.0)))
call_of-words (call.Activate x) fits t = ap (option_map call.Activate) (read_again text x t.0)
call_of-words (call.ActivateOnSeat x y) fits t = ap (option_map (λ (x : List ℕ × List ℕ). call.ActivateOnSeat x.0 x.1)) (read_again (pair_reading text text) (x, y) (t.0, t.1.0))
call_of-words (call.Lock x) fits t = ap (option_map call.Lock) (read_again text x t.0)
call_of-words (call.Unlock x) fits t = ap (option_map call.Unlock) (read_again text x t.0)
call_of-words (call.Kill x y z) fits t = ap (option_map (λ (x : List ℕ × (List ℕ × ℤ)). call.Kill x.0 x.1.0 x.1.1)) (read_again (pair_reading text (pair_reading text signed)) (x, (y, z)) (t.0, (t.1.0, fits)))
call_of-words (call.Terminate x) fits t = ap (option_map call.Terminate) (read_again text x t.0)
call_of-words (call.SetIdle x on) fits t = ap (option_map (λ (x : List ℕ × Bool). call.SetIdle x.0 x.1)) (read_again (pair_reading text flag) (x, on) (t.0, tt))
call_of-words (call.SetLocked x on) fits t = ap (option_map (λ (x : List ℕ × Bool). call.SetLocked x.0 x.1)) (read_again (pair_reading text flag) (x, on) (t.0, tt))
call_of-words (call.Control x on) fits t = ap (option_map (λ (x : List ℕ × Bool). call.Control x.0 x.1)) (read_again (pair_reading text flag) (x, on) (t.0, tt))
call_of-words (call.Uncontrol x) fits t = ap (option_map call.Uncontrol) (read_again text x t.0)
call_of-words (call.TakeDevice x d) fits t = ap (option_map (λ (x : List ℕ × DevNo). call.TakeDevice x.0 x.1)) (read_again (pair_reading text device) (x, d) (t.0, fits))
call_of-words (call.ReleaseDevice x d) fits t = ap (option_map (λ (x : List ℕ × DevNo). call.ReleaseDevice x.0 x.1)) (read_again (pair_reading text device) (x, d) (t.0, fits))
call_of-words (call.PauseComplete x d) fits t = ap (option_map (λ (x : List ℕ × DevNo). call.PauseComplete x.0 x.1)) (read_again (pair_reading text device) (x, d) (t.0, fits))
call_of-words (call.SwitchTo x n) fits t = ap (option_map (λ (x : List ℕ × ℕ). call.SwitchTo x.0 x.1)) (read_again (pair_reading text number) (x, n) (t.0, fits))
call_of-words (call.SwitchToNext x) fits t = ap (option_map call.SwitchToNext) (read_again text x t.0)
call_of-words (call.SwitchToPrevious x) fits t = ap (option_map call.SwitchToPrevious) (read_again text x t.0)
call_of-words (call.TerminateSeat x) fits t = ap (option_map call.TerminateSeat) (read_again text x t.0)
call_of-words (call.TerminateUser u) fits t = ap (option_map call.TerminateUser) (read_again user u fits)
call_of-words (call.KillUser u z) fits t = ap (option_map (λ (x : Uid × ℤ). call.KillUser x.0 x.1)) (read_again (pair_reading user signed) (u, z) fits)
call_of-words (call.SetLinger u on) fits t = ap (option_map (λ (x : Uid × Bool). call.SetLinger x.0 x.1)) (read_again (pair_reading user flag) (u, on) (fits, tt))
call_of-words (call.ReadInput h) fits t = ap (option_map call.ReadInput) (read_again handle h fits)
call_of-words (call.SetMode h n) fits t = ap (option_map (λ (x : HandleNo × ℕ). call.SetMode x.0 x.1)) (read_again (pair_reading handle number) (h, n) fits)
call_of-words (call.Close h) fits t = ap (option_map call.Close) (read_again handle h fits)
call_of-words (call.GetProperty x) fits t = ap (option_map call.GetProperty) (read_again property x (t.0, (t.1.0, t.1.1.0)))
call_of-words (call.GetAllProperties x y) fits t = ap (option_map (λ (x : List ℕ × List ℕ). call.GetAllProperties x.0 x.1)) (read_again (pair_reading text text) (x, y) (t.0, t.1.0))
call_of-words (call.SetProperty x) fits t = ap (option_map call.SetProperty) (read_again property x (t.0, (t.1.0, t.1.1.0)))
call_of-words call.Ping fits t = refl
call_of-words call.GetMachineId fits t = refl
call_of-words call.Hello fits t = refl
call_of-words (call.GetNameOwner x) fits t = ap (option_map call.GetNameOwner) (read_again text x t.0)
call_of-words (call.AddMatch x) fits t = ap (option_map call.AddMatch) (read_again text x t.0)
call_of-words (call.RemoveMatch x) fits t = ap (option_map call.RemoveMatch) (read_again text x t.0)
call_of-words call.NoCall fits t = refl
call_of-words call.NoObject fits t = refl
call_of-words call.NoMethod fits t = refl
call_of-words call.BadArguments fits t = refl

-- a call is short
pub call_short : (c : Call) → FitsCall c → AllByRecursion (IsText 512) (texts c) → size (call_words c) ≤ 16000
unfolding call_words
call_short (call.Create x) f t = let a = decimal_short x.uid.0 f.0 in let d = decimal_short x.process f.1 in let e = spell_text_short 512 x.service t.0 in let g = spell_text_short 512 x.session_type t.1.0 in let h = spell_text_short 512 x.class t.1.1.0 in let i = spell_text_short 512 x.desktop t.1.1.1.0 in let j = spell_text_short 512 x.seat t.1.1.1.1.0 in let k = decimal_short x.vt f.2 in let l = spell_text_short 512 x.tty t.1.1.1.1.1.0 in let m = spell_text_short 512 x.display t.1.1.1.1.1.1.0 in let n = spell_flag_short x.remote in let o = spell_text_short 512 x.remote_user t.1.1.1.1.1.1.1.0 in let p = spell_text_short 512 x.remote_host t.1.1.1.1.1.1.1.1.0 in omega arith
call_short (call.GetSession id) f t = let a = spell_text_short 512 id t.0 in omega arith
call_short (call.GetSeat id) f t = let a = spell_text_short 512 id t.0 in omega arith
call_short (call.Activate id) f t = let a = spell_text_short 512 id t.0 in omega arith
call_short (call.Lock id) f t = let a = spell_text_short 512 id t.0 in omega arith
call_short (call.Unlock id) f t = let a = spell_text_short 512 id t.0 in omega arith
call_short (call.Terminate id) f t = let a = spell_text_short 512 id t.0 in omega arith
call_short (call.TerminateSeat id) f t = let a = spell_text_short 512 id t.0 in omega arith
call_short (call.Uncontrol id) f t = let a = spell_text_short 512 id t.0 in omega arith
call_short (call.SwitchToNext id) f t = let a = spell_text_short 512 id t.0 in omega arith
call_short (call.SwitchToPrevious id) f t = let a = spell_text_short 512 id t.0 in omega arith
call_short (call.ActivateOnSeat id seat) f t = let a = spell_text_short 512 id t.0 in let d = spell_text_short 512 seat t.1.0 in omega arith
call_short (call.GetUser u) f t = let a = decimal_short u.0 f in omega arith
call_short (call.TerminateUser u) f t = let a = decimal_short u.0 f in omega arith
call_short (call.ReadInput h) f t = let a = decimal_short h.0 f in omega arith
call_short (call.SetMode h mode) f t = let a = decimal_short h.0 f.0 in let d = decimal_short mode f.1 in omega arith
call_short (call.Close h) f t = let a = decimal_short h.0 f in omega arith
call_short (call.TakeDevice id d) f t = let a = spell_text_short 512 id t.0 in let e = decimal_short d.major f.0 in let g = decimal_short d.minor f.1 in omega arith
call_short (call.ReleaseDevice id d) f t = let a = spell_text_short 512 id t.0 in let e = decimal_short d.major f.0 in let g = decimal_short d.minor f.1 in omega arith
call_short (call.PauseComplete id d) f t = let a = spell_text_short 512 id t.0 in let e = decimal_short d.major f.0 in let g = decimal_short d.minor f.1 in omega arith
call_short (call.Kill id who signal) f t = let a = spell_text_short 512 id t.0 in let d = spell_text_short 512 who t.1.0 in let e = signed_short signal f in omega arith
call_short (call.SetLinger u on) f t = let a = decimal_short u.0 f in let d = spell_flag_short on in omega arith
call_short (call.SetIdle id on) f t = let a = spell_text_short 512 id t.0 in let d = spell_flag_short on in omega arith
call_short (call.SetLocked id on) f t = let a = spell_text_short 512 id t.0 in let d = spell_flag_short on in omega arith
call_short (call.Control id on) f t = let a = spell_text_short 512 id t.0 in let d = spell_flag_short on in omega arith
call_short (call.SwitchTo seat vt) f t = let a = spell_text_short 512 seat t.0 in let d = decimal_short vt f in omega arith
call_short (call.KillUser u signal) f t = let a = decimal_short u.0 f.0 in let d = signed_short signal f.1 in omega arith
call_short call.ListSessions f t = omega arith
call_short call.ListUsers f t = omega arith
call_short call.ListSeats f t = omega arith
call_short call.ListInhibitors f t = omega arith
call_short (call.Power kind) f t = let a = operation_short kind in omega arith
call_short (call.Can kind) f t = let a = operation_short kind in omega arith
call_short (call.Inhibit x) f t = let a = spell_text_short 512 x.what t.0 in let d = spell_text_short 512 x.who t.1.0 in let e = spell_text_short 512 x.why t.1.1.0 in let g = spell_text_short 512 x.mode t.1.1.1.0 in omega arith
call_short call.LockAll f t = omega arith
call_short call.UnlockAll f t = omega arith
call_short call.NoCall f t = omega arith
call_short call.NoObject f t = omega arith
call_short call.NoMethod f t = omega arith
call_short call.BadArguments f t = omega arith
call_short (call.GetProperty x) f t = let a = spell_text_short 512 x.path t.0 in let d = spell_text_short 512 x.interface t.1.0 in let e = spell_text_short 512 x.name t.1.1.0 in omega arith
call_short (call.GetAllProperties path interface) f t = let a = spell_text_short 512 path t.0 in let d = spell_text_short 512 interface t.1.0 in omega arith
call_short (call.SetProperty x) f t = let a = spell_text_short 512 x.path t.0 in let d = spell_text_short 512 x.interface t.1.0 in let e = spell_text_short 512 x.name t.1.1.0 in omega arith
call_short call.Ping f t = omega arith
call_short call.GetMachineId f t = omega arith
call_short call.Hello f t = omega arith
call_short (call.GetNameOwner id) f t = let a = spell_text_short 512 id t.0 in omega arith
call_short (call.AddMatch id) f t = let a = spell_text_short 512 id t.0 in omega arith
call_short (call.RemoveMatch id) f t = let a = spell_text_short 512 id t.0 in omega arith
