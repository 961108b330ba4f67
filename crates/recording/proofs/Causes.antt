-- Words say nothing exactly where they have a fault.
use Rattle.std.proofs.Common.{◌≡◌, ◌≢◌, ◌⊎◌, inl, inr, ℕ, ◌≤◌, ◌<◌, ◌-◌, List, [], ◌∷◌, ◌++◌, refl, sym, ◌∙◌, ap, subst, codes, Bool, true, false, ◌==◌, cond, leb, arith, Option, Some, None, Result, Ok, Err, length, length-append}
use Rattle.std.specs.Option.{option_or}
use Rattle.std.specs.Str.{bytes_eq}
use Rattle.std.specs.List.{list_any, last_or, slice_split}
use Rattle.std.proofs.lemmas.List.{take-append-le, take_all}
use Rattle.std.proofs.lemmas.Bool.Decides.{nat_tests}
use Rattle.login_base.specs.Number.{number_of}
use Rattle.login_base.specs.Seat.{is_seat_name}
use Rattle.recording.specs.declared.line.Line.{Line}
use Rattle.recording.specs.declared.line.LineFault.{LineFault}
use Rattle.recording.specs.declared.line.LineFault.TheVariants.{UnknownWord, BadNumber, BadHex, MissingWord, ExtraWord, TooLong, BadName, Ended, NoMemory}
use Rattle.recording.specs.declared.argument.WordKind.{WordKind}
use Rattle.recording.specs.declared.argument.WordKind.TheVariants.{Number, Positive, Small, Signed, Moment, Flag, Text, UserName, SessionId, SeatName, Hex, Guid, Version, DeviceKind, Key, Operation, Anything}
use Rattle.recording.specs.Hex.{is_guid}
use Rattle.recording.specs.Words.{positive_of, small_of, signed_of, flag_of, text_of, hex_of}
use Rattle.login_model.specs.Words.{device_kind_named, key_named, operation_named}
use Rattle.recording.specs.Shapes.{behind_in, line_shapes}
use Rattle.recording.specs.Calls.{manager_shapes}
use Rattle.recording.specs.inner.Arguments.{Reads}
use Rattle.recording.specs.inner.LineReadings.{line_of}
use Rattle.recording.proofs.Arguments.{has_none, has_some}
use Rattle.recording.proofs.ReadLines.{line_agrees}
use Rattle.recording.specs.Causes.{unless, unless_so, name_fault, word_fault, first_fault, end_fault, known_fault, call_fault, words_fault, before_feed, line_fault}

-- words that say nothing have a fault
pub fault_of : (words : List (List ℕ)) → line_of words ≡ None → words_fault words ≡ None → ⊥
fault_of words e h = let agrees = (line_agrees words).is_so in let wrong : true ≡ false = sym (ap has_none e) ∙ (agrees ∙ ap has_some h) in cc

-- and words that say something have none
pub faultless : (words : List (List ℕ)) (l : Line) → line_of words ≡ Some l → words_fault words ≡ None
faultless words l e = by (words_fault words) (sym (line_agrees words).is_so ∙ ap has_none e)
  where
    by : (f : Option LineFault) → has_some f ≡ false → f ≡ None
    by None h = refl
    by (Some x) h = cc

-- the last byte of a line, and those before it
pub last_is : (o : Option ℕ) (text : List ℕ) (b : ℕ) → last_or o (text ++ b ∷ []) ≡ Some b
last_is o [] b = refl
last_is o (c ∷ text) b = last_is (Some c) text b

before_is : (text : List ℕ) (b : ℕ) → before_feed (text ++ b ∷ []) ≡ text
before_is text b =
    let e : length (text ++ b ∷ []) - 1 ≡ length text = omega (arith, length-append text (b ∷ [])) in
    rw e (take-append-le (length text) text (b ∷ []) (omega arith) ∙ take_all (length text) text (omega arith))

above_most : (n : ℕ) → 16384 < n → leb n 16384 ≡ false
above_most n h = grind (arith, nat_tests)

within_most : (n : ℕ) → n ≤ 16384 → leb n 16384 ≡ true
within_most n h = grind (arith, nat_tests)

not_feed : (b : ℕ) → (b ≡ 10 → ⊥) → (b == 10) ≡ false
not_feed b h = grind (arith, nat_tests)

-- the fault of a line by its length and its line feed
pub too_long_before : (bytes text : List ℕ) (b : ℕ) → bytes ≡ text ++ b ∷ [] → 16384 < length text → line_fault bytes ≡ Some TooLong
unfolding line_fault
too_long_before bytes text b e long = rw e (by (b == 10) refl)
  where
    by : (x : Bool) → (b == 10) ≡ x → line_fault (text ++ b ∷ []) ≡ Some TooLong
    by true f = rw (last_is None text b, f, before_is text b, above_most (length text) long) refl
    by false f = rw (last_is None text b, f, above_most (length (text ++ b ∷ [])) (omega (arith, length-append text (b ∷ [])))) refl

pub too_long_whole : (bytes text : List ℕ) (b : ℕ) → bytes ≡ text ++ b ∷ [] → (b ≡ 10 → ⊥) → 16384 < length bytes → line_fault bytes ≡ Some TooLong
unfolding line_fault
too_long_whole bytes text b e h long = let long' : 16384 < length (text ++ b ∷ []) = subst (λ (t : List ℕ). 16384 < length t) e long in rw e (rw (last_is None text b, not_feed b h, above_most (length (text ++ b ∷ [])) long') refl)

pub has_ended : (bytes text : List ℕ) (b : ℕ) → bytes ≡ text ++ b ∷ [] → (b ≡ 10 → ⊥) → length bytes ≤ 16384 → line_fault bytes ≡ Some Ended
unfolding line_fault
has_ended bytes text b e h short = let short' : length (text ++ b ∷ []) ≤ 16384 = subst (λ (t : List ℕ). length t ≤ 16384) e short in rw e (rw (last_is None text b, not_feed b h, within_most (length (text ++ b ∷ [])) short') refl)

pub nothing_ended : (bytes : List ℕ) → length bytes ≡ 0 → line_fault bytes ≡ Some Ended
unfolding line_fault
nothing_ended [] e = refl
nothing_ended (b ∷ bytes) e = let wrong : ⊥ = omega (arith, e) in absurd wrong

-- more than a line has an extra word
pub more_than_line : (bytes text : List ℕ) (b : ℕ) → bytes ≡ text ++ b ∷ [] → b ≡ 10 → length text ≤ 16384 → list_any (λ b. b == 10) text ≡ true → line_fault bytes ≡ Some ExtraWord
unfolding line_fault
more_than_line bytes text b e f short more = rw (e, f) (rw (last_is None text 10, before_is text 10, within_most (length text) short, more) refl)

-- a line with its line feed that is not too long has the fault of its words
pub fault_of_words : (bytes text : List ℕ) (b : ℕ) → bytes ≡ text ++ b ∷ [] → b ≡ 10 → length text ≤ 16384 → list_any (λ b. b == 10) text ≡ false → line_fault bytes ≡ words_fault (slice_split (λ b. b == 32) text)
unfolding line_fault
fault_of_words bytes text b e f short one = rw (e, f) (rw (last_is None text 10, before_is text 10, within_most (length text) short, one) refl)

abbrev pub refused : LineFault → Result Line LineFault
refused fault = Err fault

-- a reading that is refused for what its words say has their fault
pub refused_reads : {T : Type 0} (o : Option T) (f : Option LineFault) (r : Result T LineFault) → ((x : T) → r ≡ Ok x → ⊥) → ((fault : LineFault) → r ≡ Err fault → fault ≢ NoMemory → f ≡ Some fault) → Reads o f r
refused_reads o f (Ok x) n h = absurd (n x refl)
refused_reads o f (Err NoMemory) n h = tt
refused_reads o f (Err UnknownWord) n h = h UnknownWord refl (λ e. cc)
refused_reads o f (Err BadNumber) n h = h BadNumber refl (λ e. cc)
refused_reads o f (Err BadHex) n h = h BadHex refl (λ e. cc)
refused_reads o f (Err MissingWord) n h = h MissingWord refl (λ e. cc)
refused_reads o f (Err ExtraWord) n h = h ExtraWord refl (λ e. cc)
refused_reads o f (Err TooLong) n h = h TooLong refl (λ e. cc)
refused_reads o f (Err BadName) n h = h BadName refl (λ e. cc)
refused_reads o f (Err Ended) n h = h Ended refl (λ e. cc)

-- what a reader of words answers is the fault that there is, or there was no memory
pub found_or : (o : Option Line) (f : Option LineFault) (found : LineFault) → Reads o f (Err found) → (found ≡ NoMemory) ⊎ (f ≡ Some found)
found_or o f NoMemory h = inl refl
found_or o f UnknownWord h = inr h
found_or o f BadNumber h = inr h
found_or o f BadHex h = inr h
found_or o f MissingWord h = inr h
found_or o f ExtraWord h = inr h
found_or o f TooLong h = inr h
found_or o f BadName h = inr h
found_or o f Ended h = inr h

found_is : (o : Option Line) (f : Option LineFault) (found fault : LineFault) → Reads o f (Err found) → refused found ≡ refused fault → fault ≢ NoMemory → f ≡ Some fault
found_is o f found fault h e k = by (found_or o f found h)
  where
    same : found ≡ fault
    same = cc

    by : (found ≡ NoMemory) ⊎ (f ≡ Some found) → f ≡ Some fault
    by (inl n) = absurd (k (sym same ∙ n))
    by (inr g) = g ∙ ap Some same

-- the fault that was found of the words of a line is the line's
pub cause_of_words : (bytes text : List ℕ) (b : ℕ) (words : List (List ℕ)) (found fault : LineFault) → bytes ≡ text ++ b ∷ [] → b ≡ 10 → length text ≤ 16384 → list_any (λ b. b == 10) text ≡ false → words ≡ slice_split (λ b. b == 32) text
    → Reads (line_of words) (words_fault words) (Err found) → refused found ≡ refused fault → fault ≢ NoMemory → line_fault bytes ≡ Some fault
cause_of_words bytes text b words found fault e f short one w g r h = fault_of_words bytes text b e f short one ∙ (ap words_fault (sym w) ∙ found_is (line_of words) (words_fault words) found fault g r h)

-- the fault of a line is the one that is found of its words
pub refused_words : (bytes text : List ℕ) (b : ℕ) (words : List (List ℕ)) (found fault : LineFault) → bytes ≡ text ++ b ∷ [] → b ≡ 10 → length text ≤ 16384 → list_any (λ b. b == 10) text ≡ false → words ≡ slice_split (λ b. b == 32) text
    → Reads (line_of words) (words_fault words) (Err found) → line_fault bytes ≡ Some fault → (refused found ≡ refused fault) ⊎ (refused found ≡ refused NoMemory)
refused_words bytes text b words found fault e f short one w g h = by (found_or (line_of words) (words_fault words) found g)
  where
    is : words_fault words ≡ Some fault
    is = ap words_fault w ∙ (sym (fault_of_words bytes text b e f short one) ∙ h)

    by : (found ≡ NoMemory) ⊎ (words_fault words ≡ Some found) → (refused found ≡ refused fault) ⊎ (refused found ≡ refused NoMemory)
    by (inl n) = inr (ap refused n)
    by (inr k) = let both : Some found ≡ Some fault = sym k ∙ is in inl cc

-- a line whose words have a fault has it too, if there was memory
pub words_refused : (bytes text : List ℕ) (b : ℕ) (words : List (List ℕ)) (found : LineFault) → bytes ≡ text ++ b ∷ [] → b ≡ 10 → length text ≤ 16384 → list_any (λ b. b == 10) text ≡ false → words ≡ slice_split (λ b. b == 32) text
    → Reads (line_of words) (words_fault words) (Err found) → (found ≡ NoMemory) ⊎ (line_fault bytes ≡ Some found)
words_refused bytes text b words found e f short one w g = by (found_or (line_of words) (words_fault words) found g)
  where
    by : (found ≡ NoMemory) ⊎ (words_fault words ≡ Some found) → (found ≡ NoMemory) ⊎ (line_fault bytes ≡ Some found)
    by (inl n) = inl n
    by (inr k) = inr (fault_of_words bytes text b e f short one ∙ (ap words_fault (sym w) ∙ k))

-- a line with one fault has no other
pub refused_so : (bytes : List ℕ) (own fault : LineFault) → line_fault bytes ≡ Some own → line_fault bytes ≡ Some fault → (refused own ≡ refused fault) ⊎ (refused own ≡ refused NoMemory)
refused_so bytes own fault e h =
    let both : Some own ≡ Some fault = sym e ∙ h in
    inl cc
