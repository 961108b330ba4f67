use Rattle.std.proofs.Common.{◌≡◌, ◌≤◌, ◌++◌, ◌∷◌, [], ap, sym, ◌∙◌, map, Some, ℕ, length, inl, inr}
use Rattle.recording.specs.declared.line.LineFault.TheVariants.{TooLong, Ended, ExtraWord}
use Rattle.recording.specs.Causes.{line_fault}
use Rattle.recording.specs.inner.LineReadings.{line_of}
use Rattle.recording.proofs.Causes.{too_long_before, too_long_whole, has_ended, nothing_ended, more_than_line, cause_of_words, refused_words, words_refused, refused_so}
use Rattle.recording.proofs.ReadBytes.{each_byte, read_so, read_found, read_fits, read_refused}
use Rattle.recording.proofs.Grammar.{read_again, meant_faultless, read_faultless, refused_unread}
use Rattle.recording.proofs.line.read_line.Goals.{then-text-gt-LONGEST_TEXT-via-then-text-gt-LONGEST_TEXT, then-text-gt-LONGEST_TEXT-via-else-text-gt-LONGEST_TEXT+then-bytes-gt-LONGEST_TEXT}
use Rattle.recording.proofs.line.read_line.Goals.{Joined-then-text-gt-LONGEST_TEXT}
use Rattle.recording.proofs.line.read_line.Goals as goal

pub returns-in_default-clause-cause : goal.returns-in_default-clause-cause
returns-in_default-clause-cause c fault e h =
    let is : line_fault c.args.bytes.now ≡ Some Ended = nothing_ended c.args.bytes.now c.in_default.ensures.cases in
    cc

pub returns-in_default-clause-read : goal.returns-in_default-clause-read
returns-in_default-clause-read c line h = absurd (meant_faultless c.args.bytes.now Ended (nothing_ended c.args.bytes.now c.in_default.ensures.cases) line h)

is_too_long : (c : Joined-then-text-gt-LONGEST_TEXT) → line_fault c.args.bytes.now ≡ Some TooLong
is_too_long c = elim c.then-text-gt-LONGEST_TEXT.branch [
  | then-text-gt-LONGEST_TEXT-via-then-text-gt-LONGEST_TEXT w ↦ too_long_before c.args.bytes.now c.in-Some.text.now c.in-Some.last.now c.in-Some.ensures.cases.0 w.if-text-gt-LONGEST_TEXT.true
  | then-text-gt-LONGEST_TEXT-via-else-text-gt-LONGEST_TEXT+then-bytes-gt-LONGEST_TEXT w ↦ too_long_whole c.args.bytes.now c.in-Some.text.now c.in-Some.last.now c.in-Some.ensures.cases.0 w.if-bytes-gt-LONGEST_TEXT.true.0 w.if-bytes-gt-LONGEST_TEXT.true.1
]

pub returns-then-text-gt-LONGEST_TEXT-clause-cause : goal.returns-then-text-gt-LONGEST_TEXT-clause-cause
returns-then-text-gt-LONGEST_TEXT-clause-cause c fault e h =
    let is : line_fault c.args.bytes.now ≡ Some TooLong = is_too_long c in
    cc

pub returns-then-text-gt-LONGEST_TEXT-clause-read : goal.returns-then-text-gt-LONGEST_TEXT-clause-read
returns-then-text-gt-LONGEST_TEXT-clause-read c line h = absurd (meant_faultless c.args.bytes.now TooLong (is_too_long c) line h)

pub returns-then-not-is_whole-2-clause-cause : goal.returns-then-not-is_whole-2-clause-cause
returns-then-not-is_whole-2-clause-cause c fault e h =
    let short : length c.args.bytes.now ≤ 16384 = elim c.if-bytes-gt-LONGEST_TEXT.either [ inl x ↦ x.1 | inr x ↦ absurd (c.if-not-is_whole-2.true x) ] in
    let is : line_fault c.args.bytes.now ≡ Some Ended = has_ended c.args.bytes.now c.in-Some.text.now c.in-Some.last.now c.in-Some.ensures.cases.0 c.if-not-is_whole-2.true short in
    cc

pub returns-then-not-is_whole-2-clause-read : goal.returns-then-not-is_whole-2-clause-read
returns-then-not-is_whole-2-clause-read c line h =
    let short : length c.args.bytes.now ≤ 16384 = elim c.if-bytes-gt-LONGEST_TEXT.either [ inl x ↦ x.1 | inr x ↦ absurd (c.if-not-is_whole-2.true x) ] in
    absurd (meant_faultless c.args.bytes.now Ended (has_ended c.args.bytes.now c.in-Some.text.now c.in-Some.last.now c.in-Some.ensures.cases.0 c.if-not-is_whole-2.true short) line h)

pub returns-then-has_feed-clause-cause : goal.returns-then-has_feed-clause-cause
returns-then-has_feed-clause-cause c fault e h =
    let is : line_fault c.args.bytes.now ≡ Some ExtraWord = more_than_line c.args.bytes.now c.in-Some.text.now c.in-Some.last.now c.in-Some.ensures.cases.0 c.if-not-is_whole-2.false c.if-text-gt-LONGEST_TEXT.false (sym c.has_feed.ensures ∙ c.if-has_feed.true) in
    cc

pub returns-then-has_feed-clause-read : goal.returns-then-has_feed-clause-read
returns-then-has_feed-clause-read c line h = absurd (meant_faultless c.args.bytes.now ExtraWord (more_than_line c.args.bytes.now c.in-Some.text.now c.in-Some.last.now c.in-Some.ensures.cases.0 c.if-not-is_whole-2.false c.if-text-gt-LONGEST_TEXT.false (sym c.has_feed.ensures ∙ c.if-has_feed.true)) line h)

pub returns-in-Ok-read_words-clause-found : goal.returns-in-Ok-read_words-clause-found
returns-in-Ok-read_words-clause-found c = read_found c.args.bytes.now c.in-Ok-read_words.line c.meant_line.result (read_so c.args.bytes.now c.in-Some.text.now c.in-Ok-read_words.line
    (c.in-Some.ensures.cases.0 ∙ ap (λ (b : ℕ). c.in-Some.text.now ++ b ∷ []) c.if-not-is_whole-2.false) c.if-text-gt-LONGEST_TEXT.false (sym c.has_feed.ensures ∙ c.if-has_feed.false) (each_byte c.args.bytes.now c.type_inv.bytes)
    (sym (ap line_of (ap (map (λ word. word.now)) c.deref.ensures.value ∙ c.in-Ok.ensures)) ∙ c.in-Ok-read_words.ensures)) c.meant_line.ensures

pub returns-in-Ok-read_words-clause-fits : goal.returns-in-Ok-read_words-clause-fits
returns-in-Ok-read_words-clause-fits c = read_fits c.args.bytes.now c.in-Ok-read_words.line c.meant_line.result (read_so c.args.bytes.now c.in-Some.text.now c.in-Ok-read_words.line
    (c.in-Some.ensures.cases.0 ∙ ap (λ (b : ℕ). c.in-Some.text.now ++ b ∷ []) c.if-not-is_whole-2.false) c.if-text-gt-LONGEST_TEXT.false (sym c.has_feed.ensures ∙ c.if-has_feed.false) (each_byte c.args.bytes.now c.type_inv.bytes)
    (sym (ap line_of (ap (map (λ word. word.now)) c.deref.ensures.value ∙ c.in-Ok.ensures)) ∙ c.in-Ok-read_words.ensures)) c.meant_line.ensures

pub returns-in-Ok-read_words-clause-read : goal.returns-in-Ok-read_words-clause-read
returns-in-Ok-read_words-clause-read c = read_again c.args.bytes.now c.in-Some.text.now c.in-Ok-read_words.line c.meant_line.result
    (c.in-Some.ensures.cases.0 ∙ ap (λ (b : ℕ). c.in-Some.text.now ++ b ∷ []) c.if-not-is_whole-2.false)
    (sym (ap line_of (ap (map (λ word. word.now)) c.deref.ensures.value ∙ c.in-Ok.ensures)) ∙ c.in-Ok-read_words.ensures) c.meant_line.ensures

pub returns-in-Ok-read_words-clause-cause : goal.returns-in-Ok-read_words-clause-cause
returns-in-Ok-read_words-clause-cause c fault e h = absurd (h (read_refused c.in-Ok-read_words.line c.meant_line.result fault c.meant_line.ensures e))

pub returns-in_default-clause-refused : goal.returns-in_default-clause-refused
returns-in_default-clause-refused c fault h = refused_so c.args.bytes.now Ended fault (nothing_ended c.args.bytes.now c.in_default.ensures.cases) h

pub returns-then-text-gt-LONGEST_TEXT-clause-refused : goal.returns-then-text-gt-LONGEST_TEXT-clause-refused
returns-then-text-gt-LONGEST_TEXT-clause-refused c fault h = refused_so c.args.bytes.now TooLong fault (is_too_long c) h

pub returns-then-not-is_whole-2-clause-refused : goal.returns-then-not-is_whole-2-clause-refused
returns-then-not-is_whole-2-clause-refused c fault h =
    let short : length c.args.bytes.now ≤ 16384 = elim c.if-bytes-gt-LONGEST_TEXT.either [ inl x ↦ x.1 | inr x ↦ absurd (c.if-not-is_whole-2.true x) ] in
    refused_so c.args.bytes.now Ended fault (has_ended c.args.bytes.now c.in-Some.text.now c.in-Some.last.now c.in-Some.ensures.cases.0 c.if-not-is_whole-2.true short) h

pub returns-then-has_feed-clause-refused : goal.returns-then-has_feed-clause-refused
returns-then-has_feed-clause-refused c fault h =
    refused_so c.args.bytes.now ExtraWord fault (more_than_line c.args.bytes.now c.in-Some.text.now c.in-Some.last.now c.in-Some.ensures.cases.0 c.if-not-is_whole-2.false c.if-text-gt-LONGEST_TEXT.false (sym c.has_feed.ensures ∙ c.if-has_feed.true)) h

pub returns-in-Ok-read_words-clause-refused : goal.returns-in-Ok-read_words-clause-refused
returns-in-Ok-read_words-clause-refused c fault h = absurd (read_faultless c.args.bytes.now fault h c.in-Ok-read_words.line (read_so c.args.bytes.now c.in-Some.text.now c.in-Ok-read_words.line
    (c.in-Some.ensures.cases.0 ∙ ap (λ (b : ℕ). c.in-Some.text.now ++ b ∷ []) c.if-not-is_whole-2.false) c.if-text-gt-LONGEST_TEXT.false (sym c.has_feed.ensures ∙ c.if-has_feed.false) (each_byte c.args.bytes.now c.type_inv.bytes)
    (sym (ap line_of (ap (map (λ word. word.now)) c.deref.ensures.value ∙ c.in-Ok.ensures)) ∙ c.in-Ok-read_words.ensures)))

pub returns-clause-read : goal.returns-clause-read
returns-clause-read c line h =
    refused_unread c.args.bytes.now c.in-Err.fault (words_refused c.args.bytes.now c.in-Some.text.now c.in-Some.last.now (map (λ word. word.now) c.deref.result.now) c.in-Err.fault c.in-Some.ensures.cases.0 c.if-not-is_whole-2.false c.if-text-gt-LONGEST_TEXT.false (sym c.has_feed.ensures ∙ c.if-has_feed.false)
    (ap (map (λ word. word.now)) c.deref.ensures.value ∙ c.in-Ok.ensures) c.in-Err.ensures) line h

pub returns-clause-cause : goal.returns-clause-cause
returns-clause-cause c fault e h =
    cause_of_words c.args.bytes.now c.in-Some.text.now c.in-Some.last.now (map (λ word. word.now) c.deref.result.now) c.in-Err.fault fault c.in-Some.ensures.cases.0 c.if-not-is_whole-2.false c.if-text-gt-LONGEST_TEXT.false (sym c.has_feed.ensures ∙ c.if-has_feed.false)
    (ap (map (λ word. word.now)) c.deref.ensures.value ∙ c.in-Ok.ensures) c.in-Err.ensures e h

pub returns-clause-refused : goal.returns-clause-refused
returns-clause-refused c fault h =
    refused_words c.args.bytes.now c.in-Some.text.now c.in-Some.last.now (map (λ word. word.now) c.deref.result.now) c.in-Err.fault fault c.in-Some.ensures.cases.0 c.if-not-is_whole-2.false c.if-text-gt-LONGEST_TEXT.false (sym c.has_feed.ensures ∙ c.if-has_feed.false)
    (ap (map (λ word. word.now)) c.deref.ensures.value ∙ c.in-Ok.ensures) c.in-Err.ensures h
