use Rattle.std.proofs.Common.{ℕ, List, [], ◌∷◌, ◌++◌, ap, sym, ◌∙◌}
use Rattle.std.specs.Fmt.{decimal}
use Rattle.std.specs.List.{flat_map}
use Rattle.login_model.specs.declared.mark.Mark.{Mark}
use Rattle.recording.specs.Lines.{event_words}
use Rattle.recording.specs.Print.{mark_words, verdict_words}
use Rattle.login_model.specs.inner.Prefixed.{spaced}
use Rattle.recording.proofs.Printed.{block-spaced}
use Rattle.recording.proofs.entry.entry_text.Goals as goal

pub returns : goal.returns
returns c =
    let e = c.args.entry.now in
    let lines = λ (ms : List Mark). flat_map (λ (m : Mark). spaced (mark_words m) ++ 10 ∷ []) ms in
    c.into_word.ensures
    ∙ (c.in_ok-push_marks.ensures
    ∙ (ap (λ (ms : List Mark). c.push-2.new.self ++ lines ms) c.as_slice.ensures
    ∙ (ap (λ (t : List ℕ). t ++ lines e.marks)
    (c.in_ok-push-2.ensures ∙ ap (λ (t : List ℕ). t ++ 10 ∷ [])
    (c.in_ok-push_verdict.ensures ∙ ap (λ (t : List ℕ). t ++ spaced (verdict_words e.verdict e.answer))
    (c.in_ok-push.ensures ∙ ap (λ (t : List ℕ). t ++ 10 ∷ [])
    (c.in_ok-push_event.ensures ∙ ap (λ (t : List ℕ). t ++ spaced (event_words e.event))
    (c.in_ok-digits.ensures ∙ ap (λ (t : List ℕ). t ++ decimal c.args.number) c.new-text.ensures)))))
    ∙ sym (block-spaced c.args.number e))))
