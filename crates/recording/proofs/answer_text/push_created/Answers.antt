use Rattle.std.proofs.Common.{sym, ◌++◌}
use Rattle.recording.specs.AnswerWords.{found_words, value_words}
use Rattle.login_model.specs.inner.Prefixed.{spaced}
use Rattle.recording.proofs.Printed.{two_parts, spaced-append}
use Rattle.recording.proofs.answer_text.push_created.Goals as goal

pub returns : goal.returns
returns c =
    let x = c.args.x.now in
    two_parts c.push_values.result c.args.text.now c.push_found.new.text c.push_values.new.text (spaced (found_words x)) (spaced (value_words x))
    (spaced (found_words x ++ value_words x)) c.in_ok-push_found.ensures c.push_values.ensures (sym (spaced-append (found_words x) (value_words x)))
