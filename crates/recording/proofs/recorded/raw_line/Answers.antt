use Rattle.std.proofs.Common.{◌≡◌, ◌<◌, ◌∙◌, ap, sym, length, rules}
use Rattle.recording.specs.Lines.{spell}
use Rattle.recording.specs.declared.recorded.RawText.{RawText}
use Rattle.recording.specs.inner.Parts.{line_of}
use Rattle.recording.proofs.RecordedParts.{action_word, conf_none, conf_some, same_ok}
use Rattle.recording.proofs.recorded.raw_line.Goals as goal

pub returns-then-is_empty : goal.returns-then-is_empty
returns-then-is_empty c =
    let none : length c.args.line.now ≡ 0 = search rules in
    same_ok _ _ _ c.from_slice.ensures (conf_none c.args.line.now none ∙ ap (λ (t : RawText). spell (line_of t c.args.line.now)) (sym c.in-Conf.is))

pub returns-else-is_empty : goal.returns-else-is_empty
returns-else-is_empty c =
    let some : 0 < length c.args.line.now = search rules in
    same_ok _ _ _ c.word_text.ensures (conf_some c.args.line.now some ∙ ap (λ (t : RawText). spell (line_of t c.args.line.now)) (sym c.in-Conf.is))

pub returns-in-Table : goal.returns-in-Table
returns-in-Table c =
    same_ok _ _ _ c.word_text-in-Table.ensures (action_word c.args.line.now ∙ ap (λ (t : RawText). spell (line_of t c.args.line.now)) (sym c.in-Table.is))
