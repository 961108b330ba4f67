use Rattle.std.proofs.Common.{rules, ◌≡◌, ◌<◌, length}
use Rattle.recording.proofs.Texts.{spell_text-none, spell_text-some}
use Rattle.recording.proofs.line_text.LineText.value.Goals as goal

pub returns-then-is_empty : goal.returns-then-is_empty
returns-then-is_empty c =
    let none : length c.args.text.now ≡ 0 = search rules in
    rw (spell_text-none c.args.text.now none) (search rules)

pub returns-else-is_empty : goal.returns-else-is_empty
returns-else-is_empty c =
    let some : 0 < length c.args.text.now = search rules in
    rw (spell_text-some c.args.text.now some) (search rules)
