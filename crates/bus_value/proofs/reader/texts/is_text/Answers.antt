use Rattle.std.proofs.Common.{◌∙◌, sym, eqb-true}
use Rattle.std.proofs.lemmas.List.{take_rest}
use Rattle.bus_value.proofs.PlainTexts.{all_plain, behind}
use Rattle.bus_value.proofs.reader.texts.is_text.Goals as goal

pub returns-then-is_empty : goal.returns-then-is_empty
returns-then-is_empty c =
    c.if-is_empty.true
    ∙ all_plain c.args.text.now c.plain_front.result c.plain_front.ensures.value (eqb-true _ _ (sym (rw take_rest at c.if-is_empty.ensures)))

pub returns-else-is_empty : goal.returns-else-is_empty
returns-else-is_empty c =
    rw take_rest at c.is_text_by_blocks-else-is_empty.ensures
    ∙ behind c.args.text.now c.plain_front.result c.plain_front.ensures.value
