use Rattle.std.proofs.Common.{ap, sym, ◌∙◌, is_some}
use Rattle.bus_message.proofs.KeptLaws.{later, here_found}
use Rattle.bus_message.proofs.fields.is_there.Goals as goal

pub returns-then-field-wanted : goal.returns-then-field-wanted
returns-then-field-wanted c =
    sym (ap is_some (c.loop-field.invariant ∙ here_found c.args.wanted c.loop-field.field-index c.args.fields.now c.field-item.result c.loop-field-test.true c.field-item.is c.if-field-wanted.true))

pub loop-field-preserved : goal.loop-field-preserved
loop-field-preserved c =
    c.loop-field.invariant ∙ later c.args.wanted c.loop-field.field-index c.args.fields.now c.field-item.result c.loop-field-test.true c.field-item.is c.if-field-wanted.false
