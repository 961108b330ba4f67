use Rattle.std.proofs.Common.{ap, sym, ◌∙◌}
use Rattle.bus_message.specs.Fields.{plain}
use Rattle.bus_message.proofs.KeptLaws.{later, here_found, plain_of}
use Rattle.bus_message.proofs.fields.plain.Goals as goal

pub returns-in-Some : goal.returns-in-Some
returns-in-Some c =
    ap plain (c.loop-field.invariant ∙ here_found c.args.wanted c.loop-field.field-index c.args.fields.now c.field-item.result c.loop-field-test.true c.field-item.is c.if-field-wanted.true)
    ∙ plain_of c.field-item.result.value ∙ c.in-Some.is

pub returns-in-None : goal.returns-in-None
returns-in-None c =
    ap plain (c.loop-field.invariant ∙ here_found c.args.wanted c.loop-field.field-index c.args.fields.now c.field-item.result c.loop-field-test.true c.field-item.is c.if-field-wanted.true)
    ∙ plain_of c.field-item.result.value ∙ c.in-None.is

pub loop-field-preserved : goal.loop-field-preserved
loop-field-preserved c =
    c.loop-field.invariant ∙ later c.args.wanted c.loop-field.field-index c.args.fields.now c.field-item.result c.loop-field-test.true c.field-item.is c.if-field-wanted.false
