use Rattle.std.proofs.Common.{sym, ◌∙◌, arith}
use Rattle.bus_names.specs.declared.parse.Refusal.TheVariants.{Bad, Deep}
use Rattle.bus_names.proofs.Letters.{stops, goes, ends, steps_err}
use Rattle.bus_names.proofs.parse.parse.Goals as goal

pub returns-in-Err-Bad : goal.returns-in-Err-Bad
returns-in-Err-Bad c =
    sym c.loop-letter.invariant.1 ∙ stops 32 c.loop-letter.parser c.loop-letter.at c.args.text.now c.loop-letter.letter-index Bad c.loop-letter-test.true
    (steps_err c.step.result c.step.new.self _ c.in-Err-Bad.field-0 Bad c.in-Err-Bad.is c.in-Err-Bad.field-0-is c.step.ensures)

pub returns-in-Err-Deep : goal.returns-in-Err-Deep
returns-in-Err-Deep c =
    sym c.loop-letter.invariant.1 ∙ stops 32 c.loop-letter.parser c.loop-letter.at c.args.text.now c.loop-letter.letter-index Deep c.loop-letter-test.true
    (steps_err c.step.result c.step.new.self _ c.in-Err-Deep.field-0 Deep c.in-Err-Deep.is c.in-Err-Deep.field-0-is c.step.ensures)

pub loop-letter-preserved : goal.loop-letter-preserved
loop-letter-preserved c =
    (omega arith, sym (goes 32 c.loop-letter.parser c.loop-letter.at c.args.text.now c.loop-letter.letter-index c.step.new.self c.loop-letter-test.true c.in-Ok.ensures) ∙ c.loop-letter.invariant.1)

pub returns-then-is_ready : goal.returns-then-is_ready
returns-then-is_ready c =
    sym c.loop-letter.invariant.1 ∙ ends 32 c.loop-letter.parser c.loop-letter.at c.args.text.now c.loop-letter.letter-index _ c.loop-letter-test.false (sym c.is_ready.ensures ∙ c.if-is_ready.true)

pub returns-else-is_ready : goal.returns-else-is_ready
returns-else-is_ready c =
    sym c.loop-letter.invariant.1 ∙ ends 32 c.loop-letter.parser c.loop-letter.at c.args.text.now c.loop-letter.letter-index _ c.loop-letter-test.false (sym c.is_ready.ensures ∙ c.if-is_ready.false)
