use Rattle.bus_value.proofs.Letters.{letters_all, letters_pushed}
use Rattle.bus_value.proofs.values.letters_of.Goals as goal

pub loop-value-preserved : goal.loop-value-preserved
loop-value-preserved c =
    letters_pushed c.loop-value.letters.items c.push_type.new.out.items c.loop-value.value-index c.args.values.now c.value-item.result c.loop-value.invariant c.loop-value-test.true c.value-item.is c.in_ok-push_type.ensures.value

pub returns : goal.returns
returns c = letters_all c.loop-value.letters.items c.args.values.now c.loop-value.value-index c.loop-value.invariant c.loop-value-test.false
