use Rattle.bus_message.proofs.Zeros.{stops, goes, ends}
use Rattle.bus_message.proofs.reading.check_zeros.Goals as goal

pub returns-then-padding-index-ne0 : goal.returns-then-padding-index-ne0
returns-then-padding-index-ne0 c =
    stops c.args.at c.loop-index.index c.args.padding.now c.refuse.result c.requires c.loop-index.invariant c.loop-index-test.true c.if-padding-index-ne0.true c.refuse.ensures

pub loop-index-preserved : goal.loop-index-preserved
loop-index-preserved c = goes c.args.at c.loop-index.index c.args.padding.now c.loop-index.invariant c.loop-index-test.true c.if-padding-index-ne0.false

pub returns : goal.returns
returns c = ends c.args.at c.loop-index.index c.args.padding.now c.loop-index.invariant c.loop-index-test.false
