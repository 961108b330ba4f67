use Rattle.std.proofs.Common.{◌≡◌, ap, get_or}
use Rattle.bus_message.proofs.KeptLaws.{good_next, bad_here, all_good}
use Rattle.bus_message.proofs.checks.check_each.Goals as goal

pub returns-then-is_bad : goal.returns-then-is_bad
returns-then-is_bad c =
    let fs = c.args.fields.now in
    let f = get_or fs c.loop-index.index c.index-fields-index.result in
    let item : f ≡ get_or fs c.loop-index.index f = ap (λ x. get_or fs c.loop-index.index x) c.index-fields-index.is in
    bad_here fs c.loop-index.index f c.is_bad.result c.refuse.result c.loop-index-test.true item c.is_bad.ensures c.if-is_bad.true c.loop-index.invariant c.refuse.ensures

pub loop-index-preserved : goal.loop-index-preserved
loop-index-preserved c = good_next c.args.fields.now c.loop-index.index c.is_bad.result c.loop-index-test.true c.is_bad.ensures c.if-is_bad.false c.loop-index.invariant

pub returns : goal.returns
returns c = all_good c.args.fields.now c.loop-index.index c.loop-index-test.false c.loop-index.invariant
