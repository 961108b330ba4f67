use Rattle.switch_core.proofs.Aheads.{begun, begun-ahead}
use Rattle.switch_core.proofs.ahead.Ahead.new.Goals as goal

pub invariant_of-result : goal.invariant_of-result
invariant_of-result g c = begun-ahead c.args.out c.of-start.result.value c.len-from.result c.len-from.ensures.value c.of-start.ensures

pub returns : goal.returns
returns g c = begun (g.F.Look.trail c.args.facts.now) c.args.out c.of-start.result.value c.len-from.result c.len-from.ensures.value c.of-start.ensures
