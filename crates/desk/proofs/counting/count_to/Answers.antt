use Rattle.std.proofs.Common.{◌∙◌}
use Rattle.desk.proofs.CountingUp.{no_more, one_more}
use Rattle.desk.proofs.counting.count_to.Goals as goal

pub returns-then-not-act-clause-made : goal.returns-then-not-act-clause-made
returns-then-not-act-clause-made g c =
    no_more c.args.most c.loop-number.number c.args.pass.view c.loop-number.pass.view c.act.new.pass.view c.loop-number-test.true c.loop-number.invariant.1 c.if-not-act.ensures.turn

pub loop-number-preserved : goal.loop-number-preserved
loop-number-preserved g c =
    (c.act.ensures.desk ∙ c.loop-number.invariant.0, one_more c.loop-number.number c.args.pass.view c.loop-number.pass.view c.act.new.pass.view c.loop-number.invariant.1 c.if-not-act.ensures.turn)
