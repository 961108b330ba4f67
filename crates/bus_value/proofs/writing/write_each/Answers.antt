use Rattle.std.proofs.Common.{◌∙◌, List, ap, arith, refl}
use Rattle.std.proofs.lemmas.List.{take_all}
use Rattle.bus_value.specs.Values.{Val, vals}
use Rattle.bus_value.specs.Spelling.{spellings}
use Rattle.bus_value.proofs.Rows.{first_fits, first_pushed}
use Rattle.bus_value.proofs.writing.write_each.Goals as goal

pub push-requires : goal.push-requires
push-requires c =
    first_fits c.args.order c.args.start c.loop-value.out.items c.loop-value.value-index c.args.values.now c.args.values.now c.value-item.result
    c.loop-value.invariant c.loop-value-test.true c.value-item.is refl c.requires

pub loop-value-preserved : goal.loop-value-preserved
loop-value-preserved c =
    first_pushed c.args.order c.args.start c.loop-value.out.items c.push.new.out.items c.loop-value.value-index c.args.values.now c.value-item.result
    c.loop-value.invariant c.loop-value-test.true c.value-item.is c.in_ok-push.ensures.value

pub returns : goal.returns
returns c =
    c.from_vec.ensures ∙ (c.loop-value.invariant ∙ ap (λ (vs : List Val). spellings c.args.order c.args.start (vals vs)) (take_all c.loop-value.value-index c.args.values.now (omega (arith, c.loop-value-test.false))))
