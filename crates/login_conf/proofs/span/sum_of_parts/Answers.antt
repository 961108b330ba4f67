use Rattle.std.proofs.Common.{sym, ap, ◌∙◌}
use borrow.Author.Tests.{eqb-true}
use Rattle.login_conf.specs.Spans.{parts}
use Rattle.login_conf.proofs.Parts.{and_then, never_added, part_added, all_added}
use Rattle.login_conf.proofs.span.sum_of_parts.Goals as goal

pub loop-rest-preserved : goal.loop-rest-preserved
loop-rest-preserved c =
    let h = part_added c.loop-rest.sum c.in-Some.next c.first_part.result.0.now (parts c.first_part.result.1.now) c.in-Some.ensures in
    (h.0, h.1 ∙ (ap (and_then c.loop-rest.sum) (sym c.first_part.ensures.parts) ∙ c.loop-rest.invariant.1))

pub returns-in-None : goal.returns-in-None
returns-in-None c =
    never_added c.loop-rest.sum c.first_part.result.0.now (parts c.first_part.result.1.now) c.args.text.now c.in-None.ensures
    (ap (and_then c.loop-rest.sum) (sym c.first_part.ensures.parts) ∙ c.loop-rest.invariant.1)

pub returns : goal.returns
returns c =
    all_added c.loop-rest.sum c.loop-rest.rest.now c.args.text.now (eqb-true _ _ (sym c.is_empty.ensures ∙ c.loop-rest-test.false))
    c.loop-rest.invariant.0 c.loop-rest.invariant.1
