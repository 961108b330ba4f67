use Rattle.std.proofs.Common.{sym, ap, ◌∙◌}
use Rattle.std.specs.Option.{option_map}
use borrow.Author.Tests.{eqb-true, eqb-false}
use Rattle.login_conf.specs.Spans.{span}
use Rattle.login_conf.proofs.Parts.{no_span, sum_is_span}
use Rattle.login_conf.proofs.span.read_span.Goals as goal

pub returns-then-is_empty : goal.returns-then-is_empty
returns-then-is_empty c = ap (option_map span) (no_span c.args.text.now (eqb-true _ _ (sym c.is_empty.ensures ∙ c.if-is_empty.true)))

pub returns-in-Some : goal.returns-in-Some
returns-in-Some c =
    ap (option_map span) (c.in-Some.ensures ∙ sum_is_span c.args.text.now (eqb-false _ _ (sym c.is_empty.ensures ∙ c.if-is_empty.false)))

pub returns-in-None : goal.returns-in-None
returns-in-None c =
    ap (option_map span) (c.in-None.ensures ∙ sum_is_span c.args.text.now (eqb-false _ _ (sym c.is_empty.ensures ∙ c.if-is_empty.false)))
