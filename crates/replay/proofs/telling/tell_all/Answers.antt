use Rattle.std.proofs.Common.{not, ap, ◌∙◌}
use Rattle.replay.proofs.SaidSoFar.{nobody-fetched, nobody-told}
use Rattle.replay.proofs.telling.tell_all.Goals as goal

pub returns-then-has_no_links-clause-gives : goal.returns-then-has_no_links-clause-gives
returns-then-has_no_links-clause-gives g c =
    nobody-told c.args.office.now (c.has_no_links.ensures.0 c.if-has_no_links.true) c.args.own.now (g.K.Sink.held c.args.sink.now) (c.is_none.ensures ∙ ap not c.if-is_none.true)

pub returns-then-has_no_links-clause-fetched : goal.returns-then-has_no_links-clause-fetched
returns-then-has_no_links-clause-fetched g c = nobody-fetched c.args.office.now (c.has_no_links.ensures.0 c.if-has_no_links.true) c.args.own.now
