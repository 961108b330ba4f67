use Rattle.std.proofs.Common.{ap, sym, length}
use Rattle.bus_auth.proofs.Ends.{without_cr-cr, without_cr-other, least-empty, least-cr, least-other}
use Rattle.bus_auth.proofs.line.least_length.Goals as goal

pub returns-in-None-clause-least : goal.returns-in-None-clause-least
returns-in-None-clause-least c = λ h. least-empty c.args.line.now c.in-None.ensures.cases

pub returns-then-last-eq13-clause-value : goal.returns-then-last-eq13-clause-value
returns-then-last-eq13-clause-value c =
    rw (c.in-Some.ensures.cases.0, c.if-last-eq13.true) (ap length (sym (without_cr-cr c.in-Some.front.now)))

pub returns-then-last-eq13-clause-least : goal.returns-then-last-eq13-clause-least
returns-then-last-eq13-clause-least c =
    rw (c.in-Some.ensures.cases.0, c.if-last-eq13.true) (least-cr c.in-Some.front.now)

pub returns-else-last-eq13-clause-value : goal.returns-else-last-eq13-clause-value
returns-else-last-eq13-clause-value c =
    rw c.in-Some.ensures.cases.0 (ap length (sym (without_cr-other c.in-Some.front.now c.in-Some.last.now c.if-last-eq13.false)))

pub returns-else-last-eq13-clause-least : goal.returns-else-last-eq13-clause-least
returns-else-last-eq13-clause-least c =
    rw c.in-Some.ensures.cases.0 (least-other c.in-Some.front.now c.in-Some.last.now c.if-last-eq13.false)
