use Rattle.std.proofs.Common.{sym}
use Rattle.login_conf.proofs.Ends.{continued-yes, continued-no, continued-none}
use Rattle.login_conf.proofs.cut.continued.Goals as goal

pub returns-then-last-eq92 : goal.returns-then-last-eq92
returns-then-last-eq92 c = rw (c.in-Some.ensures.cases.0, c.if-last-eq92.true) (sym (continued-yes c.in-Some.front.now))

pub returns-else-last-eq92 : goal.returns-else-last-eq92
returns-else-last-eq92 c = rw c.in-Some.ensures.cases.0 (sym (continued-no c.in-Some.front.now c.in-Some.last.now c.if-last-eq92.false))

pub returns-in-None : goal.returns-in-None
returns-in-None c = continued-none c.args.line.now c.in-None.ensures.cases
