use Rattle.std.proofs.Common.{refl}
use Rattle.desk.specs.History.{entries}
use Rattle.link_serve.proofs.TurnsTaken.{close-tells}
use Rattle.link_serve.proofs.serving.Server.close.Goals as goal

pub act-requires-clause-after : goal.act-requires-clause-after
act-requires-clause-after g c = (entries c.args.pass.now.view.seen, refl)

pub returns-then-act-clause-closes : goal.returns-then-act-clause-closes
returns-then-act-clause-closes g c = close-tells c.args.pass.now.view c.act.new.pass.view c.if-act.ensures.turn c.if-act.ensures.who_mine

pub returns-else-act-clause-closes : goal.returns-else-act-clause-closes
returns-else-act-clause-closes g c = close-tells c.args.pass.now.view c.act.new.pass.view c.if-act.ensures.turn c.if-act.ensures.who_mine
