use Rattle.std.proofs.Common.{refl}
use Rattle.desk.specs.History.{entries}
use Rattle.link_serve.proofs.TurnsTaken.{look-tells}
use Rattle.link_serve.proofs.stepping.look_for_stop.Goals as goal

pub act-requires-clause-after : goal.act-requires-clause-after
act-requires-clause-after g c = (entries c.args.pass.now.view.seen, refl)

pub returns-clause-looks : goal.returns-clause-looks
returns-clause-looks g c = look-tells c.args.pass.now.view c.act.new.pass.view c.act.result c.act.ensures.turn c.act.ensures.who_mine
