use Rattle.std.proofs.Common.{refl}
use Rattle.link_serve.proofs.OneEntry.{appends-none}
use Rattle.link_serve.proofs.acts.LookingActCoreAtDesk.act.Goals as goal

pub returns-clause-appends : goal.returns-clause-appends
returns-clause-appends c = appends-none c.args._who.0 c.args.value.now.journal c.args.value.now.journal refl

pub returns-clause-does : goal.returns-clause-does
returns-clause-does c = (refl, c.stop.ensures)
