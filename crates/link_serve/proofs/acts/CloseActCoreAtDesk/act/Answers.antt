use Rattle.link_serve.proofs.OneEntry.{close-appends}
use Rattle.link_serve.proofs.acts.CloseActCoreAtDesk.act.Goals as goal

pub returns-clause-setup : goal.returns-clause-setup
returns-clause-setup c = c.close.ensures.0

pub returns-clause-appends : goal.returns-clause-appends
returns-clause-appends c = close-appends c.args.who c.args.value.now.journal c.close.new.self.journal c.close.ensures.1

pub returns-clause-does : goal.returns-clause-does
returns-clause-does c = c.close.ensures.1
