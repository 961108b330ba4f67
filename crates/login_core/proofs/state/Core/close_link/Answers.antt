use Rattle.login_core.proofs.Stepping.{stopped-never}
use Rattle.login_core.proofs.state.Core.close_link.Goals as goal

pub step-requires-clause-placed : goal.step-requires-clause-placed
step-requires-clause-placed c = (c.requires.connected, stopped-never c.args.self.now.journal c.args.who)
