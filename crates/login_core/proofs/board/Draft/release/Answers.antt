use Rattle.login_core.proofs.Devices.{untake-above}
use Rattle.login_core.proofs.board.Draft.release.Goals as goal

pub for_each-requires-clause-spares : goal.for_each-requires-clause-spares
for_each-requires-clause-spares c = untake-above c.args.session
