use Rattle.login_laws.proofs.Raising.{shares-move}
use Rattle.login_laws.proofs.law.shares_move.Goals as goal

pub returns : goal.returns
returns c = shares-move
