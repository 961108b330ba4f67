use Rattle.login_laws.proofs.LeftHandles.{handles-are-left}
use Rattle.login_laws.proofs.law.handles_are_left.Goals as goal

pub returns : goal.returns
returns c = handles-are-left
