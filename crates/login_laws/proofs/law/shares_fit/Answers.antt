use Rattle.login_laws.proofs.Sharing.{shares-fit}
use Rattle.login_laws.proofs.law.shares_fit.Goals as goal

pub returns : goal.returns
returns c = shares-fit
