use Rattle.login_laws.proofs.FewTaken.{each-takes-few}
use Rattle.login_laws.proofs.law.each_takes_few.Goals as goal

pub returns : goal.returns
returns c = each-takes-few
