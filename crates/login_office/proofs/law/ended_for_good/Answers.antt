use Rattle.login_office.proofs.Histories.{ended_for_good}
use Rattle.login_office.proofs.law.ended_for_good.Goals as goal

pub returns : goal.returns
returns c = ended_for_good
