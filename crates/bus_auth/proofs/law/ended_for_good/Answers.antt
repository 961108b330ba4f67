use Rattle.bus_auth.proofs.Histories.{ended_for_good}
use Rattle.bus_auth.proofs.law.ended_for_good.Goals as goal

pub returns : goal.returns
returns c = ended_for_good
