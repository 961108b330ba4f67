use Rattle.bus_message.proofs.Histories.{one_cut}
use Rattle.bus_message.proofs.law.one_cut.Goals as goal

pub returns : goal.returns
returns c = one_cut
