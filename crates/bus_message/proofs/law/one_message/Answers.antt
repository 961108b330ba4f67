use Rattle.bus_message.proofs.Histories.{one_message}
use Rattle.bus_message.proofs.law.one_message.Goals as goal

pub returns : goal.returns
returns c = one_message
