use Rattle.bus_message.proofs.Histories.{message_is_cut}
use Rattle.bus_message.proofs.law.message_is_cut.Goals as goal

pub returns : goal.returns
returns c = message_is_cut
