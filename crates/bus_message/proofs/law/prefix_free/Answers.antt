use Rattle.bus_message.proofs.Wholes.{no_longer}
use Rattle.bus_message.proofs.law.prefix_free.Goals as goal

pub returns : goal.returns
returns c = no_longer
