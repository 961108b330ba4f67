use Rattle.bus_message.proofs.Histories.{no_continuation}
use Rattle.bus_message.proofs.law.no_continuation.Goals as goal

pub returns : goal.returns
returns c = no_continuation
