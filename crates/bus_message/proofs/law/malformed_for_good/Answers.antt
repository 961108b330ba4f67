use Rattle.bus_message.proofs.Pieces.{malformed_for_good}
use Rattle.bus_message.proofs.law.malformed_for_good.Goals as goal

pub returns : goal.returns
returns c = malformed_for_good
