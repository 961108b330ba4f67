use Rattle.bus_auth.proofs.LeastLaws.{least_length}
use Rattle.bus_auth.proofs.law.least_length.Goals as goal

pub returns : goal.returns
returns c = least_length
