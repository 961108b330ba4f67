use Rattle.replay.proofs.Stopping.{one_stop}
use Rattle.replay.proofs.law.one_stop.Goals as goal

pub returns : goal.returns
returns c = one_stop
