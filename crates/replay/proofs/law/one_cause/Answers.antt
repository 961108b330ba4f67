use Rattle.replay.proofs.Reasons.{one_cause}
use Rattle.replay.proofs.law.one_cause.Goals as goal

pub returns : goal.returns
returns c = one_cause
