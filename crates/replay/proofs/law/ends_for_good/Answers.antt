use Rattle.replay.proofs.EndsStay.{ends-for-good}
use Rattle.replay.proofs.law.ends_for_good.Goals as goal

pub returns : goal.returns
returns c = ends-for-good
