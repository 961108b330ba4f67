use Rattle.replay.proofs.Outs.{outs-are-said}
use Rattle.replay.proofs.law.outs_are_said.Goals as goal

pub returns : goal.returns
returns c = outs-are-said
