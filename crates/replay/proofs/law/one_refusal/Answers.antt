use Rattle.replay.proofs.Laws.{one_refusal}
use Rattle.replay.proofs.law.one_refusal.Goals as goal

pub returns : goal.returns
returns c = one_refusal
