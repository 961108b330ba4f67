use Rattle.replay.proofs.FaultLines.{fault_is_told}
use Rattle.replay.proofs.law.fault_is_of_an_action.Goals as goal

pub returns : goal.returns
returns c = fault_is_told
