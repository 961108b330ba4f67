use Rattle.replay.proofs.Determined.{one_recording}
use Rattle.replay.proofs.law.one_recording.Goals as goal

pub returns : goal.returns
returns c = one_recording
