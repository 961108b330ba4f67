use Rattle.replay.proofs.SpelledLines.{spelled_recording}
use Rattle.replay.proofs.law.spelled_recording.Goals as goal

pub returns : goal.returns
returns c = spelled_recording
