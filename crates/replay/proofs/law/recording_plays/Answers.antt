use Rattle.replay.proofs.RecordingPlays.{recording_plays}
use Rattle.replay.proofs.law.recording_plays.Goals as goal

pub returns : goal.returns
returns c = recording_plays
