use Rattle.replay.proofs.Called.{calls-are-of-bytes}
use Rattle.replay.proofs.law.calls_are_of_bytes.Goals as goal

pub returns : goal.returns
returns c = calls-are-of-bytes
