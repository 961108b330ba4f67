use Rattle.replay.proofs.TurnIsThere.{lines-have-turns}
use Rattle.replay.proofs.law.lines_have_turns.Goals as goal

pub returns : goal.returns
returns c = lines-have-turns
