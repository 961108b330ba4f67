use Rattle.std.proofs.Common.{refl}
use Rattle.replay.proofs.Ends.{ended_no_line, refused_no_line}
use Rattle.replay.proofs.ahead.next_line.Goals as goal

pub returns-in-Refused-clause-gives : goal.returns-in-Refused-clause-gives
returns-in-Refused-clause-gives g c = (refl, refused_no_line _ c.in-Refused.cause (rw c.in-Refused.is at c.in_ok-line.ensures.gives))

pub returns-in-End-clause-gives : goal.returns-in-End-clause-gives
returns-in-End-clause-gives g c = (refl, ended_no_line _ _ (rw c.in-End.is at c.in_ok-line.ensures.gives))
