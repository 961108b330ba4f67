use Rattle.std.proofs.Common.{refl}
use Rattle.replay.proofs.Ends.{breaks_past, ended_past, some_line, refused_some}
use Rattle.replay.proofs.ahead.read_past.Goals as goal

pub returns-in-Ok-Line-clause-gives : goal.returns-in-Ok-Line-clause-gives
returns-in-Ok-Line-clause-gives g c = (refl, some_line c.in-Ok-Line.line _ _ (rw c.in-Ok-Line.field-0-is at c.in-Ok-Line.ensures.gives))

pub returns-in-Ok-Refused-clause-gives : goal.returns-in-Ok-Refused-clause-gives
returns-in-Ok-Refused-clause-gives g c = (refl, refused_some _ c.in-Ok-Refused.field-0-0 (rw c.in-Ok-Refused.field-0-is at c.in-Ok-Refused.ensures.gives))

pub returns-in-Ok-End-clause-gives : goal.returns-in-Ok-End-clause-gives
returns-in-Ok-End-clause-gives g c = (refl, ended_past _ _ (rw c.in-Ok-End.field-0-is at c.in-Ok-End.ensures.gives))

pub returns-in-Err-clause-gives : goal.returns-in-Err-clause-gives
returns-in-Err-clause-gives g c = breaks_past _ _ c.in-Err.early c.in-Err.ensures.gives
