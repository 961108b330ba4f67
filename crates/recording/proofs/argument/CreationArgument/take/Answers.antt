use Rattle.std.proofs.Common.{rules}
use Rattle.recording.proofs.argument.CreationArgument.take.Goals as goal

pub returns-in_err-owner-clause-fault : goal.returns-in_err-owner-clause-fault
returns-in_err-owner-clause-fault c fault e h = c.take.ensures.fault fault (search rules) h
