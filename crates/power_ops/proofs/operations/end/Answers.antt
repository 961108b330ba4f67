use Rattle.std.proofs.Common.{rules}
use Rattle.power_ops.proofs.Operating.{appends-end}
use Rattle.power_ops.proofs.operations.end.Goals as goal

pub returns-in-Some-clause-appends : goal.returns-in-Some-clause-appends
returns-in-Some-clause-appends g c = search (rules, appends-end)
