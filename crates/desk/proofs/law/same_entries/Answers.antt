use Rattle.desk.proofs.Same.{each_carries, same_entries}
use Rattle.desk.proofs.law.same_entries.Goals as goal

pub returns-clause-fronts : goal.returns-clause-fronts
returns-clause-fronts g c = same_entries g.V.Journaled.who

pub returns-clause-each : goal.returns-clause-each
returns-clause-each g c = each_carries g.V.Journaled.who
