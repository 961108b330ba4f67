use Rattle.bus_value.proofs.GrammarLaws.{always_ends}
use Rattle.bus_value.proofs.law.always_ends.Goals as goal

pub returns : goal.returns
returns c = always_ends
