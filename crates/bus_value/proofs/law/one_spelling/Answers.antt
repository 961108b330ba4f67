use Rattle.bus_value.proofs.GrammarLaws.{one_spelling}
use Rattle.bus_value.proofs.law.one_spelling.Goals as goal

pub returns : goal.returns
returns c = one_spelling
