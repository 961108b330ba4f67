use Rattle.bus_value.proofs.GrammarLaws.{spelling_length}
use Rattle.bus_value.proofs.law.spelling_length.Goals as goal

pub returns : goal.returns
returns c = spelling_length
