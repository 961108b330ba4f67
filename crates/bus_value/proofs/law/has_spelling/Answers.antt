use Rattle.bus_value.proofs.TypedLaws.{has_spelling}
use Rattle.bus_value.proofs.law.has_spelling.Goals as goal

pub returns : goal.returns
returns c = has_spelling
