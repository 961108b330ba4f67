use Rattle.bus_value.proofs.GrammarLaws.{one_reading}
use Rattle.bus_value.proofs.law.one_reading.Goals as goal

pub returns : goal.returns
returns c = one_reading
