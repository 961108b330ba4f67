use Rattle.bus_value.proofs.PartLaws.{few_parts}
use Rattle.bus_value.proofs.law.few_parts.Goals as goal

pub returns : goal.returns
returns c = few_parts
