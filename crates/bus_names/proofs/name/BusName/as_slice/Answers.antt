use Rattle.std.proofs.Common.{sym, ◌∙◌, ap}
use Rattle.bus_names.specs.Reading.{bus_name_fault}
use Rattle.bus_names.proofs.NameLaws.{bus_name_none}
use Rattle.bus_names.proofs.name.BusName.as_slice.Goals as goal

pub returns-clause-law : goal.returns-clause-law
returns-clause-law c = bus_name_none _ (ap bus_name_fault (sym c.self.view_is) ∙ c.self.invariant)
