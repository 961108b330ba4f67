use Rattle.std.proofs.Common.{sym, ◌∙◌, ap}
use Rattle.bus_names.specs.Reading.{path_fault}
use Rattle.bus_names.proofs.NameLaws.{path_none}
use Rattle.bus_names.proofs.name.ObjectPath.as_slice.Goals as goal

pub returns-clause-law : goal.returns-clause-law
returns-clause-law c = path_none _ (ap path_fault (sym c.self.view_is) ∙ c.self.invariant)
