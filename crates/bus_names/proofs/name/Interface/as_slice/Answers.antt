use Rattle.std.proofs.Common.{sym, ◌∙◌, ap}
use Rattle.bus_names.specs.Reading.{interface_fault}
use Rattle.bus_names.proofs.NameLaws.{interface_none}
use Rattle.bus_names.proofs.name.Interface.as_slice.Goals as goal

pub returns-clause-law : goal.returns-clause-law
returns-clause-law c = interface_none _ (ap interface_fault (sym c.self.view_is) ∙ c.self.invariant)
