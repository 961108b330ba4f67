use Rattle.bus_names.specs.Reading.{path_fault}
use Rattle.bus_names.proofs.NameLaws.{path_law}
use Rattle.bus_names.proofs.name.path_fault.Goals as goal

pub returns-clause-value : goal.returns-clause-value
unfolding path_fault
returns-clause-value c = c.fault_from.ensures

pub returns-clause-law : goal.returns-clause-law
returns-clause-law c = path_law c.args.text.now
