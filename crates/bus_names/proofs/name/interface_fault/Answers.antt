use Rattle.bus_names.specs.Reading.{interface_fault}
use Rattle.bus_names.proofs.NameLaws.{interface_law}
use Rattle.bus_names.proofs.name.interface_fault.Goals as goal

pub returns-clause-value : goal.returns-clause-value
unfolding interface_fault
returns-clause-value c = c.fault_from.ensures

pub returns-clause-law : goal.returns-clause-law
returns-clause-law c = interface_law c.args.text.now
