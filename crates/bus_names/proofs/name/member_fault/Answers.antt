use Rattle.bus_names.specs.Reading.{member_fault}
use Rattle.bus_names.proofs.NameLaws.{member_law}
use Rattle.bus_names.proofs.name.member_fault.Goals as goal

pub returns-clause-value : goal.returns-clause-value
unfolding member_fault
returns-clause-value c = c.fault_from.ensures

pub returns-clause-law : goal.returns-clause-law
returns-clause-law c = member_law c.args.text.now
