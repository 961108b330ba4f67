use Rattle.std.proofs.Common.{sym, ◌∙◌, ap}
use Rattle.bus_names.specs.Reading.{member_fault}
use Rattle.bus_names.proofs.NameLaws.{member_none}
use Rattle.bus_names.proofs.name.Member.as_slice.Goals as goal

pub returns-clause-law : goal.returns-clause-law
returns-clause-law c = member_none _ (ap member_fault (sym c.self.view_is) ∙ c.self.invariant)
