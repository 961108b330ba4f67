use Rattle.bus_value.proofs.HeldLaws.{held_shapes}
use Rattle.bus_value.proofs.values.Values.read_types.Goals as goal

pub returns-in-Read : goal.returns-in-Read
returns-in-Read c = held_shapes c.self.inside.held c.in-Read.spelled c.args.self.now c.in-Read.is c.self.invariant c.self.view_is
