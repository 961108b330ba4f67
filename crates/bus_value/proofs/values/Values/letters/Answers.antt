use Rattle.bus_value.proofs.HeldLaws.{held_shapes, with_letters}
use Rattle.bus_value.proofs.values.Values.letters.Goals as goal

pub returns-in-Read : goal.returns-in-Read
returns-in-Read c = with_letters c.text.result _ _ (held_shapes c.self.inside.held c.in-Read.spelled c.args.self.now c.in-Read.is c.self.invariant c.self.view_is) c.text.ensures.value
