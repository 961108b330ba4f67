use Rattle.std.proofs.Common.{◌∙◌}
use Rattle.bus_value.proofs.Boundaries.{kept_stand}
use Rattle.bus_value.proofs.values.Spelled.written.Goals as goal

pub returns-then-stand_at : goal.returns-then-stand_at
returns-then-stand_at c =
    let so = c.stand_at.ensures.0 c.if-stand_at.true in
    c.from_vec.ensures ∙ c.in_ok-from_slice.ensures.items ∙ c.as_slice.ensures ∙ kept_stand c.args.self.now c.args.order c.args.start c.requires.held so.0 so.1
