use Rattle.std.proofs.Common.{arith, ap, length}
use Rattle.login_table.proofs.RowOrder.{length-order}
use Rattle.login_table.proofs.ordered.Ordered.reserve.Goals as goal

pub returns-clause-ok : goal.returns-clause-ok
returns-clause-ok c =
    omega (
      arith,
      c.self.inside.rows.ok.0,
      c.self.invariant.0,
      c.len.ensures,
      c.saturating_add.ensures,
      c.if-saturating_add-gt-MOST_ROWS.false,
      ap length c.in_ok-make_room.ensures.items,
      ap length c.in_ok-make_room-2.ensures.items,
      c.in_ok-make_room.ensures.ok,
      c.in_ok-make_room-2.ensures.ok,
      length-order c.make_room.new.list.items c.make_room-2.new.list.items,
    )
