use Rattle.std.proofs.Common.{ap, arith, length}
use Rattle.login_table.proofs.NextRow.{none-hold}
use Rattle.login_table.proofs.rows.Rows.new.Goals as goal

pub invariant_of-result : goal.invariant_of-result
invariant_of-result c = (none-hold c.new.result.items c.new-2.result.list c.new.ensures c.new-2.ensures, omega (arith, ap length c.new.ensures))
