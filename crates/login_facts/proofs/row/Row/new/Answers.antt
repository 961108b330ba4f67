use Rattle.std.proofs.Common.{sym, subst}
use Rattle.login_facts.specs.Holding.{HoldingsAscend}
use Rattle.login_facts.proofs.HeldOrder.{ascend-closed}
use Rattle.login_facts.proofs.row.Row.new.Goals as goal

pub invariant_of-result : goal.invariant_of-result
invariant_of-result c = subst HoldingsAscend (sym c.new.ensures.items) (ascend-closed _ tt)
