use Rattle.bus_message.proofs.KeptLaws.{AreGood}
use Rattle.bus_message.proofs.checks.check_each.Given as goal

abbrev pub invariant-loop-index : goal.invariant-loop-index
invariant-loop-index l = AreGood l.fields l.index
