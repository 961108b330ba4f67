use Rattle.std.proofs.Common.{◌≡◌, ◌+◌, drop}
use Rattle.bus_value.specs.Faults.{zeros}
use Rattle.bus_message.proofs.reading.check_zeros.Given as goal

abbrev pub invariant-loop-index : goal.invariant-loop-index
invariant-loop-index l = zeros l.at l.padding ≡ zeros (l.at + l.index) (drop l.index l.padding)
