use Rattle.std.proofs.Common.{◌≡◌, take}
use Rattle.bus_auth.specs.Cutting.{Open, cut}
use Rattle.bus_auth.proofs.line.first_end.Given as goal

abbrev pub invariant-loop-at : goal.invariant-loop-at
invariant-loop-at l = cut (take l.at l.text) ≡ Open (take l.at l.text)
