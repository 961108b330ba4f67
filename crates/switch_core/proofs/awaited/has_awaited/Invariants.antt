use Rattle.std.proofs.Common.{◌≡◌, length}
use Rattle.std.specs.List.{list_any}
use Rattle.login_laws.specs.Withdrawing.{is_awaited}
use Rattle.switch_core.specs.inner.Awaited.{has_awaited}
use Rattle.switch_core.proofs.Going.{left}
use Rattle.switch_core.proofs.awaited.has_awaited.Given as goal

-- no pause so far is awaited
abbrev pub invariant-loop-device : goal.invariant-loop-device
invariant-loop-device g l =
    let t = g.F.Look.trail l.facts in
    list_any (is_awaited t l.session) (left t l.session l.above) ≡ has_awaited t l.session

abbrev pub decreases-loop-device : goal.decreases-loop-device
decreases-loop-device g l = length (left (g.F.Look.trail l.facts) l.session l.above)
