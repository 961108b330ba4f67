use Rattle.std.proofs.Common.{◌≡◌, Bool}
use Rattle.login_prog.specs.inner.Accepting.{HasTurning, Since, Turning}
use Rattle.login_prog.proofs.serve.accepting.Accepting.serve.Given as goal

-- some turns were made, and no stop was seen
abbrev pub invariant-loop : goal.invariant-loop
invariant-loop g l = record {
  desk : l.self.pass.desk ≡ l.fn.self.pass.desk;
  turning : HasTurning g.L.Link.number g.L.Link.talk g.L.Link.left g.L.Link.faults g.P.Spawner.faults g.N.Listener.told g.N.Listener.given g.N.Listener.faults g.C.Clock.told g.C.Clock.faults l.fn.self.pass.desk l.self l.ticking;
  turns : (x : Since g.row.L.Denot) (is_alone : Bool)
      → Turning g.L.Link.number g.L.Link.talk g.L.Link.left g.L.Link.faults g.P.Spawner.faults g.N.Listener.told g.N.Listener.given g.N.Listener.faults g.C.Clock.told g.C.Clock.faults x is_alone l.fn.self l.fn.ticking
      → Turning g.L.Link.number g.L.Link.talk g.L.Link.left g.L.Link.faults g.P.Spawner.faults g.N.Listener.told g.N.Listener.given g.N.Listener.faults g.C.Clock.told g.C.Clock.faults x is_alone l.self l.ticking;
}
