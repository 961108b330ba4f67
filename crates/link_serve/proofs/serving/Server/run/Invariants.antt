use Rattle.std.proofs.Common.{◌≡◌}
use Rattle.link_serve.specs.inner.Standing.{Rests}
use Rattle.link_serve.specs.inner.Turning.{moment}
use Rattle.link_serve.proofs.serving.Server.run.Given as goal

-- between its turns the link rests
abbrev pub invariant-loop : goal.invariant-loop
invariant-loop g l = record {
  desk : l.pass.desk ≡ l.fn.pass.desk;
  number : g.L.Link.number l.link ≡ g.L.Link.number l.fn.link;
  rests : Rests l.self.uid (moment l.fn.pass.view (g.L.Link.talk l.fn.link) (g.L.Link.left l.fn.link) (g.L.Link.faults l.fn.link)) (moment l.pass.view (g.L.Link.talk l.link) (g.L.Link.left l.link) (g.L.Link.faults l.link)) l.progress;
}
