use Rattle.std.proofs.Common.{◌≡◌, ◌-◌, [], vec_len}
use Rattle.login_prog.specs.inner.Accepting.{Far, Keeps, Since}
use Rattle.login_prog.proofs.serve.accepting.Accepting.look_over.Given as goal

abbrev pub invariant-loop-place : goal.invariant-loop-place
invariant-loop-place g l = (l.self.pass.desk ≡ l.fn.self.pass.desk)
    × ((x : Since g.row.L.Denot) (t : Far) → Keeps g.L.Link.number g.L.Link.talk g.L.Link.left g.L.Link.faults g.P.Spawner.faults g.N.Listener.told g.N.Listener.given g.N.Listener.faults x t [] l.fn.self
    → Keeps g.L.Link.number g.L.Link.talk g.L.Link.left g.L.Link.faults g.P.Spawner.faults g.N.Listener.told g.N.Listener.given g.N.Listener.faults x t [] l.self)

abbrev pub decreases-loop-place : goal.decreases-loop-place
decreases-loop-place g l = vec_len l.self.children - l.place
