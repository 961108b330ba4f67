use Rattle.std.proofs.Common.{◌≡◌, [], length, map}
use Rattle.std.specs.List.{AllByRecursion}
use Rattle.std.specs.Vec.Iter.{into_iter_items, into_iter_len}
use Rattle.login_prog.specs.inner.Accepting.{Far, IsChild, Keeps, Since, held_of}
use Rattle.login_prog.proofs.serve.accepting.Accepting.join_links.Given as goal

abbrev pub invariant-loop-child : goal.invariant-loop-child
invariant-loop-child g l = (l.self.pass.desk ≡ l.fn.self.pass.desk) × (l.self.children.items ≡ []) × (length (into_iter_items l.child-iterator) ≡ into_iter_len l.child-iterator)
    × ((x : Since g.row.L.Denot) (t : Far) → Keeps g.L.Link.number g.L.Link.talk g.L.Link.left g.L.Link.faults g.P.Spawner.faults g.N.Listener.told g.N.Listener.given g.N.Listener.faults x t [] l.fn.self
    → AllByRecursion (IsChild g.L.Link.number g.L.Link.talk g.L.Link.left g.L.Link.faults x.desk x.setup) (into_iter_items l.child-iterator)
    × Keeps g.L.Link.number g.L.Link.talk g.L.Link.left g.L.Link.faults g.P.Spawner.faults g.N.Listener.told g.N.Listener.given g.N.Listener.faults x t (map held_of (into_iter_items l.child-iterator)) l.self)
