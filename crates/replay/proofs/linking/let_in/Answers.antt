use Rattle.std.proofs.Common.{refl}
use Rattle.replay.proofs.MadeEntries.{makes-none}
use Rattle.replay.proofs.linking.let_in.Goals as goal
use Rattle.replay.proofs.linking.let_in.Goals.{in-Some+in_ok-make, in_default}

pub returns-clause-gives : goal.returns-clause-gives
returns-clause-gives g c = elim c.match-begins.branch [
  | in-Some+in_ok-make w ↦ rw (w.office-is, w.sink-is, w.in-Some.is) w.in_ok-make.ensures.gives
  | in_default w ↦ rw (w.office-is, w.sink-is, w.in_default.is) (makes-none c.args.office.now (g.K.Sink.held c.args.sink.now))
]
