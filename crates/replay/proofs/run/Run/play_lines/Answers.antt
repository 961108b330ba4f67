use Rattle.std.proofs.Common.{◌≡◌, ℕ, arith, subst, sym}
use Rattle.std.proofs.lemmas.Result.{err_from_is_err_and}
use Rattle.recording.specs.Reading.{left_to}
use Rattle.replay.specs.Front.{ended}
use Rattle.replay.specs.Recording.{most_lines}
use Rattle.replay.specs.inner.Running.{SoFar}
use Rattle.replay.proofs.Events.{events_past}
use Rattle.replay.proofs.run.Run.play_lines.Goals as goal

pub returns-in_err-take_next-clause-gives : goal.returns-in_err-take_next-clause-gives
returns-in_err-take_next-clause-gives g c = λ all start s.
    let p = err_from_is_err_and c.from_residual.result c.from_residual.ensures.1 in
    rw (p.1, p.2) (c.in_err-take_next.ensures.gives all start (c.loop-self.invariant.so_far all start s))

pub returns-in-Closed-clause-gives : goal.returns-in-Closed-clause-gives
returns-in-Closed-clause-gives g c = λ all start s.
    let turn = rw c.in-Closed.is at c.in_ok-take_next.ensures.gives in
    c.finish.ensures.gives all start
    (subst (λ (n : ℕ). SoFar ended c.take_next.new.self.player n all (left_to c.take_next.new.self.lines (g.S.Source.left c.take_next.new.source)) start (g.K.Sink.held c.take_next.new.sink)) (sym c.in_ok-take_next.ensures.number)
    (turn all start (c.loop-self.invariant.so_far all start s)))

pub returns-clause-gives : goal.returns-clause-gives
returns-clause-gives g c = λ all start s.
    let full : c.loop-self.self.number ≡ most_lines = omega arith in
    events_past c.loop-self.self.player c.loop-self.self.number all _ _ start _ c.read_past.result (c.loop-self.invariant.so_far all start s) full c.read_past.ensures.gives
