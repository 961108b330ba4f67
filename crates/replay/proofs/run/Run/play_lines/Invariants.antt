use Rattle.std.proofs.Common.{◌≡◌, ◌≤◌, ◌-◌, Option, List, ℕ}
use Rattle.recording.specs.Reading.{left_to}
use Rattle.replay.specs.Front.{going}
use Rattle.replay.specs.Recording.{most_lines}
use Rattle.replay.specs.inner.Player.{Stands}
use Rattle.replay.specs.inner.Running.{SoFar}
use Rattle.replay.proofs.run.Run.play_lines.Given as goal

abbrev pub invariant-loop-self : goal.invariant-loop-self
invariant-loop-self g l = record {
  so_far : (all start : Option (List ℕ)) → SoFar going l.initial.self.player l.initial.self.number all (left_to l.initial.self.lines (g.S.Source.left l.initial.source)) start (g.K.Sink.held l.initial.sink)
      → SoFar going l.self.player l.self.number all (left_to l.self.lines (g.S.Source.left l.source)) start (g.K.Sink.held l.sink);
  stands : Stands l.self.player;
  few : l.self.number ≤ most_lines;
  read_faults : g.S.Source.faults l.source ≡ g.S.Source.faults l.initial.source;
  write_faults : g.K.Sink.faults l.sink ≡ g.K.Sink.faults l.initial.sink;
}

abbrev pub decreases-loop-self : goal.decreases-loop-self
decreases-loop-self g l = most_lines - l.self.number
