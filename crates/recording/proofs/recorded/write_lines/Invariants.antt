use Rattle.std.proofs.Common.{◌≡◌, length}
use Rattle.recording.specs.inner.Parts.{lines_text}
use Rattle.recording.proofs.Writings.{IsLeft}
use Rattle.recording.proofs.recorded.write_lines.Given as goal

abbrev pub invariant-loop-line : goal.invariant-loop-line
invariant-loop-line g l = record {
  left : IsLeft (g.K.Sink.held l.initial.sink) (g.K.Sink.held l.sink) (lines_text l.text l.rest) (lines_text l.text l.bytes);
  faults : g.K.Sink.faults l.sink ≡ g.K.Sink.faults l.initial.sink;
}

abbrev pub decreases-loop-line : goal.decreases-loop-line
decreases-loop-line g l = length l.rest
