use Rattle.std.proofs.Common.{◌≡◌, drop}
use Rattle.recording.specs.inner.Parts.{events_text}
use Rattle.recording.proofs.Writings.{IsLeft}
use Rattle.recording.proofs.recorded.write_events.Given as goal

abbrev pub invariant-loop-entry : goal.invariant-loop-entry
invariant-loop-entry g l = record {
  left : IsLeft (g.K.Sink.held l.initial.sink) (g.K.Sink.held l.sink) (events_text (drop l.entry-index l.entries)) (events_text l.entries);
  faults : g.K.Sink.faults l.sink ≡ g.K.Sink.faults l.initial.sink;
}
