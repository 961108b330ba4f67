use Rattle.std.proofs.Common.{◌≡◌, length}
use Rattle.recording.specs.Recorded.{by_number}
use Rattle.recording.specs.inner.Parts.{users_text}
use Rattle.recording.proofs.RecordedParts.{users_above}
use Rattle.recording.proofs.UserOrder.{above}
use Rattle.recording.proofs.Writings.{IsLeft}
use Rattle.recording.proofs.recorded.write_users.Given as goal

abbrev pub invariant-loop-row : goal.invariant-loop-row
invariant-loop-row g l = record {
  left : IsLeft (g.K.Sink.held l.initial.sink) (g.K.Sink.held l.sink) (users_above l.last.0 l.users) (users_text l.users);
  faults : g.K.Sink.faults l.sink ≡ g.K.Sink.faults l.initial.sink;
}

abbrev pub decreases-loop-row : goal.decreases-loop-row
decreases-loop-row g l = length (above l.last.0 (by_number l.users))
