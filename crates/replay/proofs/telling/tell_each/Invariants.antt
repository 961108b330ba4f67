use Rattle.std.proofs.Common.{◌≡◌, length}
use Rattle.replay.proofs.SaidSoFar.{IsSaid, unsaid_to}
use Rattle.replay.proofs.telling.tell_each.Given as goal

abbrev pub invariant-loop-who : goal.invariant-loop-who
invariant-loop-who g l = record {
  said : IsSaid l.initial.office l.own (g.K.Sink.held l.initial.sink) l.after l.office (g.K.Sink.held l.sink);
  faults : g.K.Sink.faults l.sink ≡ g.K.Sink.faults l.initial.sink;
}

abbrev pub decreases-loop-who : goal.decreases-loop-who
decreases-loop-who g l = length (unsaid_to l.initial.office l.own l.after)
