use Rattle.std.proofs.Common.{◌≡◌, map}
use Rattle.login_model.specs.declared.event.Event.TheVariants as event
use Rattle.replay.specs.inner.Making.{AllMade}
use Rattle.replay.proofs.making.make_calls.Given as goal

-- the calls so far were made
abbrev pub invariant-loop-call : goal.invariant-loop-call
invariant-loop-call g l = record {
  can_next : (goal.iterator-loop-call g).can_next l.call-iterator;
  finite : (goal.iterator-loop-call g).is_finite l.call-iterator;
  made : AllMade l.initial.office (map event.Call l.yielded) l.office (g.K.Sink.held l.initial.sink) (g.K.Sink.held l.sink);
  faults : g.K.Sink.faults l.sink ≡ g.K.Sink.faults l.initial.sink;
}
