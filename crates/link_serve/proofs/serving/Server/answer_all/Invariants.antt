use Rattle.std.proofs.Common.{◌≡◌}
use Rattle.link_serve.specs.inner.Turning.{moment}
use Rattle.link_serve.proofs.Answering.{AnswersSoFar}
use Rattle.link_serve.proofs.serving.Server.answer_all.Given as goal

-- the calls so far were answered
abbrev pub invariant-loop-call : goal.invariant-loop-call
invariant-loop-call g l = record {
  can_next : (goal.iterator-loop-call g).can_next l.call-iterator;
  finite : (goal.iterator-loop-call g).is_finite l.call-iterator;
  desk : l.pass.desk ≡ l.initial.pass.desk;
  number : g.L.Link.number l.link ≡ g.L.Link.number l.initial.link;
  same : l.progress.is_open ≡ l.initial.progress.is_open;
  so : AnswersSoFar l.self.uid (moment l.initial.pass.view (g.L.Link.talk l.initial.link) (g.L.Link.left l.initial.link) (g.L.Link.faults l.initial.link)) (moment l.pass.view (g.L.Link.talk l.link) (g.L.Link.left l.link) (g.L.Link.faults l.link)) l.initial.progress l.progress l.fn.calls l.yielded;
}
