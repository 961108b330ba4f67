use Rattle.std.proofs.Common.{map-id, refl, rules, sym, ◌∙◌}
use Rattle.std.proofs.lemmas.Iterator.Adapters.{YieldsList-from_vec}
use Rattle.std.proofs.lemmas.Iterator.Consumers.{YieldsList-end}
use Rattle.std.proofs.lemmas.Result.{err_from_is_err_and}
use Rattle.std.specs.Vec.Iter.{into_iter_items}
use Rattle.link_serve.specs.inner.Turning.{Answers, moment}
use Rattle.link_serve.proofs.Answering.{all-answered, call-allowed, call-next, next-item, none-answered, one-answered, one-early, so-who}
use Rattle.link_serve.proofs.Resting.{handed-on}
use Rattle.link_serve.proofs.serving.Server.answer_all.Goals as goal

pub loop-call-init : goal.loop-call-init
loop-call-init g c = record {
  can_next = tt;
  finite = tt;
  desk = refl;
  number = refl;
  same = refl;
  so = none-answered c.args.self.now.uid (moment c.args.pass.now.view (g.L.Link.talk c.args.link.now) (g.L.Link.left c.args.link.now) (g.L.Link.faults c.args.link.now)) c.args.progress c.args.calls;
}

pub answer-requires-clause-desk : goal.answer-requires-clause-desk
answer-requires-clause-desk g c = c.loop-call.invariant.desk ∙ c.requires.desk

pub answer-requires-clause-who : goal.answer-requires-clause-who
answer-requires-clause-who g c =
    let old = (moment c.args.pass.now.view (g.L.Link.talk c.args.link.now) (g.L.Link.left c.args.link.now) (g.L.Link.faults c.args.link.now)) in
    let now = (moment c.loop-call.pass.view (g.L.Link.talk c.loop-call.link) (g.L.Link.left c.loop-call.link) (g.L.Link.faults c.loop-call.link)) in
    so-who c.args.self.now.uid old now c.args.progress c.loop-call.progress c.args.calls c.loop-call.yielded c.requires.next c.loop-call.invariant.so ∙ c.requires.who

pub answer-requires-clause-call : goal.answer-requires-clause-call
answer-requires-clause-call g c =
    let it = c.into_iter-call-iterator in
    let next = next-item it.result c.args.calls c.loop-call.yielded c.loop-call.call-iterator c.in-Some.call c.next.new.self (it.ensures.into_iter_gives.0 ∙ c.into_vec-call-items.ensures) c.loop-call.yielded_by c.in-Some.ensures.steps in
    call-allowed c.args.self.now.who c.args.calls c.loop-call.yielded c.in-Some.call (into_iter_items c.next.new.self) next c.requires.calls

pub answer-requires-clause-next : goal.answer-requires-clause-next
answer-requires-clause-next g c =
    let it = c.into_iter-call-iterator in
    let next = next-item it.result c.args.calls c.loop-call.yielded c.loop-call.call-iterator c.in-Some.call c.next.new.self (it.ensures.into_iter_gives.0 ∙ c.into_vec-call-items.ensures) c.loop-call.yielded_by c.in-Some.ensures.steps in
    let old = (moment c.args.pass.now.view (g.L.Link.talk c.args.link.now) (g.L.Link.left c.args.link.now) (g.L.Link.faults c.args.link.now)) in
    let now = (moment c.loop-call.pass.view (g.L.Link.talk c.loop-call.link) (g.L.Link.left c.loop-call.link) (g.L.Link.faults c.loop-call.link)) in
    call-next c.args.self.now.uid old now c.args.progress c.loop-call.progress c.args.calls c.loop-call.yielded c.in-Some.call (into_iter_items c.next.new.self) next c.loop-call.invariant.so c.requires.next

pub loop-call-preserved : goal.loop-call-preserved
loop-call-preserved g c =
    let it = c.into_iter-call-iterator in
    let next = next-item it.result c.args.calls c.loop-call.yielded c.loop-call.call-iterator c.in-Some.call c.next.new.self (it.ensures.into_iter_gives.0 ∙ c.into_vec-call-items.ensures) c.loop-call.yielded_by c.in-Some.ensures.steps in
    let old = (moment c.args.pass.now.view (g.L.Link.talk c.args.link.now) (g.L.Link.left c.args.link.now) (g.L.Link.faults c.args.link.now)) in
    let now = (moment c.loop-call.pass.view (g.L.Link.talk c.loop-call.link) (g.L.Link.left c.loop-call.link) (g.L.Link.faults c.loop-call.link)) in
    let new = (moment c.answer.new.pass.view (g.L.Link.talk c.answer.new.link) (g.L.Link.left c.answer.new.link) (g.L.Link.faults c.answer.new.link)) in
    record {
      can_next = tt;
      finite = tt;
      desk = c.in_ok-progress.ensures.desk ∙ c.loop-call.invariant.desk;
      number = c.in_ok-progress.ensures.number ∙ c.loop-call.invariant.number;
      same = c.in_ok-progress.ensures.same ∙ c.loop-call.invariant.same;
      so = one-answered c.args.self.now.uid old now c.args.progress c.loop-call.progress c.args.calls c.loop-call.yielded c.in-Some.call (into_iter_items c.next.new.self) next c.loop-call.invariant.so new c.in_ok-progress.progress c.in_ok-progress.ensures.answers;
    }

pub returns-in_err-progress-clause-desk : goal.returns-in_err-progress-clause-desk
returns-in_err-progress-clause-desk g c = c.in_err-progress.ensures.desk ∙ c.loop-call.invariant.desk

pub returns-in_err-progress-clause-number : goal.returns-in_err-progress-clause-number
returns-in_err-progress-clause-number g c = c.in_err-progress.ensures.number ∙ c.loop-call.invariant.number

pub returns-in_err-progress-clause-answers : goal.returns-in_err-progress-clause-answers
returns-in_err-progress-clause-answers g c =
    let it = c.into_iter-call-iterator in
    let next = next-item it.result c.args.calls c.loop-call.yielded c.loop-call.call-iterator c.in-Some.call c.next.new.self (it.ensures.into_iter_gives.0 ∙ c.into_vec-call-items.ensures) c.loop-call.yielded_by c.in-Some.ensures.steps in
    let old = (moment c.args.pass.now.view (g.L.Link.talk c.args.link.now) (g.L.Link.left c.args.link.now) (g.L.Link.faults c.args.link.now)) in
    let now = (moment c.loop-call.pass.view (g.L.Link.talk c.loop-call.link) (g.L.Link.left c.loop-call.link) (g.L.Link.faults c.loop-call.link)) in
    let new = (moment c.answer.new.pass.view (g.L.Link.talk c.answer.new.link) (g.L.Link.left c.answer.new.link) (g.L.Link.faults c.answer.new.link)) in
    let p = err_from_is_err_and c.from_residual.result c.from_residual.ensures.1 in
    handed-on (Answers c.args.self.now.uid c.args.progress old new c.args.calls) c.from_residual.result p.0 c.in_err-progress.field-0.0 p.1 p.2
    (one-early c.args.self.now.uid old now c.args.progress c.loop-call.progress c.args.calls c.loop-call.yielded c.in-Some.call (into_iter_items c.next.new.self) next c.loop-call.invariant.so new c.in_err-progress.field-0.0 c.in_err-progress.ensures.answers)

pub returns-clause-desk : goal.returns-clause-desk
returns-clause-desk g c = c.loop-call.invariant.desk

pub returns-clause-number : goal.returns-clause-number
returns-clause-number g c = c.loop-call.invariant.number

pub returns-clause-same : goal.returns-clause-same
returns-clause-same g c = c.loop-call.invariant.same

pub returns-clause-answers : goal.returns-clause-answers
returns-clause-answers g c =
    let it = c.into_iter-call-iterator in
    let end = YieldsList-end (YieldsList-from_vec {s = it.result} c.args.calls (it.ensures.into_iter_gives.0 ∙ c.into_vec-call-items.ensures) (search rules))
    c.loop-call.yielded c.loop-call.call-iterator c.loop-call.yielded_by c.next.result c.next.new.self c.in-None.is c.next.ensures.steps in
    let old = (moment c.args.pass.now.view (g.L.Link.talk c.args.link.now) (g.L.Link.left c.args.link.now) (g.L.Link.faults c.args.link.now)) in
    let now = (moment c.loop-call.pass.view (g.L.Link.talk c.loop-call.link) (g.L.Link.left c.loop-call.link) (g.L.Link.faults c.loop-call.link)) in
    all-answered c.args.self.now.uid old now c.args.progress c.loop-call.progress c.args.calls c.loop-call.yielded c.loop-call.invariant.so (sym (map-id c.loop-call.yielded) ∙ end.0)
