use Rattle.std.proofs.Common.{[], ◌∷◌, refl}
use Rattle.std.proofs.lemmas.Result.{err_from_is_err_and}
use Rattle.link_serve.specs.inner.Turning.{Answers, moment}
use Rattle.link_serve.proofs.Answering.{call-placed, call-refused, call-told, call-untold, next-open-for}
use Rattle.link_serve.proofs.Resting.{handed-on}
use Rattle.link_serve.proofs.serving.Server.answer.Goals as goal

pub step_event-requires-clause-behind : goal.step_event-requires-clause-behind
step_event-requires-clause-behind g c = λ above. next-open-for _ _ c.args.progress c.args.call c.requires.next c.args.self.now.who c.requires.who c.requires.call.0

pub returns-in-Err-clause-answers : goal.returns-in-Err-clause-answers
returns-in-Err-clause-answers g c =
    let old = (moment c.args.pass.now.view (g.L.Link.talk c.args.link.now) (g.L.Link.left c.args.link.now) (g.L.Link.faults c.args.link.now)) in
    let mid = (moment c.step_event.new.pass.view (g.L.Link.talk c.args.link.now) (g.L.Link.left c.args.link.now) (g.L.Link.faults c.args.link.now)) in
    call-refused c.args.self.now.uid old mid mid c.args.progress c.args.call refl refl refl c.in-Err.why c.refused_end.result c.refused_end.ensures c.in-Err.ensures.steps

pub tell-requires-clause-placed : goal.tell-requires-clause-placed
tell-requires-clause-placed g c =
    let old = (moment c.args.pass.now.view (g.L.Link.talk c.args.link.now) (g.L.Link.left c.args.link.now) (g.L.Link.faults c.args.link.now)) in
    let mid = (moment c.step_event.new.pass.view (g.L.Link.talk c.args.link.now) (g.L.Link.left c.args.link.now) (g.L.Link.faults c.args.link.now)) in
    call-placed c.args.self.now.uid old mid mid c.args.progress c.args.call refl refl refl _ c.in-Ok.ensures.steps c.requires.next

pub returns-in_err-teller-clause-answers : goal.returns-in_err-teller-clause-answers
returns-in_err-teller-clause-answers g c =
    let old = (moment c.args.pass.now.view (g.L.Link.talk c.args.link.now) (g.L.Link.left c.args.link.now) (g.L.Link.faults c.args.link.now)) in
    let mid = (moment c.step_event.new.pass.view (g.L.Link.talk c.args.link.now) (g.L.Link.left c.args.link.now) (g.L.Link.faults c.args.link.now)) in
    let new = (moment c.tell.new.pass.view (g.L.Link.talk c.tell.new.link) (g.L.Link.left c.tell.new.link) (g.L.Link.faults c.tell.new.link)) in
    let p = err_from_is_err_and c.from_residual.result c.from_residual.ensures.1 in
    handed-on (Answers c.args.self.now.uid c.args.progress old new (c.args.call ∷ [])) c.from_residual.result p.0 c.in_err-teller.field-0.0 p.1 p.2
    (call-untold c.args.self.now.uid old mid new c.args.progress c.args.call refl refl refl _ c.in_err-teller.field-0.0 c.in-Ok.ensures.steps c.in_err-teller.ensures.tells)

pub returns-clause-answers : goal.returns-clause-answers
returns-clause-answers g c =
    let old = (moment c.args.pass.now.view (g.L.Link.talk c.args.link.now) (g.L.Link.left c.args.link.now) (g.L.Link.faults c.args.link.now)) in
    let mid = (moment c.step_event.new.pass.view (g.L.Link.talk c.args.link.now) (g.L.Link.left c.args.link.now) (g.L.Link.faults c.args.link.now)) in
    let new = (moment c.tell.new.pass.view (g.L.Link.talk c.tell.new.link) (g.L.Link.left c.tell.new.link) (g.L.Link.faults c.tell.new.link)) in
    call-told c.args.self.now.uid old mid new c.args.progress c.args.call refl refl refl _ _ c.in-Ok.ensures.steps c.in_ok-teller.ensures.tells
