use Rattle.std.proofs.Common.{Err, ap, sym, ◌∙◌}
use Rattle.std.proofs.lemmas.Result.{err_from_is_err_and}
use Rattle.desk.specs.Passes.{PassState}
use Rattle.login_model.specs.declared.mark.Entry.{Entry}
use Rattle.login_model.specs.declared.setup.Setup.{Setup}
use Rattle.link_serve.specs.inner.Standing.{TurnGives}
use Rattle.link_serve.specs.inner.Turning.{moment}
use Rattle.link_serve.specs.declared.serving.Progress.{Progress}
use Rattle.link_serve.proofs.Following.{CallsNext, begins-connect, calls-allowed, calls-early, calls-end, calls-next, calls-rest, joined-else, joined-then}
use Rattle.link_serve.proofs.Resting.{handed-on}
use Rattle.link_serve.proofs.serving.Server.follow.Goals as goal
use Rattle.link_serve.proofs.serving.Server.follow.Goals.{else-begins, then-begins+in_ok-connect}

pub returns-in_err-connect-clause-follows : goal.returns-in_err-connect-clause-follows
returns-in_err-connect-clause-follows g c = λ start h.
    let old = (moment c.args.pass.now.view (g.L.Link.talk c.args.link.now) (g.L.Link.left c.args.link.now) (g.L.Link.faults c.args.link.now)) in
    let new = (moment c.connect.new.pass.view (g.L.Link.talk c.args.link.now) (g.L.Link.left c.args.link.now) (g.L.Link.faults c.args.link.now)) in
    let p = err_from_is_err_and c.from_residual.result c.from_residual.ensures.1 in
    handed-on (TurnGives c.args.self.now.uid start new) c.from_residual.result p.0 c.in_err-connect.field-0.0 p.1 p.2
    (begins-connect c.args.self.now.uid start old c.args.progress c.args.heard h new (Err c.in_err-connect.field-0.0) c.if-begins.true (c.in_err-connect.ensures.connects (g.L.Link.talk c.args.link.now) (g.L.Link.left c.args.link.now) (g.L.Link.faults c.args.link.now)))

pub answer_all-requires-clause-who : goal.answer_all-requires-clause-who
answer_all-requires-clause-who g c =
    let was = c.requires.heard in
    let next : CallsNext c.args.self.now.uid was.0 (moment c.if-begins.pass.view (g.L.Link.talk c.args.link.now) (g.L.Link.left c.args.link.now) (g.L.Link.faults c.args.link.now)) c.if-begins.progress c.args.heard =
    elim c.if-begins.branch [
      | then-begins+in_ok-connect w ↦
          joined-then c.args.self.now.uid was.0 c.args.pass.now.view w.connect.new.pass.view c.if-begins.pass.view (g.L.Link.talk c.args.link.now) (g.L.Link.left c.args.link.now) (g.L.Link.faults c.args.link.now) c.args.progress c.if-begins.progress c.args.heard w.if-begins.true
          (ap (λ (x : PassState Setup Entry). x.view) w.pass-is) (ap (λ (x : Progress). x.teller) w.progress-is) (ap (λ (x : Progress). x.is_open) w.progress-is) (w.in_ok-connect.ensures.connects (g.L.Link.talk c.args.link.now) (g.L.Link.left c.args.link.now) (g.L.Link.faults c.args.link.now)) was.1
      | else-begins w ↦
          joined-else c.args.self.now.uid was.0 c.args.pass.now.view c.if-begins.pass.view (g.L.Link.talk c.args.link.now) (g.L.Link.left c.args.link.now) (g.L.Link.faults c.args.link.now) c.args.progress c.if-begins.progress c.args.heard w.if-begins.false (ap (λ (x : PassState Setup Entry). x.view) w.pass-is) w.progress-is was.1
    ] in
    next.stands.goes.who ∙ (sym was.1.stands.goes.who ∙ c.requires.who)

pub answer_all-requires-clause-calls : goal.answer_all-requires-clause-calls
answer_all-requires-clause-calls g c =
    let was = c.requires.heard in
    calls-allowed c.args.self.now.uid was.0 (moment c.args.pass.now.view (g.L.Link.talk c.args.link.now) (g.L.Link.left c.args.link.now) (g.L.Link.faults c.args.link.now)) c.args.progress c.args.heard was.1 c.args.self.now.who c.requires.who

pub answer_all-requires-clause-next : goal.answer_all-requires-clause-next
answer_all-requires-clause-next g c =
    let was = c.requires.heard in
    let next : CallsNext c.args.self.now.uid was.0 (moment c.if-begins.pass.view (g.L.Link.talk c.args.link.now) (g.L.Link.left c.args.link.now) (g.L.Link.faults c.args.link.now)) c.if-begins.progress c.args.heard =
    elim c.if-begins.branch [
      | then-begins+in_ok-connect w ↦
          joined-then c.args.self.now.uid was.0 c.args.pass.now.view w.connect.new.pass.view c.if-begins.pass.view (g.L.Link.talk c.args.link.now) (g.L.Link.left c.args.link.now) (g.L.Link.faults c.args.link.now) c.args.progress c.if-begins.progress c.args.heard w.if-begins.true
          (ap (λ (x : PassState Setup Entry). x.view) w.pass-is) (ap (λ (x : Progress). x.teller) w.progress-is) (ap (λ (x : Progress). x.is_open) w.progress-is) (w.in_ok-connect.ensures.connects (g.L.Link.talk c.args.link.now) (g.L.Link.left c.args.link.now) (g.L.Link.faults c.args.link.now)) was.1
      | else-begins w ↦
          joined-else c.args.self.now.uid was.0 c.args.pass.now.view c.if-begins.pass.view (g.L.Link.talk c.args.link.now) (g.L.Link.left c.args.link.now) (g.L.Link.faults c.args.link.now) c.args.progress c.if-begins.progress c.args.heard w.if-begins.false (ap (λ (x : PassState Setup Entry). x.view) w.pass-is) w.progress-is was.1
    ] in
    calls-next c.args.self.now.uid was.0 (moment c.if-begins.pass.view (g.L.Link.talk c.args.link.now) (g.L.Link.left c.args.link.now) (g.L.Link.faults c.args.link.now)) c.if-begins.progress c.args.heard next

pub returns-in_err-progress-clause-follows : goal.returns-in_err-progress-clause-follows
returns-in_err-progress-clause-follows g c = λ start h.
    let mid = (moment c.if-begins.pass.view (g.L.Link.talk c.args.link.now) (g.L.Link.left c.args.link.now) (g.L.Link.faults c.args.link.now)) in
    let new = (moment c.answer_all.new.pass.view (g.L.Link.talk c.answer_all.new.link) (g.L.Link.left c.answer_all.new.link) (g.L.Link.faults c.answer_all.new.link)) in
    let next : CallsNext c.args.self.now.uid start (moment c.if-begins.pass.view (g.L.Link.talk c.args.link.now) (g.L.Link.left c.args.link.now) (g.L.Link.faults c.args.link.now)) c.if-begins.progress c.args.heard =
    elim c.if-begins.branch [
      | then-begins+in_ok-connect w ↦
          joined-then c.args.self.now.uid start c.args.pass.now.view w.connect.new.pass.view c.if-begins.pass.view (g.L.Link.talk c.args.link.now) (g.L.Link.left c.args.link.now) (g.L.Link.faults c.args.link.now) c.args.progress c.if-begins.progress c.args.heard w.if-begins.true
          (ap (λ (x : PassState Setup Entry). x.view) w.pass-is) (ap (λ (x : Progress). x.teller) w.progress-is) (ap (λ (x : Progress). x.is_open) w.progress-is) (w.in_ok-connect.ensures.connects (g.L.Link.talk c.args.link.now) (g.L.Link.left c.args.link.now) (g.L.Link.faults c.args.link.now)) h
      | else-begins w ↦
          joined-else c.args.self.now.uid start c.args.pass.now.view c.if-begins.pass.view (g.L.Link.talk c.args.link.now) (g.L.Link.left c.args.link.now) (g.L.Link.faults c.args.link.now) c.args.progress c.if-begins.progress c.args.heard w.if-begins.false (ap (λ (x : PassState Setup Entry). x.view) w.pass-is) w.progress-is h
    ] in
    let p = err_from_is_err_and c.from_residual-in_err-progress.result c.from_residual-in_err-progress.ensures.1 in
    handed-on (TurnGives c.args.self.now.uid start new) c.from_residual-in_err-progress.result p.0 c.in_err-progress.field-0.0 p.1 p.2
    (calls-early c.args.self.now.uid start mid c.if-begins.progress c.args.heard next new c.in_err-progress.field-0.0 c.in_err-progress.ensures.answers)

pub returns-in-Some-clause-follows : goal.returns-in-Some-clause-follows
returns-in-Some-clause-follows g c = λ start h.
    let mid = (moment c.if-begins.pass.view (g.L.Link.talk c.args.link.now) (g.L.Link.left c.args.link.now) (g.L.Link.faults c.args.link.now)) in
    let new = (moment c.answer_all.new.pass.view (g.L.Link.talk c.answer_all.new.link) (g.L.Link.left c.answer_all.new.link) (g.L.Link.faults c.answer_all.new.link)) in
    let next : CallsNext c.args.self.now.uid start (moment c.if-begins.pass.view (g.L.Link.talk c.args.link.now) (g.L.Link.left c.args.link.now) (g.L.Link.faults c.args.link.now)) c.if-begins.progress c.args.heard =
    elim c.if-begins.branch [
      | then-begins+in_ok-connect w ↦
          joined-then c.args.self.now.uid start c.args.pass.now.view w.connect.new.pass.view c.if-begins.pass.view (g.L.Link.talk c.args.link.now) (g.L.Link.left c.args.link.now) (g.L.Link.faults c.args.link.now) c.args.progress c.if-begins.progress c.args.heard w.if-begins.true
          (ap (λ (x : PassState Setup Entry). x.view) w.pass-is) (ap (λ (x : Progress). x.teller) w.progress-is) (ap (λ (x : Progress). x.is_open) w.progress-is) (w.in_ok-connect.ensures.connects (g.L.Link.talk c.args.link.now) (g.L.Link.left c.args.link.now) (g.L.Link.faults c.args.link.now)) h
      | else-begins w ↦
          joined-else c.args.self.now.uid start c.args.pass.now.view c.if-begins.pass.view (g.L.Link.talk c.args.link.now) (g.L.Link.left c.args.link.now) (g.L.Link.faults c.args.link.now) c.args.progress c.if-begins.progress c.args.heard w.if-begins.false (ap (λ (x : PassState Setup Entry). x.view) w.pass-is) w.progress-is h
    ] in
    calls-end c.args.self.now.uid start mid c.if-begins.progress c.args.heard next new c.in_ok-progress.progress c.in_ok-progress.ensures.answers c.in-Some.end c.in-Some.is

pub returns-clause-follows : goal.returns-clause-follows
returns-clause-follows g c = λ start h.
    let mid = (moment c.if-begins.pass.view (g.L.Link.talk c.args.link.now) (g.L.Link.left c.args.link.now) (g.L.Link.faults c.args.link.now)) in
    let new = (moment c.answer_all.new.pass.view (g.L.Link.talk c.answer_all.new.link) (g.L.Link.left c.answer_all.new.link) (g.L.Link.faults c.answer_all.new.link)) in
    let next : CallsNext c.args.self.now.uid start (moment c.if-begins.pass.view (g.L.Link.talk c.args.link.now) (g.L.Link.left c.args.link.now) (g.L.Link.faults c.args.link.now)) c.if-begins.progress c.args.heard =
    elim c.if-begins.branch [
      | then-begins+in_ok-connect w ↦
          joined-then c.args.self.now.uid start c.args.pass.now.view w.connect.new.pass.view c.if-begins.pass.view (g.L.Link.talk c.args.link.now) (g.L.Link.left c.args.link.now) (g.L.Link.faults c.args.link.now) c.args.progress c.if-begins.progress c.args.heard w.if-begins.true
          (ap (λ (x : PassState Setup Entry). x.view) w.pass-is) (ap (λ (x : Progress). x.teller) w.progress-is) (ap (λ (x : Progress). x.is_open) w.progress-is) (w.in_ok-connect.ensures.connects (g.L.Link.talk c.args.link.now) (g.L.Link.left c.args.link.now) (g.L.Link.faults c.args.link.now)) h
      | else-begins w ↦
          joined-else c.args.self.now.uid start c.args.pass.now.view c.if-begins.pass.view (g.L.Link.talk c.args.link.now) (g.L.Link.left c.args.link.now) (g.L.Link.faults c.args.link.now) c.args.progress c.if-begins.progress c.args.heard w.if-begins.false (ap (λ (x : PassState Setup Entry). x.view) w.pass-is) w.progress-is h
    ] in
    calls-rest c.args.self.now.uid start mid c.if-begins.progress c.args.heard next new c.in_ok-progress.progress c.in_ok-progress.ensures.answers c.in-None.is c.in_ok-progress.ensures.same
