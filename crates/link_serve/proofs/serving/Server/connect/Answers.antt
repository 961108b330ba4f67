use Rattle.std.proofs.Common.{ℕ, List, Option, Bool, Ok, Err, sym, subst}
use Rattle.login_edge.specs.Exchanges.{Exchange}
use Rattle.login_model.specs.declared.event.Event.TheVariants.{Connect}
use Rattle.login_office.specs.declared.end.LinkEnd.{LinkEnd}
use Rattle.link_serve.specs.Turned.{StepTells}
use Rattle.link_serve.specs.inner.Turning.{Connects, moment}
use Rattle.link_serve.proofs.EventsStepped.{connect-denied, connect-granted, connect-refused}
use Rattle.link_serve.proofs.serving.Server.connect.Goals as goal

pub step_event-requires-clause-who : goal.step_event-requires-clause-who
step_event-requires-clause-who g c = sym c.requires.who

pub step_event-requires-clause-alone : goal.step_event-requires-clause-alone
step_event-requires-clause-alone g c = c.requires.above

pub step_event-requires-clause-behind : goal.step_event-requires-clause-behind
step_event-requires-clause-behind g c = λ above. c.requires.new

pub returns-in-Ok-true-clause-connects : goal.returns-in-Ok-true-clause-connects
returns-in-Ok-true-clause-connects g c =
    connect-granted c.args.self.now.uid c.args.self.now.who c.args.pass.now.view c.step_event.new.pass.view c.requires.who
    (subst (λ (b : Bool). StepTells (Connect c.args.self.now.who c.args.self.now.uid) c.args.pass.now.view c.step_event.new.pass.view (Ok b)) c.in-Ok-true.field-0-test c.in-Ok-true.ensures.steps)

pub returns-in-Ok-false-clause-connects : goal.returns-in-Ok-false-clause-connects
returns-in-Ok-false-clause-connects g c =
    connect-denied c.args.self.now.uid c.args.self.now.who c.args.pass.now.view c.step_event.new.pass.view c.requires.who
    (subst (λ (b : Bool). StepTells (Connect c.args.self.now.who c.args.self.now.uid) c.args.pass.now.view c.step_event.new.pass.view (Ok b)) c.in-Ok-false.field-0-test c.in-Ok-false.ensures.steps)

pub returns-in-Err-clause-connects : goal.returns-in-Err-clause-connects
returns-in-Err-clause-connects g c =
    let v = c.args.pass.now.view in
    let w = c.step_event.new.pass.view in
    subst (λ (x : LinkEnd). (talk : Option (List Exchange)) (left : Option (List ℕ)) (faults : ℕ) → Connects c.args.self.now.uid (moment v talk left faults) (moment w talk left faults) (Err x)) (sym c.refused_end.ensures)
    (connect-refused c.args.self.now.uid c.args.self.now.who v w c.requires.who c.in-Err.why c.in-Err.ensures.steps)
