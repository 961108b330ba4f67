use Rattle.std.proofs.Common.{refl, sym, subst, Option, Result}
use Rattle.desk.specs.History.{entries}
use Rattle.login_core.specs.declared.state.Refused.{Refused}
use Rattle.login_model.specs.declared.event.Event.{Event}
use Rattle.link_serve.specs.inner.Acting.{MayStep}
use Rattle.link_serve.specs.Turned.{StepTells, granted_of}
use Rattle.link_serve.specs.declared.acts.Made.{Made}
use Rattle.link_serve.proofs.TurnsTaken.{never-another, step-tells}
use Rattle.link_serve.proofs.stepping.step_event.Goals as goal

pub act-requires-clause-may : goal.act-requires-clause-may
act-requires-clause-may g c = λ above. subst (λ (o : Option Event). MayStep o c.args.pass.now.view.mine) (sym c.new.ensures.event) (c.requires.behind above)

pub act-requires-clause-after : goal.act-requires-clause-after
act-requires-clause-after g c = (entries c.args.pass.now.view.seen, refl)

pub returns-in-Some-Ok-clause-steps : goal.returns-in-Some-Ok-clause-steps
returns-in-Some-Ok-clause-steps g c =
    subst (λ (r : Result Made Refused). StepTells c.args.event c.args.pass.now.view c.act.new.pass.view (granted_of r)) c.in-Some-Ok.field-0-is
    (step-tells c.args.event c.new.result c.args.pass.now.view c.act.new.pass.view c.in-Some-Ok.field-0 c.in-Some-Ok.ensures.turn c.new.ensures.event c.in-Some-Ok.ensures.who_mine)

pub returns-in-Some-Err-clause-steps : goal.returns-in-Some-Err-clause-steps
returns-in-Some-Err-clause-steps g c =
    subst (λ (r : Result Made Refused). StepTells c.args.event c.args.pass.now.view c.act.new.pass.view (granted_of r)) c.in-Some-Err.field-0-is
    (step-tells c.args.event c.new.result c.args.pass.now.view c.act.new.pass.view c.in-Some-Err.field-0 c.in-Some-Err.ensures.turn c.new.ensures.event c.in-Some-Err.ensures.who_mine)

pub unreachable-requires : goal.unreachable-requires
unreachable-requires g c = never-another c.args.event c.new.result c.args.pass.now.view c.act.new.pass.view c.in-None.ensures.turn c.new.ensures.event c.requires.who
