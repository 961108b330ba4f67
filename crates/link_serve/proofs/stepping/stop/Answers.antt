use Rattle.link_serve.proofs.TurnsTaken.{stop-tells}
use Rattle.link_serve.proofs.stepping.stop.Goals as goal

pub returns-clause-stops : goal.returns-clause-stops
returns-clause-stops g c = stop-tells c.args.pass.now.view c.step_event.new.pass.view c.step_event.result c.step_event.ensures.steps
