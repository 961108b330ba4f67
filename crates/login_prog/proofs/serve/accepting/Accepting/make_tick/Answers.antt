use Rattle.std.proofs.Common.{Some, sym}
use Rattle.login_prog.proofs.Keeping.{refused-keeps, refused-reason, tick-keeps}
use Rattle.login_prog.proofs.serve.accepting.Accepting.make_tick.Goals as goal

pub returns-in-Ok-clause-ticks : goal.returns-in-Ok-clause-ticks
returns-in-Ok-clause-ticks g c = λ x t going k. tick-keeps _ _ _ _ _ _ x t c.args.self.now c.step_event.new.pass c.args.moment k going c.step_event.ensures.desk _ c.in-Ok.ensures.steps

pub returns-in-Err-clause-ticks : goal.returns-in-Err-clause-ticks
returns-in-Err-clause-ticks g c = λ x t going k.
    let s = c.in-Err.ensures.steps in
    c.stop.ensures.keeps x (record t { refused = Some c.args.moment })
    (refused-reason _ _ _ _ _ _ x t c.args.self.now c.step_event.new.pass c.args.moment k going c.step_event.ensures.desk c.in-Err.why s c.refused.new.self c.refused.ensures)
    (refused-keeps _ _ _ _ _ _ x t c.args.self.now c.step_event.new.pass c.args.moment k going c.step_event.ensures.desk c.in-Err.why s c.refused.new.self c.refused.ensures)

pub step_event-requires-clause-who : goal.step_event-requires-clause-who
step_event-requires-clause-who g c = sym c.requires.who
