use Rattle.std.proofs.Common.{refl}
use Rattle.login_prog.proofs.ClockTurned.{reads-early, reads-failed, reads-refused, reads-tick}
use Rattle.login_prog.proofs.serve.accepting.Accepting.read_clock.Goals as goal

pub returns-then-not-is_due-clause-reads : goal.returns-then-not-is_due-clause-reads
returns-then-not-is_due-clause-reads g c = λ x t calls going k i.
    reads-early _ _ _ _ _ _ _ _ _ _ x t calls c.args.self.now c.args.ticking.now c.now.new.self going k i c.in-At.moment c.in-At.ensures.tells c.in-At.ensures.cause (c.if-not-is_due.ensures.early refl)

pub returns-then-make_tick-clause-reads : goal.returns-then-make_tick-clause-reads
returns-then-make_tick-clause-reads g c = λ x t calls going k i.
    reads-tick _ _ _ _ _ _ _ _ _ _ x t calls c.args.self.now c.args.ticking.now c.now.new.self going k i c.in-At.moment c.in-At.ensures.tells c.in-At.ensures.cause (c.if-not-is_due.ensures.due refl) c.make_tick.new.self c.make_tick.result c.make_tick.ensures.ticks c.if-make_tick.true

pub returns-else-make_tick-clause-reads : goal.returns-else-make_tick-clause-reads
returns-else-make_tick-clause-reads g c = λ x t calls going k i.
    reads-refused _ _ _ _ _ _ _ _ _ _ x t calls c.args.self.now c.args.ticking.now c.now.new.self going k i c.in-At.moment c.in-At.ensures.tells c.in-At.ensures.cause (c.if-not-is_due.ensures.due refl) c.make_tick.new.self c.make_tick.result c.make_tick.ensures.ticks c.if-make_tick.false

pub returns-in-Failed-clause-reads : goal.returns-in-Failed-clause-reads
returns-in-Failed-clause-reads g c = λ x t calls going k i.
    reads-failed _ _ _ _ _ _ _ _ _ _ x t calls c.args.self.now c.args.ticking.now c.now.new.self going k i c.in-Failed.ensures.tells c.in-Failed.ensures.cause c.fail.new.self c.fail.ensures.keeps
