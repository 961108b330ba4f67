use Rattle.std.proofs.Common.{arith, inl, refl, true, ◌∙◌}
use Rattle.login_prog.specs.inner.Accepting.{asked_once}
use Rattle.login_prog.proofs.LinkTaken.{comes-prepared, late-so, no-memory-so}
use Rattle.login_prog.proofs.Returned.{come-above, come-desk, come-number, come-out, come-who}
use Rattle.login_prog.proofs.serve.accepting.Accepting.take.Goals as goal

pub give_back-requires-clause-number : goal.give_back-requires-clause-number
give_back-requires-clause-number g c = come-number _ _ _ _ _ _ _ _ _ _ _ c.args.self.now c.requires.came

pub give_back-requires-clause-out : goal.give_back-requires-clause-out
give_back-requires-clause-out g c = come-out _ _ _ _ _ _ _ _ _ _ _ c.args.self.now c.requires.came

pub give_back-requires-in-Err-clause-number : goal.give_back-requires-in-Err-clause-number
give_back-requires-in-Err-clause-number g c = come-number _ _ _ _ _ _ _ _ _ _ _ c.args.self.now c.requires.came

pub give_back-requires-in-Err-clause-out : goal.give_back-requires-in-Err-clause-out
give_back-requires-in-Err-clause-out g c = come-out _ _ _ _ _ _ _ _ _ _ _ c.args.self.now c.requires.came

pub returns-then-self-gt-MOST_SERVED-clause-keeps : goal.returns-then-self-gt-MOST_SERVED-clause-keeps
returns-then-self-gt-MOST_SERVED-clause-keeps g c = λ listened x t m.
    (t.is_stopped, late-so _ _ _ _ _ _ _ _ listened x t c.args.link c.args.uid c.args.self.now m c.give_back.new.self c.give_back.ensures.tells c.give_back.ensures.given c.give_back.ensures.faults (omega (arith, c.if-self-gt-MOST_SERVED.true)))

pub start-requires-clause-came : goal.start-requires-clause-came
start-requires-clause-came g c =
    let r = c.requires.came in
    λ κs within. (r.0, r.1, r.2, r.3, comes-prepared _ _ _ _ _ _ _ _ r.0 r.1 r.2 _ _ c.args.self.now c.prepare.new.children c.prepare.new.ends c.prepare.ensures.children c.prepare.ensures.ends r.4)

pub start-requires-clause-room : goal.start-requires-clause-room
start-requires-clause-room g c = λ κs within. c.in-Ok.ensures.room

pub start-requires-clause-desk : goal.start-requires-clause-desk
start-requires-clause-desk g c = λ κs within. come-desk _ _ _ _ _ _ _ _ _ _ _ c.args.self.now c.requires.came

pub start-requires-clause-above : goal.start-requires-clause-above
start-requires-clause-above g c = λ κs within. come-above _ _ _ _ _ _ _ _ _ _ _ c.args.self.now c.requires.came

pub start-requires-clause-some : goal.start-requires-clause-some
start-requires-clause-some g c = λ κs within. omega (arith, c.if-self-gt-MOST_SERVED.false)

pub start-requires-clause-unclosed : goal.start-requires-clause-unclosed
start-requires-clause-unclosed g c = λ κs within. c.requires.unclosed

pub returns-in-Ok-clause-keeps : goal.returns-in-Ok-clause-keeps
returns-in-Ok-clause-keeps g c = λ listened x t m.
    (t.is_stopped, c.start.ensures.keeps listened x t (comes-prepared _ _ _ _ _ _ _ _ listened x t _ _ c.args.self.now c.prepare.new.children c.prepare.new.ends c.prepare.ensures.children c.prepare.ensures.ends m))

pub stop-requires-clause-desk : goal.stop-requires-clause-desk
stop-requires-clause-desk g c = come-desk _ _ _ _ _ _ _ _ _ _ _ c.args.self.now c.requires.came

pub stop-requires-clause-who : goal.stop-requires-clause-who
stop-requires-clause-who g c = come-who _ _ _ _ _ _ _ _ _ _ _ c.args.self.now c.requires.came

pub returns-in-Err-clause-keeps : goal.returns-in-Err-clause-keeps
returns-in-Err-clause-keeps g c = λ listened x t m. (
  true,
  c.stop.ensures.keeps x (asked_once t) (inl (inl refl))
      (no-memory-so _ _ _ _ _ _ _ _ listened x t c.args.link c.args.uid c.args.self.now m c.give_back-in-Err.new.self c.give_back-in-Err.ensures.tells c.give_back-in-Err.ensures.given c.give_back-in-Err.ensures.faults
      c.prepare.new.children c.prepare.new.ends c.prepare.ensures.children c.prepare.ensures.ends),
)
