use Rattle.std.proofs.Common.{refl, arith, ◌+◌}
use Rattle.replay.proofs.Setups.{action_said}
use Rattle.replay.proofs.preamble.Preamble.take_action.Goals as goal

pub returns : goal.returns
returns c = λ lines count.
    action_said c.args.self.now _ c.args.text.now (c.args.number + 1) refl refl refl c.in_ok-push_line.ensures c.in_ok-push.ensures.ok lines (omega (arith, count))
