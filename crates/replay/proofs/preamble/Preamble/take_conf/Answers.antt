use Rattle.std.proofs.Common.{refl}
use Rattle.replay.proofs.Setups.{conf_said}
use Rattle.replay.proofs.preamble.Preamble.take_conf.Goals as goal

pub returns : goal.returns
returns c = λ number lines count. conf_said c.args.self.now _ c.args.text.now refl refl c.in_ok-push_line.ensures refl refl lines
