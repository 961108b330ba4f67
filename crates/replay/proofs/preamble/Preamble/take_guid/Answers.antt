use Rattle.std.proofs.Common.{rules, ◌≡◌, None}
use Rattle.replay.proofs.Setups.{guid_said}
use Rattle.replay.proofs.preamble.Preamble.take_guid.Goals as goal

pub returns : goal.returns
returns c = λ number lines count.
    let none : c.args.self.now.guid ≡ None = search rules in
    guid_said c.args.self.now c.args.guid none lines
