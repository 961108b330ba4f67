use Rattle.std.proofs.Common.{rules, ◌<◌, length}
use Rattle.login_model.specs.Limits.{users_limit}
use Rattle.login_model.specs.Setups.{IsNewUser}
use Rattle.replay.proofs.Setups.{user_said}
use Rattle.replay.proofs.preamble.Preamble.take_user.Goals as goal

pub returns : goal.returns
returns c = λ number lines count.
    let next : IsNewUser c.args.row.uid.0 c.args.self.now.users × (length c.args.self.now.users < users_limit) = search rules in
    user_said c.args.self.now c.args.row c.push.new.self c.in_ok-push.ensures.ok next lines
