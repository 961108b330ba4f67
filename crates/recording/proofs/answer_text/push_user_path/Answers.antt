use Rattle.std.proofs.Common.{refl, codes, ◌∷◌}
use Rattle.std.specs.Fmt.{decimal}
use Rattle.login_model.specs.Paths.{user_path}
use Rattle.recording.proofs.Printed.{two_parts}
use Rattle.recording.proofs.answer_text.push_user_path.Goals as goal

pub returns : goal.returns
unfolding user_path
returns c =
    two_parts c.digits.result c.args.text.now c.push.new.self c.digits.new.self (codes " /org/freedesktop/login1/user/_") (decimal c.args.uid.0)
    (32 ∷ user_path c.args.uid) c.in_ok-push.ensures c.digits.ensures refl
