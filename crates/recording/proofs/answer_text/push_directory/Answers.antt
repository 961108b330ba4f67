use Rattle.std.proofs.Common.{refl, codes, ◌∷◌}
use Rattle.std.specs.Fmt.{decimal}
use Rattle.login_model.specs.Paths.{runtime_path}
use Rattle.recording.proofs.Printed.{two_parts}
use Rattle.recording.proofs.answer_text.push_directory.Goals as goal

pub returns : goal.returns
unfolding runtime_path
returns c =
    two_parts c.digits.result c.args.text.now c.push.new.self c.digits.new.self (codes " /run/user/") (decimal c.args.uid.0)
    (32 ∷ runtime_path c.args.uid) c.in_ok-push.ensures c.digits.ensures refl
