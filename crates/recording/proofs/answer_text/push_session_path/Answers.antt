use Rattle.std.proofs.Common.{rules, codes, ◌∷◌, ◌<◌, ◌^◌, ap, sym, List, ℕ}
use Rattle.std.specs.Fmt.{decimal}
use Rattle.login_model.specs.Paths.{session_path}
use Rattle.recording.proofs.Paths.{session_path-plain}
use Rattle.recording.proofs.Printed.{two_parts}
use Rattle.recording.proofs.answer_text.push_session_path.Goals as goal

pub returns : goal.returns
returns c =
    let small : c.args.session.0 < 2 ^ 32 = search rules in
    two_parts c.digits.result c.args.text.now c.push.new.self c.digits.new.self (codes " /org/freedesktop/login1/session/c") (decimal c.args.session.0)
    (32 ∷ session_path c.args.session) c.in_ok-push.ensures c.digits.ensures (ap (λ (t : List ℕ). 32 ∷ t) (sym (session_path-plain c.args.session small)))
