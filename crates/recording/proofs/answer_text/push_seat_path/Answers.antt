use Rattle.std.proofs.Common.{refl, codes, ◌∷◌, ap, ◌∙◌}
use Rattle.login_base.specs.Labels.{escape}
use Rattle.login_model.specs.Paths.{seat_path}
use Rattle.recording.proofs.Printed.{two_parts}
use Rattle.recording.proofs.answer_text.push_seat_path.Goals as goal

pub returns : goal.returns
unfolding seat_path
returns c =
    let label = c.as_slice-2.ensures ∙ (c.in_ok-label.ensures ∙ ap escape c.as_slice.ensures) in
    two_parts c.push-2.result c.args.text.now c.push.new.self c.push-2.new.self (codes " /org/freedesktop/login1/seat/") (escape c.args.seat.now)
    (32 ∷ seat_path c.args.seat.now) c.in_ok-push.ensures (rw label at c.push-2.ensures) refl
