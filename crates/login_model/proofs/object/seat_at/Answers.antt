use Rattle.std.proofs.Common.{refl, sym, ◌∙◌}
use Rattle.login_model.proofs.Elements.{no_long_seat}
use Rattle.login_model.proofs.object.seat_at.Goals as goal

pub returns-in_err-size : goal.returns-in_err-size
returns-in_err-size c = c.from_residual.ensures ∙ sym (no_long_seat c.args.element.now (c.in_err-size.ensures.long refl))
