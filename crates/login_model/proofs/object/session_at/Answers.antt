use Rattle.std.proofs.Common.{refl, sym, ◌∙◌}
use Rattle.login_model.proofs.Elements.{no_long_session}
use Rattle.login_model.proofs.object.session_at.Goals as goal

pub returns-in_err-size : goal.returns-in_err-size
returns-in_err-size c = c.from_residual.ensures ∙ sym (no_long_session c.args.element.now (c.in_err-size.ensures.long refl))
