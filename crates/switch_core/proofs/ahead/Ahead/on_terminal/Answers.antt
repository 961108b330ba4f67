use Rattle.std.proofs.Common.{◌∙◌, ap, sym}
use Rattle.login_model.specs.Where.{session_on}
use Rattle.switch_core.specs.inner.Ahead.{AheadState}
use Rattle.switch_core.proofs.Staying.{same-on}
use Rattle.switch_core.proofs.ahead.Ahead.on_terminal.Goals as goal

pub returns : goal.returns
returns g c =
    let a = c.args.self.now in
    c.on_terminal.ensures ∙ ap (λ (b : AheadState). session_on b.before c.args.vt) c.self.view_is ∙ sym (same-on a.before a.trail c.args.vt c.requires)
