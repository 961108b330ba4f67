use Rattle.std.proofs.Common.{◌∙◌, ap, sym}
use Rattle.login_laws.proofs.ActiveLaws.{on-seat0}
use Rattle.login_model.specs.Where.{session_on}
use Rattle.switch_core.proofs.ahead.Ahead.active.Goals as goal

pub returns : goal.returns
returns g c =
    let t = c.args.self.now.trail in
    c.on_terminal.ensures ∙ ap (session_on t) c.current_vt.ensures ∙ sym (on-seat0 t)
