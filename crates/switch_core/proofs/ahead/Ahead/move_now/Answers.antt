use Rattle.std.proofs.Common.{◌∙◌, ap, Option, length, arith}
use Rattle.login_base.specs.declared.ids.SessId.{SessId}
use Rattle.login_model.specs.Switching.{move_to}
use Rattle.switch_core.specs.inner.Ahead.{with_trail}
use Rattle.switch_core.proofs.Growing.{numbered-as}
use Rattle.switch_core.proofs.ahead.Ahead.move_now.Goals as goal

pub move_to-requires-clause-numbered : goal.move_to-requires-clause-numbered
move_to-requires-clause-numbered g c =
    let t = c.args.self.now.trail in
    numbered-as _ _ (ap (λ (o : Option SessId). move_to c.args.conf.now c.args.vt o t) c.active-old.ensures) c.requires.numbered

pub move_to-requires-clause-room : goal.move_to-requires-clause-room
move_to-requires-clause-room g c =
    let t = c.args.self.now.trail in
    let e = ap (λ (o : Option SessId). move_to c.args.conf.now c.args.vt o t) c.active-old.ensures in
    let n = ap length e in
    omega (arith, c.requires.room)

pub returns : goal.returns
returns g c =
    let t = c.args.self.now.trail in
    record { marked = c.move_to.ensures.marked ∙ ap (with_trail c.args.self.now) (ap (λ (o : Option SessId). move_to c.args.conf.now c.args.vt o t) c.active-old.ensures) }
