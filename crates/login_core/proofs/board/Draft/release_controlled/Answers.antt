use Rattle.std.proofs.Common.{◌∙◌, ap, arith}
use Rattle.login_model.specs.Procedure.{each, release}
use Rattle.login_laws.specs.Amounts.{amount}
use Rattle.login_core.specs.inner.Draft.{marked_by}
use Rattle.login_core.proofs.Controlled.{controlled-chosen, release-above}
use Rattle.login_core.proofs.board.Draft.release_controlled.Goals as goal

pub for_each-requires-clause-spares : goal.for_each-requires-clause-spares
for_each-requires-clause-spares c = release-above c.args.who

pub for_each-requires-clause-room : goal.for_each-requires-clause-room
for_each-requires-clause-room c =
    let t = c.args.self.now.trail in
    λ r. (let l = ap (λ xs. amount r (each release xs t)) (controlled-chosen t c.args.who) in
    let h = c.requires.room r in
    omega arith)

pub returns : goal.returns
returns c =
    let t = c.args.self.now.trail in
    record { marked = c.for_each.ensures.marked ∙ ap (λ xs. marked_by (each release xs) c.args.self.now) (controlled-chosen t c.args.who) }
