use Rattle.std.proofs.Common.{◌∙◌, ap, arith}
use Rattle.login_model.specs.Procedure.{each, revoke}
use Rattle.login_laws.specs.Amounts.{amount}
use Rattle.login_core.specs.inner.Draft.{marked_by}
use Rattle.login_core.proofs.Takers.{takers-above, takers-chosen}
use Rattle.login_core.proofs.board.Draft.revoke_takers.Goals as goal

pub for_each-requires-clause-spares : goal.for_each-requires-clause-spares
for_each-requires-clause-spares c = takers-above c.args.device

pub for_each-requires-clause-room : goal.for_each-requires-clause-room
for_each-requires-clause-room c =
    let d = c.args.device in
    let t = c.args.self.now.trail in
    λ r. (let l = ap (λ xs. amount r (each (λ s u. revoke s d u) xs t)) (takers-chosen t d) in
    let h = c.requires.room r in
    omega arith)

pub returns : goal.returns
returns c =
    let d = c.args.device in
    let t = c.args.self.now.trail in
    record { marked = c.for_each.ensures.marked ∙ ap (λ xs. marked_by (each (λ s u. revoke s d u) xs) c.args.self.now) (takers-chosen t d) }
