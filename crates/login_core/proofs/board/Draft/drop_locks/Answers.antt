use Rattle.std.proofs.Common.{◌∙◌, ap, arith}
use Rattle.login_model.specs.Procedure.{each}
use Rattle.login_laws.specs.Amounts.{amount}
use Rattle.login_core.specs.inner.Draft.{marked_by}
use Rattle.login_core.proofs.Locks.{drop-above, drop_lock, locks-chosen}
use Rattle.login_core.proofs.board.Draft.drop_locks.Goals as goal

pub for_each-requires-clause-spares : goal.for_each-requires-clause-spares
for_each-requires-clause-spares c = drop-above c.args.who

pub for_each-requires-clause-room : goal.for_each-requires-clause-room
for_each-requires-clause-room c =
    let t = c.args.self.now.trail in
    λ r. (let l = ap (λ xs. amount r (each drop_lock xs t)) (locks-chosen t c.args.who) in
    let h = c.requires.room r in
    omega arith)

pub returns : goal.returns
returns c =
    let t = c.args.self.now.trail in
    record { marked = c.for_each.ensures.marked ∙ ap (λ xs. marked_by (each drop_lock xs) c.args.self.now) (locks-chosen t c.args.who) }
