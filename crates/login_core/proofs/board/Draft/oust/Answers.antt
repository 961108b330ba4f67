use Rattle.std.proofs.Common.{sym, subst}
use Rattle.login_model.specs.declared.fact.Key.TheVariants.{Conn}
use Rattle.login_model.specs.Devices.{taken_devices}
use Rattle.login_model.specs.Procedure.{revoke}
use Rattle.login_model.specs.Trail.{Trail}
use Rattle.login_laws.proofs.Carried.{each-carried, revoke-carried}
use Rattle.login_facts.specs.Dues.{WasConnected}
use Rattle.login_core.proofs.Devices.{revoke-above}
use Rattle.login_core.proofs.Growing.{trails}
use Rattle.login_facts.proofs.Known.{known}
use Rattle.login_core.proofs.board.Draft.oust.Goals as goal

pub for_each-requires-clause-spares : goal.for_each-requires-clause-spares
for_each-requires-clause-spares c = revoke-above c.args.session

pub put_controller-requires-clause-known : goal.put_controller-requires-clause-known
unfolding taken_devices
put_controller-requires-clause-known c =
    let s = c.args.session in
    let t = c.args.self.now.trail in
    let r = known (Conn c.args.who) in
    let P : Trail → Type 0 = λ u. WasConnected u c.args.who in
    subst P (sym (trails c.for_each.ensures.marked)) (each-carried r (revoke s) (revoke-carried r s) (taken_devices t s) t c.requires.known)
