use Rattle.std.proofs.Common.{arith}
use Rattle.login_model.specs.Switching.{settle_switch}
use Rattle.login_laws.proofs.Carried.{settle_operation-carried}
use Rattle.login_laws.proofs.Widens.{widens, widens-operated}
use Rattle.login_core.proofs.board.Draft.settle.Goals as goal

pub settle_switch-requires-clause-room : goal.settle_switch-requires-clause-room
settle_switch-requires-clause-room c =
    let U = c.args.setup.now in
    λ r. (let g = settle_operation-carried widens widens-operated U (settle_switch U.conf c.args.self.now.trail) r in
    let h = c.requires.room r in
    omega arith)
