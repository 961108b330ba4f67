use Rattle.login_core.proofs.Starting.{core-new}
use Rattle.login_core.proofs.state.Core.new.Goals as goal

pub invariant_of-result : goal.invariant_of-result
invariant_of-result c =
    let b = c.in-Ok.ensures in
    core-new c.args.setup c.in-Ok.board c.new-in-Ok.result c.requires b.journal b.marks b.ears b.begun b.entries
