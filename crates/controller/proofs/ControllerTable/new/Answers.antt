use Rattle.std.proofs.Common.{ap}
use Rattle.login_model.specs.Trail.{Trail, value}
use Rattle.login_table.proofs.Parts.{joined-none}
use Rattle.controller.proofs.ControllerTable.new.Goals as goal

pub returns-clause-stands : goal.returns-clause-stands
returns-clause-stands c = λ k own. ap (λ (t : Trail). value t k) (joined-none 0 c.new.result c.new-2.result c.new.ensures c.new-2.ensures)

pub returns-clause-none : goal.returns-clause-none
returns-clause-none c = joined-none 0 c.new.result c.new-2.result c.new.ensures c.new-2.ensures
