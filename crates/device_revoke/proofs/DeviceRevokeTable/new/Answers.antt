use Rattle.std.proofs.Common.{ap}
use Rattle.login_model.specs.Trail.{Trail, value}
use Rattle.device_revoke.proofs.Joined.{none}
use Rattle.device_revoke.proofs.DeviceRevokeTable.new.Goals as goal

pub returns-clause-stands : goal.returns-clause-stands
returns-clause-stands c = λ k own.
    ap (λ (t : Trail). value t k)
    (none c.new.result c.new-2.result c.new-3.result c.new-4.result c.new.ensures c.new-2.ensures c.new-3.ensures c.new-4.ensures)

pub returns-clause-none : goal.returns-clause-none
returns-clause-none c = none c.new.result c.new-2.result c.new-3.result c.new-4.result c.new.ensures c.new-2.ensures c.new-3.ensures c.new-4.ensures
