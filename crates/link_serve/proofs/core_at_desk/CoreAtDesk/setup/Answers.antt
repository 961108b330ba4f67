use Rattle.std.proofs.Common.{subst}
use Rattle.login_core.specs.State.{CoreState}
use Rattle.login_model.specs.Conf.{IsAllowed}
use Rattle.link_serve.proofs.core_at_desk.CoreAtDesk.setup.Goals as goal

pub returns-clause-allowed : goal.returns-clause-allowed
returns-clause-allowed c = subst (λ (k : CoreState). IsAllowed k.setup.conf) c.self.view_is c.self.invariant.allowed
