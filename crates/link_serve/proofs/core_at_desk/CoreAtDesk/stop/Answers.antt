use Rattle.std.proofs.Common.{ap, ◌∙◌}
use Rattle.login_core.specs.State.{CoreState}
use Rattle.login_model.specs.Stopping.{stop_from, stopped}
use Rattle.link_serve.proofs.core_at_desk.CoreAtDesk.stop.Goals as goal

pub returns : goal.returns
unfolding stopped
returns c = c.stopped.ensures ∙ ap (λ (k : CoreState). stop_from 1 k.journal) c.self.view_is
