use Rattle.std.proofs.Common.{◌∙◌, ap}
use Rattle.login_model.specs.Legal.{trail_of}
use Rattle.login_core.specs.State.{CoreState}
use Rattle.login_core.proofs.state.Core.draft.Goals as goal

pub returns : goal.returns
returns c = c.self.invariant.no_marks ∙ ap (λ (s : CoreState). trail_of s.journal) c.self.view_is
