use Rattle.std.proofs.Common.{subst}
use Rattle.login_core.specs.State.{CoreState}
use Rattle.wire_out.specs.Conditions.{IsMailable}
use Rattle.link_serve.proofs.AtDesk.{mailable}
use Rattle.link_serve.proofs.core_at_desk.CoreAtDesk.journal.Goals as goal

pub returns-clause-mailable : goal.returns-clause-mailable
returns-clause-mailable c =
    subst (λ (k : CoreState). IsMailable k.journal) c.self.view_is (mailable c.self.inside.core c.self.invariant c.journal.ensures.few_entries c.journal.ensures.few_marks)
