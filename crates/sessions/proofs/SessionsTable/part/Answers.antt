use Rattle.std.proofs.Common.{◌∙◌, ap, sym}
use Rattle.login_model.specs.Trail.{value}
use Rattle.login_table.specs.Rows.{RowList}
use Rattle.login_table.proofs.Parts.{apart, joined-one, joined-other, other-kind}
use Rattle.login_table.proofs.Standing.{value_tells}
use Rattle.sessions.proofs.SessionsTable.part.Goals as goal

pub returns-then-rank-eq-SESSIONS : goal.returns-then-rank-eq-SESSIONS
returns-then-rank-eq-SESSIONS c = λ k e.
    sym (joined-one value_tells 1 c.self.inside.sessions c.self.inside.hints k (e ∙ c.if-rank-eq-SESSIONS.true))
    ∙ ap (λ (v : RowList). value v.trail k) c.self.view_is

pub returns-else-rank-eq-SESSIONS : goal.returns-else-rank-eq-SESSIONS
returns-else-rank-eq-SESSIONS c = λ k e.
    sym (joined-other value_tells 1 c.self.inside.sessions c.self.inside.hints k (other-kind 1 c.args.rank k e (apart c.args.rank 1 c.if-rank-eq-SESSIONS.false)))
    ∙ ap (λ (v : RowList). value v.trail k) c.self.view_is
