use Rattle.std.proofs.Common.{◌∙◌, ap, sym}
use Rattle.login_model.specs.Trail.{value}
use Rattle.login_table.specs.Rows.{RowList}
use Rattle.login_table.proofs.Parts.{apart, joined-one, joined-other, other-kind}
use Rattle.login_table.proofs.Standing.{value_tells}
use Rattle.controller.proofs.ControllerTable.part.Goals as goal

pub returns-then-rank-eq-CONNECTIONS : goal.returns-then-rank-eq-CONNECTIONS
returns-then-rank-eq-CONNECTIONS c = λ k e.
    sym (joined-one value_tells 0 c.self.inside.connections c.self.inside.controls k (e ∙ c.if-rank-eq-CONNECTIONS.true))
    ∙ ap (λ (v : RowList). value v.trail k) c.self.view_is

pub returns-else-rank-eq-CONNECTIONS : goal.returns-else-rank-eq-CONNECTIONS
returns-else-rank-eq-CONNECTIONS c = λ k e.
    sym (joined-other value_tells 0 c.self.inside.connections c.self.inside.controls k (other-kind 0 c.args.rank k e (apart c.args.rank 0 c.if-rank-eq-CONNECTIONS.false)))
    ∙ ap (λ (v : RowList). value v.trail k) c.self.view_is
