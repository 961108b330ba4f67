use Rattle.std.proofs.Common.{◌∙◌, sym, ap}
use Rattle.login_model.specs.Trail.{value}
use Rattle.login_table.specs.Rows.{RowList}
use Rattle.login_table.proofs.rows.Rows.fact.Goals as goal

pub returns-in-Some : goal.returns-in-Some
returns-in-Some c = sym c.in-Some.ensures ∙ ap (λ (v : RowList). value v.trail c.args.key.now) c.self.view_is

pub returns-in-None : goal.returns-in-None
returns-in-None c = c.fact.ensures ∙ sym c.in-None.ensures ∙ ap (λ (v : RowList). value v.trail c.args.key.now) c.self.view_is
