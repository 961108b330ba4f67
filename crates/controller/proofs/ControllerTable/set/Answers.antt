use Rattle.std.proofs.Common.{◌∙◌, subst, sym}
use Rattle.login_table.specs.inner.Parts.{joined}
use Rattle.login_table.specs.Rows.{RowList}
use Rattle.login_table.proofs.Parts.{Fits, IsSet, apart, fits-one, fits-other, other-kind, set-one, set-other}
use Rattle.controller.proofs.ControllerTable.set.Goals as goal

pub set-requires : goal.set-requires
set-requires c =
    let P : RowList → Type 0 = λ v. Fits v c.args.key in
    fits-one 0 c.self.inside.connections c.self.inside.controls c.args.key (sym c.rank_of.ensures ∙ c.if-rank_of-eq-CONNECTIONS.true) (subst P (sym c.self.view_is) c.requires)

pub set-requires-else-rank_of-eq-CONNECTIONS : goal.set-requires-else-rank_of-eq-CONNECTIONS
set-requires-else-rank_of-eq-CONNECTIONS c =
    let P : RowList → Type 0 = λ v. Fits v c.args.key in
    fits-other 0 c.self.inside.connections c.self.inside.controls c.args.key (other-kind 0 c.rank_of.result c.args.key (sym c.rank_of.ensures) (apart c.rank_of.result 0 c.if-rank_of-eq-CONNECTIONS.false)) (subst P (sym c.self.view_is) c.requires)

pub returns-then-rank_of-eq-CONNECTIONS : goal.returns-then-rank_of-eq-CONNECTIONS
returns-then-rank_of-eq-CONNECTIONS c =
    let p = c.set.ensures in
    let i = c.self.inside in
    let put : IsSet i.connections c.set.new.self c.args.key c.args.fact c.set.result = record { new_key = p.new_key; facts = p.facts; keys = p.keys; spare = p.spare } in
    let all = set-one 0 i.connections c.set.new.self i.controls c.args.key c.args.fact c.set.result (sym c.rank_of.ensures ∙ c.if-rank_of-eq-CONNECTIONS.true) put in
    let P : RowList → Type 0 = λ v. IsSet v (joined 0 c.set.new.self i.controls) c.args.key c.args.fact c.set.result in
    let q = subst P c.self.view_is all in
    record { new_key = q.new_key; facts = q.facts; keys = q.keys; spare = q.spare }

pub returns-else-rank_of-eq-CONNECTIONS : goal.returns-else-rank_of-eq-CONNECTIONS
returns-else-rank_of-eq-CONNECTIONS c =
    let r = c.set-else-rank_of-eq-CONNECTIONS in
    let p = r.ensures in
    let i = c.self.inside in
    let put : IsSet i.controls r.new.self c.args.key c.args.fact r.result = record { new_key = p.new_key; facts = p.facts; keys = p.keys; spare = p.spare } in
    let all = set-other 0 i.connections i.controls r.new.self c.args.key c.args.fact r.result (other-kind 0 c.rank_of.result c.args.key (sym c.rank_of.ensures) (apart c.rank_of.result 0 c.if-rank_of-eq-CONNECTIONS.false)) put in
    let P : RowList → Type 0 = λ v. IsSet v (joined 0 i.connections r.new.self) c.args.key c.args.fact r.result in
    let q = subst P c.self.view_is all in
    record { new_key = q.new_key; facts = q.facts; keys = q.keys; spare = q.spare }
