use Rattle.std.proofs.Common.{◌∙◌, subst, sym}
use Rattle.login_table.specs.inner.Parts.{joined}
use Rattle.login_table.specs.Rows.{RowList}
use Rattle.login_table.proofs.Parts.{Fits, IsSet, apart, fits-one, fits-other, other-kind, set-one, set-other}
use Rattle.sessions.proofs.SessionsTable.set.Goals as goal

pub set-requires : goal.set-requires
set-requires c =
    let P : RowList → Type 0 = λ v. Fits v c.args.key in
    fits-one 1 c.self.inside.sessions c.self.inside.hints c.args.key (sym c.rank_of.ensures ∙ c.if-rank_of-eq-SESSIONS.true) (subst P (sym c.self.view_is) c.requires)

pub set-requires-else-rank_of-eq-SESSIONS : goal.set-requires-else-rank_of-eq-SESSIONS
set-requires-else-rank_of-eq-SESSIONS c =
    let P : RowList → Type 0 = λ v. Fits v c.args.key in
    fits-other 1 c.self.inside.sessions c.self.inside.hints c.args.key (other-kind 1 c.rank_of.result c.args.key (sym c.rank_of.ensures) (apart c.rank_of.result 1 c.if-rank_of-eq-SESSIONS.false)) (subst P (sym c.self.view_is) c.requires)

pub returns-then-rank_of-eq-SESSIONS : goal.returns-then-rank_of-eq-SESSIONS
returns-then-rank_of-eq-SESSIONS c =
    let p = c.set.ensures in
    let i = c.self.inside in
    let put : IsSet i.sessions c.set.new.self c.args.key c.args.fact c.set.result = record { new_key = p.new_key; facts = p.facts; keys = p.keys; spare = p.spare } in
    let all = set-one 1 i.sessions c.set.new.self i.hints c.args.key c.args.fact c.set.result (sym c.rank_of.ensures ∙ c.if-rank_of-eq-SESSIONS.true) put in
    let P : RowList → Type 0 = λ v. IsSet v (joined 1 c.set.new.self i.hints) c.args.key c.args.fact c.set.result in
    let q = subst P c.self.view_is all in
    record { new_key = q.new_key; facts = q.facts; keys = q.keys; spare = q.spare }

pub returns-else-rank_of-eq-SESSIONS : goal.returns-else-rank_of-eq-SESSIONS
returns-else-rank_of-eq-SESSIONS c =
    let r = c.set-else-rank_of-eq-SESSIONS in
    let p = r.ensures in
    let i = c.self.inside in
    let put : IsSet i.hints r.new.self c.args.key c.args.fact r.result = record { new_key = p.new_key; facts = p.facts; keys = p.keys; spare = p.spare } in
    let all = set-other 1 i.sessions i.hints r.new.self c.args.key c.args.fact r.result (other-kind 1 c.rank_of.result c.args.key (sym c.rank_of.ensures) (apart c.rank_of.result 1 c.if-rank_of-eq-SESSIONS.false)) put in
    let P : RowList → Type 0 = λ v. IsSet v (joined 1 i.sessions r.new.self) c.args.key c.args.fact r.result in
    let q = subst P c.self.view_is all in
    record { new_key = q.new_key; facts = q.facts; keys = q.keys; spare = q.spare }
