use Rattle.std.proofs.Common.{◌∙◌, subst, sym}
use Rattle.login_table.specs.Rows.{RowList}
use Rattle.login_table.proofs.Parts.{Fits, IsSet, other-kind}
use Rattle.device_revoke.proofs.Joined.{fits-awaits, fits-lives, fits-owners, fits-takes, four, set-awaits, set-lives, set-owners, set-takes}
use Rattle.device_revoke.proofs.Places.{at-awaits, at-lives, at-owners, at-takes}
use Rattle.device_revoke.proofs.DeviceRevokeTable.set.Goals as goal

pub set-requires : goal.set-requires
set-requires c =
    let i = c.self.inside in
    let j = c.args.key in
    let n = c.rank_of.result in
    let e = sym c.rank_of.ensures in
    let p = at-owners n (sym c.at.ensures ∙ c.in-Owners.is) in
    let P : RowList → Type 0 = λ v. Fits v j in
    fits-owners i.owners i.lives i.takes i.awaits j (subst P (sym c.self.view_is) c.requires) (e ∙ p)

pub returns-in-Owners : goal.returns-in-Owners
returns-in-Owners c =
    let i = c.self.inside in
    let j = c.args.key in
    let x = c.args.fact in
    let n = c.rank_of.result in
    let e = sym c.rank_of.ensures in
    let p = at-owners n (sym c.at.ensures ∙ c.in-Owners.is) in
    let r = c.set in
    let s = r.ensures in
    let put : IsSet i.owners r.new.self j x r.result = record { new_key = s.new_key; facts = s.facts; keys = s.keys; spare = s.spare } in
    let P : RowList → Type 0 = λ v. IsSet v (four r.new.self i.lives i.takes i.awaits) j x r.result in
    let q = subst P c.self.view_is (set-owners i.owners i.lives i.takes i.awaits r.new.self j x r.result (e ∙ p) put) in
    record { new_key = q.new_key; facts = q.facts; keys = q.keys; spare = q.spare }

pub set-requires-in-Lives : goal.set-requires-in-Lives
set-requires-in-Lives c =
    let i = c.self.inside in
    let j = c.args.key in
    let n = c.rank_of.result in
    let e = sym c.rank_of.ensures in
    let p = at-lives n (sym c.at.ensures ∙ c.in-Lives.is) in
    let P : RowList → Type 0 = λ v. Fits v j in
    fits-lives i.owners i.lives i.takes i.awaits j (subst P (sym c.self.view_is) c.requires) (other-kind 7 n j e p.0) (e ∙ p.1)

pub returns-in-Lives : goal.returns-in-Lives
returns-in-Lives c =
    let i = c.self.inside in
    let j = c.args.key in
    let x = c.args.fact in
    let n = c.rank_of.result in
    let e = sym c.rank_of.ensures in
    let p = at-lives n (sym c.at.ensures ∙ c.in-Lives.is) in
    let r = c.set-in-Lives in
    let s = r.ensures in
    let put : IsSet i.lives r.new.self j x r.result = record { new_key = s.new_key; facts = s.facts; keys = s.keys; spare = s.spare } in
    let P : RowList → Type 0 = λ v. IsSet v (four i.owners r.new.self i.takes i.awaits) j x r.result in
    let q = subst P c.self.view_is (set-lives i.owners i.lives i.takes i.awaits r.new.self j x r.result (other-kind 7 n j e p.0) (e ∙ p.1) put) in
    record { new_key = q.new_key; facts = q.facts; keys = q.keys; spare = q.spare }

pub set-requires-in-Takes : goal.set-requires-in-Takes
set-requires-in-Takes c =
    let i = c.self.inside in
    let j = c.args.key in
    let n = c.rank_of.result in
    let e = sym c.rank_of.ensures in
    let p = at-takes n (sym c.at.ensures ∙ c.in-Takes.is) in
    let P : RowList → Type 0 = λ v. Fits v j in
    fits-takes i.owners i.lives i.takes i.awaits j (subst P (sym c.self.view_is) c.requires) (other-kind 7 n j e p.0) (other-kind 8 n j e p.1) (e ∙ p.2)

pub returns-in-Takes : goal.returns-in-Takes
returns-in-Takes c =
    let i = c.self.inside in
    let j = c.args.key in
    let x = c.args.fact in
    let n = c.rank_of.result in
    let e = sym c.rank_of.ensures in
    let p = at-takes n (sym c.at.ensures ∙ c.in-Takes.is) in
    let r = c.set-in-Takes in
    let s = r.ensures in
    let put : IsSet i.takes r.new.self j x r.result = record { new_key = s.new_key; facts = s.facts; keys = s.keys; spare = s.spare } in
    let P : RowList → Type 0 = λ v. IsSet v (four i.owners i.lives r.new.self i.awaits) j x r.result in
    let q = subst P c.self.view_is (set-takes i.owners i.lives i.takes i.awaits r.new.self j x r.result (other-kind 7 n j e p.0) (other-kind 8 n j e p.1) (e ∙ p.2) put) in
    record { new_key = q.new_key; facts = q.facts; keys = q.keys; spare = q.spare }

pub set-requires-in-Awaits : goal.set-requires-in-Awaits
set-requires-in-Awaits c =
    let i = c.self.inside in
    let j = c.args.key in
    let n = c.rank_of.result in
    let e = sym c.rank_of.ensures in
    let p = at-awaits n (sym c.at.ensures ∙ c.in-Awaits.is) in
    let P : RowList → Type 0 = λ v. Fits v j in
    fits-awaits i.owners i.lives i.takes i.awaits j (subst P (sym c.self.view_is) c.requires) (other-kind 7 n j e p.0) (other-kind 8 n j e p.1) (other-kind 13 n j e p.2)

pub returns-in-Awaits : goal.returns-in-Awaits
returns-in-Awaits c =
    let i = c.self.inside in
    let j = c.args.key in
    let x = c.args.fact in
    let n = c.rank_of.result in
    let e = sym c.rank_of.ensures in
    let p = at-awaits n (sym c.at.ensures ∙ c.in-Awaits.is) in
    let r = c.set-in-Awaits in
    let s = r.ensures in
    let put : IsSet i.awaits r.new.self j x r.result = record { new_key = s.new_key; facts = s.facts; keys = s.keys; spare = s.spare } in
    let P : RowList → Type 0 = λ v. IsSet v (four i.owners i.lives i.takes r.new.self) j x r.result in
    let q = subst P c.self.view_is (set-awaits i.owners i.lives i.takes i.awaits r.new.self j x r.result (other-kind 7 n j e p.0) (other-kind 8 n j e p.1) (other-kind 13 n j e p.2) put) in
    record { new_key = q.new_key; facts = q.facts; keys = q.keys; spare = q.spare }
