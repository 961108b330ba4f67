use Rattle.std.proofs.Common.{◌∙◌, ap, sym}
use Rattle.login_model.specs.Trail.{value}
use Rattle.login_table.specs.Rows.{RowList}
use Rattle.login_table.proofs.Parts.{other-kind}
use Rattle.device_revoke.proofs.Joined.{of-awaits, of-lives, of-owners, of-takes}
use Rattle.device_revoke.proofs.Places.{at-awaits, at-lives, at-owners, at-takes}
use Rattle.device_revoke.proofs.DeviceRevokeTable.part.Goals as goal

pub returns-in-Owners : goal.returns-in-Owners
returns-in-Owners c = λ k e.
    let i = c.self.inside in
    let n = at-owners c.args.rank (sym c.at.ensures ∙ c.in-Owners.is) in
    sym (of-owners i.owners i.lives i.takes i.awaits k (e ∙ n)) ∙ ap (λ (v : RowList). value v.trail k) c.self.view_is

pub returns-in-Lives : goal.returns-in-Lives
returns-in-Lives c = λ k e.
    let i = c.self.inside in
    let p = at-lives c.args.rank (sym c.at.ensures ∙ c.in-Lives.is) in
    sym (of-lives i.owners i.lives i.takes i.awaits k (other-kind 7 c.args.rank k e p.0) (e ∙ p.1)) ∙ ap (λ (v : RowList). value v.trail k) c.self.view_is

pub returns-in-Takes : goal.returns-in-Takes
returns-in-Takes c = λ k e.
    let i = c.self.inside in
    let p = at-takes c.args.rank (sym c.at.ensures ∙ c.in-Takes.is) in
    sym (of-takes i.owners i.lives i.takes i.awaits k (other-kind 7 c.args.rank k e p.0) (other-kind 8 c.args.rank k e p.1) (e ∙ p.2)) ∙ ap (λ (v : RowList). value v.trail k) c.self.view_is

pub returns-in-Awaits : goal.returns-in-Awaits
returns-in-Awaits c = λ k e.
    let i = c.self.inside in
    let p = at-awaits c.args.rank (sym c.at.ensures ∙ c.in-Awaits.is) in
    sym (of-awaits i.owners i.lives i.takes i.awaits k (other-kind 7 c.args.rank k e p.0) (other-kind 8 c.args.rank k e p.1) (other-kind 13 c.args.rank k e p.2)) ∙ ap (λ (v : RowList). value v.trail k) c.self.view_is
