use Rattle.std.proofs.Common.{◌∙◌, ap, sym, refl}
use Rattle.login_model.specs.declared.fact.Key.TheVariants.{Taken}
use Rattle.login_model.specs.Devices.{is_handle_fact}
use Rattle.login_model.specs.Names.{session_lt}
use Rattle.login_model.specs.Trail.{value}
use Rattle.login_table.specs.Rows.{RowList}
use Rattle.login_table.proofs.Standing.{next-standing}
use Rattle.login_table.specs.Home.{is_home}
use Rattle.login_table.specs.declared.home.Home.TheVariants.{Takes}
use Rattle.login_table.proofs.Parts.{other-kind}
use Rattle.device_revoke.proofs.Joined.{of-takes}
use Rattle.device_revoke.proofs.DeviceRevoke.next_taker.Goals as goal

pub returns : goal.returns
returns c = λ t s.
    let i = c.self.inside in
    next-standing session_lt (λ s. Taken s c.args.device) is_handle_fact (is_home Takes) i.takes.trail c.args.self.now.trail t 13 13 c.args.above c.next_taker.result (λ a. refl) (λ a. refl) refl
    (λ k e. sym (of-takes i.owners i.lives i.takes i.awaits k (other-kind 7 13 k e refl) (other-kind 8 13 k e refl) e) ∙ ap (λ (v : RowList). value v.trail k) c.self.view_is)
    c.next_taker.ensures s
