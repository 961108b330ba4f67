use Rattle.std.proofs.Common.{None, Some, ◌≡◌, ◌∙◌, ap, sym, subst}
use Rattle.login_model.specs.Conf.{IsAllowed}
use Rattle.login_model.specs.Setups.{IsSetup}
use Rattle.login_model.specs.declared.setup.Setup.{Setup}
use Rattle.login_office.specs.Offices.{teller_at}
use Rattle.login_office.proofs.office.Office.new.Goals as goal

pub invariant_of-result : goal.invariant_of-result
invariant_of-result c =
    let is = sym c.in_ok-new.ensures.setup in
    let A : Setup → Type 0 = λ s. IsAllowed s.conf in
    record {
      set_up = subst IsSetup is c.requires.set_up;
      allowed = subst A is c.requires.allowed;
      each = λ number teller e. absurd (let z : None ≡ Some teller = sym (ap (teller_at number) c.new-2.ensures.empty) ∙ e in cc);
    }
