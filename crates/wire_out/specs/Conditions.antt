-- Of which journals there is mail.
use Rattle.std.specs.Prelude.{◌≤◌, List, length}
use Rattle.login_model.specs.Conf.{IsAllowed}
use Rattle.login_model.specs.Full.{mark_count}
use Rattle.login_model.specs.Legal.{IsLegal}
use Rattle.login_model.specs.Limits.{entries_limit, marks_limit}
use Rattle.login_model.specs.Setups.{IsSetup}
use Rattle.login_model.specs.declared.mark.Entry.{Entry}
use Rattle.login_model.specs.declared.setup.Setup.{Setup}

-- a journal that is legal under a setup as a preamble gives it, and that is within the limits of journals
pub record IsMailable (J : List Entry) : Type 0 where
  pub setup : Setup
  pub set_up : IsSetup setup
  pub allowed : IsAllowed setup.conf
  pub legal : IsLegal setup J
  pub entries : length J ≤ entries_limit
  pub marks : mark_count J ≤ marks_limit
