-- What a core keeps at its desk.
use Rattle.login_core.specs.State.{CoreState}
use Rattle.login_model.specs.Conf.{IsAllowed}
use Rattle.login_model.specs.Legal.{IsLegal}
use Rattle.login_model.specs.Setups.{IsSetup}

-- its setup is one that is allowed, and its journal is legal under it
pub record IsAtDesk (core : CoreState) : Type 0 where
  pub set_up : IsSetup core.setup
  pub allowed : IsAllowed core.setup.conf
  pub legal : IsLegal core.setup core.journal
