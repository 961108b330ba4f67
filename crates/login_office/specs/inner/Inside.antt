-- What an office keeps.
use Rattle.std.specs.Prelude.{ℕ, ◌≡◌, List, Some}
use Rattle.login_core.specs.State.{CoreState}
use Rattle.login_model.specs.Conf.{IsAllowed}
use Rattle.login_model.specs.Setups.{IsSetup}
use Rattle.wire_out.specs.Places.{IsPlaceIn}
use Rattle.login_office.specs.Hearing.{TellerState}
use Rattle.login_office.specs.Offices.{teller_at}

-- a teller is that of its number, and its place is one in the journal
pub record IsAt (core : CoreState) (number : ℕ) (teller : TellerState) : Type 0 where
  pub who : teller.who ≡ record { 0 = number }
  pub own : teller.place.who ≡ record { 0 = number }
  pub place : IsPlaceIn teller.place core.journal

-- so are all
pub record IsOffice (core : CoreState) (tellers : List (ℕ × TellerState)) : Type 0 where
  pub set_up : IsSetup core.setup
  pub allowed : IsAllowed core.setup.conf
  pub each : (number : ℕ) (teller : TellerState) → teller_at number tellers ≡ Some teller → IsAt core number teller
