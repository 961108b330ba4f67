-- A core with a teller for each link.
use Rattle.std.specs.Prelude.{ℕ, ◌≡◌, ◌≢◌, List, [], ◌∷◌, ◌++◌, Option, Some}
use Rattle.std.specs.Map.{lookup}
use Rattle.std.specs.BTreeMap.{is_at}
use Rattle.std.specs.Ordering.{nat_cmp}
use Rattle.login_base.specs.declared.ids.ConnId.{ConnId}
use Rattle.login_base.specs.declared.ids.Uid.{Uid}
use Rattle.login_core.specs.State.{CoreState}
use Rattle.login_model.specs.declared.mark.Entry.{Entry}
use Rattle.wire_out.specs.Places.{place_of}
use Rattle.login_office.specs.Hearing.{HasHeard, IsLink, TellerState}

-- the core, and the tellers by the numbers of their connections
pub record OfficeState : Type 0 where
  pub core : CoreState
  pub tellers : List (ℕ × TellerState)

-- the teller with a number
abbrev pub teller_at : ℕ → List (ℕ × TellerState) → Option TellerState
teller_at number tellers = lookup (is_at (nat_cmp number)) tellers

-- the teller of a connection, where its link was opened
abbrev pub teller_of : OfficeState → ConnId → Option TellerState
teller_of office c = teller_at c.0 office.tellers

-- the core, and the tellers of all other links, are as before
pub record KeepsOthers (old : OfficeState) (c : ConnId) (new : OfficeState) : Type 0 where
  pub core : new.core ≡ old.core
  pub others : (b : ConnId) → b.0 ≢ c.0 → teller_of new b ≡ teller_of old b

-- a link is opened: nothing was heard on it, and its mail was fetched by these entries, which have none where no connect
-- in them had its number
pub record Opens (old : OfficeState) (c : ConnId) (uid : Uid) (fetched : List Entry) (new : OfficeState) : Type 0 where
  pub teller : TellerState
  pub there : teller_of new c ≡ Some teller
  pub link : IsLink teller c uid old.core.setup.guid
  pub heard : HasHeard teller []
  pub place : teller.place ≡ place_of c fetched

-- the teller of a link went on in such a way
pub record GoesOn (old : OfficeState) (c : ConnId) (new : OfficeState) (P : TellerState → TellerState → Type 0) : Type 0 where
  pub was : TellerState
  pub now : TellerState
  pub was_there : teller_of old c ≡ Some was
  pub now_there : teller_of new c ≡ Some now
  pub went : P was now

-- the journal is the one before with this entry at its end, and the setup and all tellers are as before
pub record Appends (old : OfficeState) (e : Entry) (new : OfficeState) : Type 0 where
  pub setup : new.core.setup ≡ old.core.setup
  pub journal : new.core.journal ≡ old.core.journal ++ e ∷ []
  pub tellers : new.tellers ≡ old.tellers

-- setup, journal and tellers are as before
pub record IsSame (old new : OfficeState) : Type 0 where
  pub setup : new.core.setup ≡ old.core.setup
  pub journal : new.core.journal ≡ old.core.journal
  pub tellers : new.tellers ≡ old.tellers
