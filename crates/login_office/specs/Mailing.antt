-- The mail of a link, as it is fetched.
use Rattle.std.specs.Prelude.{ℕ, ◌≡◌, List, [], ◌++◌, drop}
use Rattle.login_base.specs.declared.ids.ConnId.{ConnId}
use Rattle.login_model.specs.Legal.{IsUnused}
use Rattle.login_model.specs.declared.mark.Entry.{Entry}
use Rattle.wire_out.specs.Mail.{bytes_of, mail}
use Rattle.wire_out.specs.Places.{place_of}
use Rattle.login_office.specs.Hearing.{TellerState}

-- what is fetched of the mail by a journal: the messages behind those that were fetched; then all of it was
pub record Fetches (old : TellerState) (J : List Entry) (new : TellerState) (bytes : List ℕ) : Type 0 where
  pub due : bytes ≡ bytes_of (drop old.place.fetched (mail old.place.who J))
  pub place : new.place ≡ place_of old.place.who J
  pub who : new.who ≡ old.who
  pub auth : new.auth ≡ old.auth
  pub stream : new.stream ≡ old.stream

-- a teller whose mail was fetched last by this journal, and all that was given: it is new, behind a journal in which no
-- connect had its number; it did something else since; or it was fetched by one that goes on from the journal of the time
-- before
pub data WasMailed : TellerState → List Entry → List ℕ → Type 0 where
  new : {teller : TellerState} {J : List Entry} (c : ConnId) → IsUnused c J → teller.place ≡ place_of c J → WasMailed teller J []
  kept : {old new : TellerState} {J : List Entry} {given : List ℕ} → WasMailed old J given → new.place ≡ old.place → WasMailed new J given
  fetched : {old new : TellerState} {J : List Entry} {given bytes : List ℕ} (more : List Entry) → WasMailed old J given → Fetches old (J ++ more) new bytes
      → WasMailed new (J ++ more) (given ++ bytes)
