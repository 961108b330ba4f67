-- Laws of links.
use Rattle.std.specs.Prelude.{ℕ, ◌≡◌, List, ◌++◌, Option, Some}
use Rattle.std.specs.List.{concat}
use Rattle.login_base.specs.declared.ids.ConnId.{ConnId}
use Rattle.login_base.specs.declared.ids.Uid.{Uid}
use Rattle.login_model.specs.declared.event.Request.{Request}
use Rattle.login_office.specs.Hearing.{TellerState, WasFed, times}
use Rattle.login_model.specs.declared.mark.Entry.{Entry}
use Rattle.wire_out.specs.Mail.{wire}
use Rattle.login_office.specs.Mailing.{WasMailed}
use Rattle.login_office.specs.Links.{calls, end_heard, is_begun, replies}
use Rattle.login_office.specs.declared.end.LinkEnd.{LinkEnd}

-- what a teller gave is what these bytes of its link give
pub record Gave (teller : TellerState) (text replied : List ℕ) (begun : ℕ) (called : List Request) (ended : Option LinkEnd) : Type 0 where
  pub replies : replied ≡ replies teller.auth.uid teller.auth.guid text
  pub begins : begun ≡ times (is_begun teller.auth.uid teller.auth.guid text)
  pub calls : called ≡ calls teller.who teller.auth.uid teller.auth.guid text
  pub end : ended ≡ end_heard teller.auth.uid teller.auth.guid text

-- whatever the pieces are, what a teller gave is what all their bytes give
abbrev pub InAnyPieces : Type 0
InAnyPieces =
    (teller : TellerState) (pieces : List (List ℕ)) (replied : List ℕ) (begins : ℕ) (called : List Request) (ended : Option LinkEnd)
    → WasFed teller pieces replied begins called ended → Gave teller (concat pieces) replied begins called ended

-- what a link that has ended gives
pub record Stays (c : ConnId) (uid : Uid) (guid text more : List ℕ) : Type 0 where
  pub replies : replies uid guid (text ++ more) ≡ replies uid guid text
  pub begins : is_begun uid guid (text ++ more) ≡ is_begun uid guid text
  pub calls : calls c uid guid (text ++ more) ≡ calls c uid guid text
  pub end : end_heard uid guid (text ++ more) ≡ end_heard uid guid text

-- behind its end a link gives nothing more
abbrev pub EndedForGood : Type 0
EndedForGood = (c : ConnId) (uid : Uid) (guid text more : List ℕ) (end : LinkEnd) → end_heard uid guid text ≡ Some end → Stays c uid guid text more

-- all that was fetched of a link's mail is its mail by the journal of the last time, each message once and in order
abbrev pub AllMail : Type 0
AllMail = (teller : TellerState) (J : List Entry) (given : List ℕ) → WasMailed teller J given → given ≡ wire teller.place.who J
