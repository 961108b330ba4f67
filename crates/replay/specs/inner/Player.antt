-- What a player is seen as, and behind which lines it stands.
use Rattle.std.specs.Prelude.{ℕ, ◌≡◌, ◌↔◌, ◌==◌, ◌||◌, if◌then◌else◌, false, IsSome, Option, Some, None, List, [], ◌∷◌, ◌++◌, length}
use Rattle.std.specs.Option.{is_some}
use Rattle.std.specs.Ordering.{nat_cmp}
use Rattle.std.specs.BTreeMap.{is_at}
use Rattle.std.specs.Map.{lookup}
use Rattle.std.specs.BTreeSet.{BTreeSet, contains}
use Rattle.login_base.specs.declared.ids.ConnId.{ConnId}
use Rattle.login_base.specs.declared.ids.Uid.{Uid}
use Rattle.login_model.specs.declared.event.Event.{Event}
use Rattle.login_model.specs.declared.mark.Entry.{Entry}
use Rattle.login_model.specs.declared.setup.Setup.{Setup}
use Rattle.login_model.specs.Legal.{IsLegal, IsUnused}
use Rattle.login_office.specs.Hearing.{TellerState, HasHeard, IsLink}
use Rattle.login_office.specs.Links.{replies}
use Rattle.login_office.specs.Offices.{KeepsOthers, OfficeState, Opens, teller_of}
use Rattle.login_office.specs.declared.end.LinkEnd.{LinkEnd}
use Rattle.recording.specs.declared.line.Line.{Line}
use Rattle.recording.specs.declared.line.Line.TheVariants.{Event as event_line}
use Rattle.replay.specs.Links.{heard, is_hung_up, link_end, link_user}
use Rattle.replay.specs.Played.{Played, played_lines, journal_of}
use Rattle.replay.specs.Recording.{AreTurns, IsNoLink, IsTurn}
use Rattle.replay.specs.declared.own.Own.{Own}
use Rattle.wire_out.specs.Mail.{mail}

-- a core with the tellers of links; the numbers that connects and links had; and the open links, each with its user
pub record PlayerState : Type 0 where
  pub office : OfficeState
  pub used : BTreeSet ℕ
  pub links : List (ℕ × Uid)

-- the teller of a link has heard all bytes of these lines, and all of its mail by this journal was fetched
pub record Tells (U : Setup) (told : List Entry) (lines : List Line) (c : ConnId) (teller : TellerState) : Type 0 where
  pub user : Uid
  pub opened : link_user lines c ≡ Some user
  pub link : IsLink teller c user U.guid
  pub heard : HasHeard teller (heard lines c)
  pub owner : teller.place.who ≡ c
  pub fetched : teller.place.fetched ≡ length (mail c told)

-- a link that these lines opened has a teller, and no other has one; where it has ended so, it has none
abbrev pub HasTeller : Setup → List Entry → List Line → ConnId → Option LinkEnd → Option TellerState → Type 0
HasTeller U told lines c ended (Some teller) = Tells U told lines c teller × (ended ≡ None)
HasTeller U told lines c ended None = IsSome (link_user lines c) → IsSome ended

-- so has each, where links have ended as behind these lines
abbrev pub HaveTellers : OfficeState → List Entry → List Line → List Played → Type 0
HaveTellers office told lines ended = (c : ConnId) → HasTeller office.core.setup told lines c (link_end office.core.setup ended c) (teller_of office c)

-- the numbers that connects and links had
abbrev pub AreUsed : BTreeSet ℕ → List Played → Type 0
AreUsed used played = (c : ConnId) → (contains nat_cmp used c.0 ≡ false) ↔ (IsUnused c (journal_of played) × IsNoLink (played_lines played) c)

-- the user of an open link
abbrev pub open_user : List Line → ConnId → Option Uid
open_user lines c = if is_hung_up lines c then None else link_user lines c

-- the user at a number
abbrev pub user_at : ℕ → List (ℕ × Uid) → Option Uid
user_at number links = lookup (is_at (nat_cmp number)) links

-- the open links, with their users
abbrev pub AreOpen : List (ℕ × Uid) → List Line → Type 0
AreOpen links lines = (c : ConnId) → user_at c.0 links ≡ open_user lines c

-- these lines were played, and their transcript is written
pub record StandsBehind (player : PlayerState) (played : List Played) : Type 0 where
  pub turns : AreTurns player.office.core.setup played
  pub legal : IsLegal player.office.core.setup (journal_of played)
  pub journal : player.office.core.journal ≡ journal_of played
  pub used : AreUsed player.used played
  pub links : AreOpen player.links (played_lines played)
  pub tellers : HaveTellers player.office (journal_of played) (played_lines played) played

-- some lines were
pub record Stands (player : PlayerState) : Type 0 where
  pub played : List Played
  pub behind : StandsBehind player played

-- ---- a line whose entries were made, before its links are told

pub record HasMade (office : OfficeState) (before : List Played) (p : Played) : Type 0 where
  pub turns : AreTurns office.core.setup before
  pub turn : IsTurn office.core.setup before p
  pub legal : IsLegal office.core.setup (journal_of (before ++ p ∷ []))
  pub journal : office.core.journal ≡ journal_of (before ++ p ∷ [])
  pub tellers : HaveTellers office (journal_of before) (played_lines (before ++ p ∷ [])) before

-- and behind that: all of their mail was fetched, and a link that the line ended has its teller still
pub record HasTold (old office : OfficeState) (before : List Played) (p : Played) : Type 0 where
  pub setup : office.core.setup ≡ old.core.setup
  pub journal : office.core.journal ≡ journal_of (before ++ p ∷ [])
  pub tellers : HaveTellers office (journal_of (before ++ p ∷ [])) (played_lines (before ++ p ∷ [])) before

-- what a line brought about on its own link
abbrev pub own_replies : Option Own → ConnId → List ℕ
own_replies (Some own) c = if own.who.0 == c.0 then own.replies else []
own_replies None c = []

abbrev pub own_end : Option Own → ConnId → Option LinkEnd
own_end (Some own) c = if own.who.0 == c.0 then own.end else None
own_end None c = None

-- no link but the line's own has further replies of its handshake, or ends
pub record Brings (U : Setup) (before : List Played) (p : Played) (own : Option Own) : Type 0 where
  pub replies : (c : ConnId) (u : Uid) → link_user (played_lines (before ++ p ∷ [])) c ≡ Some u
      → replies u U.guid (heard (played_lines (before ++ p ∷ [])) c) ≡ replies u U.guid (heard (played_lines before) c) ++ own_replies own c
  pub ends : (c : ConnId) → link_end U before c ≡ None → link_end U (before ++ p ∷ []) c ≡ own_end own c

-- the link that a line ended
abbrev pub ended_in : Option Own → Option ConnId
ended_in (Some own) = if is_some own.end then Some own.who else None
ended_in None = None

-- the numbers after a line of this event, if they were those before it
abbrev pub Uses : BTreeSet ℕ → Event → BTreeSet ℕ → Type 0
Uses old event new = (played : List Played) (e : Entry) → e.event ≡ event → AreUsed old played → AreUsed new (played ++ record { line = event_line event; made = e ∷ [] } ∷ [])

-- a link of this user is opened, under a number that is used from now on
pub record OpensLink (old : PlayerState) (who : ConnId) (user : Uid) (new : PlayerState) : Type 0 where
  pub opens : Opens old.office who user old.office.core.journal new.office
  pub keeps : KeepsOthers old.office who new.office
  pub used : (n : ℕ) → contains nat_cmp new.used n ≡ (n == who.0 || contains nat_cmp old.used n)
  pub links : (n : ℕ) → user_at n new.links ≡ (if n == who.0 then Some user else user_at n old.links)
