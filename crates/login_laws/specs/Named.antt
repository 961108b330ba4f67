-- The names and the texts of each legal journal: seats have seats' names, users are those of the setup, and what
-- sessions were made with, who asked for a lock and why are texts.
use Rattle.std.specs.Prelude.{ℕ, ◌≡◌, ◌≤◌, ◌+◌, true, Option, Some, None, List, ◌++◌, length}
use Rattle.std.specs.List.{AllByRecursion}
use Rattle.login_base.specs.Seat.{is_seat_name}
use Rattle.login_model.specs.Legal.{IsLegal, trail_of}
use Rattle.login_model.specs.Limits.{devices_limit, text_limit, users_limit}
use Rattle.login_model.specs.Policy.{is_user_of}
use Rattle.login_model.specs.Setups.{IsSetup}
use Rattle.login_model.specs.Texts.{IsText}
use Rattle.login_model.specs.Trail.{Trail}
use Rattle.login_model.specs.Where.{locks, seats, sessions, users}
use Rattle.login_model.specs.declared.fact.Fact.{Fact}
use Rattle.login_model.specs.declared.fact.Fact.TheVariants as fact
use Rattle.login_model.specs.declared.fact.Key.{Key}
use Rattle.login_model.specs.declared.fact.Key.TheVariants as key
use Rattle.login_model.specs.declared.mark.Entry.{Entry}
use Rattle.login_model.specs.declared.mark.Mark.{Mark}
use Rattle.login_model.specs.declared.mark.Mark.TheVariants.{Set, Say}
use Rattle.login_model.specs.declared.mark.Notice.{Notice}
use Rattle.login_model.specs.declared.mark.Notice.TheVariants as notice
use Rattle.login_model.specs.declared.session.SessionTexts.{SessionTexts}
use Rattle.login_model.specs.declared.setup.Setup.{Setup}

abbrev pub IsSeat : List ℕ → Type 0
IsSeat seat = is_seat_name seat ≡ true

abbrev pub IsSeatIf : Option (List ℕ) → Type 0
IsSeatIf (Some seat) = IsSeat seat
IsSeatIf None = Unit {0}

abbrev pub IsUser : Setup → ℕ → Type 0
IsUser U uid = is_user_of U uid ≡ true

-- what a session was made with
pub record HasTexts (x : SessionTexts) : Type 0 where
  pub service : IsText text_limit x.service
  pub desktop : IsText text_limit x.desktop
  pub tty : IsText text_limit x.tty
  pub display : IsText text_limit x.display
  pub remote_user : IsText text_limit x.remote_user
  pub remote_host : IsText text_limit x.remote_host

-- a device and a session are on a seat, the user of a session and one that is there are the setup's, a session and a
-- lock have texts
abbrev pub IsNamedFact : Setup → Key → Fact → Type 0
IsNamedFact U (key.Dev d) (fact.Device kind seat) = IsSeat seat
IsNamedFact U (key.Sess s) (fact.Session x) = IsSeatIf x.seat × IsUser U x.uid.0 × HasTexts x.texts
IsNamedFact U (key.User u) fact.Known = IsUser U u.0
IsNamedFact U (key.User u) (fact.Leaving since) = IsUser U u.0
IsNamedFact U (key.Lock l) (fact.Lock x) = IsText text_limit x.who × IsText text_limit x.why
IsNamedFact U k x = Unit {0}

-- the seat of a notice
abbrev pub IsNamedNotice : Notice → Type 0
IsNamedNotice (notice.SeatNew seat) = IsSeat seat
IsNamedNotice (notice.SeatRemoved seat) = IsSeat seat
IsNamedNotice (notice.Active seat before now) = IsSeat seat
IsNamedNotice _ = Unit {0}

abbrev pub IsNamedMark : Setup → Mark → Type 0
IsNamedMark U (Set k x) = IsNamedFact U k x
IsNamedMark U (Say w n) = IsNamedNotice n

abbrev pub AreNamed : Setup → Trail → Type 0
AreNamed U t = AllByRecursion (IsNamedMark U) t

-- no more are there than may be: of sessions and locks as the configuration says, of seats one beside those of devices,
-- of users root beside those of the setup
pub record IsWithinLimits (U : Setup) (t : Trail) : Type 0 where
  pub sessions : length (sessions t) ≤ U.conf.sessions_max
  pub locks : length (locks t) ≤ U.conf.inhibitors_max
  pub seats : length (seats t) ≤ devices_limit + 1
  pub users : length (users t) ≤ users_limit + 1

-- the law, of each front of a legal journal
pub record IsNamed (U : Setup) (t : Trail) : Type 0 where
  pub marks : AreNamed U t
  pub few : IsWithinLimits U t

abbrev pub LegalIsNamed : Type 0
LegalIsNamed = (U : Setup) (before later : List Entry) → IsSetup U → IsLegal U (before ++ later) → IsNamed U (trail_of before)
