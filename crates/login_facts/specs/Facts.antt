-- The facts in their tables.
use Rattle.std.specs.Prelude.{ℕ, ◌≡◌, ◌+◌, ◌<◌, ◌^◌, List, length}
use Rattle.login_model.specs.declared.fact.Key.{Key}
use Rattle.login_model.specs.Trail.{Trail, value, was_set}
use Rattle.login_model.specs.Fresh.{fresh_session, fresh_handle, fresh_lock}
pub use Rattle.login_model.specs.Fresh.{gives}
use Rattle.device_model.specs.declared.ears.Ear.{Ear}
use Rattle.login_table.specs.declared.home.Home.{Home}
use Rattle.login_table.specs.declared.home.Home.TheVariants.{Users, Sessions, Seats, Devices, Controls, Takes, Locks, Power}
use Rattle.login_facts.specs.declared.counts.Counts.{Counts}
use Rattle.login_facts.specs.declared.key_room.KeyRoom.{KeyRoom}
use Rattle.login_facts.specs.declared.owing.Owing.{Owing}
use Rattle.login_facts.specs.Counts.{AreCounted}
use Rattle.login_facts.specs.Dues.{AreOwed}
use Rattle.login_facts.specs.Holding.{AreHeld, Rows}
use Rattle.login_table.specs.Home.{home}

-- what facts are seen as: what each table has, as settings; the handles that listen to devices, and how many rings
-- are spare; how many there are of what needs room; the numbers of the next session, the next handle and the next
-- lock; what connections, users, terminals and seats have, and what connections owe; how many more settings go in without memory, and under how many keys
-- of each part that were not set before
pub record Tables : Type 0 where
  pub users : Trail
  pub sessions : Trail
  pub seats : Trail
  pub devices : Trail
  pub controls : Trail
  pub takes : Trail
  pub locks : Trail
  pub power : Trail
  pub ears : List Ear
  pub rings : ℕ
  pub counts : Counts
  pub session : ℕ
  pub handle : ℕ
  pub lock : ℕ
  pub held : Rows
  pub owing : Owing
  pub spare : ℕ
  pub fresh : KeyRoom

-- the settings of one table
abbrev pub table : Tables → Home → Trail
table f Users = f.users
table f Sessions = f.sessions
table f Seats = f.seats
table f Devices = f.devices
table f Controls = f.controls
table f Takes = f.takes
table f Locks = f.locks
table f Power = f.power

-- each fact is the one that the marks leave, in the table where it has its home, which has the keys that were set; the
-- counts are those of what is there, the numbers are those that the marks leave, and some have what they leave
-- them
pub record TablesStand (f : Tables) (t : Trail) : Type 0 where
  pub facts : (k : Key) → value (table f (home k)) k ≡ value t k
  pub keys : (k : Key) → was_set (table f (home k)) k ≡ was_set t k
  pub counts : AreCounted f.counts t
  pub session : f.session ≡ fresh_session t
  pub handle : f.handle ≡ fresh_handle t
  pub lock : f.lock ≡ fresh_lock t
  pub held : AreHeld f.held t

-- the facts are those that the marks leave, and so is what connections owe
unfoldable pub StandFor : Tables → Trail → Type 0
StandFor f t = TablesStand f t × AreOwed f.owing t

-- the tables stand so for some marks, so few that one more can be numbered
pub record StandsForFew (Stands : Tables → Trail → Type 0) (f : Tables) : Type 0 where
  pub marks : Trail
  pub stand : Stands f marks
  pub few : length marks + 2 < 2 ^ 32
