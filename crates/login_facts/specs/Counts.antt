-- How many there are of what needs room in the journal, has a limit or is asked for by its number, and how a setting
-- changes that.
use Rattle.std.specs.Prelude.{ℕ, ◌≡◌, ◌+◌, ◌<◌, ◌≤◌, ◌^◌, Bool, true, false, if◌then◌else◌, Option, Some, None, List, length, filter}
use Rattle.login_base.specs.declared.ids.SessId.{SessId}
use Rattle.login_base.specs.declared.ids.DevNo.{DevNo}
use Rattle.login_base.specs.declared.ids.LockNo.{LockNo}
use Rattle.login_base.specs.declared.ids.Uid.{Uid}
use Rattle.login_model.specs.declared.fact.Key.{Key}
use Rattle.login_model.specs.declared.fact.Key.TheVariants as key
use Rattle.login_model.specs.declared.fact.Fact.{Fact}
use Rattle.login_model.specs.declared.lock.LockMode.{LockMode}
use Rattle.login_model.specs.declared.lock.LockMode.TheVariants.{Block, Delay}
use Rattle.login_model.specs.declared.operation.OpKind.{OpKind}
use Rattle.login_model.specs.declared.operation.OpKind.TheVariants.{PowerOff, Suspend}
use Rattle.login_model.specs.Devices.{is_handle_fact, is_taken}
use Rattle.login_model.specs.Facts.{holds_back, is_connected_fact, is_controlled_fact, is_device_fact, is_leaving_fact, is_lock_fact, is_open_fact, is_session_fact, is_user_fact}
use Rattle.login_model.specs.Names.{names, conn_in, device_in, lock_in, lock_lt, session_in, user_in, user_lt, session_lt}
use Rattle.login_model.specs.Properties.{is_shutdown}
use Rattle.login_model.specs.Trail.{Trail, value}
use Rattle.login_model.specs.Where.{connections, devices, is_session, locks, open_sessions, sessions, users}
use Rattle.login_table.specs.KeyOrder.{pair_lt}
use Rattle.login_facts.specs.declared.counts.Counts.{Counts}

-- ---- what is counted of control and of devices, whether the session is gone or not

-- the session whose controller a key tells
abbrev pub controlled_in : Key → Option SessId
controlled_in (key.Ctl s) = Some s
controlled_in _ = None

-- whether some connection controls a session
abbrev pub is_controlled : Trail → SessId → Bool
is_controlled t s = is_controlled_fact (value t (key.Ctl s))

-- the sessions that some connection controls, in order
unfoldable pub controlled : Trail → List SessId
controlled t = filter (is_controlled t) (names session_lt controlled_in t)

-- a session and a device
abbrev pub Pair : Type 0
Pair = SessId × DevNo

-- by the session, and then by the device
abbrev pub is_pair_below : Pair → Pair → Bool
is_pair_below p q = pair_lt p.0 p.1 q.0 q.1

-- the session and the device whose being taken a key tells
abbrev pub pair_in : Key → Option Pair
pair_in (key.Taken s d) = Some (s, d)
pair_in _ = None

abbrev pub is_pair_taken : Trail → Pair → Bool
is_pair_taken t p = is_taken t p.0 p.1

-- the pairs of a session and a device that it has taken, in order
unfoldable pub taken_pairs : Trail → List Pair
taken_pairs t = filter (is_pair_taken t) (names is_pair_below pair_in t)

-- a session that is controlled or has a device taken is not gone
pub record HoldersAreThere (t : Trail) : Type 0 where
  pub controlled : (s : SessId) → is_controlled t s ≡ true → is_session t s ≡ true
  pub taken : (s : SessId) (d : DevNo) → is_taken t s d ≡ true → is_session t s ≡ true

-- ---- what is counted of users

-- the users that leave, in order
unfoldable pub leavers : Trail → List Uid
leavers t = filter (λ u. is_leaving_fact (value t (key.User u))) (names user_lt user_in t)

-- ---- what is counted of locks

-- the locks of a mode that hold up an operation, in order
unfoldable pub holding : OpKind → LockMode → Trail → List LockNo
holding k mode t = filter (λ l. holds_back k mode (value t (key.Lock l))) (names lock_lt lock_in t)

-- ---- counts

-- they are the counts of what is there
pub record AreCounted (c : Counts) (t : Trail) : Type 0 where
  pub connections : c.connections ≡ length (connections t)
  pub controlled : c.controlled ≡ length (controlled t)
  pub devices : c.devices ≡ length (devices t)
  pub leaving : c.leaving ≡ length (leavers t)
  pub locks : c.locks ≡ length (locks t)
  pub opened : c.opened ≡ length (open_sessions t)
  pub present : c.present ≡ length (sessions t)
  pub shutdown_blocks : c.shutdown_blocks ≡ length (holding PowerOff Block t)
  pub shutdown_delays : c.shutdown_delays ≡ length (holding PowerOff Delay t)
  pub sleep_blocks : c.sleep_blocks ≡ length (holding Suspend Block t)
  pub sleep_delays : c.sleep_delays ≡ length (holding Suspend Delay t)
  pub taken : c.taken ≡ length (taken_pairs t)
  pub users : c.users ≡ length (users t)

-- how many locks of a mode are counted that hold up what ends the machine's run, or sleep
abbrev pub holding_such : Counts → Bool → LockMode → ℕ
holding_such c true Block = c.shutdown_blocks
holding_such c true Delay = c.shutdown_delays
holding_such c false Block = c.sleep_blocks
holding_such c false Delay = c.sleep_delays

-- how many locks of a mode are counted that hold up an operation
abbrev pub holding_in : Counts → OpKind → LockMode → ℕ
holding_in c k mode = holding_such c (is_shutdown k) mode

abbrev pub one_if : Bool → ℕ
one_if there = if there then 1 else 0

-- one where there is such a name and what it stands for is there
abbrev pub one_there : {A : Type 0} → Option A → Bool → ℕ
one_there None there = 0
one_there (Some a) there = one_if there

-- what one fact under a key counts for
abbrev pub counts_of : Key → Fact → Counts
counts_of k x = record {
  connections = one_there (conn_in k) (is_connected_fact x);
  controlled = one_there (controlled_in k) (is_controlled_fact x);
  devices = one_there (device_in k) (is_device_fact x);
  leaving = one_there (user_in k) (is_leaving_fact x);
  locks = one_there (lock_in k) (is_lock_fact x);
  opened = one_there (session_in k) (is_open_fact x);
  present = one_there (session_in k) (is_session_fact x);
  shutdown_blocks = one_there (lock_in k) (holds_back PowerOff Block x);
  shutdown_delays = one_there (lock_in k) (holds_back PowerOff Delay x);
  sleep_blocks = one_there (lock_in k) (holds_back Suspend Block x);
  sleep_delays = one_there (lock_in k) (holds_back Suspend Delay x);
  taken = one_there (pair_in k) (is_handle_fact x);
  users = one_there (user_in k) (is_user_fact x);
}

-- a count can lose so many and gain so many
abbrev pub CanMove : ℕ → ℕ → ℕ → Type 0
CanMove count lost gained = (lost ≤ count) × (count + gained < 2 ^ 32)

pub record CanAllMove (c lost gained : Counts) : Type 0 where
  pub connections : CanMove c.connections lost.connections gained.connections
  pub controlled : CanMove c.controlled lost.controlled gained.controlled
  pub devices : CanMove c.devices lost.devices gained.devices
  pub leaving : CanMove c.leaving lost.leaving gained.leaving
  pub locks : CanMove c.locks lost.locks gained.locks
  pub opened : CanMove c.opened lost.opened gained.opened
  pub present : CanMove c.present lost.present gained.present
  pub shutdown_blocks : CanMove c.shutdown_blocks lost.shutdown_blocks gained.shutdown_blocks
  pub shutdown_delays : CanMove c.shutdown_delays lost.shutdown_delays gained.shutdown_delays
  pub sleep_blocks : CanMove c.sleep_blocks lost.sleep_blocks gained.sleep_blocks
  pub sleep_delays : CanMove c.sleep_delays lost.sleep_delays gained.sleep_delays
  pub taken : CanMove c.taken lost.taken gained.taken
  pub users : CanMove c.users lost.users gained.users

-- the counts that come of some when so many are lost and so many are gained
pub record Follow (c lost gained d : Counts) : Type 0 where
  pub connections : d.connections + lost.connections ≡ c.connections + gained.connections
  pub controlled : d.controlled + lost.controlled ≡ c.controlled + gained.controlled
  pub devices : d.devices + lost.devices ≡ c.devices + gained.devices
  pub leaving : d.leaving + lost.leaving ≡ c.leaving + gained.leaving
  pub locks : d.locks + lost.locks ≡ c.locks + gained.locks
  pub opened : d.opened + lost.opened ≡ c.opened + gained.opened
  pub present : d.present + lost.present ≡ c.present + gained.present
  pub shutdown_blocks : d.shutdown_blocks + lost.shutdown_blocks ≡ c.shutdown_blocks + gained.shutdown_blocks
  pub shutdown_delays : d.shutdown_delays + lost.shutdown_delays ≡ c.shutdown_delays + gained.shutdown_delays
  pub sleep_blocks : d.sleep_blocks + lost.sleep_blocks ≡ c.sleep_blocks + gained.sleep_blocks
  pub sleep_delays : d.sleep_delays + lost.sleep_delays ≡ c.sleep_delays + gained.sleep_delays
  pub taken : d.taken + lost.taken ≡ c.taken + gained.taken
  pub users : d.users + lost.users ≡ c.users + gained.users
