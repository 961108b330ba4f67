-- Who is where.
use Rattle.std.specs.Prelude.{ℕ, ◌&&◌, ◌||◌, not, if◌then◌else◌, Bool, false, Option, Some, None, List, filter, find, option_and_then}
use Rattle.std.specs.Str.{bytes_eq}
use Rattle.login_base.specs.declared.ids.SessId.{SessId}
use Rattle.login_base.specs.declared.ids.Uid.{Uid}
use Rattle.login_base.specs.declared.ids.ConnId.{ConnId}
use Rattle.login_base.specs.declared.ids.DevNo.{DevNo}
use Rattle.login_base.specs.declared.ids.LockNo.{LockNo}
use Rattle.login_model.specs.declared.fact.Key.TheVariants as key
use Rattle.login_model.specs.declared.fact.Fact.{Fact}
use Rattle.login_model.specs.declared.fact.Fact.TheVariants.{Number}
use Rattle.login_model.specs.Trail.{Trail, value}
use Rattle.login_model.specs.Start.{seat0}
use Rattle.login_model.specs.Names.{names, insert, session_lt, conn_lt, user_lt, seat_lt, device_lt, lock_lt, session_in, conn_in, user_in, seat_in, device_in, lock_in}
use Rattle.login_model.specs.Fresh.{is_open_fact}
pub use Rattle.login_model.specs.Facts.{is_connected_fact, is_gone_phase, is_session_fact, is_user_fact, is_seat_fact, is_device_fact, is_lock_fact, is_seat0, is_this_seat, is_this_number, is_on_terminal, number_or_zero, seat_in_fact, active_in, is_acting_fact, is_session_of, is_set, moment_or_zero}

-- whether a client is connected
abbrev pub is_connected : Trail → ConnId → Bool
is_connected t c = is_connected_fact (value t (key.Conn c))

-- whether a session was made and is not gone
abbrev pub is_session : Trail → SessId → Bool
is_session t s = is_session_fact (value t (key.Sess s))

-- whether a user is not absent
abbrev pub is_user : Trail → Uid → Bool
is_user t u = is_user_fact (value t (key.User u))

-- whether a seat is present
abbrev pub is_seat : Trail → List ℕ → Bool
is_seat t name = is_seat_fact (value t (key.Seat name))

-- whether a device is present
abbrev pub is_device : Trail → DevNo → Bool
is_device t d = is_device_fact (value t (key.Dev d))

-- whether a lock stands
abbrev pub is_lock : Trail → LockNo → Bool
is_lock t l = is_lock_fact (value t (key.Lock l))

-- the connected connections, in order
unfoldable pub connections : Trail → List ConnId
connections t = filter (is_connected t) (names conn_lt conn_in t)

-- the sessions that are not gone, in order
unfoldable pub sessions : Trail → List SessId
sessions t = filter (is_session t) (names session_lt session_in t)

-- the users that are not absent, in order
unfoldable pub users : Trail → List Uid
users t = filter (is_user t) (names user_lt user_in t)

-- the seats that are present, in order; seat0 is there without having been set
unfoldable pub seats : Trail → List (List ℕ)
seats t = filter (is_seat t) (insert seat_lt seat0 (names seat_lt seat_in t))

-- the devices that are present, in order
unfoldable pub devices : Trail → List DevNo
devices t = filter (is_device t) (names device_lt device_in t)

-- the locks that stand, in order
unfoldable pub locks : Trail → List LockNo
locks t = filter (is_lock t) (names lock_lt lock_in t)

-- the current virtual terminal
abbrev pub current_vt : Trail → ℕ
current_vt t = number_or_zero (value t key.Vt)

-- whether a session is open
abbrev pub is_open : Trail → SessId → Bool
is_open t s = is_open_fact (value t (key.Sess s))

-- the seat of a session, if it has one
abbrev pub seat_of_session : Trail → SessId → Option (List ℕ)
seat_of_session t s = seat_in_fact (value t (key.Sess s))

-- whether a session is on a seat
abbrev pub is_on_seat : Trail → List ℕ → SessId → Bool
is_on_seat t seat s = is_this_seat seat (seat_of_session t s)

-- the open session of seat0 that has a virtual terminal
unfoldable pub session_on : Trail → ℕ → Option SessId
session_on t v = find (λ s. is_on_terminal (Number v) (value t (key.Sess s))) (sessions t)

-- the session that was made active on a seat without virtual terminals, if it is open
abbrev pub acting : Trail → Fact → Option SessId
acting t x = option_and_then (λ s. if is_open t s then Some s else None) (active_in x)

-- the session that is active on a seat: on seat0 that of the current virtual terminal
unfoldable pub active_on : Trail → List ℕ → Option SessId
active_on t seat = if bytes_eq seat seat0 then session_on t (current_vt t) else acting t (value t (key.Act seat))

abbrev pub is_acting_on : Trail → SessId → Option (List ℕ) → Bool
is_acting_on t s None = false
is_acting_on t s (Some seat) = not (bytes_eq seat seat0) && is_acting_fact s (value t (key.Act seat))

-- whether a session of this fact was made active on its seat, which has no virtual terminals
abbrev pub is_acting : Trail → SessId → Fact → Bool
is_acting t s x = is_open_fact x && is_acting_on t s (seat_in_fact x)

-- whether a session is active on its seat: it is open; on seat0 its terminal is the current one, and
-- another seat has it as its active session
abbrev pub is_active : Trail → SessId → Bool
is_active t s = is_on_terminal (value t key.Vt) (value t (key.Sess s)) || is_acting t s (value t (key.Sess s))

-- the open sessions, in order
unfoldable pub open_sessions : Trail → List SessId
open_sessions t = filter (is_open t) (sessions t)

-- the sessions on a seat that are not gone, in order
unfoldable pub sessions_on : Trail → List ℕ → List SessId
sessions_on t seat = filter (is_on_seat t seat) (sessions t)

-- the sessions of a user that are not gone, in order
unfoldable pub sessions_of : Trail → ℕ → List SessId
sessions_of t uid = filter (λ s. is_session_of uid (value t (key.Sess s))) (sessions t)

-- the moment that the clock reached last
abbrev pub now : Trail → ℕ
now t = moment_or_zero (value t key.Now)
