-- The properties of objects and their values (org.freedesktop.login1(5)).
use Rattle.std.specs.Prelude.{ℕ, ◌||◌, ◌&&◌, not, Bool, true, false, if◌then◌else◌, Option, Some, None, List, [], ◌∷◌, ◌++◌, map, codes, length, find}
use Rattle.std.specs.Fmt.{decimal}
use Rattle.std.specs.List.{list_any}
use Rattle.std.specs.Option.{is_some, option_map}
use Rattle.std.specs.Str.{bytes_eq}
use Rattle.login_base.specs.declared.ids.LockNo.{LockNo}
use Rattle.login_base.specs.declared.ids.SessId.{SessId}
use Rattle.login_base.specs.declared.ids.Uid.{Uid}
use Rattle.login_base.specs.SessionId.{session_text}
use Rattle.login_model.specs.declared.fact.Key.TheVariants as key
use Rattle.login_model.specs.declared.lock.Inhibited.{Inhibited}
use Rattle.login_model.specs.declared.lock.LockMode.{LockMode}
use Rattle.login_model.specs.declared.lock.LockMode.TheVariants.{Block, Delay}
use Rattle.login_model.specs.declared.operation.OpKind.{OpKind}
use Rattle.login_model.specs.declared.operation.OpKind.TheVariants as kind
use Rattle.login_model.specs.declared.property.ManagerProperty.{ManagerProperty}
use Rattle.login_model.specs.declared.property.ManagerProperty.TheVariants as manager
use Rattle.login_model.specs.declared.property.SessionProperty.{SessionProperty}
use Rattle.login_model.specs.declared.property.SessionProperty.TheVariants as session
use Rattle.login_model.specs.declared.property.UserProperty.{UserProperty}
use Rattle.login_model.specs.declared.property.UserProperty.TheVariants as user
use Rattle.login_model.specs.declared.property.SeatProperty.{SeatProperty}
use Rattle.login_model.specs.declared.property.SeatProperty.TheVariants as seat
use Rattle.login_model.specs.declared.property.Property.{Property}
use Rattle.login_model.specs.declared.property.Property.TheVariants as property
use Rattle.login_model.specs.declared.property.PropertyRow.{PropertyRow}
use Rattle.login_model.specs.declared.property.PropertyValue.{PropertyValue}
use Rattle.login_model.specs.declared.property.PropertyValue.TheVariants.{Text, Number, Count, Time, Flag, Inhibited as Held, User, Seat, Session, Sessions}
use Rattle.login_model.specs.declared.object.Object.{Object}
use Rattle.login_model.specs.declared.object.Object.TheVariants as object
use Rattle.login_model.specs.declared.session.Session.{Session as Data}
use Rattle.login_model.specs.declared.setup.Setup.{Setup}
use Rattle.login_model.specs.declared.state.State.{State}
use Rattle.login_model.specs.declared.state.State.TheVariants.{Active, Online, Lingering, Closing}
use Rattle.login_model.specs.Facts.{inhibited_in, is_open_of, session_in_fact, under_way_in}
use Rattle.login_model.specs.PropertyNames.{manager_named, manager_properties, seat_named, seat_properties, session_named, session_properties, user_named, user_properties}
use Rattle.login_model.specs.Start.{seat0}
use Rattle.login_model.specs.Taking.{has_graphics}
use Rattle.login_model.specs.Trail.{Trail, value}
use Rattle.login_model.specs.Users.{user_group, user_name}
use Rattle.login_model.specs.Where.{active_on, is_active, is_open, is_set, locks, seat_of_session, sessions, sessions_of, sessions_on}
use Rattle.login_model.specs.Words.{class_word, state_word, type_word}

-- ---- the states of sessions and users (sd-login(3))

-- whether an open session is active on its seat, or needs none
abbrev pub is_in_use : Trail → SessId → Bool
is_in_use t s = not (is_some (seat_of_session t s)) || is_active t s

abbrev pub session_state : Trail → SessId → State
session_state t s = if not (is_open t s) then Closing else if is_in_use t s then Active else Online

abbrev pub is_active_state : State → Bool
is_active_state Active = true
is_active_state _ = false

-- whether a session is an open one of a user, and its state is active
abbrev pub is_used_by : Trail → ℕ → SessId → Bool
is_used_by t uid s = is_open_of uid (value t (key.Sess s)) && is_in_use t s

unfoldable pub user_state : Trail → ℕ → State
user_state t uid =
    if is_some (find (is_used_by t uid) (sessions t)) then Active
    else if is_some (find (λ s. is_open_of uid (value t (key.Sess s))) (sessions t)) then Online
    else if is_set (value t (key.Linger (record { 0 = uid }))) then Lingering
    else Closing

-- ---- the manager

-- what either of two holds up
abbrev pub either_inhibited : Inhibited → Inhibited → Inhibited
either_inhibited a b = record {
  shutdown = a.shutdown || b.shutdown;
  sleep = a.sleep || b.sleep;
  idle = a.idle || b.idle;
  handle_power_key = a.handle_power_key || b.handle_power_key;
  handle_suspend_key = a.handle_suspend_key || b.handle_suspend_key;
  handle_hibernate_key = a.handle_hibernate_key || b.handle_hibernate_key;
  handle_lid_switch = a.handle_lid_switch || b.handle_lid_switch;
}

-- whether one of these locks has this mode and holds up what a word names
abbrev pub is_held : Trail → LockMode → List LockNo → (Inhibited → Bool) → Bool
is_held t mode ls word = list_any (λ l. word (inhibited_in mode (value t (key.Lock l)))) ls

abbrev pub inhibited_among : Trail → LockMode → List LockNo → Inhibited
inhibited_among t mode ls = record {
  shutdown = is_held t mode ls (λ (x : Inhibited). x.shutdown);
  sleep = is_held t mode ls (λ (x : Inhibited). x.sleep);
  idle = is_held t mode ls (λ (x : Inhibited). x.idle);
  handle_power_key = is_held t mode ls (λ (x : Inhibited). x.handle_power_key);
  handle_suspend_key = is_held t mode ls (λ (x : Inhibited). x.handle_suspend_key);
  handle_hibernate_key = is_held t mode ls (λ (x : Inhibited). x.handle_hibernate_key);
  handle_lid_switch = is_held t mode ls (λ (x : Inhibited). x.handle_lid_switch);
}

-- what the locks of a mode that stand hold up
unfoldable pub inhibited_by : Trail → LockMode → Inhibited
inhibited_by t mode = inhibited_among t mode (locks t)

-- whether an operation ends the machine's run
abbrev pub is_shutdown : OpKind → Bool
is_shutdown kind.PowerOff = true
is_shutdown kind.Reboot = true
is_shutdown kind.Halt = true
is_shutdown _ = false

-- whether an operation waits or runs that is a shutdown, or is none
abbrev pub is_preparing_for : Bool → Option OpKind → Bool
is_preparing_for shutdown (Some k) = if shutdown then is_shutdown k else not (is_shutdown k)
is_preparing_for shutdown None = false

abbrev pub manager_value : Setup → Trail → ManagerProperty → PropertyValue
manager_value U t manager.BlockInhibited = Held (inhibited_by t Block)
manager_value U t manager.DelayInhibited = Held (inhibited_by t Delay)
manager_value U t manager.InhibitDelayMax = Time U.conf.inhibit_delay_max
manager_value U t manager.CurrentInhibitors = Count (length (locks t))
manager_value U t manager.CurrentSessions = Count (length (sessions t))
manager_value U t manager.PreparingForShutdown = Flag (is_preparing_for true (under_way_in (value t key.Op)))
manager_value U t manager.PreparingForSleep = Flag (is_preparing_for false (under_way_in (value t key.Op)))
manager_value U t manager.Docked = Flag (is_set (value t key.Docked))

-- ---- a session

-- the names of a session's scope unit and of a user's slice unit
abbrev pub scope_name : SessId → List ℕ
scope_name s = codes "session-" ++ (session_text s ++ codes ".scope")

abbrev pub slice_name : ℕ → List ℕ
slice_name uid = codes "user-" ++ (decimal uid ++ codes ".slice")

-- by what it was made with, and what is told of it
abbrev pub data_value : Setup → Trail → SessId → Data → SessionProperty → PropertyValue
data_value U t s x session.Id = Text (session_text s)
data_value U t s x session.User = User x.uid
data_value U t s x session.Name = Text (user_name U x.uid.0)
data_value U t s x session.Vt = Number x.vt
data_value U t s x session.Seat = Seat x.seat
data_value U t s x session.Tty = Text x.texts.tty
data_value U t s x session.Display = Text x.texts.display
data_value U t s x session.Remote = Flag x.remote
data_value U t s x session.RemoteHost = Text x.texts.remote_host
data_value U t s x session.RemoteUser = Text x.texts.remote_user
data_value U t s x session.Service = Text x.texts.service
data_value U t s x session.Desktop = Text x.texts.desktop
data_value U t s x session.Scope = Text (scope_name s)
data_value U t s x session.Leader = Number x.leader.0
data_value U t s x session.Type = Text (type_word x.session_type)
data_value U t s x session.Class = Text (class_word x.class)
data_value U t s x session.Active = Flag (is_active_state (session_state t s))
data_value U t s x session.State = Text (state_word (session_state t s))
data_value U t s x session.IdleHint = Flag (is_set (value t (key.Idle s)))
data_value U t s x session.LockedHint = Flag (is_set (value t (key.Locked s)))

-- a session that was never made is asked for nothing
abbrev pub known_value : Setup → Trail → SessId → Option Data → SessionProperty → PropertyValue
known_value U t s (Some x) p = data_value U t s x p
known_value U t s None p = Flag false

abbrev pub session_value : Setup → Trail → SessId → SessionProperty → PropertyValue
session_value U t s p = known_value U t s (session_in_fact (value t (key.Sess s))) p

-- ---- a user

abbrev pub user_value : Setup → Trail → Uid → UserProperty → PropertyValue
user_value U t u user.Uid = Number u.0
user_value U t u user.Gid = Number (user_group U u.0)
user_value U t u user.Name = Text (user_name U u.0)
user_value U t u user.Slice = Text (slice_name u.0)
user_value U t u user.State = Text (state_word (user_state t u.0))
user_value U t u user.Sessions = Sessions (sessions_of t u.0)
user_value U t u user.Linger = Flag (is_set (value t (key.Linger u)))

-- ---- a seat

abbrev pub seat_value : Trail → List ℕ → SeatProperty → PropertyValue
seat_value t name seat.Id = Text name
seat_value t name seat.ActiveSession = Session (active_on t name)
seat_value t name seat.CanTty = Flag (bytes_eq name seat0)
seat_value t name seat.CanGraphical = Flag (has_graphics t name)
seat_value t name seat.Sessions = Sessions (sessions_on t name)

-- ---- any of them

-- the value of the property with a name, if the object has one
unfoldable pub value_of : Setup → Trail → Object → List ℕ → Option PropertyValue
value_of U t object.Manager name = option_map (manager_value U t) (manager_named name)
value_of U t (object.Session s) name = option_map (session_value U t s) (session_named name)
value_of U t (object.User u) name = option_map (user_value U t u) (user_named name)
value_of U t (object.Seat n) name = option_map (seat_value t n) (seat_named name)

abbrev pub manager_row : Setup → Trail → ManagerProperty → PropertyRow
manager_row U t p = record { property = property.Manager p; value = manager_value U t p }

abbrev pub session_property_row : Setup → Trail → SessId → SessionProperty → PropertyRow
session_property_row U t s p = record { property = property.Session p; value = session_value U t s p }

abbrev pub user_row : Setup → Trail → Uid → UserProperty → PropertyRow
user_row U t u p = record { property = property.User p; value = user_value U t u p }

abbrev pub seat_row : Trail → List ℕ → SeatProperty → PropertyRow
seat_row t name p = record { property = property.Seat p; value = seat_value t name p }

-- all properties of an object, in order
unfoldable pub rows_of : Setup → Trail → Object → List PropertyRow
rows_of U t object.Manager = map (manager_row U t) manager_properties
rows_of U t (object.Session s) = map (session_property_row U t s) session_properties
rows_of U t (object.User u) = map (user_row U t u) user_properties
rows_of U t (object.Seat n) = map (seat_row t n) seat_properties
