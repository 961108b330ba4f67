-- What a granted event is answered.
use Rattle.std.specs.Prelude.{ℕ, ◌==◌, if◌then◌else◌, ◌||◌, not, Bool, Option, Some, None, Result, Ok, Err, List, [], ◌∷◌, map}
use Rattle.login_base.specs.declared.ids.SessId.{SessId}
use Rattle.login_base.specs.declared.ids.Uid.{Uid}
use Rattle.login_base.specs.SessionId.{session_of}
use Rattle.login_model.specs.declared.fact.Key.TheVariants.{Sess}
use Rattle.login_model.specs.declared.setup.Setup.{Setup}
use Rattle.login_model.specs.declared.call.Call.{Call}
use Rattle.login_model.specs.declared.call.Call.TheVariants as call
use Rattle.login_model.specs.declared.event.Event.{Event}
use Rattle.login_model.specs.declared.event.Event.TheVariants.{Connect, Disconnect, Call as Calls, Hardware as Happens, Tick, Stop}
use Rattle.login_model.specs.declared.answer.SessionRow.{SessionRow}
use Rattle.login_model.specs.declared.answer.KnownUser.{KnownUser}
use Rattle.login_model.specs.declared.answer.Answer.{Answer}
use Rattle.login_model.specs.declared.answer.Answer.TheVariants.{Can, Handle, Inputs, Taken, Inhibitors, Nothing, Created, Session, User, Seat, Sessions, Users, Seats, Property, Properties, MachineId, UniqueName}
use Rattle.login_model.specs.Trail.{Trail, value}
pub use Rattle.login_model.specs.Users.{name_among, user_name}
use Rattle.login_model.specs.Fresh.{next_session, next_handle}
use Rattle.login_model.specs.declared.object.Object.{Object}
use Rattle.login_model.specs.declared.property.PropertyValue.{PropertyValue}
use Rattle.login_model.specs.declared.rule.Rule.{Rule}
use Rattle.login_model.specs.Objects.{is_own_interface, named_object}
use Rattle.login_model.specs.Properties.{rows_of, value_of}
use Rattle.login_model.specs.declared.fact.Fact.{Fact}
use Rattle.login_model.specs.declared.fact.Fact.TheVariants as fact
use Rattle.login_model.specs.declared.lock.Lock.{Lock}
use Rattle.login_model.specs.declared.operation.OpKind.{OpKind}
use Rattle.login_model.specs.declared.table.Say.{Say}
use Rattle.login_model.specs.declared.table.Say.TheVariants as says
use Rattle.login_base.specs.declared.ids.ConnId.{ConnId}
use Rattle.login_base.specs.declared.ids.DevNo.{DevNo}
use Rattle.login_base.specs.declared.ids.LockNo.{LockNo}
use Rattle.login_model.specs.Marks.{trail_of}
use Rattle.login_model.specs.Reading.{reads}
use Rattle.login_model.specs.declared.answer.Input.{Input}
use Rattle.login_model.specs.declared.mark.Entry.{Entry}
use Rattle.login_base.specs.declared.ids.HandleNo.{HandleNo}
use Rattle.login_model.specs.Policy.{for_others, has_others, past_locks, plain, say, uid_of}
use Rattle.login_model.specs.Power.{is_blocked}
use Rattle.login_model.specs.declared.fact.Key.TheVariants as key
use Rattle.login_model.specs.Where.{is_active, locks, sessions, users, seats, seat_of_session}
use Rattle.login_model.specs.Creating.{seat_of}
use Rattle.login_model.specs.Facts.{handle_device, user_or_root}

abbrev pub session_row : Setup → Trail → SessId → SessionRow
session_row U t s = record {
  session = s;
  uid = user_or_root (value t (Sess s));
  name = user_name U (user_or_root (value t (Sess s))).0;
  seat = seat_of_session t s;
}

abbrev pub known_user : Setup → Uid → KnownUser
known_user U u = record { uid = u; name = user_name U u.0 }

abbrev pub session_answer : Option SessId → Answer
session_answer (Some s) = Session s
session_answer None = Nothing

abbrev pub seat_answer : Option (List ℕ) → Answer
seat_answer (Some seat) = Seat seat
seat_answer None = Nothing

-- of two answers of the policy, the one that allows less
abbrev pub less : Say → Say → Say
less says.No b = says.No
less says.Challenge says.No = says.No
less says.Challenge b = says.Challenge
less says.Yes b = b

abbrev pub said_if : Bool → Say → Say
said_if b x = if b then x else says.Yes

-- whether a caller can have an operation: what the policy says to each action that it needs now
unfoldable pub can : Setup → Trail → ConnId → OpKind → Say
can U t c k =
    less (said_if (has_others t (uid_of t c)) (say U t c (for_others k)))
    (less (said_if (is_blocked t k) (say U t c (past_locks k)))
    (said_if (not (has_others t (uid_of t c) || is_blocked t k)) (say U t c (plain k))))

abbrev pub lock_row : Fact → List Lock → List Lock
lock_row (fact.Lock x) rows = x ∷ rows
lock_row _ rows = rows

-- the locks of these numbers, which stand
abbrev pub lock_rows : Trail → List LockNo → List Lock
lock_rows t [] = []
lock_rows t (l ∷ ls) = lock_row (value t (key.Lock l)) (lock_rows t ls)

-- what a handle of a device reads
abbrev pub read_by : Option DevNo → HandleNo → List Entry → List Input
read_by (Some d) h before = reads h d before
read_by None h before = []

-- the handle with which a session takes a device, and whether the session is inactive
abbrev pub taken_answer : Trail → Option SessId → Answer
taken_answer t (Some s) = Taken (next_handle t) (not (is_active t s))
taken_answer t None = Nothing

-- the value of a property of the object that a path names
abbrev pub property_answer : Option PropertyValue → Answer
property_answer (Some x) = Property x
property_answer None = Nothing

abbrev pub get_answer : Setup → Trail → List ℕ → Result Object Rule → Answer
get_answer U t name (Ok o) = property_answer (value_of U t o name)
get_answer U t name (Err r) = Nothing

-- all properties of that object under its own interface; it has none under another
abbrev pub get_all_answer : Setup → Trail → List ℕ → Result Object Rule → Answer
get_all_answer U t interface (Ok o) = Properties (if is_own_interface o interface then rows_of U t o else [])
get_all_answer U t interface (Err r) = Nothing

-- the number of the login manager, as that of the connection that owns its name
abbrev pub manager_number : ConnId
manager_number = record { 0 = 0 }

-- what a call is answered from the marks alone
abbrev pub marks_answer : Setup → Trail → ConnId → Call → Answer
marks_answer U t c (call.Create x) = Created (record { session = next_session t; fifo = next_handle t; uid = x.uid; seat = seat_of x.seat; vt = x.vt })
marks_answer U t c (call.GetSession id) = session_answer (session_of id)
marks_answer U t c (call.GetUser u) = User u
marks_answer U t c (call.GetSeat seat) = seat_answer (seat_of seat)
marks_answer U t c call.ListSessions = Sessions (map (session_row U t) (sessions t))
marks_answer U t c call.ListUsers = Users (map (known_user U) (users t))
marks_answer U t c call.ListSeats = Seats (seats t)
marks_answer U t c call.ListInhibitors = Inhibitors (lock_rows t (locks t))
marks_answer U t c (call.Can k) = Can (can U t c k)
marks_answer U t c (call.Inhibit x) = Handle (next_handle t)
marks_answer U t c (call.TakeDevice id d) = taken_answer t (session_of id)
marks_answer U t c (call.Activate id) = Nothing
marks_answer U t c (call.ActivateOnSeat id seat) = Nothing
marks_answer U t c (call.Lock id) = Nothing
marks_answer U t c (call.Unlock id) = Nothing
marks_answer U t c call.LockAll = Nothing
marks_answer U t c call.UnlockAll = Nothing
marks_answer U t c (call.Kill id who signal) = Nothing
marks_answer U t c (call.Terminate id) = Nothing
marks_answer U t c (call.TerminateUser u) = Nothing
marks_answer U t c (call.TerminateSeat seat) = Nothing
marks_answer U t c (call.SetLinger u on) = Nothing
marks_answer U t c (call.Power k) = Nothing
marks_answer U t c (call.SetIdle id on) = Nothing
marks_answer U t c (call.SetLocked id on) = Nothing
marks_answer U t c (call.Control id force) = Nothing
marks_answer U t c (call.Uncontrol id) = Nothing
marks_answer U t c (call.ReleaseDevice id d) = Nothing
marks_answer U t c (call.PauseComplete id d) = Nothing
marks_answer U t c (call.SwitchTo seat vt) = Nothing
marks_answer U t c (call.SwitchToNext seat) = Nothing
marks_answer U t c (call.SwitchToPrevious seat) = Nothing
marks_answer U t c (call.KillUser u signal) = Nothing
marks_answer U t c (call.ReadInput h) = Nothing
marks_answer U t c (call.SetMode h mode) = Nothing
marks_answer U t c (call.Close h) = Nothing
marks_answer U t c (call.GetProperty x) = get_answer U t x.name (named_object x.path)
marks_answer U t c (call.GetAllProperties path interface) = get_all_answer U t interface (named_object path)
marks_answer U t c (call.SetProperty x) = Nothing
marks_answer U t c call.Ping = Nothing
marks_answer U t c call.GetMachineId = MachineId U.guid
marks_answer U t c call.Hello = UniqueName c
marks_answer U t c (call.GetNameOwner name) = UniqueName manager_number
marks_answer U t c (call.AddMatch rule) = Nothing
marks_answer U t c (call.RemoveMatch rule) = Nothing
marks_answer U t c call.NoCall = Nothing
marks_answer U t c call.NoObject = Nothing
marks_answer U t c call.NoMethod = Nothing
marks_answer U t c call.BadArguments = Nothing

-- inputs leave no mark, so what is read is answered from the entries
abbrev pub call_answer : Setup → List Entry → ConnId → Call → Answer
call_answer U before c (call.ReadInput h) = Inputs (read_by (handle_device (value (trail_of before) (key.Owner h))) h before)
call_answer U before c x = marks_answer U (trail_of before) c x

-- what a granted event is answered, from the entries before it
unfoldable pub answer : Setup → List Entry → Event → Answer
answer U before (Calls r) = call_answer U before r.who r.call
answer U before (Connect c u) = Nothing
answer U before (Disconnect c) = Nothing
answer U before (Happens x) = Nothing
answer U before (Tick m) = Nothing
answer U before Stop = Nothing
