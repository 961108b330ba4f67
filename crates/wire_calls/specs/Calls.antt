-- Which call each method is.
use Rattle.std.specs.Prelude.{ℕ, ◌&&◌, Bool, true, if◌then◌else◌, List}
use Rattle.std.specs.Str.{bytes_eq}
use Rattle.login_base.specs.declared.ids.HandleNo.{HandleNo}
use Rattle.login_base.specs.declared.ids.Uid.{Uid}
use Rattle.login_model.specs.declared.call.Call.{Call}
use Rattle.login_model.specs.declared.call.Call.TheVariants as call
use Rattle.login_model.specs.declared.call.Creation.{Creation}
use Rattle.login_model.specs.declared.call.Inhibition.{Inhibition}
use Rattle.bus_value.specs.Values.{Val}
use Rattle.wire_calls.specs.declared.manager.ManagerMethod.{ManagerMethod}
use Rattle.wire_calls.specs.declared.manager.ManagerMethod.TheVariants as manager
use Rattle.wire_calls.specs.declared.session.SessionMethod.{SessionMethod}
use Rattle.wire_calls.specs.declared.session.SessionMethod.TheVariants as session
use Rattle.wire_calls.specs.declared.seat.SeatMethod.{SeatMethod}
use Rattle.wire_calls.specs.declared.seat.SeatMethod.TheVariants as seat
use Rattle.wire_calls.specs.declared.user.UserMethod.{UserMethod}
use Rattle.wire_calls.specs.declared.user.UserMethod.TheVariants as user
use Rattle.wire_calls.specs.declared.machine.MachineMethod.{MachineMethod}
use Rattle.wire_calls.specs.declared.machine.MachineMethod.TheVariants as machine
use Rattle.wire_calls.specs.declared.method.Method.{Method}
use Rattle.wire_calls.specs.declared.method.Method.TheVariants.{Manager, Session, Seat, User, Machine, Bus}
use Rattle.wire_calls.specs.declared.method.AnyMethod.{AnyMethod}
use Rattle.wire_calls.specs.declared.method.AnyMethod.TheVariants.{Own, Properties, Peer}
use Rattle.wire_calls.specs.declared.bus.BusMethod.{BusMethod}
use Rattle.wire_calls.specs.declared.bus.BusMethod.TheVariants as bus
use Rattle.wire_calls.specs.declared.bus.PropertiesMethod.{PropertiesMethod}
use Rattle.wire_calls.specs.declared.bus.PropertiesMethod.TheVariants as properties
use Rattle.wire_calls.specs.declared.bus.PeerMethod.{PeerMethod}
use Rattle.wire_calls.specs.declared.bus.PeerMethod.TheVariants as peer
use Rattle.wire_calls.specs.Arguments.{signature_of, text_at, number_at, signed_at, flag_at, device_in, is_short, are_short}
use Rattle.wire_calls.specs.Methods.{signed_any}

-- the user, or the handle, whose number stands in front
abbrev pub user_in : List Val → Uid
user_in vs = record { 0 = number_at 0 vs }

abbrev pub handle_in : List Val → HandleNo
handle_in vs = record { 0 = number_at 0 vs }

-- the fourteenth argument, which holds further properties, is not kept
abbrev pub creation_of : List Val → Creation
creation_of vs = record {
  uid = user_in vs;
  process = number_at 1 vs;
  service = text_at 2 vs;
  session_type = text_at 3 vs;
  class = text_at 4 vs;
  desktop = text_at 5 vs;
  seat = text_at 6 vs;
  vt = number_at 7 vs;
  tty = text_at 8 vs;
  display = text_at 9 vs;
  remote = flag_at 10 vs;
  remote_user = text_at 11 vs;
  remote_host = text_at 12 vs;
}

abbrev pub inhibition_of : List Val → Inhibition
inhibition_of vs = record { what = text_at 0 vs; who = text_at 1 vs; why = text_at 2 vs; mode = text_at 3 vs }

-- whether a client may be asked to authenticate, the last argument of `SetUserLinger` and the one of `PowerOff` and the
-- like, is not kept
abbrev pub manager_call : ManagerMethod → List Val → Call
manager_call manager.CreateSession vs = call.Create (creation_of vs)
manager_call manager.GetSession vs = call.GetSession (text_at 0 vs)
manager_call manager.GetUser vs = call.GetUser (user_in vs)
manager_call manager.GetSeat vs = call.GetSeat (text_at 0 vs)
manager_call manager.ListSessions vs = call.ListSessions
manager_call manager.ListUsers vs = call.ListUsers
manager_call manager.ListSeats vs = call.ListSeats
manager_call manager.ListInhibitors vs = call.ListInhibitors
manager_call manager.ActivateSession vs = call.Activate (text_at 0 vs)
manager_call manager.ActivateSessionOnSeat vs = call.ActivateOnSeat (text_at 0 vs) (text_at 1 vs)
manager_call manager.LockSession vs = call.Lock (text_at 0 vs)
manager_call manager.UnlockSession vs = call.Unlock (text_at 0 vs)
manager_call manager.LockSessions vs = call.LockAll
manager_call manager.UnlockSessions vs = call.UnlockAll
manager_call manager.KillSession vs = call.Kill (text_at 0 vs) (text_at 1 vs) (signed_at 2 vs)
manager_call manager.TerminateSession vs = call.Terminate (text_at 0 vs)
manager_call manager.TerminateUser vs = call.TerminateUser (user_in vs)
manager_call manager.TerminateSeat vs = call.TerminateSeat (text_at 0 vs)
manager_call manager.SetUserLinger vs = call.SetLinger (user_in vs) (flag_at 1 vs)
manager_call (manager.Power k) vs = call.Power k
manager_call (manager.Can k) vs = call.Can k
manager_call manager.Inhibit vs = call.Inhibit (inhibition_of vs)

abbrev pub session_call : List ℕ → SessionMethod → List Val → Call
session_call id session.Terminate vs = call.Terminate id
session_call id session.Activate vs = call.Activate id
session_call id session.Lock vs = call.Lock id
session_call id session.Unlock vs = call.Unlock id
session_call id session.Kill vs = call.Kill id (text_at 0 vs) (signed_at 1 vs)
session_call id session.SetIdleHint vs = call.SetIdle id (flag_at 0 vs)
session_call id session.SetLockedHint vs = call.SetLocked id (flag_at 0 vs)
session_call id session.TakeControl vs = call.Control id (flag_at 0 vs)
session_call id session.ReleaseControl vs = call.Uncontrol id
session_call id session.TakeDevice vs = call.TakeDevice id (device_in vs)
session_call id session.ReleaseDevice vs = call.ReleaseDevice id (device_in vs)
session_call id session.PauseDeviceComplete vs = call.PauseComplete id (device_in vs)

abbrev pub seat_call : List ℕ → SeatMethod → List Val → Call
seat_call name seat.Terminate vs = call.TerminateSeat name
seat_call name seat.ActivateSession vs = call.ActivateOnSeat (text_at 0 vs) name
seat_call name seat.SwitchTo vs = call.SwitchTo name (number_at 0 vs)
seat_call name seat.SwitchToNext vs = call.SwitchToNext name
seat_call name seat.SwitchToPrevious vs = call.SwitchToPrevious name

abbrev pub user_call : Uid → UserMethod → List Val → Call
user_call u user.Terminate vs = call.TerminateUser u
user_call u user.Kill vs = call.KillUser u (signed_at 0 vs)

abbrev pub machine_call : MachineMethod → List Val → Call
machine_call machine.Read vs = call.ReadInput (handle_in vs)
machine_call machine.SetMode vs = call.SetMode (handle_in vs) (number_at 1 vs)
machine_call machine.Close vs = call.Close (handle_in vs)

abbrev pub bus_call : BusMethod → List Val → Call
bus_call bus.Hello vs = call.Hello
bus_call bus.GetNameOwner vs = call.GetNameOwner (text_at 0 vs)
bus_call bus.AddMatch vs = call.AddMatch (text_at 0 vs)
bus_call bus.RemoveMatch vs = call.RemoveMatch (text_at 0 vs)

-- the value that would be set, the last argument of `Set`, is not kept
abbrev pub properties_call : List ℕ → PropertiesMethod → List Val → Call
properties_call path properties.Get vs = call.GetProperty (record { path = path; interface = text_at 0 vs; name = text_at 1 vs })
properties_call path properties.GetAll vs = call.GetAllProperties path (text_at 0 vs)
properties_call path properties.Set vs = call.SetProperty (record { path = path; interface = text_at 0 vs; name = text_at 1 vs })

abbrev pub peer_call : PeerMethod → Call
peer_call peer.Ping = call.Ping
peer_call peer.GetMachineId = call.GetMachineId

-- the call that a method is with arguments of its signature
abbrev pub method_call : Method → List Val → Call
method_call (Manager m) vs = manager_call m vs
method_call (Session id m) vs = session_call id m vs
method_call (Seat name m) vs = seat_call name m vs
method_call (User u m) vs = user_call u m vs
method_call (Machine m) vs = machine_call m vs
method_call (Bus m) vs = bus_call m vs

abbrev pub any_call : AnyMethod → List Val → Call
any_call (Own m) vs = method_call m vs
any_call (Properties path m) vs = properties_call path m vs
any_call (Peer m) vs = peer_call m

-- the text that a method's path names is within the limit
abbrev pub is_short_method : Method → Bool
is_short_method (Session id m) = is_short id
is_short_method (Seat name m) = is_short name
is_short_method _ = true

-- so is the path that a property's call has
abbrev pub is_short_any : AnyMethod → Bool
is_short_any (Own m) = is_short_method m
is_short_any (Properties path m) = is_short path
is_short_any (Peer m) = true

-- the call that a method is with any arguments: those of another signature, or with a text beyond the limit, are bad
unfoldable pub call_with : AnyMethod → List Val → Call
call_with m vs =
    if bytes_eq (signature_of vs) (signed_any m).takes && (is_short_any m && are_short vs) then any_call m vs
    else call.BadArguments
