-- The message that a call is sent as.
use Rattle.std.specs.Prelude.{ℕ, ℤ, ◌≡◌, Bool, Option, Some, None, List, [], ◌∷◌, ◌++◌, true, false}
use Rattle.std.specs.List.{AllByRecursion}
use Rattle.std.specs.Option.{option_map}
use Rattle.login_base.specs.declared.ids.DevNo.{DevNo}
use Rattle.login_model.specs.declared.call.Call.{Call}
use Rattle.login_model.specs.declared.call.Call.TheVariants as call
use Rattle.login_model.specs.declared.call.Creation.{Creation}
use Rattle.login_model.specs.declared.call.Inhibition.{Inhibition}
use Rattle.login_model.specs.declared.call.PropertyName.{PropertyName}
use Rattle.login_model.specs.Limits.{text_limit}
use Rattle.login_model.specs.Texts.{IsText, texts}
use Rattle.bus_names.specs.declared.basic.Basic.TheVariants as types
use Rattle.bus_names.specs.Types.{Shape, basic as basic_type, struct, variant, more, none as no_fields}
use Rattle.bus_value.specs.declared.basic_value.BasicValue.TheVariants.{I32}
use Rattle.bus_value.specs.declared.order.Order.TheVariants.{Little}
use Rattle.bus_value.specs.Values.{Val, basic, array, none, variant as variant_of}
pub use Rattle.bus_message.specs.Bodies.{text, number, flag}
use Rattle.bus_message.specs.declared.message.Message.{Message}
use Rattle.wire_calls.specs.declared.manager.ManagerMethod.TheVariants as manager
use Rattle.wire_calls.specs.declared.session.SessionMethod.TheVariants as session
use Rattle.wire_calls.specs.declared.seat.SeatMethod.TheVariants as seat
use Rattle.wire_calls.specs.declared.user.UserMethod.TheVariants as user
use Rattle.wire_calls.specs.declared.machine.MachineMethod.TheVariants as machine
use Rattle.wire_calls.specs.declared.method.Method.{Method}
use Rattle.wire_calls.specs.declared.method.AnyMethod.{AnyMethod}
use Rattle.wire_calls.specs.declared.method.AnyMethod.TheVariants.{Own, Properties, Peer}
use Rattle.wire_calls.specs.declared.bus.BusMethod.TheVariants as bus
use Rattle.wire_calls.specs.declared.bus.PropertiesMethod.TheVariants as properties
use Rattle.wire_calls.specs.declared.bus.PeerMethod.TheVariants as peer
use Rattle.wire_calls.specs.declared.method.Method.TheVariants.{Manager, Session, Seat, User, Machine, Bus}
use Rattle.wire_calls.specs.Objects.{interface_of, manager_path, path_of}
use Rattle.login_model.specs.Objects.{properties_interface}
use Rattle.wire_calls.specs.Reading.{peer as peer_interface}
use Rattle.wire_calls.specs.Methods.{object_of, signed_any}

-- the method of an object's own interface as which a call is sent: the manager's where it has one
unfoldable pub own_sent_as : Call → Option Method
own_sent_as (call.Create x) = Some (Manager manager.CreateSession)
own_sent_as (call.GetSession id) = Some (Manager manager.GetSession)
own_sent_as (call.GetUser u) = Some (Manager manager.GetUser)
own_sent_as (call.GetSeat name) = Some (Manager manager.GetSeat)
own_sent_as call.ListSessions = Some (Manager manager.ListSessions)
own_sent_as call.ListUsers = Some (Manager manager.ListUsers)
own_sent_as call.ListSeats = Some (Manager manager.ListSeats)
own_sent_as call.ListInhibitors = Some (Manager manager.ListInhibitors)
own_sent_as (call.Activate id) = Some (Manager manager.ActivateSession)
own_sent_as (call.ActivateOnSeat id name) = Some (Manager manager.ActivateSessionOnSeat)
own_sent_as (call.Lock id) = Some (Manager manager.LockSession)
own_sent_as (call.Unlock id) = Some (Manager manager.UnlockSession)
own_sent_as call.LockAll = Some (Manager manager.LockSessions)
own_sent_as call.UnlockAll = Some (Manager manager.UnlockSessions)
own_sent_as (call.Kill id whom n) = Some (Manager manager.KillSession)
own_sent_as (call.Terminate id) = Some (Manager manager.TerminateSession)
own_sent_as (call.TerminateUser u) = Some (Manager manager.TerminateUser)
own_sent_as (call.TerminateSeat name) = Some (Manager manager.TerminateSeat)
own_sent_as (call.SetLinger u on) = Some (Manager manager.SetUserLinger)
own_sent_as (call.Power k) = Some (Manager (manager.Power k))
own_sent_as (call.Can k) = Some (Manager (manager.Can k))
own_sent_as (call.Inhibit x) = Some (Manager manager.Inhibit)
own_sent_as (call.SetIdle id on) = Some (Session id session.SetIdleHint)
own_sent_as (call.SetLocked id on) = Some (Session id session.SetLockedHint)
own_sent_as (call.Control id force) = Some (Session id session.TakeControl)
own_sent_as (call.Uncontrol id) = Some (Session id session.ReleaseControl)
own_sent_as (call.TakeDevice id d) = Some (Session id session.TakeDevice)
own_sent_as (call.ReleaseDevice id d) = Some (Session id session.ReleaseDevice)
own_sent_as (call.PauseComplete id d) = Some (Session id session.PauseDeviceComplete)
own_sent_as (call.SwitchTo name vt) = Some (Seat name seat.SwitchTo)
own_sent_as (call.SwitchToNext name) = Some (Seat name seat.SwitchToNext)
own_sent_as (call.SwitchToPrevious name) = Some (Seat name seat.SwitchToPrevious)
own_sent_as (call.KillUser u n) = Some (User u user.Kill)
own_sent_as (call.ReadInput h) = Some (Machine machine.Read)
own_sent_as (call.SetMode h mode) = Some (Machine machine.SetMode)
own_sent_as (call.Close h) = Some (Machine machine.Close)
own_sent_as call.Hello = Some (Bus bus.Hello)
own_sent_as (call.GetNameOwner name) = Some (Bus bus.GetNameOwner)
own_sent_as (call.AddMatch rule) = Some (Bus bus.AddMatch)
own_sent_as (call.RemoveMatch rule) = Some (Bus bus.RemoveMatch)
own_sent_as _ = None

-- The method as which a call is sent. The words for other messages are sent as none.
unfoldable pub sent_as : Call → Option AnyMethod
sent_as (call.GetProperty x) = Some (Properties x.path properties.Get)
sent_as (call.GetAllProperties path interface) = Some (Properties path properties.GetAll)
sent_as (call.SetProperty x) = Some (Properties x.path properties.Set)
sent_as call.Ping = Some (Peer peer.Ping)
sent_as call.GetMachineId = Some (Peer peer.GetMachineId)
sent_as c = option_map Own (own_sent_as c)

-- values of the types of arguments
abbrev pub signal : ℤ → Val
signal n = basic (I32 n)

abbrev pub property_type : Shape
property_type = struct (basic_type types.Str) (more variant no_fields)

abbrev pub device_values : DevNo → List Val
device_values d = number d.major ∷ number d.minor ∷ []

-- whose a session is and what it is for
abbrev pub purpose_values : Creation → List Val
purpose_values x =
    number x.uid.0 ∷ number x.process ∷ text x.service ∷ text x.session_type ∷ text x.class ∷ text x.desktop ∷ []

-- where it is and where its user is
abbrev pub place_values : Creation → List Val
place_values x =
    text x.seat ∷ number x.vt ∷ text x.tty ∷ text x.display ∷ flag x.remote ∷ text x.remote_user ∷ text x.remote_host ∷ []

-- what a session is created with, and no further properties
abbrev pub creation_values : Creation → List Val
creation_values x = purpose_values x ++ (place_values x ++ array property_type none ∷ [])

abbrev pub inhibition_values : Inhibition → List Val
inhibition_values x = text x.what ∷ text x.who ∷ text x.why ∷ text x.mode ∷ []

-- a property, and a value to which it would be set
abbrev pub property_values : PropertyName → List Val
property_values x = text x.interface ∷ text x.name ∷ []

abbrev pub setting_values : PropertyName → List Val
setting_values x = text x.interface ∷ text x.name ∷ variant_of (flag false) ∷ []

-- the arguments with which a call is sent; nobody is asked to authenticate
unfoldable pub arguments_of : Call → List Val
arguments_of (call.Create x) = creation_values x
arguments_of (call.GetSession id) = text id ∷ []
arguments_of (call.GetUser u) = number u.0 ∷ []
arguments_of (call.GetSeat name) = text name ∷ []
arguments_of (call.Activate id) = text id ∷ []
arguments_of (call.ActivateOnSeat id name) = text id ∷ text name ∷ []
arguments_of (call.Lock id) = text id ∷ []
arguments_of (call.Unlock id) = text id ∷ []
arguments_of (call.Kill id whom n) = text id ∷ text whom ∷ signal n ∷ []
arguments_of (call.Terminate id) = text id ∷ []
arguments_of (call.TerminateUser u) = number u.0 ∷ []
arguments_of (call.TerminateSeat name) = text name ∷ []
arguments_of (call.SetLinger u on) = number u.0 ∷ flag on ∷ flag false ∷ []
arguments_of (call.Power k) = flag false ∷ []
arguments_of (call.Inhibit x) = inhibition_values x
arguments_of (call.SetIdle id on) = flag on ∷ []
arguments_of (call.SetLocked id on) = flag on ∷ []
arguments_of (call.Control id force) = flag force ∷ []
arguments_of (call.TakeDevice id d) = device_values d
arguments_of (call.ReleaseDevice id d) = device_values d
arguments_of (call.PauseComplete id d) = device_values d
arguments_of (call.SwitchTo name vt) = number vt ∷ []
arguments_of (call.KillUser u n) = signal n ∷ []
arguments_of (call.ReadInput h) = number h.0 ∷ []
arguments_of (call.SetMode h mode) = number h.0 ∷ number mode ∷ []
arguments_of (call.Close h) = number h.0 ∷ []
arguments_of (call.GetProperty x) = property_values x
arguments_of (call.GetAllProperties path interface) = text interface ∷ []
arguments_of (call.SetProperty x) = setting_values x
arguments_of (call.GetNameOwner name) = text name ∷ []
arguments_of (call.AddMatch rule) = text rule ∷ []
arguments_of (call.RemoveMatch rule) = text rule ∷ []
arguments_of _ = []

-- the path and the interface of a method
abbrev pub path_at : AnyMethod → List ℕ
path_at (Own m) = path_of (object_of m)
path_at (Properties path m) = path
path_at (Peer m) = manager_path

abbrev pub interface_at : AnyMethod → List ℕ
interface_at (Own m) = interface_of (object_of m)
interface_at (Properties path m) = properties_interface
interface_at (Peer m) = peer_interface

-- the call of a method, with no field that is not needed
abbrev pub message_with : AnyMethod → List Val → ℕ → Message
message_with m vs serial = record {
  order = Little;
  kind = 1;
  flags = 0;
  serial = serial;
  path = Some (path_at m);
  interface = Some (interface_at m);
  member = Some (signed_any m).name;
  error = None;
  reply_to = None;
  destination = None;
  sender = None;
  body = vs;
}

-- the message is this call, with this serial
abbrev pub IsSent : Call → ℕ → Message → Type 0
IsSent c serial message = (m : AnyMethod) × (sent_as c ≡ Some m) × (message ≡ message_with m (arguments_of c) serial)

-- the words for messages that are none of the calls
abbrev pub is_other : Call → Bool
is_other call.NoCall = true
is_other call.NoObject = true
is_other call.NoMethod = true
is_other call.BadArguments = true
is_other _ = false

-- its texts are such as a journal has
abbrev pub HasTexts : Call → Type 0
HasTexts c = AllByRecursion (IsText text_limit) (texts c)
