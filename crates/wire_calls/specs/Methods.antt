-- The methods of the objects' interfaces, with the signatures of their arguments (org.freedesktop.login1(5), D-Bus
-- Specification).
use Rattle.std.specs.Prelude.{ℕ, Option, List, [], ◌∷◌, ◌++◌, codes, map}
use Rattle.std.specs.Option.{option_map}
use Rattle.login_model.specs.declared.operation.OpKind.{OpKind}
use Rattle.login_model.specs.declared.operation.OpKind.TheVariants as kind
use Rattle.login_model.specs.Words.{named, operations}
use Rattle.wire_calls.specs.declared.object.Object.{Object}
use Rattle.wire_calls.specs.declared.object.Object.TheVariants as object
use Rattle.wire_calls.specs.declared.manager.ManagerMethod.{ManagerMethod}
use Rattle.wire_calls.specs.declared.manager.ManagerMethod.TheVariants as manager
use Rattle.wire_calls.specs.declared.session.SessionMethod.{SessionMethod}
use Rattle.wire_calls.specs.declared.session.SessionMethod.TheVariants as session
use Rattle.wire_calls.specs.declared.seat.SeatMethod.{SeatMethod}
use Rattle.wire_calls.specs.declared.seat.SeatMethod.TheVariants as seat
use Rattle.wire_calls.specs.declared.user.UserMethod.{UserMethod}
use Rattle.wire_calls.specs.declared.user.UserMethod.TheVariants as user
use Rattle.wire_calls.specs.declared.machine.MachineMethod.{MachineMethod}
use Rattle.wire_calls.specs.declared.machine.MachineMethod.TheVariants as machine
use Rattle.wire_calls.specs.declared.method.Method.{Method}
use Rattle.wire_calls.specs.declared.method.Method.TheVariants.{Manager, Session, Seat, User, Machine, Bus}
use Rattle.wire_calls.specs.declared.method.AnyMethod.{AnyMethod}
use Rattle.wire_calls.specs.declared.method.AnyMethod.TheVariants.{Own, Properties, Peer}
use Rattle.wire_calls.specs.declared.bus.BusMethod.{BusMethod}
use Rattle.wire_calls.specs.declared.bus.BusMethod.TheVariants as bus
use Rattle.wire_calls.specs.declared.bus.PropertiesMethod.{PropertiesMethod}
use Rattle.wire_calls.specs.declared.bus.PropertiesMethod.TheVariants as properties
use Rattle.wire_calls.specs.declared.bus.PeerMethod.{PeerMethod}
use Rattle.wire_calls.specs.declared.bus.PeerMethod.TheVariants as peer

-- a method: its name, and the signature of its arguments
pub record Signed : Type 0 where
  pub name : List ℕ
  pub takes : List ℕ

abbrev pub method : List ℕ → List ℕ → Signed
method name takes = record { name = name; takes = takes }

-- what asks for an operation, and what asks whether one may
abbrev pub power_name : OpKind → List ℕ
power_name kind.PowerOff = codes "PowerOff"
power_name kind.Reboot = codes "Reboot"
power_name kind.Halt = codes "Halt"
power_name kind.Suspend = codes "Suspend"
power_name kind.Hibernate = codes "Hibernate"
power_name kind.HybridSleep = codes "HybridSleep"
power_name kind.SuspendThenHibernate = codes "SuspendThenHibernate"

abbrev pub can_name : OpKind → List ℕ
can_name k = codes "Can" ++ power_name k

-- org.freedesktop.login1.Manager
abbrev pub manager_method : ManagerMethod → Signed
manager_method manager.CreateSession = method (codes "CreateSession") (codes "uusssssussbssa(sv)")
manager_method manager.GetSession = method (codes "GetSession") (codes "s")
manager_method manager.GetUser = method (codes "GetUser") (codes "u")
manager_method manager.GetSeat = method (codes "GetSeat") (codes "s")
manager_method manager.ListSessions = method (codes "ListSessions") []
manager_method manager.ListUsers = method (codes "ListUsers") []
manager_method manager.ListSeats = method (codes "ListSeats") []
manager_method manager.ListInhibitors = method (codes "ListInhibitors") []
manager_method manager.ActivateSession = method (codes "ActivateSession") (codes "s")
manager_method manager.ActivateSessionOnSeat = method (codes "ActivateSessionOnSeat") (codes "ss")
manager_method manager.LockSession = method (codes "LockSession") (codes "s")
manager_method manager.UnlockSession = method (codes "UnlockSession") (codes "s")
manager_method manager.LockSessions = method (codes "LockSessions") []
manager_method manager.UnlockSessions = method (codes "UnlockSessions") []
manager_method manager.KillSession = method (codes "KillSession") (codes "ssi")
manager_method manager.TerminateSession = method (codes "TerminateSession") (codes "s")
manager_method manager.TerminateUser = method (codes "TerminateUser") (codes "u")
manager_method manager.TerminateSeat = method (codes "TerminateSeat") (codes "s")
manager_method manager.SetUserLinger = method (codes "SetUserLinger") (codes "ubb")
manager_method (manager.Power k) = method (power_name k) (codes "b")
manager_method (manager.Can k) = method (can_name k) []
manager_method manager.Inhibit = method (codes "Inhibit") (codes "ssss")

abbrev pub manager_methods : List ManagerMethod
manager_methods =
    manager.CreateSession ∷ manager.GetSession ∷ manager.GetUser ∷ manager.GetSeat ∷ manager.ListSessions
    ∷ manager.ListUsers ∷ manager.ListSeats ∷ manager.ListInhibitors ∷ manager.ActivateSession
    ∷ manager.ActivateSessionOnSeat ∷ manager.LockSession ∷ manager.UnlockSession ∷ manager.LockSessions
    ∷ manager.UnlockSessions ∷ manager.KillSession ∷ manager.TerminateSession ∷ manager.TerminateUser
    ∷ manager.TerminateSeat ∷ manager.SetUserLinger
    ∷ (map manager.Power operations ++ (map manager.Can operations ++ manager.Inhibit ∷ []))

-- org.freedesktop.login1.Session
abbrev pub session_method : SessionMethod → Signed
session_method session.Terminate = method (codes "Terminate") []
session_method session.Activate = method (codes "Activate") []
session_method session.Lock = method (codes "Lock") []
session_method session.Unlock = method (codes "Unlock") []
session_method session.Kill = method (codes "Kill") (codes "si")
session_method session.SetIdleHint = method (codes "SetIdleHint") (codes "b")
session_method session.SetLockedHint = method (codes "SetLockedHint") (codes "b")
session_method session.TakeControl = method (codes "TakeControl") (codes "b")
session_method session.ReleaseControl = method (codes "ReleaseControl") []
session_method session.TakeDevice = method (codes "TakeDevice") (codes "uu")
session_method session.ReleaseDevice = method (codes "ReleaseDevice") (codes "uu")
session_method session.PauseDeviceComplete = method (codes "PauseDeviceComplete") (codes "uu")

abbrev pub session_methods : List SessionMethod
session_methods =
    session.Terminate ∷ session.Activate ∷ session.Lock ∷ session.Unlock ∷ session.Kill ∷ session.SetIdleHint
    ∷ session.SetLockedHint ∷ session.TakeControl ∷ session.ReleaseControl ∷ session.TakeDevice ∷ session.ReleaseDevice
    ∷ session.PauseDeviceComplete ∷ []

-- org.freedesktop.login1.Seat
abbrev pub seat_method : SeatMethod → Signed
seat_method seat.Terminate = method (codes "Terminate") []
seat_method seat.ActivateSession = method (codes "ActivateSession") (codes "s")
seat_method seat.SwitchTo = method (codes "SwitchTo") (codes "u")
seat_method seat.SwitchToNext = method (codes "SwitchToNext") []
seat_method seat.SwitchToPrevious = method (codes "SwitchToPrevious") []

abbrev pub seat_methods : List SeatMethod
seat_methods = seat.Terminate ∷ seat.ActivateSession ∷ seat.SwitchTo ∷ seat.SwitchToNext ∷ seat.SwitchToPrevious ∷ []

-- org.freedesktop.login1.User
abbrev pub user_method : UserMethod → Signed
user_method user.Terminate = method (codes "Terminate") []
user_method user.Kill = method (codes "Kill") (codes "i")

abbrev pub user_methods : List UserMethod
user_methods = user.Terminate ∷ user.Kill ∷ []

-- login.model.Machine1
abbrev pub machine_method : MachineMethod → Signed
machine_method machine.Read = method (codes "Read") (codes "u")
machine_method machine.SetMode = method (codes "SetMode") (codes "uu")
machine_method machine.Close = method (codes "Close") (codes "u")

abbrev pub machine_methods : List MachineMethod
machine_methods = machine.Read ∷ machine.SetMode ∷ machine.Close ∷ []

-- org.freedesktop.DBus
abbrev pub bus_method : BusMethod → Signed
bus_method bus.Hello = method (codes "Hello") []
bus_method bus.GetNameOwner = method (codes "GetNameOwner") (codes "s")
bus_method bus.AddMatch = method (codes "AddMatch") (codes "s")
bus_method bus.RemoveMatch = method (codes "RemoveMatch") (codes "s")

abbrev pub bus_methods : List BusMethod
bus_methods = bus.Hello ∷ bus.GetNameOwner ∷ bus.AddMatch ∷ bus.RemoveMatch ∷ []

-- org.freedesktop.DBus.Properties
abbrev pub properties_method : PropertiesMethod → Signed
properties_method properties.Get = method (codes "Get") (codes "ss")
properties_method properties.GetAll = method (codes "GetAll") (codes "s")
properties_method properties.Set = method (codes "Set") (codes "ssv")

abbrev pub properties_methods : List PropertiesMethod
properties_methods = properties.Get ∷ properties.GetAll ∷ properties.Set ∷ []

-- org.freedesktop.DBus.Peer
abbrev pub peer_method : PeerMethod → Signed
peer_method peer.Ping = method (codes "Ping") []
peer_method peer.GetMachineId = method (codes "GetMachineId") []

abbrev pub peer_methods : List PeerMethod
peer_methods = peer.Ping ∷ peer.GetMachineId ∷ []

-- the method of an object's own interface that has a name
abbrev pub method_named : Object → List ℕ → Option Method
method_named object.Manager name = option_map Manager (named (λ m. (manager_method m).name) manager_methods name)
method_named (object.Session id) name = option_map (Session id) (named (λ m. (session_method m).name) session_methods name)
method_named (object.Seat s) name = option_map (Seat s) (named (λ m. (seat_method m).name) seat_methods name)
method_named (object.User u) name = option_map (User u) (named (λ m. (user_method m).name) user_methods name)
method_named object.Machine name = option_map Machine (named (λ m. (machine_method m).name) machine_methods name)
method_named object.Bus name = option_map Bus (named (λ m. (bus_method m).name) bus_methods name)

-- the method of properties, of the object with this path, that has a name, and that of peers
abbrev pub properties_named : List ℕ → List ℕ → Option AnyMethod
properties_named path name = option_map (Properties path) (named (λ m. (properties_method m).name) properties_methods name)

abbrev pub peer_named : List ℕ → Option AnyMethod
peer_named name = option_map Peer (named (λ m. (peer_method m).name) peer_methods name)

-- a method's name and signature
abbrev pub signed : Method → Signed
signed (Manager m) = manager_method m
signed (Session id m) = session_method m
signed (Seat s m) = seat_method m
signed (User u m) = user_method m
signed (Machine m) = machine_method m
signed (Bus m) = bus_method m

-- the same of a method of any interface
abbrev pub signed_any : AnyMethod → Signed
signed_any (Own m) = signed m
signed_any (Properties path m) = properties_method m
signed_any (Peer m) = peer_method m

-- the object that a method is of
abbrev pub object_of : Method → Object
object_of (Manager m) = object.Manager
object_of (Session id m) = object.Session id
object_of (Seat s m) = object.Seat s
object_of (User u m) = object.User u
object_of (Machine m) = object.Machine
object_of (Bus m) = object.Bus
