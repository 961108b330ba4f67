-- Methods are found by their names.
use Rattle.std.proofs.Common.{◌≡◌, refl, Some, None}
use Rattle.bus_names.specs.Reading.{interface_fault, member_fault}
use Rattle.bus_names.specs.Grammar.{fault_from}
use Rattle.login_model.specs.declared.operation.OpKind.TheVariants as kind
use Rattle.wire_calls.specs.declared.object.Object.{Object}
use Rattle.wire_calls.specs.declared.object.Object.TheVariants as object
use Rattle.wire_calls.specs.declared.manager.ManagerMethod.TheVariants as manager
use Rattle.wire_calls.specs.declared.session.SessionMethod.TheVariants as session
use Rattle.wire_calls.specs.declared.seat.SeatMethod.TheVariants as seat
use Rattle.wire_calls.specs.declared.user.UserMethod.TheVariants as user
use Rattle.wire_calls.specs.declared.machine.MachineMethod.TheVariants as machine
use Rattle.wire_calls.specs.declared.method.Method.{Method}
use Rattle.wire_calls.specs.declared.method.Method.TheVariants.{Manager, Session, Seat, User, Machine, Bus}
use Rattle.wire_calls.specs.declared.method.AnyMethod.{AnyMethod}
use Rattle.wire_calls.specs.declared.method.AnyMethod.TheVariants.{Own, Properties, Peer}
use Rattle.wire_calls.specs.declared.bus.BusMethod.TheVariants as bus
use Rattle.wire_calls.specs.declared.bus.PropertiesMethod.TheVariants as properties
use Rattle.wire_calls.specs.declared.bus.PeerMethod.TheVariants as peer
use Rattle.wire_calls.specs.Methods.{method_named, object_of, signed, signed_any}
use Rattle.wire_calls.specs.Sending.{interface_at}
use Rattle.wire_calls.specs.Objects.{interface_of}

-- a method is the one with its name
pub named_again : (m : Method) → method_named (object_of m) (signed m).name ≡ Some m
named_again (Manager manager.CreateSession) = refl
named_again (Manager manager.GetSession) = refl
named_again (Manager manager.GetUser) = refl
named_again (Manager manager.GetSeat) = refl
named_again (Manager manager.ListSessions) = refl
named_again (Manager manager.ListUsers) = refl
named_again (Manager manager.ListSeats) = refl
named_again (Manager manager.ListInhibitors) = refl
named_again (Manager manager.ActivateSession) = refl
named_again (Manager manager.ActivateSessionOnSeat) = refl
named_again (Manager manager.LockSession) = refl
named_again (Manager manager.UnlockSession) = refl
named_again (Manager manager.LockSessions) = refl
named_again (Manager manager.UnlockSessions) = refl
named_again (Manager manager.KillSession) = refl
named_again (Manager manager.TerminateSession) = refl
named_again (Manager manager.TerminateUser) = refl
named_again (Manager manager.TerminateSeat) = refl
named_again (Manager manager.SetUserLinger) = refl
named_again (Manager (manager.Power kind.PowerOff)) = refl
named_again (Manager (manager.Power kind.Reboot)) = refl
named_again (Manager (manager.Power kind.Halt)) = refl
named_again (Manager (manager.Power kind.Suspend)) = refl
named_again (Manager (manager.Power kind.Hibernate)) = refl
named_again (Manager (manager.Power kind.HybridSleep)) = refl
named_again (Manager (manager.Power kind.SuspendThenHibernate)) = refl
named_again (Manager (manager.Can kind.PowerOff)) = refl
named_again (Manager (manager.Can kind.Reboot)) = refl
named_again (Manager (manager.Can kind.Halt)) = refl
named_again (Manager (manager.Can kind.Suspend)) = refl
named_again (Manager (manager.Can kind.Hibernate)) = refl
named_again (Manager (manager.Can kind.HybridSleep)) = refl
named_again (Manager (manager.Can kind.SuspendThenHibernate)) = refl
named_again (Manager manager.Inhibit) = refl
named_again (Session id session.Terminate) = refl
named_again (Session id session.Activate) = refl
named_again (Session id session.Lock) = refl
named_again (Session id session.Unlock) = refl
named_again (Session id session.Kill) = refl
named_again (Session id session.SetIdleHint) = refl
named_again (Session id session.SetLockedHint) = refl
named_again (Session id session.TakeControl) = refl
named_again (Session id session.ReleaseControl) = refl
named_again (Session id session.TakeDevice) = refl
named_again (Session id session.ReleaseDevice) = refl
named_again (Session id session.PauseDeviceComplete) = refl
named_again (Seat name seat.Terminate) = refl
named_again (Seat name seat.ActivateSession) = refl
named_again (Seat name seat.SwitchTo) = refl
named_again (Seat name seat.SwitchToNext) = refl
named_again (Seat name seat.SwitchToPrevious) = refl
named_again (User u user.Terminate) = refl
named_again (User u user.Kill) = refl
named_again (Machine machine.Read) = refl
named_again (Machine machine.SetMode) = refl
named_again (Machine machine.Close) = refl
named_again (Bus bus.Hello) = refl
named_again (Bus bus.GetNameOwner) = refl
named_again (Bus bus.AddMatch) = refl
named_again (Bus bus.RemoveMatch) = refl

-- the names of methods are names of members
pub name_fault : (m : Method) → member_fault (signed m).name ≡ None
unfolding member_fault fault_from
name_fault (Manager manager.CreateSession) = refl
name_fault (Manager manager.GetSession) = refl
name_fault (Manager manager.GetUser) = refl
name_fault (Manager manager.GetSeat) = refl
name_fault (Manager manager.ListSessions) = refl
name_fault (Manager manager.ListUsers) = refl
name_fault (Manager manager.ListSeats) = refl
name_fault (Manager manager.ListInhibitors) = refl
name_fault (Manager manager.ActivateSession) = refl
name_fault (Manager manager.ActivateSessionOnSeat) = refl
name_fault (Manager manager.LockSession) = refl
name_fault (Manager manager.UnlockSession) = refl
name_fault (Manager manager.LockSessions) = refl
name_fault (Manager manager.UnlockSessions) = refl
name_fault (Manager manager.KillSession) = refl
name_fault (Manager manager.TerminateSession) = refl
name_fault (Manager manager.TerminateUser) = refl
name_fault (Manager manager.TerminateSeat) = refl
name_fault (Manager manager.SetUserLinger) = refl
name_fault (Manager (manager.Power kind.PowerOff)) = refl
name_fault (Manager (manager.Power kind.Reboot)) = refl
name_fault (Manager (manager.Power kind.Halt)) = refl
name_fault (Manager (manager.Power kind.Suspend)) = refl
name_fault (Manager (manager.Power kind.Hibernate)) = refl
name_fault (Manager (manager.Power kind.HybridSleep)) = refl
name_fault (Manager (manager.Power kind.SuspendThenHibernate)) = refl
name_fault (Manager (manager.Can kind.PowerOff)) = refl
name_fault (Manager (manager.Can kind.Reboot)) = refl
name_fault (Manager (manager.Can kind.Halt)) = refl
name_fault (Manager (manager.Can kind.Suspend)) = refl
name_fault (Manager (manager.Can kind.Hibernate)) = refl
name_fault (Manager (manager.Can kind.HybridSleep)) = refl
name_fault (Manager (manager.Can kind.SuspendThenHibernate)) = refl
name_fault (Manager manager.Inhibit) = refl
name_fault (Session id session.Terminate) = refl
name_fault (Session id session.Activate) = refl
name_fault (Session id session.Lock) = refl
name_fault (Session id session.Unlock) = refl
name_fault (Session id session.Kill) = refl
name_fault (Session id session.SetIdleHint) = refl
name_fault (Session id session.SetLockedHint) = refl
name_fault (Session id session.TakeControl) = refl
name_fault (Session id session.ReleaseControl) = refl
name_fault (Session id session.TakeDevice) = refl
name_fault (Session id session.ReleaseDevice) = refl
name_fault (Session id session.PauseDeviceComplete) = refl
name_fault (Seat name seat.Terminate) = refl
name_fault (Seat name seat.ActivateSession) = refl
name_fault (Seat name seat.SwitchTo) = refl
name_fault (Seat name seat.SwitchToNext) = refl
name_fault (Seat name seat.SwitchToPrevious) = refl
name_fault (User u user.Terminate) = refl
name_fault (User u user.Kill) = refl
name_fault (Machine machine.Read) = refl
name_fault (Machine machine.SetMode) = refl
name_fault (Machine machine.Close) = refl
name_fault (Bus bus.Hello) = refl
name_fault (Bus bus.GetNameOwner) = refl
name_fault (Bus bus.AddMatch) = refl
name_fault (Bus bus.RemoveMatch) = refl

-- those of any interface
pub any_name_fault : (m : AnyMethod) → member_fault (signed_any m).name ≡ None
unfolding member_fault fault_from
any_name_fault (Own m) = name_fault m
any_name_fault (Properties path properties.Get) = refl
any_name_fault (Properties path properties.GetAll) = refl
any_name_fault (Properties path properties.Set) = refl
any_name_fault (Peer peer.Ping) = refl
any_name_fault (Peer peer.GetMachineId) = refl

-- the interfaces have names of interfaces
pub interface_fault-of : (o : Object) → interface_fault (interface_of o) ≡ None
unfolding interface_fault fault_from
interface_fault-of object.Manager = refl
interface_fault-of (object.Session id) = refl
interface_fault-of (object.Seat name) = refl
interface_fault-of (object.User u) = refl
interface_fault-of object.Machine = refl
interface_fault-of object.Bus = refl

pub interface_fault-at : (m : AnyMethod) → interface_fault (interface_at m) ≡ None
unfolding interface_fault fault_from
interface_fault-at (Own m) = interface_fault-of (object_of m)
interface_fault-at (Properties path m) = refl
interface_fault-at (Peer m) = refl
