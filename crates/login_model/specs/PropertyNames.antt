-- The names of properties, in the order in which they are listed (org.freedesktop.login1(5)).
use Rattle.std.specs.Prelude.{ℕ, Option, List, [], ◌∷◌, codes}
use Rattle.login_model.specs.declared.property.ManagerProperty.{ManagerProperty}
use Rattle.login_model.specs.declared.property.ManagerProperty.TheVariants as manager
use Rattle.login_model.specs.declared.property.SessionProperty.{SessionProperty}
use Rattle.login_model.specs.declared.property.SessionProperty.TheVariants as session
use Rattle.login_model.specs.declared.property.UserProperty.{UserProperty}
use Rattle.login_model.specs.declared.property.UserProperty.TheVariants as user
use Rattle.login_model.specs.declared.property.SeatProperty.{SeatProperty}
use Rattle.login_model.specs.declared.property.SeatProperty.TheVariants as seat
use Rattle.login_model.specs.declared.property.Property.{Property}
use Rattle.login_model.specs.declared.property.Property.TheVariants.{Manager, Session, User, Seat}
use Rattle.login_model.specs.Words.{named}

-- ---- the manager

abbrev pub manager_property_name : ManagerProperty → List ℕ
manager_property_name manager.BlockInhibited = codes "BlockInhibited"
manager_property_name manager.DelayInhibited = codes "DelayInhibited"
manager_property_name manager.InhibitDelayMax = codes "InhibitDelayMaxUSec"
manager_property_name manager.CurrentInhibitors = codes "NCurrentInhibitors"
manager_property_name manager.CurrentSessions = codes "NCurrentSessions"
manager_property_name manager.PreparingForShutdown = codes "PreparingForShutdown"
manager_property_name manager.PreparingForSleep = codes "PreparingForSleep"
manager_property_name manager.Docked = codes "Docked"

abbrev pub manager_properties : List ManagerProperty
manager_properties =
    manager.BlockInhibited ∷ manager.DelayInhibited ∷ manager.InhibitDelayMax ∷ manager.CurrentInhibitors
    ∷ manager.CurrentSessions ∷ manager.PreparingForShutdown ∷ manager.PreparingForSleep ∷ manager.Docked ∷ []

abbrev pub manager_named : List ℕ → Option ManagerProperty
manager_named name = named manager_property_name manager_properties name

-- ---- a session

abbrev pub session_property_name : SessionProperty → List ℕ
session_property_name session.Id = codes "Id"
session_property_name session.User = codes "User"
session_property_name session.Name = codes "Name"
session_property_name session.Vt = codes "VTNr"
session_property_name session.Seat = codes "Seat"
session_property_name session.Tty = codes "TTY"
session_property_name session.Display = codes "Display"
session_property_name session.Remote = codes "Remote"
session_property_name session.RemoteHost = codes "RemoteHost"
session_property_name session.RemoteUser = codes "RemoteUser"
session_property_name session.Service = codes "Service"
session_property_name session.Desktop = codes "Desktop"
session_property_name session.Scope = codes "Scope"
session_property_name session.Leader = codes "Leader"
session_property_name session.Type = codes "Type"
session_property_name session.Class = codes "Class"
session_property_name session.Active = codes "Active"
session_property_name session.State = codes "State"
session_property_name session.IdleHint = codes "IdleHint"
session_property_name session.LockedHint = codes "LockedHint"

abbrev pub session_properties : List SessionProperty
session_properties =
    session.Id ∷ session.User ∷ session.Name ∷ session.Vt ∷ session.Seat ∷ session.Tty ∷ session.Display ∷ session.Remote
    ∷ session.RemoteHost ∷ session.RemoteUser ∷ session.Service ∷ session.Desktop ∷ session.Scope ∷ session.Leader
    ∷ session.Type ∷ session.Class ∷ session.Active ∷ session.State ∷ session.IdleHint ∷ session.LockedHint ∷ []

abbrev pub session_named : List ℕ → Option SessionProperty
session_named name = named session_property_name session_properties name

-- ---- a user

abbrev pub user_property_name : UserProperty → List ℕ
user_property_name user.Uid = codes "UID"
user_property_name user.Gid = codes "GID"
user_property_name user.Name = codes "Name"
user_property_name user.Slice = codes "Slice"
user_property_name user.State = codes "State"
user_property_name user.Sessions = codes "Sessions"
user_property_name user.Linger = codes "Linger"

abbrev pub user_properties : List UserProperty
user_properties = user.Uid ∷ user.Gid ∷ user.Name ∷ user.Slice ∷ user.State ∷ user.Sessions ∷ user.Linger ∷ []

abbrev pub user_named : List ℕ → Option UserProperty
user_named name = named user_property_name user_properties name

-- ---- a seat

abbrev pub seat_property_name : SeatProperty → List ℕ
seat_property_name seat.Id = codes "Id"
seat_property_name seat.ActiveSession = codes "ActiveSession"
seat_property_name seat.CanTty = codes "CanTTY"
seat_property_name seat.CanGraphical = codes "CanGraphical"
seat_property_name seat.Sessions = codes "Sessions"

abbrev pub seat_properties : List SeatProperty
seat_properties = seat.Id ∷ seat.ActiveSession ∷ seat.CanTty ∷ seat.CanGraphical ∷ seat.Sessions ∷ []

abbrev pub seat_named : List ℕ → Option SeatProperty
seat_named name = named seat_property_name seat_properties name

-- ---- any of them

abbrev pub property_name : Property → List ℕ
property_name (Manager p) = manager_property_name p
property_name (Session p) = session_property_name p
property_name (User p) = user_property_name p
property_name (Seat p) = seat_property_name p
