-- The objects that calls are of: their paths and their own interfaces (org.freedesktop.login1(5)). Which of them are
-- there is another matter.
use Rattle.std.specs.Prelude.{ℕ, ◌≡◌, ◌<◌, ◌^◌, Bool, true, false, if◌then◌else◌, Option, Some, None, List, ◌++◌, codes}
use Rattle.std.specs.Option.{option_and_then, option_map}
use Rattle.std.specs.Str.{bytes_eq}
use Rattle.std.specs.Fmt.{decimal}
use Rattle.login_base.specs.declared.ids.Uid.{Uid}
use Rattle.login_base.specs.Labels.{escape}
use Rattle.login_base.specs.Number.{number_of}
pub use Rattle.login_model.specs.Objects.{begins, behind, manager_interface, session_interface, seat_interface, user_interface}
pub use Rattle.login_model.specs.Paths.{manager_path, session_front, seat_front, user_front}
use Rattle.bus_names.specs.Unescape.{unescaped}
use Rattle.login_base.specs.Texts.{is_text}
use Rattle.wire_calls.specs.declared.object.Object.{Object}
use Rattle.wire_calls.specs.declared.object.Object.TheVariants.{Manager, Session, Seat, User, Machine, Bus}

-- the paths of the modelled machine and of the bus
abbrev pub machine_path : List ℕ
machine_path = codes "/login/model/machine"

abbrev pub bus_path : List ℕ
bus_path = codes "/org/freedesktop/DBus"

-- the path of an object
abbrev pub path_of : Object → List ℕ
path_of Manager = manager_path
path_of (Session id) = session_front ++ escape id
path_of (Seat name) = seat_front ++ escape name
path_of (User u) = user_front ++ decimal u.0
path_of Machine = machine_path
path_of Bus = bus_path

-- what names an object in a path: a text, or a number of 32 bits
abbrev pub HasName : Object → Type 0
HasName Manager = Unit {0}
HasName (Session id) = is_text id ≡ true
HasName (Seat name) = is_text name ≡ true
HasName (User u) = u.0 < 2 ^ 32
HasName Machine = Unit {0}
HasName Bus = Unit {0}

-- the interface that is an object's own
abbrev pub interface_of : Object → List ℕ
interface_of Manager = manager_interface
interface_of (Session id) = session_interface
interface_of (Seat name) = seat_interface
interface_of (User u) = user_interface
interface_of Machine = codes "login.model.Machine1"
interface_of Bus = codes "org.freedesktop.DBus"

-- whether an object has properties
abbrev pub has_properties : Object → Bool
has_properties Machine = false
has_properties Bus = false
has_properties _ = true

-- the text, where it is UTF-8 without NUL
abbrev pub if_text : List ℕ → Option (List ℕ)
if_text text = if is_text text then Some text else None

-- the text of which a label is the escape
abbrev pub text_of : List ℕ → Option (List ℕ)
text_of label = option_and_then if_text (unescaped label)

-- the user whose number is spelled so in decimal
abbrev pub user_of : List ℕ → Option Uid
user_of digits = option_map (λ n. record { 0 = n }) (number_of digits)

-- the object that has a path
unfoldable pub object_of : List ℕ → Option Object
object_of path =
    if bytes_eq path manager_path then Some Manager
    else if bytes_eq path machine_path then Some Machine
    else if bytes_eq path bus_path then Some Bus
    else if begins session_front path then option_map Session (text_of (behind session_front path))
    else if begins seat_front path then option_map Seat (text_of (behind seat_front path))
    else if begins user_front path then option_map User (user_of (behind user_front path))
    else None
