-- The objects that have properties: their paths, what these name, and their interfaces (org.freedesktop.login1(5)).
use Rattle.std.specs.Prelude.{ℕ, ◌&&◌, ◌||◌, Bool, true, if◌then◌else◌, Option, Some, None, Result, Ok, Err, List, [], ◌∷◌, length, take, drop, codes}
use Rattle.std.specs.Option.{is_some, option_map}
use Rattle.std.specs.Str.{bytes_eq}
use Rattle.login_base.specs.Labels.{decoded, escape}
use Rattle.login_base.specs.Number.{number_of}
use Rattle.login_base.specs.Seat.{is_seat_name}
use Rattle.login_base.specs.SessionId.{session_of}
use Rattle.login_base.specs.Texts.{is_text}
use Rattle.login_model.specs.declared.object.Object.{Object}
use Rattle.login_model.specs.declared.object.Object.TheVariants.{Manager, Session, Seat, User}
use Rattle.login_model.specs.declared.rule.Rule.{Rule}
use Rattle.login_model.specs.declared.rule.Rule.TheVariants.{UnknownObject, NoSuchSession, NoSuchSeat, NoSuchUser}
use Rattle.login_model.specs.Paths.{manager_path, session_front, seat_front, user_front}
use Rattle.login_model.specs.PropertyNames.{manager_named, seat_named, session_named, user_named}

-- ---- elements of paths

-- an element of a path that is the escape of a text
abbrev pub is_label : List ℕ → Bool
is_label element = is_text (decoded element) && bytes_eq (escape (decoded element)) element

-- the number of a user in decimal
abbrev pub is_number : List ℕ → Bool
is_number digits = is_some (number_of digits)

abbrev pub begins : List ℕ → List ℕ → Bool
begins front path = bytes_eq (take (length front) path) front

abbrev pub behind : List ℕ → List ℕ → List ℕ
behind front path = drop (length front) path

-- a path that goes on behind this front with such an element
abbrev pub is_under : List ℕ → (List ℕ → Bool) → List ℕ → Bool
is_under front is_element path = begins front path && is_element (behind front path)

-- the path of the manager, a session, a seat or a user, whether there is such a one or not
unfoldable pub is_object : List ℕ → Bool
is_object path =
    bytes_eq path manager_path || is_under session_front is_label path || is_under seat_front is_label path
    || is_under user_front is_number path

-- ---- what they name

-- the session with the id, the seat with the name, or the user with the number that an element has
abbrev pub session_at : List ℕ → Option Object
session_at element = option_map Session (session_of (decoded element))

abbrev pub seat_at : List ℕ → Option Object
seat_at element = if is_seat_name (decoded element) then Some (Seat (decoded element)) else None

abbrev pub user_at : List ℕ → Option Object
user_at digits = option_map (λ n. User (record { 0 = n })) (number_of digits)

abbrev pub or_rule : Rule → Option Object → Result Object Rule
or_rule r None = Err r
or_rule r (Some o) = Ok o

-- the object that a path names, or the rule that is broken since what it names can't be there
unfoldable pub named_object : List ℕ → Result Object Rule
named_object path =
    if bytes_eq path manager_path then Ok Manager
    else if begins session_front path then or_rule NoSuchSession (session_at (behind session_front path))
    else if begins seat_front path then or_rule NoSuchSeat (seat_at (behind seat_front path))
    else if begins user_front path then or_rule NoSuchUser (user_at (behind user_front path))
    else Err UnknownObject

-- ---- their interfaces

abbrev pub manager_interface : List ℕ
manager_interface = codes "org.freedesktop.login1.Manager"

abbrev pub session_interface : List ℕ
session_interface = codes "org.freedesktop.login1.Session"

abbrev pub seat_interface : List ℕ
seat_interface = codes "org.freedesktop.login1.Seat"

abbrev pub user_interface : List ℕ
user_interface = codes "org.freedesktop.login1.User"

-- that of properties, which some objects have beside their own
abbrev pub properties_interface : List ℕ
properties_interface = codes "org.freedesktop.DBus.Properties"

-- the interface that is an object's own
abbrev pub own_interface : Object → List ℕ
own_interface Manager = manager_interface
own_interface (Session s) = session_interface
own_interface (Seat name) = seat_interface
own_interface (User u) = user_interface

-- whether a text names it: the empty one does
abbrev pub is_own_interface : Object → List ℕ → Bool
is_own_interface o [] = true
is_own_interface o (b ∷ bs) = bytes_eq (b ∷ bs) (own_interface o)

-- whether an object has a property of this name
abbrev pub has_named : Object → List ℕ → Bool
has_named Manager name = is_some (manager_named name)
has_named (Session s) name = is_some (session_named name)
has_named (Seat n) name = is_some (seat_named name)
has_named (User u) name = is_some (user_named name)

-- whether it has one under this interface
abbrev pub has_property : Object → List ℕ → List ℕ → Bool
has_property o interface name = is_own_interface o interface && has_named o name
