-- The paths of objects (org.freedesktop.login1(5)), and the unique names of connections.
use Rattle.std.specs.Prelude.{ℕ, List, ◌++◌, codes}
use Rattle.std.specs.Fmt.{decimal}
use Rattle.login_base.specs.declared.ids.ConnId.{ConnId}
use Rattle.login_base.specs.declared.ids.SessId.{SessId}
use Rattle.login_base.specs.declared.ids.Uid.{Uid}
use Rattle.login_base.specs.Labels.{escape}
use Rattle.login_base.specs.SessionId.{session_text}

-- the path of the manager
abbrev pub manager_path : List ℕ
manager_path = codes "/org/freedesktop/login1"

-- what stands in the paths of sessions, seats and users before what names them
abbrev pub session_front : List ℕ
session_front = codes "/org/freedesktop/login1/session/"

abbrev pub seat_front : List ℕ
seat_front = codes "/org/freedesktop/login1/seat/"

abbrev pub user_front : List ℕ
user_front = codes "/org/freedesktop/login1/user/_"

-- the path of a session's object: the last element is the escape of the id
unfoldable pub session_path : SessId → List ℕ
session_path s = session_front ++ escape (session_text s)

-- the path of a seat's object: the last element is the escape of the name
unfoldable pub seat_path : List ℕ → List ℕ
seat_path seat = seat_front ++ escape seat

-- the path of a user's object
unfoldable pub user_path : Uid → List ℕ
user_path u = user_front ++ decimal u.0

-- the path of a user's runtime directory
unfoldable pub runtime_path : Uid → List ℕ
runtime_path u = codes "/run/user/" ++ decimal u.0

-- the unique name of a connection
abbrev pub unique_name : ConnId → List ℕ
unique_name c = codes ":1." ++ decimal c.0
