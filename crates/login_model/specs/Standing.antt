-- How connections stand to the machine's seats.
use Rattle.std.specs.Prelude.{ℕ, ◌==◌, ◌&&◌, if◌then◌else◌, Bool, Option, Some, None, find}
use Rattle.std.specs.Option.{is_some}
use Rattle.login_base.specs.declared.ids.ConnId.{ConnId}
use Rattle.login_base.specs.declared.ids.SessId.{SessId}
use Rattle.login_base.specs.declared.ids.Uid.{Uid}
use Rattle.login_model.specs.declared.fact.Key.TheVariants.{Conn, Sess}
use Rattle.login_model.specs.declared.standing.Standing.{Standing}
use Rattle.login_model.specs.declared.standing.Standing.TheVariants.{Root, Active, Inactive, Any}
use Rattle.login_model.specs.Trail.{Trail, value}
use Rattle.login_model.specs.Facts.{client_in}
use Rattle.login_model.specs.Where.{sessions, is_active}
pub use Rattle.login_model.specs.Facts.{is_open_of, is_seated_of}

abbrev pub is_active_of : Trail → ℕ → SessId → Bool
is_active_of t uid s = is_open_of uid (value t (Sess s)) && is_active t s

-- an open session of the user is active on its seat
abbrev pub has_active : Trail → ℕ → Bool
has_active t uid = is_some (find (is_active_of t uid) (sessions t))

-- an open session of the user has a seat
abbrev pub has_seat : Trail → ℕ → Bool
has_seat t uid = is_some (find (λ s. is_seated_of uid (value t (Sess s))) (sessions t))

-- how a user's connections stand
unfoldable pub standing_of : Trail → ℕ → Standing
standing_of t uid =
    if uid == 0 then Root
    else if has_active t uid then Active
    else if has_seat t uid then Inactive
    else Any

-- how a connection of this user stands; one that is not connected as nobody's
abbrev pub client_standing : Trail → Option Uid → Standing
client_standing t (Some u) = standing_of t u.0
client_standing t None = Any

-- how a connection stands
abbrev pub standing : Trail → ConnId → Standing
standing t c = client_standing t (client_in (value t (Conn c)))
