-- How a session takes a device, and acknowledges its pause; and how devices come and go.
use Rattle.std.specs.Prelude.{ℕ, ◌||◌, Bool, true, false, if◌then◌else◌, List, filter}
use Rattle.std.specs.List.{list_any}
use Rattle.std.specs.Str.{bytes_eq}
use Rattle.login_base.specs.declared.ids.ConnId.{ConnId}
use Rattle.login_base.specs.declared.ids.DevNo.{DevNo}
use Rattle.login_base.specs.declared.ids.HandleNo.{HandleNo}
use Rattle.login_base.specs.declared.ids.SessId.{SessId}
use Rattle.login_model.specs.Devices.{is_taken}
use Rattle.login_model.specs.Facts.{is_graphics_on}
use Rattle.login_model.specs.Procedure.{each, kill, no, revoke, shut, yes}
use Rattle.login_model.specs.Start.{seat0}
use Rattle.login_model.specs.Trail.{Trail, put, tell_all, value}
use Rattle.login_model.specs.Where.{devices, is_active, is_seat, is_set, sessions, sessions_on}
use Rattle.login_model.specs.declared.fact.Fact.{Fact}
use Rattle.login_model.specs.declared.fact.Fact.TheVariants as fact
use Rattle.login_model.specs.declared.fact.Key.TheVariants as key
use Rattle.login_model.specs.declared.fact.Owner.TheVariants as owner
use Rattle.login_model.specs.declared.hardware.DevKind.{DevKind}
use Rattle.login_model.specs.declared.hardware.DevKind.TheVariants.{Drm, Evdev}
use Rattle.login_model.specs.declared.mark.Notice.TheVariants.{SeatNew, SeatRemoved}

abbrev pub enliven : HandleNo → Bool → Trail → Trail
enliven h true t = put (key.Live h) yes t
enliven h false t = t

-- a fresh handle is a session's for a device; it is live where the session is active
unfoldable pub take_device : ConnId → SessId → DevNo → HandleNo → Trail → Trail
take_device c s d h t = enliven h (is_active t s) (put (key.Taken s d) (fact.Handle h) (put (key.Owner h) (fact.Owned (owner.Device c s d)) t))

-- a pause that is awaited is acknowledged: the handle is dead
unfoldable pub acknowledge : SessId → DevNo → Trail → Trail
acknowledge s d t = if is_set (value t (key.Awaited s d)) then kill (value t (key.Taken s d)) (put (key.Awaited s d) no t) else t

-- the device of a handle that is a device's
abbrev pub set_mode : Fact → ℕ → Trail → Trail
set_mode (fact.Owned (owner.Device c s d)) mode t = put (key.Mode d) (fact.Number mode) t
set_mode _ mode t = t

-- a seat appears with its first graphics device
abbrev pub appear_seat : DevKind → List ℕ → Trail → Trail
appear_seat Drm seat t = if is_seat t seat then t else tell_all (SeatNew seat) (put (key.Seat seat) fact.Present t)
appear_seat Evdev seat t = t

unfoldable pub add_device : DevNo → DevKind → List ℕ → Trail → Trail
add_device d kind seat t = appear_seat kind seat (put (key.Dev d) (fact.Device kind seat) t)

-- the sessions that have a device taken, in order
unfoldable pub takers : Trail → DevNo → List SessId
takers t d = filter (λ s. is_taken t s d) (sessions t)

-- whether a graphics device is on a seat
unfoldable pub has_graphics : Trail → List ℕ → Bool
has_graphics t seat = list_any (λ d. is_graphics_on seat (value t (key.Dev d))) (devices t)

-- a seat goes with its last graphics device, and its sessions close; seat0 stays
abbrev pub lose_seat : Fact → Trail → Trail
lose_seat (fact.Device Drm seat) t =
    if bytes_eq seat seat0 || has_graphics t seat then t
    else tell_all (SeatRemoved seat) (put (key.Seat seat) fact.Absent (each shut (sessions_on t seat) t))
lose_seat _ t = t

-- a device goes: from the sessions that have it taken, and from its seat
unfoldable pub remove_device : DevNo → Trail → Trail
remove_device d t =
    lose_seat (value t (key.Dev d))
    (put (key.Mode d) (fact.Number 0) (put (key.Dev d) fact.Absent (each (λ s u. revoke s d u) (takers t d) t)))
