-- Which handles give access to a device.
use Rattle.std.specs.Prelude.{ℕ, ◌≡◌, true, Option, Some, None, List}
use Rattle.login_base.specs.declared.ids.ConnId.{ConnId}
use Rattle.login_base.specs.declared.ids.DevNo.{DevNo}
use Rattle.login_base.specs.declared.ids.HandleNo.{HandleNo}
use Rattle.login_base.specs.declared.ids.SessId.{SessId}
use Rattle.login_model.specs.Devices.{is_live}
use Rattle.login_model.specs.Policy.{verdict}
use Rattle.login_model.specs.Trail.{Trail, value}
use Rattle.login_model.specs.Where.{active_on, is_open, seat_of_session}
use Rattle.login_model.specs.declared.call.Call.{Call}
use Rattle.login_model.specs.declared.call.Call.TheVariants as call
use Rattle.login_model.specs.declared.event.Event.TheVariants.{Call as Calls}
use Rattle.login_model.specs.declared.event.Request.{Request}
use Rattle.login_model.specs.declared.fact.Fact.TheVariants as fact
use Rattle.login_model.specs.declared.fact.Key.TheVariants as key
use Rattle.login_model.specs.declared.fact.Owner.TheVariants as owner
use Rattle.login_model.specs.declared.hardware.DevKind.{DevKind}
use Rattle.login_model.specs.declared.rule.Verdict.TheVariants.{Granted}
use Rattle.login_model.specs.declared.setup.Setup.{Setup}

-- a live handle is that of the controller of the active session of its device's seat, which has the device taken with
-- it
pub record GivesAccess (t : Trail) (h : HandleNo) : Type 0 where
  pub by_whom : ConnId
  pub session : SessId
  pub device : DevNo
  pub kind : DevKind
  pub seat : List ℕ
  pub owned : value t (key.Owner h) ≡ fact.Owned (owner.Device by_whom session device)
  pub taken : value t (key.Taken session device) ≡ fact.Handle h
  pub controls : value t (key.Ctl session) ≡ fact.Controller by_whom
  pub session_open : is_open t session ≡ true
  pub on_seat : seat_of_session t session ≡ Some seat
  pub active : active_on t seat ≡ Some session
  pub present : value t (key.Dev device) ≡ fact.Device kind seat

pub record IsGuarded (t : Trail) : Type 0 where
  pub live : (h : HandleNo) → is_live t h ≡ true → GivesAccess t h
  -- no device has two live handles
  pub alone : (g h : HandleNo) (b c : ConnId) (s r : SessId) (d : DevNo) → is_live t g ≡ true → is_live t h ≡ true
      → value t (key.Owner g) ≡ fact.Owned (owner.Device b s d) → value t (key.Owner h) ≡ fact.Owned (owner.Device c r d) → g ≡ h

-- ---- whom a handle works for

-- the handle that a call uses: it is read, or the mode of its device is set
abbrev pub used_by : Call → Option HandleNo
used_by (call.ReadInput h) = Some h
used_by (call.SetMode h mode) = Some h
used_by _ = None

-- a live handle gives access to this client, the controller of the active session of its device's seat
pub record HasAccess (t : Trail) (c : ConnId) (h : HandleNo) : Type 0 where
  pub live : is_live t h ≡ true
  pub access : GivesAccess t h
  pub own : access.by_whom ≡ c

-- a handle works only for the controller of its seat's active session: whoever is granted a use of it is that
abbrev pub WorkForControllers : Setup → Trail → Type 0
WorkForControllers U t = (r : Request) (h : HandleNo) → used_by r.call ≡ Some h → verdict U t (Calls r) ≡ Granted → HasAccess t r.who h
