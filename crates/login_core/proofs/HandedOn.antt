-- A fact that is handed on by what is read of it does what the fact does.
use Rattle.std.proofs.Common.{◌≡◌, ℕ, refl}
use Rattle.login_base.specs.declared.ids.SessId.{SessId}
use Rattle.login_base.specs.declared.ids.Uid.{Uid}
use Rattle.login_model.specs.declared.fact.Fact.{Fact}
use Rattle.login_model.specs.declared.fact.Fact.TheVariants.{Absent, Controller, Device, Owned}
use Rattle.login_model.specs.declared.hardware.DevKind.TheVariants.{Evdev, Drm}
use Rattle.login_model.specs.Trail.{Trail}
use Rattle.login_model.specs.Procedure.{tell_new_user}
use Rattle.login_model.specs.Taking.{lose_seat, set_mode}
use Rattle.login_model.specs.Direct.{control_from}
use Rattle.login_base.specs.declared.ids.ConnId.{ConnId}
use Rattle.login_core.specs.inner.Handles.{owner_fact}
use Rattle.login_core.specs.inner.HandedOn.{controller_fact, graphics_fact, absent_or_known}
use Rattle.login_model.specs.Facts.{controller_in, graphics_seat, is_absent, owner_in}

pub greeted : (u : Uid) (f : Fact) (t : Trail) → tell_new_user u (absent_or_known (is_absent f)) t ≡ tell_new_user u f t
greeted u Absent t = refl
greeted u _ t = refl

pub taken-from : (f : Fact) (c : ConnId) (s : SessId) (t : Trail) → control_from (controller_fact (controller_in f)) c s t ≡ control_from f c s t
taken-from (Controller b) c s t = refl
taken-from _ c s t = refl

pub set-mode : (f : Fact) (n : ℕ) (t : Trail) → set_mode (owner_fact (owner_in f)) n t ≡ set_mode f n t
set-mode (Owned o) n t = refl
set-mode _ n t = refl

pub lost : (f : Fact) (t : Trail) → lose_seat (graphics_fact (graphics_seat f)) t ≡ lose_seat f t
lost (Device Drm seat) t = refl
lost (Device Evdev seat) t = refl
lost _ t = refl
