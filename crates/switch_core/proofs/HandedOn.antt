-- A fact that is handed on by what is read of it does what the fact does.
use Rattle.std.proofs.Common.{◌≡◌, refl}
use Rattle.login_base.specs.declared.ids.SessId.{SessId}
use Rattle.login_base.specs.declared.ids.DevNo.{DevNo}
use Rattle.login_base.specs.declared.ids.HandleNo.{HandleNo}
use Rattle.login_model.specs.declared.conf.Conf.{Conf}
use Rattle.login_model.specs.declared.fact.Fact.{Fact}
use Rattle.login_model.specs.declared.fact.Fact.TheVariants.{Handle, Controller, Device, Number}
use Rattle.login_model.specs.declared.hardware.DevKind.TheVariants.{Evdev, Drm}
use Rattle.login_model.specs.declared.mark.Notice.{Notice}
use Rattle.login_model.specs.Facts.{handle_in, controller_in, device_kind_in, number_in_fact}
use Rattle.login_model.specs.Trail.{Trail}
use Rattle.login_model.specs.Procedure.{tell_controller, kill, force_handle, renew, revive, resume_handle}
use Rattle.login_model.specs.Switching.{await_handle, complete}
use Rattle.switch_core.specs.inner.HandedOn.{handle_fact, controller_fact, kind_fact, terminal_fact}

pub controller-told : (f : Fact) (n : Notice) (t : Trail) → tell_controller (controller_fact (controller_in f)) n t ≡ tell_controller f n t
controller-told (Controller c) n t = refl
controller-told _ n t = refl

pub killed : (f : Fact) (t : Trail) → kill (handle_fact (handle_in f)) t ≡ kill f t
killed (Handle h) t = refl
killed _ t = refl

pub forced : (s : SessId) (d : DevNo) (f : Fact) (t : Trail) → force_handle s d (handle_fact (handle_in f)) t ≡ force_handle s d f t
forced s d (Handle h) t = refl
forced s d _ t = refl

pub renewed : (s : SessId) (d : DevNo) (h : HandleNo) (f : Fact) (t : Trail) → renew s d h (controller_fact (controller_in f)) t ≡ renew s d h f t
renewed s d h (Controller c) t = refl
renewed s d h _ t = refl

pub revived : (s : SessId) (d : DevNo) (h : HandleNo) (f : Fact) (t : Trail) → revive s d h (kind_fact (device_kind_in f)) t ≡ revive s d h f t
revived s d h (Device Drm seat) t = refl
revived s d h (Device Evdev seat) t = refl
revived s d h _ t = refl

pub resumed : (s : SessId) (d : DevNo) (f : Fact) (t : Trail) → resume_handle s d (handle_fact (handle_in f)) t ≡ resume_handle s d f t
resumed s d (Handle h) t = refl
resumed s d _ t = refl

pub paused : (s : SessId) (d : DevNo) (f : Fact) (t : Trail) → await_handle s d (handle_fact (handle_in f)) t ≡ await_handle s d f t
paused s d (Handle h) t = refl
paused s d _ t = refl

pub completed : (conf : Conf) (f : Fact) (t : Trail) → complete conf (terminal_fact (number_in_fact f)) t ≡ complete conf f t
completed conf (Number v) t = refl
completed conf _ t = refl
