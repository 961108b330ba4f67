-- A handle works for the controller of its seat's active session alone.
use Rattle.std.proofs.Common.{◌≡◌, ◌∙◌, ◌==◌, false, Option, Some, None, ap, sym, subst}
use Rattle.login_base.specs.declared.ids.ConnId.{ConnId}
use Rattle.login_base.specs.declared.ids.HandleNo.{HandleNo}
use Rattle.login_model.specs.Devices.{is_live}
use Rattle.login_model.specs.Facts.{holder_in}
use Rattle.login_model.specs.Policy.{call_rules, handle_rules, is_other}
use Rattle.login_model.specs.Trail.{Trail, value}
use Rattle.login_model.specs.declared.call.Call.{Call}
use Rattle.login_model.specs.declared.call.Call.TheVariants as call
use Rattle.login_model.specs.declared.event.Event.TheVariants.{Call as Calls}
use Rattle.login_model.specs.declared.fact.Fact.{Fact}
use Rattle.login_model.specs.declared.fact.Key.TheVariants as key
use Rattle.login_model.specs.declared.hardware.DevKind.{DevKind}
use Rattle.login_model.specs.declared.hardware.DevKind.TheVariants.{Drm, Evdev}
use Rattle.login_model.specs.declared.rule.Rule.TheVariants.{NotLive, NotYours}
use Rattle.login_model.specs.declared.setup.Setup.{Setup}
use Rattle.login_model.proofs.FactLaws.{same-conn}
use Rattle.login_laws.specs.Guarded.{GivesAccess, HasAccess, IsGuarded, WorkForControllers, used_by}
use Rattle.login_laws.proofs.Granted.{NoneBroken, granted-rules, holds-rule, not-broken, not-not}

-- who gives access is the caller, where the handle is not another's
own : (t : Trail) (c : ConnId) (h : HandleNo) (a : GivesAccess t h) → is_other c (holder_in (value t (key.Owner h))) ≡ false → a.by_whom ≡ c
own t c h a n = same-conn a.by_whom c (not-not (a.by_whom.0 == c.0) (sym (ap (λ (x : Fact). is_other c (holder_in x)) a.owned) ∙ n))

used : (kind : DevKind) (t : Trail) (c : ConnId) (h : HandleNo) → IsGuarded t → NoneBroken (handle_rules kind t c h) → HasAccess t c h
used kind t c h k n =
    let l = holds-rule (is_live t h) NotLive n.1.1.1.0 in
    let a = k.live h l in
    record { live = l; access = a; own = own t c h a (not-broken (is_other c (holder_in (value t (key.Owner h)))) NotYours n.1.0) }

or_else : Option HandleNo → HandleNo → HandleNo
or_else None g = g
or_else (Some h) g = h

same-use : (g h : HandleNo) → ◌≡◌ {A = Option HandleNo} (Some g) (Some h) → g ≡ h
unfolding or_else
same-use g h e = ap (λ (o : Option HandleNo). or_else o g) e

by-call : (U : Setup) (t : Trail) (c : ConnId) (x : Call) (h : HandleNo) → IsGuarded t → used_by x ≡ Some h → NoneBroken (call_rules U t c x) → HasAccess t c h
by-call U t c (call.ReadInput g) h k u n = let P : HandleNo → Type 0 = HasAccess t c in subst P (same-use g h u) (used Evdev t c g k n)
by-call U t c (call.SetMode g mode) h k u n = let P : HandleNo → Type 0 = HasAccess t c in subst P (same-use g h u) (used Drm t c g k n)
by-call U t c _ h k u n = cc

pub works : (U : Setup) (t : Trail) → IsGuarded t → WorkForControllers U t
works U t k = λ r h u v. by-call U t r.who r.call h k u (granted-rules U t (Calls r) v)
