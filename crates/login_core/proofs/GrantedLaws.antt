-- What is so of an event that is granted.
use Rattle.std.proofs.Common.{◌≡◌, true, Option, Some, None, IfSome}
use Rattle.login_base.specs.Seat.{is_seat_name}
use Rattle.login_base.specs.SessionId.{session_of}
use Rattle.login_base.specs.declared.ids.ConnId.{ConnId}
use Rattle.login_base.specs.declared.ids.SessId.{SessId}
use Rattle.login_model.specs.Locks.{is_mode, is_what}
use Rattle.login_model.specs.Policy.{call_rules, hardware_rules, on_session, only_session, verdict}
use Rattle.login_model.specs.Trail.{Trail}
use Rattle.login_model.specs.Where.{is_seat, is_session}
use Rattle.login_model.specs.declared.call.Call.{Call}
use Rattle.login_model.specs.declared.call.Call.TheVariants as call
use Rattle.login_model.specs.declared.event.Event.TheVariants.{Call as Calls, Hardware as Happens}
use Rattle.login_model.specs.declared.event.Request.{Request}
use Rattle.login_model.specs.declared.hardware.Hardware.{Hardware}
use Rattle.login_model.specs.declared.hardware.Hardware.TheVariants.{Exit}
use Rattle.login_model.specs.declared.rule.Rule.TheVariants.{BadArguments, NoSuchSeat, NoSuchSession}
use Rattle.login_model.specs.declared.rule.Verdict.TheVariants.{Granted}
use Rattle.login_model.specs.declared.setup.Setup.{Setup}
use Rattle.login_laws.proofs.Granted.{NoneBroken, granted-rules, holds-rule}
use Rattle.login_model.proofs.Keys.{both}
use Rattle.login_core.specs.inner.Calls.{ExitsHere, NamesRightly}

named-by : (U : Setup) (t : Trail) (c : ConnId) (x : Call) → NoneBroken (call_rules U t c x) → NamesRightly x
named-by U t c (call.TerminateSeat seat) h = (both (is_seat_name seat) (is_seat t seat) (holds-rule _ NoSuchSeat h.0)).0
named-by U t c (call.SwitchToNext seat) h = (both (is_seat_name seat) (is_seat t seat) (holds-rule _ NoSuchSeat h.0)).0
named-by U t c (call.SwitchToPrevious seat) h = (both (is_seat_name seat) (is_seat t seat) (holds-rule _ NoSuchSeat h.0)).0
named-by U t c (call.Inhibit x) h = (both (is_what x.what) (is_mode x.mode) (holds-rule _ BadArguments h.0)).0
named-by U t c _ h = tt

-- a granted call on a seat names one, and that of a lock what there is to inhibit
pub named : (U : Setup) (t : Trail) (r : Request) → verdict U t (Calls r) ≡ Granted → NamesRightly r.call
named U t r g = named-by U t r.who r.call (granted-rules U t (Calls r) g)

exits-at : (t : Trail) (o : Option SessId) → NoneBroken (on_session (only_session t) o) → IfSome o (λ s. is_session t s ≡ true)
exits-at t None h = tt
exits-at t (Some s) h = holds-rule (is_session t s) NoSuchSession h.0

exits-by : (U : Setup) (t : Trail) (x : Hardware) → NoneBroken (hardware_rules U t x) → ExitsHere t x
exits-by U t (Exit id) h = exits-at t (session_of id) h
exits-by U t _ h = tt

-- a granted exit is of a session that is not gone
pub exits : (U : Setup) (t : Trail) (x : Hardware) → verdict U t (Happens x) ≡ Granted → ExitsHere t x
exits U t x g = exits-by U t x (granted-rules U t (Happens x) g)
