-- An event that asks for a terminal of seat0 requests it.
use Rattle.std.proofs.Common.{◌≡◌, ℕ, Bool, true, false, cond, nat_lt, Option, Some, None, List, ap}
use Rattle.std.specs.Str.{bytes_eq}
use Rattle.login_base.specs.SessionId.{session_of}
use Rattle.login_base.specs.declared.ids.ConnId.{ConnId}
use Rattle.login_base.specs.declared.ids.SessId.{SessId}
use Rattle.login_model.specs.Direct.{activate, activate_on, direct, direct_call, happen}
use Rattle.login_model.specs.Names.{session_lt}
use Rattle.login_model.specs.Procedure.{front, if_some}
use Rattle.login_model.specs.Start.{seat0}
use Rattle.login_model.specs.Switching.{request}
use Rattle.login_model.specs.Trail.{Trail, value}
use Rattle.login_model.specs.Turning.{next_around, open_on, open_terminals, previous_around, turn, turn_to_next, turn_to_previous, vt_in}
use Rattle.login_model.specs.Where.{active_on, current_vt, seat_of_session}
use Rattle.login_model.specs.declared.call.Call.{Call}
use Rattle.login_model.specs.declared.call.Call.TheVariants as call
use Rattle.login_model.specs.declared.event.Event.{Event}
use Rattle.login_model.specs.declared.event.Event.TheVariants.{Call as Calls, Hardware as Happens}
use Rattle.login_model.specs.declared.fact.Key.TheVariants as key
use Rattle.login_model.specs.declared.hardware.Hardware.{Hardware}
use Rattle.login_model.specs.declared.hardware.Hardware.TheVariants.{VtKey}
use Rattle.login_model.specs.declared.setup.Setup.{Setup}
use Rattle.login_laws.specs.Asking.{asked_vt, call_vt, on_seat0, session_vt_of, turn_vt}

same-request : (w v : ℕ) (t : Trail) → Some w ≡ Some v → request w t ≡ request v t
same-request w v t e = ap (λ (n : ℕ). request n t) (let z : w ≡ v = cc in z)

on-seat : (b : Bool) (w v : ℕ) (t u : Trail) → cond b (Some w) None ≡ Some v → cond b (request w t) u ≡ request v t
on-seat true w v t u e = same-request w v t e
on-seat false w v t u e = cc

activated-on : (o : Option (List ℕ)) (s : SessId) (t : Trail) (v : ℕ) → on_seat0 o (vt_in (value t (key.Sess s))) ≡ Some v → activate_on o s t ≡ request v t
activated-on None s t v e = cc
activated-on (Some seat) s t v e = on-seat (bytes_eq seat seat0) (vt_in (value t (key.Sess s))) v t (front seat s t) e

activated : (o : Option SessId) (t : Trail) (v : ℕ) → session_vt_of t o ≡ Some v → if_some activate o t ≡ request v t
unfolding activate
activated None t v e = cc
activated (Some s) t v e = activated-on (seat_of_session t s) s t v e

some-request : (o : Option ℕ) (v : ℕ) (t : Trail) → o ≡ Some v → if_some request o t ≡ request v t
some-request None v t e = cc
some-request (Some w) v t e = same-request w v t e

turned : (b : Bool) (o : Option ℕ) (v : ℕ) (t u : Trail) → cond b o None ≡ Some v → cond b (if_some request o t) u ≡ request v t
turned true o v t u e = some-request o v t e
turned false o v t u e = cc

turn-asked : (terminal : Option ℕ → List ℕ → Option ℕ) (session : Option SessId → List SessId → Option SessId) (seat : List ℕ) (t : Trail) (v : ℕ)
    → turn_vt terminal seat t ≡ Some v → turn terminal session seat t ≡ request v t
turn-asked terminal session seat t v e =
    turned (bytes_eq seat seat0) (terminal (Some (current_vt t)) (open_terminals t)) v t (if_some (front seat) (session (active_on t seat) (open_on t seat)) t) e

call-asked : (U : Setup) (c : ConnId) (x : Call) (t : Trail) (v : ℕ) → call_vt t x ≡ Some v → direct_call U c x t ≡ request v t
unfolding turn_to_next turn_to_previous
call-asked U c (call.Activate id) t v e = activated (session_of id) t v e
call-asked U c (call.ActivateOnSeat id seat) t v e = activated (session_of id) t v e
call-asked U c (call.SwitchTo seat vt) t v e = same-request vt v t e
call-asked U c (call.SwitchToNext seat) t v e = turn-asked (next_around nat_lt) (next_around session_lt) seat t v e
call-asked U c (call.SwitchToPrevious seat) t v e = turn-asked (previous_around nat_lt) (previous_around session_lt) seat t v e
call-asked U c _ t v e = absurd (let z : None ≡ Some v = e in cc)

hardware-asked : (U : Setup) (x : Hardware) (t : Trail) (v : ℕ) → asked_vt t (Happens x) ≡ Some v → happen U x t ≡ request v t
unfolding asked_vt
hardware-asked U (VtKey vt) t v e = same-request vt v t e
hardware-asked U _ t v e = absurd (let z : None ≡ Some v = e in cc)

pub asked : (U : Setup) (t : Trail) (e : Event) (v : ℕ) → asked_vt t e ≡ Some v → direct U e t ≡ request v t
unfolding asked_vt direct
asked U t (Calls r) v e = call-asked U r.who r.call t v e
asked U t (Happens x) v e = hardware-asked U x t v e
asked U t _ v e = absurd (let z : None ≡ Some v = e in cc)
