-- The stop makes no mark, and where a journal is not full there is room.
use Rattle.std.proofs.Common.{◌≡◌, ◌≤◌, ◌+◌, ◌*◌, ◌&&◌, not, ℕ, Bool, true, false, cond, Option, Some, None, List, length, refl, ap, ◌∙◌, arith}
use Rattle.std.specs.Str.{bytes_eq}
use Rattle.login_model.specs.Creating.{seat_of}
use Rattle.login_model.specs.Devices.{is_awaiting}
use Rattle.login_model.specs.Direct.{direct}
use Rattle.login_model.specs.Full.{controlled_sessions, marks_needed, taken_count}
use Rattle.login_model.specs.Legal.{stepped}
use Rattle.login_laws.specs.Need.{call_marks, hardware_marks, marks_over, marks_over_holders, marks_over_users, may_switch, most_marks, most_of_any, most_rise, need, seat_marks}
use Rattle.login_model.specs.Settle.{settle}
use Rattle.login_laws.specs.Sound.{IsHeld, IsSound}
use Rattle.login_model.specs.Facts.{is_number_fact}
use Rattle.login_model.specs.Switching.{complete, move_to, settle_switch}
use Rattle.login_model.specs.Trail.{Trail, put, value}
use Rattle.login_model.specs.Where.{active_on, connections, locks, open_sessions, sessions, users}
use Rattle.login_model.specs.Start.{seat0}
use Rattle.login_model.specs.declared.conf.Conf.{Conf}
use Rattle.login_model.specs.declared.event.Event.{Event}
use Rattle.login_model.specs.declared.event.Event.TheVariants.{Call as Calls, Hardware as Happens, Stop}
use Rattle.login_model.specs.declared.call.Call.{Call}
use Rattle.login_model.specs.declared.call.Call.TheVariants as call
use Rattle.login_model.specs.declared.hardware.Hardware.{Hardware}
use Rattle.login_model.specs.declared.hardware.Hardware.TheVariants.{Exit, Key, Remove, VtKey}
use Rattle.login_model.specs.declared.fact.Fact.{Fact}
use Rattle.login_model.specs.declared.fact.Fact.TheVariants.{Number, Operation}
use Rattle.login_base.specs.declared.ids.Millis.{Millis}
use Rattle.login_model.specs.Power.{is_over, settle_operation, start}
use Rattle.login_model.specs.declared.operation.OpKind.{OpKind}
use Rattle.login_model.specs.declared.operation.Operation.TheVariants.{Waiting, Running}
use Rattle.login_model.specs.declared.fact.Key.TheVariants as key
use Rattle.login_model.specs.declared.rule.Verdict.TheVariants.{Granted}
use Rattle.login_model.specs.declared.setup.Setup.{Setup}

-- what waits stays as it is
waits-at : (x : Fact) (conf : Conf) (t : Trail) → (is_number_fact x ≡ true → is_awaiting t ≡ true) → complete conf x t ≡ t
waits-at (Number v) conf t w = ap (λ (b : Bool). cond b t (move_to conf v (active_on t seat0) t)) (w refl)
waits-at _ conf t w = refl

switch-stays : (U : Setup) (t : Trail) → IsSound U t → settle_switch U.conf t ≡ t
unfolding settle_switch
switch-stays U t s = waits-at (value t key.Pending) U.conf t s.settled

-- what is held up stays as it is
held-at : (x : Fact) (U : Setup) (t : Trail) → ((k : OpKind) (since : Millis) (skip : Bool) → x ≡ Operation (Waiting k since skip) → IsHeld U t k since) → start U.conf x t ≡ t
held-at (Operation (Waiting k since skip)) U t w =
    (let h = w k since skip refl in
    let u = put key.Op (Operation (Running k)) t in
    ap (λ (b : Bool). cond (b && not (is_over U.conf t since)) t u) h.delayed ∙ ap (λ (b : Bool). cond (not b) t u) h.early)
held-at _ U t w = refl

operation-stays : (U : Setup) (t : Trail) → IsSound U t → settle_operation U.conf t ≡ t
unfolding settle_operation
operation-stays U t s = held-at (value t key.Op) U t s.held

pub settled-stays : (U : Setup) (t : Trail) → IsSound U t → settle U t ≡ t
settled-stays U t s = ap (settle_operation U.conf) (switch-stays U t s) ∙ operation-stays U t s

-- the stop makes no mark
pub stop-stays : (U : Setup) (t : Trail) → IsSound U t → stepped U Granted Stop t ≡ t
unfolding direct
stop-stays U t s = settled-stays U t s

room-at : (b : Bool) (m a c k o l n u : ℕ)
    → m + (a + c + 4 * k + 4 * o + 4 * l + cond b (8 * k + 8) 0) + (12 * k + 8 * n + 4 * u + 32) + (8 * k + 20) ≤ m + a + c + 4 * l + 4 * o + 32 * k + 8 * n + 4 * u + 64
room-at true m a c k o l n u = omega arith
room-at false m a c k o l n u = omega arith

-- both sums have room beside the marks
pub room : (t : Trail) (marks : ℕ) → marks + need t + most_of_any t + most_rise t ≤ marks_needed t marks
unfolding need
room t marks =
    room-at (is_number_fact (value t key.Pending)) marks (length (connections t)) (length (controlled_sessions t)) (taken_count t) (length (open_sessions t)) (length (locks t)) (length (sessions t)) (length (users t))

seat-less : (n : ℕ) (o : Option (List ℕ)) → seat_marks n o ≤ 6 * n
seat-less n None = omega arith
seat-less n (Some seat) = seat0-less (bytes_eq seat seat0) n
  where
    seat0-less : (b : Bool) (n : ℕ) → cond b 0 (6 * n) ≤ 6 * n
    seat0-less true n = omega arith
    seat0-less false n = omega arith

call-less : (n : ℕ) (t : Trail) (x : Call) → n ≤ taken_count t → call_marks n t x ≤ marks_over_holders t + 3 * taken_count t
call-less n t (call.Create x) l = (let a = seat-less n (seat_of x.seat) in omega arith)
call-less n t _ l = omega arith

hardware-less : (n : ℕ) (t : Trail) (x : Hardware) → n ≤ taken_count t → hardware_marks n t x ≤ marks_over_holders t + 3 * taken_count t
hardware-less n t (VtKey vt) l = omega arith
hardware-less n t (Exit id) l = omega arith
hardware-less n t (Remove d) l = omega arith
hardware-less n t (Key k) l = omega arith
hardware-less n t _ l = omega arith

over-less : (n : ℕ) (t : Trail) (e : Event) → n ≤ taken_count t → marks_over n t e ≤ marks_over_holders t + 3 * taken_count t + marks_over_users t
over-less n t (Calls q) l = (let a = call-less n t q.call l in omega arith)
over-less n t (Happens x) l = (let a = hardware-less n t x l in omega arith)
over-less n t _ l = omega arith

switch-less : (b : Bool) (n : ℕ) → cond b (6 * n) 0 ≤ 6 * n
switch-less true n = omega arith
switch-less false n = omega arith

-- no event makes more than any does
pub most-less : (n : ℕ) (t : Trail) (e : Event) → n ≤ taken_count t → most_marks n t e ≤ most_of_any t
most-less n t e l = let a = over-less n t e l in let b = switch-less (may_switch t e) n in omega arith
