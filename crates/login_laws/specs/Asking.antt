-- Which terminal of seat0 an event asks for.
use Rattle.std.specs.Prelude.{ℕ, nat_lt, if◌then◌else◌, Option, Some, None, List}
use Rattle.std.specs.Str.{bytes_eq}
use Rattle.login_base.specs.SessionId.{session_of}
use Rattle.login_base.specs.declared.ids.SessId.{SessId}
use Rattle.login_model.specs.Start.{seat0}
use Rattle.login_model.specs.Trail.{Trail, value}
use Rattle.login_model.specs.Turning.{next_around, open_terminals, previous_around, vt_in}
use Rattle.login_model.specs.Where.{current_vt, seat_of_session}
use Rattle.login_model.specs.declared.call.Call.{Call}
use Rattle.login_model.specs.declared.call.Call.TheVariants as call
use Rattle.login_model.specs.declared.event.Event.{Event}
use Rattle.login_model.specs.declared.event.Event.TheVariants.{Call as Calls, Hardware as Happens}
use Rattle.login_model.specs.declared.fact.Key.TheVariants as key
use Rattle.login_model.specs.declared.hardware.Hardware.TheVariants.{VtKey}

-- a terminal, where the seat is seat0
abbrev pub on_seat0 : Option (List ℕ) → ℕ → Option ℕ
on_seat0 None v = None
on_seat0 (Some seat) v = if bytes_eq seat seat0 then Some v else None

-- the terminal of a session, where it is on seat0
abbrev pub session_vt : Trail → SessId → Option ℕ
session_vt t s = on_seat0 (seat_of_session t s) (vt_in (value t (key.Sess s)))

abbrev pub session_vt_of : Trail → Option SessId → Option ℕ
session_vt_of t None = None
session_vt_of t (Some s) = session_vt t s

-- the terminal that a turn of seat0 goes to
abbrev pub turn_vt : (Option ℕ → List ℕ → Option ℕ) → List ℕ → Trail → Option ℕ
turn_vt terminal seat t = if bytes_eq seat seat0 then terminal (Some (current_vt t)) (open_terminals t) else None

-- the terminal of seat0 that a call asks for, if it is granted
abbrev pub call_vt : Trail → Call → Option ℕ
call_vt t (call.Activate id) = session_vt_of t (session_of id)
call_vt t (call.ActivateOnSeat id seat) = session_vt_of t (session_of id)
call_vt t (call.SwitchTo seat vt) = Some vt
call_vt t (call.SwitchToNext seat) = turn_vt (next_around nat_lt) seat t
call_vt t (call.SwitchToPrevious seat) = turn_vt (previous_around nat_lt) seat t
call_vt t _ = None

-- the terminal of seat0 that an event asks for, if it is granted
unfoldable pub asked_vt : Trail → Event → Option ℕ
asked_vt t (Calls r) = call_vt t r.call
asked_vt t (Happens (VtKey vt)) = Some vt
asked_vt t _ = None
