-- The room that the ends of connections need, and how many marks an event makes.
use Rattle.std.specs.Prelude.{ℕ, ◌≡◌, ◌≤◌, ◌+◌, ◌*◌, ◌||◌, Bool, true, false, if◌then◌else◌, Option, Some, None, List, length}
use Rattle.std.specs.List.{AllByRecursion}
use Rattle.std.specs.Str.{bytes_eq}
use Rattle.login_base.specs.declared.ids.ConnId.{ConnId}
use Rattle.login_model.specs.Creating.{seat_of}
use Rattle.login_model.specs.Full.{controlled_sessions, mark_count, marks_needed, taken_count}
use Rattle.login_model.specs.Legal.{IsLegal, IsLegalAfter, stepped, trail_of}
use Rattle.login_model.specs.Policy.{verdict}
use Rattle.login_model.specs.Start.{seat0}
use Rattle.login_laws.specs.Few.{TakeAtMost}
use Rattle.login_laws.specs.Sound.{IsSound}
use Rattle.login_model.specs.Facts.{is_number_fact}
use Rattle.login_model.specs.Trail.{Trail, value}
use Rattle.login_model.specs.Where.{connections, is_connected, locks, open_sessions, sessions, users}
use Rattle.login_model.specs.declared.event.Event.{Event}
use Rattle.login_model.specs.declared.event.Event.TheVariants.{Call as Calls, Disconnect, Hardware as Happens, Stop, Tick}
use Rattle.login_model.specs.declared.call.Call.{Call}
use Rattle.login_model.specs.declared.call.Call.TheVariants as call
use Rattle.login_model.specs.declared.hardware.Hardware.{Hardware}
use Rattle.login_model.specs.declared.hardware.Hardware.TheVariants.{Exit, Key, Remove, VtKey}
use Rattle.login_model.specs.declared.mark.Entry.{Entry}
use Rattle.login_model.specs.declared.rule.Verdict.TheVariants.{Granted}
use Rattle.login_model.specs.declared.setup.Setup.{Setup}
use Rattle.login_model.specs.declared.fact.Key.TheVariants as key

-- the marks of a switch that may complete
abbrev pub switch_need : Trail → ℕ
switch_need t = if is_number_fact (value t key.Pending) then 8 * taken_count t + 8 else 0

-- the marks that the disconnects of all connections may make, with what they settle
unfoldable pub need : Trail → ℕ
need t =
    length (connections t) + length (controlled_sessions t) + 4 * taken_count t
    + 4 * length (open_sessions t) + 4 * length (locks t) + switch_need t

-- the marks that an event may make beside those of going over sessions, what they have taken and users
abbrev pub marks_beside : ℕ
marks_beside = 32

-- whether a call asks for another active session of a seat, of seat0 by its terminal
abbrev pub call_turns : Call → Bool
call_turns (call.Activate id) = true
call_turns (call.ActivateOnSeat id seat) = true
call_turns (call.SwitchTo seat vt) = true
call_turns (call.SwitchToNext seat) = true
call_turns (call.SwitchToPrevious seat) = true
call_turns _ = false

-- whether the hardware does
abbrev pub hardware_turns : Hardware → Bool
hardware_turns (VtKey vt) = true
hardware_turns _ = false

-- whether an event asks for another active session of a seat
abbrev pub asks_to_turn : Event → Bool
asks_to_turn (Calls q) = call_turns q.call
asks_to_turn (Happens x) = hardware_turns x
asks_to_turn _ = false

-- whether a switch may complete behind an event: one is pending, or the event may ask for one
abbrev pub may_switch : Trail → Event → Bool
may_switch t e = is_number_fact (value t key.Pending) || asks_to_turn e

-- the most marks of going over all users
abbrev pub marks_over_users : Trail → ℕ
marks_over_users t = 4 * length (users t)

-- and over all that is taken and all sessions as well
abbrev pub marks_over_all : Trail → ℕ
marks_over_all t = 12 * taken_count t + 8 * length (sessions t) + marks_over_users t

-- the most marks of what one or two sessions have taken, where each has taken so many devices at most
abbrev pub marks_over_devices : ℕ → ℕ
marks_over_devices n = 6 * n

-- of closing each of some sessions, or of taking a device from all of them
abbrev pub marks_over_holders : Trail → ℕ
marks_over_holders t = 3 * taken_count t + 8 * length (sessions t)

-- of coming to a seat: on any but seat0 the session that was active loses its devices
abbrev pub seat_marks : ℕ → Option (List ℕ) → ℕ
seat_marks n None = 0
seat_marks n (Some seat) = if bytes_eq seat seat0 then 0 else marks_over_devices n

-- of what a call goes over by itself
abbrev pub call_marks : ℕ → Trail → Call → ℕ
call_marks n t (call.Create x) = seat_marks n (seat_of x.seat)
call_marks n t (call.Activate id) = marks_over_devices n
call_marks n t (call.ActivateOnSeat id seat) = marks_over_devices n
call_marks n t (call.SwitchTo seat vt) = marks_over_devices n
call_marks n t (call.SwitchToNext seat) = marks_over_devices n
call_marks n t (call.SwitchToPrevious seat) = marks_over_devices n
call_marks n t (call.Terminate id) = marks_over_devices n
call_marks n t (call.Control id force) = marks_over_devices n
call_marks n t (call.Uncontrol id) = marks_over_devices n
call_marks n t (call.Close h) = marks_over_devices n
call_marks n t call.LockAll = length (sessions t)
call_marks n t call.UnlockAll = length (sessions t)
call_marks n t (call.KillUser u signal) = length (sessions t)
call_marks n t (call.TerminateUser u) = marks_over_holders t
call_marks n t (call.TerminateSeat seat) = marks_over_holders t
call_marks n t _ = 0

-- of what the hardware does
abbrev pub hardware_marks : ℕ → Trail → Hardware → ℕ
hardware_marks n t (VtKey vt) = marks_over_devices n
hardware_marks n t (Exit id) = marks_over_devices n
hardware_marks n t (Key k) = length (sessions t)
hardware_marks n t (Remove d) = marks_over_holders t
hardware_marks n t _ = 0

-- of what an event that is no disconnect goes over by itself
abbrev pub marks_over : ℕ → Trail → Event → ℕ
marks_over n t (Calls q) = call_marks n t q.call
marks_over n t (Happens x) = hardware_marks n t x
marks_over n t (Tick m) = marks_over_users t
marks_over n t _ = 0

-- the most marks that an event makes which is no disconnect, with those of a switch that may complete behind it, where
-- each session has taken so many devices at most
abbrev pub most_marks : ℕ → Trail → Event → ℕ
most_marks n t e = marks_over n t e + (if may_switch t e then marks_over_devices n else 0) + marks_beside

-- and that any of them makes
abbrev pub most_of_any : Trail → ℕ
most_of_any t = marks_over_all t + marks_beside

-- by how much it may raise the need beside what is taken
abbrev pub rise_beside : ℕ
rise_beside = 20

-- the most by which it raises the need
abbrev pub most_rise : Trail → ℕ
most_rise t = 8 * taken_count t + rise_beside

abbrev pub IsDisconnect : Event → Type 0
IsDisconnect (Disconnect c) = Unit {0}
IsDisconnect _ = ⊥

-- an event makes at most so many marks, whatever it is, raises the need by at most so much, and takes one device at most
pub record IsWithin (before after : Trail) : Type 0 where
  pub marks : length after ≤ length before + most_of_any before
  pub need_rises : need after ≤ need before + most_rise before
  pub takes : taken_count after ≤ taken_count before + 1

-- The facts that keep room for every end, and the sum that `full` looks at.
pub record RoomIsKept (U : Setup) : Type 0 where
  -- another event stays within both sums
  pub other : (t : Trail) (e : Event) → IsSound U t → (IsDisconnect e → ⊥) → IsWithin t (stepped U (verdict U t e) e t)
  -- and makes no more marks than what it goes over wants, where no session has taken more devices than so many
  pub few : (n : ℕ) (t : Trail) (e : Event) → IsSound U t → TakeAtMost n t → (IsDisconnect e → ⊥)
      → length (stepped U (verdict U t e) e t) ≤ length t + most_marks n t e
  -- a disconnect makes at most as many marks as the need falls by
  pub ends : (t : Trail) (c : ConnId) → IsSound U t → is_connected t c ≡ true
      → length (stepped U Granted (Disconnect c) t) + need (stepped U Granted (Disconnect c) t) ≤ length t + need t
  -- a disconnect takes no device
  pub ends_take : (t : Trail) (c : ConnId) → IsSound U t → is_connected t c ≡ true → taken_count (stepped U Granted (Disconnect c) t) ≤ taken_count t
  -- the stop makes no mark
  pub stop : (t : Trail) → IsSound U t → stepped U Granted Stop t ≡ t
  -- where the journal is not full, both sums have room beside the marks
  pub room : (t : Trail) (marks : ℕ) → marks + need t + most_of_any t + most_rise t ≤ marks_needed t marks

-- entries that are ends of connections, and nothing else
abbrev pub AreEnds : List Entry → Type 0
AreEnds es = AllByRecursion (λ (e : Entry). IsDisconnect e.event) es

-- Behind every legal journal: whichever connections end, one after the other, their ends together make no more marks
-- than the need before them.
abbrev pub EndsShareNeed : Type 0
EndsShareNeed = (U : Setup) (before ends : List Entry) → IsLegal U before → IsLegalAfter U before ends → AreEnds ends → mark_count ends ≤ need (trail_of before)
