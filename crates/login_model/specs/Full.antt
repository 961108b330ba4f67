-- When the journal is full.
use Rattle.std.specs.Prelude.{ℕ, ◌+◌, ◌*◌, nat_lt, if◌then◌else◌, Option, Some, None, List, [], ◌∷◌, length, filter}
use Rattle.login_base.specs.declared.ids.SessId.{SessId}
use Rattle.login_model.specs.declared.fact.Key.TheVariants.{Ctl}
use Rattle.login_model.specs.declared.mark.Entry.{Entry}
use Rattle.login_model.specs.declared.fullness.Fullness.{Fullness}
use Rattle.login_model.specs.declared.fullness.Fullness.TheVariants.{Entries, Marks}
use Rattle.login_model.specs.declared.event.Event.{Event}
use Rattle.login_model.specs.declared.event.Event.TheVariants.{Connect, Disconnect, Stop}
use Rattle.login_model.specs.declared.setup.Setup.{Setup}
use Rattle.login_model.specs.Trail.{Trail, value}
use Rattle.login_model.specs.Where.{connections, locks, open_sessions, sessions, users}
use Rattle.login_model.specs.Devices.{taken_devices}
use Rattle.login_model.specs.Policy.{verdict}
pub use Rattle.login_model.specs.Reading.{is_granted}
pub use Rattle.login_model.specs.Facts.{is_controlled_fact}
use Rattle.login_model.specs.Legal.{trail_of}
use Rattle.login_model.specs.Limits.{entries_limit, marks_limit}

-- the sessions that some connection controls
abbrev pub controlled_sessions : Trail → List SessId
controlled_sessions t = filter (λ s. is_controlled_fact (value t (Ctl s))) (sessions t)

-- how many devices these sessions have taken
unfoldable pub taken_by : Trail → List SessId → ℕ
taken_by t [] = 0
taken_by t (s ∷ ss) = length (taken_devices t s) + taken_by t ss

-- how many pairs of a session and a device there are that it has taken
abbrev pub taken_count : Trail → ℕ
taken_count t = taken_by t (sessions t)

abbrev pub mark_count : List Entry → ℕ
mark_count [] = 0
mark_count (e ∷ es) = length e.marks + mark_count es

-- the connections that are connected after an event
abbrev pub connected_after : Setup → Trail → Event → ℕ
connected_after U t (Connect c u) = if is_granted (verdict U t (Connect c u)) then length (connections t) + 1 else length (connections t)
connected_after U t e = length (connections t)

-- the entries with the event's, one for each connection's end, and the stop's
abbrev pub entries_needed : Setup → List Entry → Event → ℕ
entries_needed U before e = length before + connected_after U (trail_of before) e + 2

-- what is kept for marks beside the sums over what stands
abbrev pub marks_in_reserve : ℕ
marks_in_reserve = 64

-- the marks with those that the event and all ends may make, counted before it
abbrev pub marks_needed : Trail → ℕ → ℕ
marks_needed t marks =
    marks + length (connections t) + length (controlled_sessions t) + 4 * length (locks t) + 4 * length (open_sessions t)
    + 32 * taken_count t + 8 * length (sessions t) + 4 * length (users t) + marks_in_reserve

-- the first count that is above its limit
abbrev pub over : ℕ → (ℕ → Fullness) → ℕ → Option Fullness → Option Fullness
over limit what count other = if nat_lt limit count then Some (what count) else other

-- whether the journal is full for an event, and of what: of entries, then of marks; it never is for a
-- disconnect or the stop
unfoldable pub full : Setup → List Entry → Event → Option Fullness
full U before (Disconnect c) = None
full U before Stop = None
full U before e =
    over entries_limit Entries (entries_needed U before e)
    (over marks_limit Marks (marks_needed (trail_of before) (mark_count before)) None)
