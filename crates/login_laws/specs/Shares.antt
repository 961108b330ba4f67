-- The room of each connection's end.
use Rattle.std.specs.Prelude.{ℕ, ◌≡◌, ◌≤◌, ◌+◌, ◌*◌, ◌==◌, ◌&&◌, ◌||◌, Bool, false, if◌then◌else◌, Option, Some, None, List, length, sum_by}
use Rattle.std.specs.List.{AllByRecursion}
use Rattle.login_base.specs.SessionId.{session_of}
use Rattle.login_base.specs.declared.ids.ConnId.{ConnId}
use Rattle.login_base.specs.declared.ids.SessId.{SessId}
use Rattle.login_model.specs.Direct.{controlled_by, kept_open_by, locks_of, owns_fifo}
use Rattle.login_model.specs.Facts.{is_number_fact}
use Rattle.login_model.specs.Full.{taken_by, taken_count}
use Rattle.login_model.specs.Legal.{IsLegal, IsLegalAfter, IsPlaced, stepped, trail_of}
use Rattle.login_model.specs.Policy.{controls, verdict}
use Rattle.login_model.specs.Start.{seat0}
use Rattle.login_model.specs.Trail.{Trail, value}
use Rattle.login_model.specs.Where.{active_on, connections}
use Rattle.login_model.specs.declared.event.Event.{Event}
use Rattle.login_model.specs.declared.call.Call.{Call}
use Rattle.login_model.specs.declared.call.Call.TheVariants as call
use Rattle.login_model.specs.declared.event.Event.TheVariants.{Call as Calls, Disconnect}
use Rattle.login_model.specs.declared.fact.Key.TheVariants as key
use Rattle.login_model.specs.declared.mark.Entry.{Entry}
use Rattle.login_model.specs.declared.rule.Verdict.TheVariants.{Granted}
use Rattle.login_model.specs.declared.setup.Setup.{Setup}
use Rattle.login_laws.specs.Need.{AreEnds, IsDisconnect, need}
use Rattle.login_laws.specs.Sound.{IsSound}

-- whether a connection controls the session that there may be, or keeps it open
abbrev pub has_session : Trail → ConnId → Option SessId → Bool
has_session t c (Some s) = controls t c s || owns_fifo t c s
has_session t c None = false

-- the marks of a switch that may complete at a connection's end, since its pauses are those of seat0's active session:
-- four for each device that is taken (not awaited where it is given back; a fresh handle that is live and taken, of which
-- the controller is told), and four besides (the terminal, that no switch is pending, a getty, all are told)
abbrev pub switch_share : ConnId → Trail → ℕ
switch_share c t = if is_number_fact (value t key.Pending) && has_session t c (active_on t seat0) then 4 * taken_count t + 4 else 0

-- the marks that a connection's end may make, with what it settles: one that it is gone; one for a session that it
-- controls, which has no controller then; four for one that it keeps open, which has none, closes and is not active on its
-- seat, as all are told; two for a lock, which is gone, and an operation may run; two for a device of such sessions, which is
-- dead and not taken
unfoldable pub share : ConnId → Trail → ℕ
share c t =
    1 + length (controlled_by t c) + 4 * length (kept_open_by t c) + 2 * length (locks_of t c)
    + 2 * taken_by t (controlled_by t c) + 2 * taken_by t (kept_open_by t c) + switch_share c t

-- the shares of the connected are no more than all ends need together
abbrev pub SharesFit : Type 0
SharesFit = (t : Trail) → sum_by (λ (c : ConnId). share c t) (connections t) ≤ need t

-- Each connection's end fits its share, whichever ends come first.
pub record EndsHaveShares (U : Setup) : Type 0 where
  -- with what it settles, it makes no more marks than its share
  pub fits : (t : Trail) (c : ConnId) → IsSound U t → length (stepped U Granted (Disconnect c) t) ≤ length t + share c t
  -- the end of a connection raises no share
  pub others : (t : Trail) (c d : ConnId) → IsSound U t → share c (stepped U Granted (Disconnect d) t) ≤ share c t

-- the marks that an event may make which is the end of a connection: its share
abbrev pub end_share : Event → Trail → ℕ
end_share (Disconnect c) t = share c t
end_share _ t = 0

-- Behind every legal journal: whichever connections end, one after the other, the end of each makes no more marks
-- than its share before all of them.
abbrev pub EachEndFits : Type 0
EachEndFits = (U : Setup) (before ends : List Entry) → IsLegal U before → IsLegalAfter U before ends → AreEnds ends
    → AllByRecursion (λ (e : Entry). length e.marks ≤ end_share e.event (trail_of before)) ends

-- ---- other events

-- the session for which a call takes a device
abbrev pub taken_for : Call → Option SessId
taken_for (call.TakeDevice id d) = session_of id
taken_for _ = None

-- whether an event is a connection's call, or takes a device of a session that the connection has
abbrev pub touches : Trail → Event → ConnId → Bool
touches t (Calls q) c = q.who.0 == c.0 || has_session t c (taken_for q.call)
touches t _ c = false

-- whether an event concerns a connection: one that it touches, or that has seat0's active session
abbrev pub concerns : Trail → Event → ConnId → Bool
concerns t e c = touches t e c || has_session t c (active_on t seat0)

-- what an event raises the share of who has seat0's active session by at most, beside four for each device that is taken
abbrev pub share_rise_beside : ℕ
share_rise_beside = 12

-- by how much at most: a switch may become pending
abbrev pub active_share_rise : Trail → ℕ
active_share_rise t = 4 * taken_count t + share_rise_beside

-- by how much at most it raises that of another connection: a session, a lock or a device more
abbrev pub other_share_rise : ℕ
other_share_rise = 4

-- the most by which an event raises a share
abbrev pub most_share_rise : ConnId → Trail → ℕ
most_share_rise c t = if has_session t c (active_on t seat0) then active_share_rise t else other_share_rise

-- An event in place behind a legal journal that is no disconnect
pub record SharesMove (U : Setup) : Type 0 where
  -- raises the share of no connection that it doesn't concern
  pub spares : (before : List Entry) (e : Event) (c : ConnId) → IsLegal U before → IsPlaced before e → (IsDisconnect e → ⊥) → concerns (trail_of before) e c ≡ false
      → share c (stepped U (verdict U (trail_of before) e) e (trail_of before)) ≤ share c (trail_of before)
  -- and no share by more than this
  pub rises : (before : List Entry) (e : Event) (c : ConnId) → IsLegal U before → IsPlaced before e → (IsDisconnect e → ⊥)
      → share c (stepped U (verdict U (trail_of before) e) e (trail_of before)) ≤ share c (trail_of before) + most_share_rise c (trail_of before)
