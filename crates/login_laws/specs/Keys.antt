-- How many keys an event sets for the first time.
use Rattle.std.specs.Prelude.{ℕ, ◌≡◌, ◌≤◌, ◌+◌, ◌*◌, Bool, true, false, if◌then◌else◌, length}
use Rattle.login_base.specs.declared.ids.ConnId.{ConnId}
use Rattle.login_model.specs.Facts.{is_number_fact}
use Rattle.login_model.specs.Legal.{stepped}
use Rattle.login_model.specs.Policy.{verdict}
use Rattle.login_model.specs.Trail.{Trail, value}
use Rattle.login_model.specs.Where.{is_connected, sessions}
use Rattle.login_model.specs.declared.call.Call.{Call}
use Rattle.login_model.specs.declared.call.Call.TheVariants as call
use Rattle.login_model.specs.declared.event.Event.{Event}
use Rattle.login_model.specs.declared.event.Event.TheVariants.{Call as Calls, Disconnect}
use Rattle.login_model.specs.declared.fact.Key.TheVariants as key
use Rattle.login_model.specs.declared.rule.Verdict.TheVariants.{Granted}
use Rattle.login_model.specs.declared.setup.Setup.{Setup}
use Rattle.login_laws.specs.Amounts.{OfOthers, OfTaken, Part, counts_in, keys_in}
use Rattle.login_laws.specs.Few.{TakeAtMost, most_taken}
use Rattle.login_laws.specs.Need.{IsDisconnect, may_switch}
pub use Rattle.login_laws.specs.Need.{asks_to_turn, call_turns, hardware_turns}
use Rattle.login_laws.specs.Sound.{IsSound}

-- whether a call sends a signal to all sessions of a user
abbrev pub call_kills : Call → Bool
call_kills (call.KillUser u signal) = true
call_kills _ = false

-- whether an event sends a signal to all sessions of a user
abbrev pub kills_all : Event → Bool
kills_all (Calls q) = call_kills q.call
kills_all _ = false

-- the keys of a device of a session that comes or goes: of a fresh handle its owner and that it is live, or that its pause
-- is awaited
abbrev pub keys_of_device : Part → ℕ
keys_of_device p = 2 * counts_in p OfTaken

-- the key of a signal to a session
abbrev pub keys_of_signal : Part → ℕ
keys_of_signal p = counts_in p OfOthers

-- the keys of a switch beside those of devices: the terminal, a getty
abbrev pub keys_of_switch : Part → ℕ
keys_of_switch p = 2 * counts_in p OfOthers

-- the keys that a pending switch may set for the first time when it completes, where a session has taken so many devices
-- at most
abbrev pub switch_keys_of : Part → ℕ → Trail → ℕ
switch_keys_of p n t = if is_number_fact (value t key.Pending) then keys_of_device p * n + keys_of_switch p else 0

abbrev pub switch_keys : Part → Trail → ℕ
switch_keys p t = switch_keys_of p (most_taken t) t

-- the keys of an event by itself, beside those of devices and of signals
abbrev pub keys_beside : ℕ
keys_beside = 4

-- the most keys of a part that an event other than a disconnect sets for the first time, with those of a switch that it
-- leaves pending, before which it may take one device more
abbrev pub most_keys : Part → Trail → Event → ℕ
most_keys p t e =
    keys_beside + (if kills_all e then keys_of_signal p * length (sessions t) else 0)
    + (if asks_to_turn e then keys_of_device p * most_taken t else 0)
    + (if may_switch t e then keys_of_device p * (most_taken t + 1) + keys_of_switch p else 0)

-- How many keys of a part events set for the first time, together with those that a pending switch may set.
pub record KeysAreKept (U : Setup) (p : Part) : Type 0 where
  -- another event sets no more than this
  pub other : (t : Trail) (e : Event) → IsSound U t → TakeAtMost (most_taken t) t → (IsDisconnect e → ⊥)
      → keys_in p (stepped U (verdict U t e) e t) + switch_keys p (stepped U (verdict U t e) e t) ≤ keys_in p t + most_keys p t e
  -- a disconnect sets none but those of the switch that was pending
  pub ends : (t : Trail) (c : ConnId) → IsSound U t → TakeAtMost (most_taken t) t → is_connected t c ≡ true
      → keys_in p (stepped U Granted (Disconnect c) t) + switch_keys p (stepped U Granted (Disconnect c) t) ≤ keys_in p t + switch_keys p t
