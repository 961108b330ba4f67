-- The room of the ends of connections, as it changes with an event.
use Rattle.std.specs.Prelude.{ℕ, ◌≡◌, ◌==◌, ◌+◌, ◌<◌, ◌≤◌, Bool, true, false, length}
use Rattle.login_base.specs.declared.ids.ConnId.{ConnId}
use Rattle.login_model.specs.declared.event.Event.{Event}
use Rattle.login_model.specs.declared.event.Event.TheVariants.{Connect, Disconnect}
use Rattle.login_model.specs.declared.rule.Verdict.{Verdict}
use Rattle.login_model.specs.declared.rule.Verdict.TheVariants.{Granted}
use Rattle.login_model.specs.declared.setup.Setup.{Setup}
use Rattle.login_model.specs.Trail.{Trail}
use Rattle.login_laws.specs.Shares.{most_share_rise, share}
use Rattle.login_laws.specs.Sound.{IsSound}
use Rattle.login_core.specs.declared.board.Board.{Board}
use Rattle.login_core.specs.inner.Ledger.{end_room, next_room}

-- where a connection is not the other, its room is as it was
abbrev pub OthersStay : ConnId → (ConnId → ℕ) → (ConnId → ℕ) → Type 0
OthersStay d old new = (c : ConnId) → (c.0 == d.0) ≡ false → new c ≡ old c

-- an event begins: a connection that ends gives its room up
abbrev pub BeginsEnds : Event → (ConnId → ℕ) → (ConnId → ℕ) → Type 0
BeginsEnds (Disconnect d) old new = OthersStay d old new
BeginsEnds _ old new = (c : ConnId) → new c ≡ old c

-- and the marks of its entry may go as far as this
abbrev pub BeginsReach : Event → Board → ℕ → Type 0
BeginsReach (Disconnect d) m reach = (n : ℕ) → n ≤ end_room m.journal d → length m.draft.trail + n ≤ m.draft.far → length m.draft.trail + n ≤ reach
BeginsReach _ m reach = reach ≡ m.draft.reach

-- there is room for the end of a connection that comes
abbrev pub CanWelcome : Verdict → Event → ℕ → Type 0
CanWelcome Granted (Connect d u) next = 0 < next
CanWelcome _ _ next = Unit {0}

-- who comes gets the room that was made
abbrev pub WelcomesEnds : Verdict → Event → ℕ → (ConnId → ℕ) → (ConnId → ℕ) → Type 0
WelcomesEnds Granted (Connect d u) next old new = (next ≤ new d) × OthersStay d old new
WelcomesEnds _ _ next old new = (c : ConnId) → new c ≡ old c

-- what these marks leave is sound under some setup
pub record IsSoundHere (t : Trail) : Type 0 where
  pub setup : Setup
  pub sound : IsSound setup t

-- the ends of such connections have room for what they may make behind an event that concerns them
abbrev pub IsWide : (ConnId → Bool) → Board → Board → Type 0
IsWide such old new = (c : ConnId) → such c ≡ true → 0 < end_room old.journal c → share c old.draft.trail + most_share_rise c old.draft.trail ≤ end_room new.journal c

-- the room of a connection's end for as many marks as it may make behind an event that concerns it stays
abbrev pub KeepsEnds : Board → Board → Type 0
KeepsEnds old new = (c : ConnId) (n : ℕ) → n ≤ share c old.draft.trail + most_share_rise c old.draft.trail → n ≤ end_room old.journal c → n ≤ end_room new.journal c

-- no end has less room than it may need, and all else is as before
pub record IsWidened (old new : Board) : Type 0 where
  pub keeps : KeepsEnds old new
  pub next : next_room old.journal ≤ next_room new.journal
  pub items : new.journal.items ≡ old.journal.items
  pub entries : new.journal.entries ≡ old.journal.entries
  pub draft : new.draft ≡ old.draft
  pub idle : new.idle ≡ old.idle
