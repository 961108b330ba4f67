-- When seat0 goes from one virtual terminal to another.
use Rattle.std.specs.Prelude.{ℕ, ◌≡◌, ◌⊎◌, ◌↔◌, true, false, Some, List}
use Rattle.login_base.specs.declared.ids.DevNo.{DevNo}
use Rattle.login_base.specs.declared.ids.SessId.{SessId}
use Rattle.login_laws.specs.Asking.{asked_vt}
use Rattle.login_model.specs.Devices.{is_awaiting}
use Rattle.login_laws.specs.Powered.{IsAt}
use Rattle.login_laws.specs.Sound.{IsAwaited}
use Rattle.login_model.specs.Direct.{direct}
use Rattle.login_model.specs.Facts.{is_number_fact}
use Rattle.login_model.specs.Switching.{request}
use Rattle.login_model.specs.Trail.{Trail, value}
use Rattle.login_model.specs.Where.{current_vt, is_set}
use Rattle.login_model.specs.declared.event.Event.{Event}
use Rattle.login_model.specs.declared.fact.Fact.{Fact}
use Rattle.login_model.specs.declared.fact.Fact.TheVariants as fact
use Rattle.login_model.specs.declared.fact.Key.TheVariants as key
use Rattle.login_model.specs.declared.mark.Mark.{Mark}
use Rattle.login_model.specs.declared.mark.Mark.TheVariants.{Set}
use Rattle.login_model.specs.declared.setup.Setup.{Setup}

-- an event asks for another terminal than the current one
pub record AsksOther (t : Trail) (e : Event) (v : ℕ) : Type 0 where
  pub asks : asked_vt t e ≡ Some v
  pub other : v ≡ current_vt t → ⊥

-- an entry may set the terminal to this fact: where it ends the last pause, unless it asks for the current terminal, or
-- where it asks for another and nothing has to be awaited
abbrev pub MaySet : Trail → Event → Trail → Fact → Type 0
MaySet before e now x = (is_awaiting now ≡ false)
    × (((is_awaiting before ≡ true) × (asked_vt before e ≡ Some (current_vt before) → ⊥) × (x ≡ value before key.Pending))
    ⊎ ((v : ℕ) × AsksOther before e v × (x ≡ fact.Number v)))

-- what an entry does to a switch by its marks, behind which the facts are those of now
pub record IsSwitched (U : Setup) (before : Trail) (e : Event) (marks : List Mark) (now : Trail) : Type 0 where
  -- an event that asks for a terminal requests it
  pub requests : (v : ℕ) → asked_vt before e ≡ Some v → direct U e before ≡ request v before
  -- a switch is pending exactly while some pause is awaited
  pub pending : (is_number_fact (value now key.Pending) ≡ true) ↔ (is_awaiting now ≡ true)
  -- each of them is that of a live handle of seat0's active session
  pub awaited : (s : SessId) (d : DevNo) → is_set (value now (key.Awaited s d)) ≡ true → IsAwaited now s d
  -- the entry that ends the last pause completes the switch, unless it asks for the current terminal
  pub completes : is_awaiting before ≡ true → is_awaiting now ≡ false → (asked_vt before e ≡ Some (current_vt before) → ⊥)
      → value now key.Vt ≡ value before key.Pending
  -- no other entry sets the terminal, wherever among its marks, be it back again
  pub sets : (n : ℕ) (x : Fact) → IsAt n marks (Set key.Vt x) → MaySet before e now x
  -- so the terminal changes in no other entry: in one that ends the last pause, unless it asks for the current
  -- terminal, or where another is asked for and nothing has to be awaited
  pub terminal_changes : (value now key.Vt ≡ value before key.Vt → ⊥) → (is_awaiting now ≡ false)
      × (((is_awaiting before ≡ true) × (asked_vt before e ≡ Some (current_vt before) → ⊥) × (value now key.Vt ≡ value before key.Pending))
      ⊎ ((v : ℕ) × AsksOther before e v × (value now key.Vt ≡ fact.Number v)))
