-- When an operation begins to run.
use Rattle.std.specs.Prelude.{ℕ, ◌≡◌, ◌⊎◌, zero, suc, Bool, true, false, List, [], ◌∷◌, ◌++◌, drop}
use Rattle.std.specs.List.{AllByRecursion}
use Rattle.login_base.specs.declared.ids.Millis.{Millis}
use Rattle.login_model.specs.declared.call.Call.TheVariants as call
use Rattle.login_model.specs.declared.conf.KeyAction.TheVariants as does
use Rattle.login_model.specs.declared.event.Event.{Event}
use Rattle.login_model.specs.declared.event.Event.TheVariants.{Call as Calls, Hardware as Happens}
use Rattle.login_model.specs.declared.fact.Fact.TheVariants as fact
use Rattle.login_model.specs.declared.fact.Key.TheVariants as key
use Rattle.login_model.specs.declared.hardware.Hardware.TheVariants.{Key as HardKeyPressed}
use Rattle.login_model.specs.declared.mark.Entry.{Entry}
use Rattle.login_model.specs.declared.mark.Mark.{Mark}
use Rattle.login_model.specs.declared.mark.Mark.TheVariants.{Set}
use Rattle.login_model.specs.declared.operation.OpKind.{OpKind}
use Rattle.login_model.specs.declared.operation.Operation.TheVariants.{Waiting, Running}
use Rattle.login_model.specs.declared.rule.Verdict.TheVariants.{Granted}
use Rattle.login_model.specs.declared.setup.Setup.{Setup}
use Rattle.login_model.specs.Marks.{cut_at, trail_of, with_marks}
use Rattle.login_model.specs.Policy.{may_pass}
use Rattle.login_model.specs.Power.{is_blocked, is_delayed, is_over, key_action, passes_locks}
use Rattle.login_model.specs.Trail.{Trail, after, value}
use Rattle.login_laws.specs.Sound.{AreHeld}

-- an event asks for an operation: a client by its call, or a key
abbrev pub AsksFor : Setup → Trail → Event → OpKind → Type 0
AsksFor U t (Calls r) k = r.call ≡ call.Power k
AsksFor U t (Happens (HardKeyPressed p)) k = key_action U t p ≡ does.Operation k
AsksFor U t _ k = ⊥

-- who asks is let pass the locks that block an operation: a client by the policy, a key by the configuration
abbrev pub MayPass : Setup → Trail → Event → OpKind → Type 0
MayPass U t (Calls r) k = may_pass U t r.who k ≡ true
MayPass U t (Happens (HardKeyPressed p)) k = passes_locks U.conf p ≡ true
MayPass U t _ k = ⊥

-- the setting that makes an operation wait, past the locks that block it or not
abbrev pub waits : OpKind → Millis → Bool → Mark
waits k since skip = Set key.Op (fact.Operation (Waiting k since skip))

-- the setting that makes it run
abbrev pub runs : OpKind → Mark
runs k = Set key.Op (fact.Operation (Running k))

-- a mark stands at a place of these, which are counted from 0
abbrev pub IsAt : ℕ → List Mark → Mark → Type 0
IsAt n [] m = ⊥
IsAt zero (x ∷ xs) m = x ≡ m
IsAt (suc n) (x ∷ xs) m = IsAt n xs m

-- a mark leaves the operation as it is
abbrev pub LeavesOperation : Mark → Type 0
LeavesOperation (Set key.Op x) = ⊥
LeavesOperation _ = Unit {0}

abbrev pub LeaveOperation : List Mark → Type 0
LeaveOperation ms = AllByRecursion LeavesOperation ms

-- an operation that waits behind these entries was asked for by one of them, which was granted: its setting is the last
-- of the operation, and it is past the locks that block the operation only if who asked may pass them
pub record WasAsked (U : Setup) (journal : List Entry) (k : OpKind) (since : Millis) (skip : Bool) : Type 0 where
  pub before : List Entry
  pub entry : Entry
  pub later : List Entry
  pub journal_is : journal ≡ before ++ entry ∷ later
  pub granted : entry.verdict ≡ Granted
  pub asks : AsksFor U (trail_of before) entry.event k
  pub passes : skip ≡ true → MayPass U (trail_of before) entry.event k
  pub place : ℕ
  pub asked : IsAt place entry.marks (waits k since skip)
  pub last : LeaveOperation (drop (suc place) entry.marks)
  pub last_of_all : AllByRecursion (λ (e : Entry). LeaveOperation e.marks) later

-- an operation may begin, after these marks: it waits; no lock blocks it, or it was asked for past the locks that
-- do; and no lock delays it, or it has waited for as long as locks may make it
pub record MayBegin (U : Setup) (t : Trail) (k : OpKind) : Type 0 where
  pub since : Millis
  pub skip : Bool
  pub waited : value t key.Op ≡ fact.Operation (Waiting k since skip)
  pub unblocked : (skip ≡ true) ⊎ (is_blocked t k ≡ false)
  pub undelayed : (is_delayed t k ≡ false) ⊎ (is_over U.conf t since ≡ true)

-- an operation begins in the next entry, at the mark of this place
pub record Begins (U : Setup) (journal : List Entry) (e : Entry) (n : ℕ) (k : OpKind) : Type 0 where
  pub may : MayBegin U (with_marks journal e n) k
  pub asked : WasAsked U (journal ++ cut_at n e ∷ []) k may.since may.skip

-- what the next entry does to the operation
pub record IsPowered (U : Setup) (journal : List Entry) (e : Entry) : Type 0 where
  -- it begins only where it may
  pub begins : (n : ℕ) (k : OpKind) → IsAt n e.marks (runs k) → Begins U journal e n k
  -- behind the entry it waits only while a lock delays it, and not for as long as locks may make it
  pub held : AreHeld U (after (trail_of journal) e.marks)
