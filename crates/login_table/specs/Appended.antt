-- Marks that are appended behind facts, and not yet applied to them.
use Rattle.std.specs.Prelude.{ℕ, ◌≡◌, ◌+◌, ◌≤◌, ◌++◌, List, length}
use Rattle.std.specs.List.{AllByRecursion}
use Rattle.login_model.specs.Trail.{Trail, after}
use Rattle.login_model.specs.declared.fact.Fact.{Fact}
use Rattle.login_model.specs.declared.fact.Fact.TheVariants.{Absent, Flag, Number, Handle, Owned, Operation}
use Rattle.login_model.specs.declared.fact.Owner.TheVariants.{Device}
use Rattle.login_model.specs.declared.mark.Mark.{Mark}
use Rattle.login_model.specs.declared.mark.Mark.TheVariants.{Set, Say}

-- the facts that marks behind others set: nothing, a flag, a number, a handle, that a handle is a device's, an operation.
-- None has memory of its own, so that a second one is made without any, and none makes a connection a controller, the
-- owner of a fifo or the holder of a lock
abbrev pub IsPlain : Fact → Type 0
IsPlain Absent = Unit {0}
IsPlain (Flag on) = Unit {0}
IsPlain (Number n) = Unit {0}
IsPlain (Handle h) = Unit {0}
IsPlain (Owned (Device c s d)) = Unit {0}
IsPlain (Operation o) = Unit {0}
IsPlain _ = ⊥

-- a mark that sets such a fact, or none
abbrev pub SetsPlain : Mark → Type 0
SetsPlain (Set k x) = IsPlain x
SetsPlain (Say w n) = Unit {0}

-- a list has further marks at its end, and no others: behind these facts they do what a procedure does
pub record Appends (f : Trail → Trail) (t : Trail) (old new : List Mark) : Type 0 where
  pub marks : List Mark
  pub items : new ≡ old ++ marks
  pub same : after t marks ≡ f t
  pub plain : AllByRecursion SetsPlain marks

-- so much room is enough for the marks of a procedure
abbrev pub HasRoom : (Trail → Trail) → Trail → ℕ → Type 0
HasRoom f t spare = length (f t) ≤ length t + spare

-- no more room is used than the marks of a procedure take
abbrev pub LeavesRoom : (Trail → Trail) → Trail → ℕ → ℕ → Type 0
LeavesRoom f t before now = length t + before ≤ length (f t) + now
