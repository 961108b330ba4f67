-- What facts with appended marks behind them are seen as, and what it is for a procedure to append its marks.
use Rattle.std.specs.Prelude.{ℕ, ◌+◌, ◌≤◌, ◌∷◌, List, [], drop, length}
use Rattle.std.specs.List.{AllByRecursion}
use Rattle.login_base.specs.Room.{Room}
use Rattle.login_base.specs.declared.ids.DevNo.{DevNo}
use Rattle.login_model.specs.Fresh.{gives}
use Rattle.login_model.specs.Trail.{Trail}
use Rattle.login_model.specs.declared.mark.Mark.{Mark}
use Rattle.login_model.specs.declared.mark.Mark.TheVariants.{Set, Say}
use Rattle.login_model.specs.declared.mark.Notice.{Notice}
use Rattle.login_model.specs.declared.mark.Whom.{Whom}
use Rattle.login_table.specs.Appended.{SetsPlain}

-- the marks for which the facts stand, and those with the appended ones behind them, both the newest first; what was in
-- the list before; and how many marks there may be in all
pub record AheadState : Type 0 where
  pub before : Trail
  pub kept : List Mark
  pub trail : Trail
  pub reach : ℕ

-- no mark is appended yet, and there is the room of a list
abbrev pub beginning : Trail → Room Mark → AheadState
beginning t room = record { before = t; kept = room.items; trail = t; reach = length t + room.spare }

-- the marks so far are others, and all else is the same
abbrev pub with_trail : AheadState → Trail → AheadState
with_trail a t = record a { trail = t }

-- what is seen after a procedure has appended its marks
abbrev pub marked_by : (Trail → Trail) → AheadState → AheadState
marked_by f a = with_trail a (f a.trail)

-- there is room for the marks of a procedure
abbrev pub Fits : (Trail → Trail) → AheadState → Type 0
Fits f a = length (f a.trail) ≤ a.reach

-- what has to hold behind what is done with each device held before it
abbrev pub Suited : (Trail → Type 0) → (DevNo → Trail → Trail) → Type 0
Suited S f = (d : DevNo) (t : Trail) → S (f d t) → S t

-- what always holds
abbrev pub Anything : Trail → Type 0
Anything t = Unit {0}

-- a notice to these
abbrev pub tell : Whom → Notice → Trail → Trail
tell w n t = Say w n ∷ t

-- how many handles a mark gives out, and some marks
abbrev pub given : Mark → ℕ
given (Set k x) = gives k x
given (Say w n) = 0

abbrev pub given_by : List Mark → ℕ
given_by [] = 0
given_by (m ∷ ms) = given m + given_by ms

-- the list has what was in it, behind it plain marks alone, and room for as many of them as there may be
pub record IsAhead (out : Room Mark) (from limit : ℕ) : Type 0 where
  pub within : from ≤ length out.items
  pub fits : limit + from ≤ length out.items + out.spare
  pub plain : AllByRecursion SetsPlain (drop from out.items)
