-- What counts are, and what those who count leave.
use Rattle.std.specs.Prelude.{◌≡◌, ℕ, ◌+◌, ◌*◌, ◌<◌, ◌≤◌, Bool, true, false, List, [], ◌∷◌, ◌++◌, length, Some}
use Rattle.desk.specs.declared.counting.Counted.{Counted}
use Rattle.desk.specs.declared.view.View.{View}
use Rattle.desk.specs.History.{entries, of_who}

-- how many counts there may be, and those that there are
pub record CounterState : Type 0 where
  pub most : ℕ
  pub counts : List Counted

-- whose a count is
abbrev pub counter_of : Counted → ℕ
counter_of c = c.who.0

-- where there is room, one count of this connection with this number is added
abbrev pub CountsUp : ℕ → ℕ → ℕ → List Counted → List Counted → Bool → Type 0
CountsUp most who number old new true = (length old < most) × ((c : Counted) × (c.who.0 ≡ who) × (c.number ≡ number) × (new ≡ old ++ c ∷ []))
CountsUp most who number old new false = (most ≤ length old) × (new ≡ old)

-- these counts are of this connection, and numbered in order from this number on
abbrev pub CountsFrom : ℕ → ℕ → List Counted → Type 0
CountsFrom who number [] = Unit {0}
CountsFrom who number (c ∷ cs) = (c.who.0 ≡ who) × (c.number ≡ number) × CountsFrom who (number + 1) cs

-- a pass made the counts from 0 up to below `most`, or those of them for which there was room
pub record CountsTo (most : ℕ) (v w : View ℕ Counted) : Type 0 where
  pub own : List Counted
  pub mine_is : w.mine ≡ v.mine ++ own
  pub in_order : CountsFrom v.who 0 own
  pub at_most : length own ≤ most
  -- where some are missing, there is no room
  pub full : length own < most → (room : ℕ) × (v.setup ≡ Some room) × (room ≤ length (entries w.seen))
  pub number_is : w.number ≡ v.number
  pub who_is : w.who ≡ v.who

-- the counts of one of two connections, which both counted from 0 up to below `most`
pub record CountedBy (who most : ℕ) (c : CounterState) : Type 0 where
  pub in_order : CountsFrom who 0 (of_who counter_of who c.counts)
  pub at_most : length (of_who counter_of who c.counts) ≤ most
  pub all : 2 * most ≤ c.most → length (of_who counter_of who c.counts) ≡ most
