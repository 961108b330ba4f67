-- How many seats have a ticket, and how many are not spent.
use Rattle.std.specs.Prelude.{ℕ, ◌+◌, List, [], ◌∷◌}
use Rattle.desk.specs.declared.view.Stage.{Stage}
use Rattle.desk.specs.declared.view.Stage.TheVariants.{Spent, Idle, Waiting, Holding}
use Rattle.desk.specs.declared.view.View.{View}

-- 1 where the seat has a ticket
abbrev pub ticket_count : Stage → ℕ
ticket_count Spent = 0
ticket_count Idle = 0
ticket_count (Waiting t) = 1
ticket_count (Holding t) = 1

-- 1 where the seat is not spent
abbrev pub live_count : Stage → ℕ
live_count Spent = 0
live_count Idle = 1
live_count (Waiting t) = 1
live_count (Holding t) = 1

module _ {S E : Type 0} where
  -- how many seats have a ticket
  abbrev pub tickets : List (View S E) → ℕ
  tickets [] = 0
  tickets (v ∷ vs) = ticket_count v.stage + tickets vs

  -- how many seats are not spent
  abbrev pub live_seats : List (View S E) → ℕ
  live_seats [] = 0
  live_seats (v ∷ vs) = live_count v.stage + live_seats vs
