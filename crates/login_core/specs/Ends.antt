-- The empty lists of marks that are kept for the ends of connections, by the numbers of these.
use Rattle.std.specs.Prelude.{ℕ, ◌==◌, Option, Some, None, List}
use Rattle.std.specs.Map.{lookup}
use Rattle.login_base.specs.Room.{Room}
use Rattle.login_base.specs.declared.ids.ConnId.{ConnId}
use Rattle.login_model.specs.declared.mark.Mark.{Mark}

-- the list of a number, if it has one
abbrev pub list_of : List (ℕ × Room Mark) → ℕ → Option (Room Mark)
list_of ends n = lookup (λ number. n == number) ends

-- for how many marks there is room in a list that may be there
abbrev pub room_in : Option (Room Mark) → ℕ
room_in None = 0
room_in (Some list) = list.spare

-- for how many marks there is room at the end of a connection
abbrev pub room_of : List (ℕ × Room Mark) → ConnId → ℕ
room_of ends c = room_in (list_of ends c.0)
