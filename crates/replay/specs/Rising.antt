-- When a count of faults rises.
use Rattle.std.specs.Prelude.{ℕ, ◌≡◌, Bool, true, false}
use Rattle.login_edge.specs.Faults.{Rose}

-- the count rises where this fault is answered, and stands still where it is not
abbrev pub Rises : Bool → ℕ → ℕ → Type 0
Rises true before now = Rose before now
Rises false before now = now ≡ before
