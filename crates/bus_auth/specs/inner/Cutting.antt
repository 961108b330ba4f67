-- Where the first line of a text ends.
use Rattle.std.specs.Prelude.{ℕ, ◌≡◌, ◌≤◌, ◌+◌, List, length, take, drop}
use Rattle.bus_auth.specs.Cutting.{Whole, cut}

-- the first line of a text is whole, and its CR LF stands at this place
pub record IsFirstEnd (text : List ℕ) (place : ℕ) : Type 0 where
  pub within : place + 2 ≤ length text
  pub whole : cut text ≡ Whole (take place text) (drop (place + 2) text) (cut (drop (place + 2) text))
