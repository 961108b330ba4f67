-- How a handshake is kept: how far it is, and the line that is open.
use Rattle.std.specs.Prelude.{ℕ, ◌≡◌, List, []}
use Rattle.bus_auth.specs.declared.hearing.Progress.{Progress}
use Rattle.bus_auth.specs.declared.hearing.Progress.TheVariants.{WaitingForNul as waiting, Talking as talking, Begun as begun, Ended as ended}
use Rattle.bus_auth.specs.Cutting.{Open, cut}
use Rattle.bus_auth.specs.Greeting.{State, WaitingForNul, Talking, Begun, Ended}

-- how far it is, with the line that is open
abbrev pub state_of : Progress → List ℕ → State
state_of waiting line = WaitingForNul
state_of (talking talk) line = Talking talk line
state_of begun line = Begun []
state_of (ended ending) line = Ended ending

-- the line that is open
abbrev pub open_line : State → List ℕ
open_line (Talking talk line) = line
open_line state = []

-- no line ends in the bytes that are kept, and they are those of the line that is open
pub record IsKept (progress : Progress) (line : List ℕ) : Type 0 where
  pub one_line : cut line ≡ Open line
  pub all : line ≡ open_line (state_of progress line)
