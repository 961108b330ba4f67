-- What the lines of a text led to.
use Rattle.std.specs.Prelude.{ℕ, ◌≡◌, ◌<◌, ◌≤◌, List, drop, length, ⊤, nat_lt, if◌then◌else◌}
use Rattle.bus_auth.specs.declared.hearing.Heard.{Heard}
use Rattle.bus_auth.specs.declared.hearing.Outcome.{Outcome}
use Rattle.bus_auth.specs.declared.hearing.Outcome.TheVariants.{Talking as talking, Begun as begun, Ended as ended}
use Rattle.bus_auth.specs.declared.table.Turn.{Turn}
use Rattle.bus_auth.specs.declared.table.Turn.TheVariants.{Answer, Begin, End}
use Rattle.bus_auth.specs.declared.table.Ending.TheVariants.{LineTooLong}
use Rattle.bus_auth.specs.declared.hearing.Talk.{Talk}
use Rattle.bus_auth.specs.Cutting.{Open, cut, without_cr}
use Rattle.bus_auth.specs.Limits.{most_bytes, most_lines}
use Rattle.bus_auth.specs.Greeting.{Greeting, State, Talking, Begun, Ended}

-- the state that an outcome of a text is
abbrev pub state_in : List ℕ → Outcome → State
state_in text (talking talk taken) = Talking talk (drop taken text)
state_in text (begun rest) = Begun rest
state_in text (ended ending) = Ended ending

-- where a text ends at a line that is open, behind so many bytes
abbrev pub open_outcome : Talk → ℕ → List ℕ → Outcome
open_outcome talk taken line = if nat_lt most_bytes (length (without_cr line)) then ended LineTooLong else talking talk taken

-- an answered line was not one too many
abbrev pub HasLinesLeft : Turn → ℕ → Type 0
HasLinesLeft (Answer reply stage) lines = lines < most_lines
HasLinesLeft Begin lines = ⊤
HasLinesLeft (End ending) lines = ⊤

-- what is left of the text is one line
abbrev pub IsOpenIn : List ℕ → Outcome → Type 0
IsOpenIn text (talking talk taken) = (taken ≤ length text) × (cut (drop taken text) ≡ Open (drop taken text))
IsOpenIn text (begun rest) = ⊤
IsOpenIn text (ended ending) = ⊤

abbrev pub greeting_in : List ℕ → Heard → Greeting
greeting_in text heard = record { replies = heard.replies; state = state_in text heard.outcome }
