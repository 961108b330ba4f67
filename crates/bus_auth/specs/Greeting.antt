-- What a handshake is, heard as one text: its lines, and the table run over them.
use Rattle.std.specs.Prelude.{ℕ, ◌+◌, ◌++◌, ◌==◌, nat_lt, List, [], ◌∷◌, length, if◌then◌else◌}
use Rattle.login_base.specs.declared.ids.Uid.{Uid}
use Rattle.bus_auth.specs.declared.table.Stage.{Stage}
use Rattle.bus_auth.specs.declared.table.Stage.TheVariants.{WaitingForAuth}
use Rattle.bus_auth.specs.declared.table.Ending.{Ending}
use Rattle.bus_auth.specs.declared.table.Ending.TheVariants.{NoNul, LineTooLong, TooManyLines}
use Rattle.bus_auth.specs.declared.table.Turn.{Turn}
use Rattle.bus_auth.specs.declared.table.Turn.TheVariants.{Answer, Begin, End}
use Rattle.bus_auth.specs.declared.hearing.Talk.{Talk}
use Rattle.bus_auth.specs.Cutting.{Lines, Whole, Open, cut, without_cr}
use Rattle.bus_auth.specs.Limits.{most_bytes, most_lines}
use Rattle.bus_auth.specs.Commands.{command_of}
use Rattle.bus_auth.specs.Table.{row, reply_text}

-- how far a handshake is: before its NUL; at a line that is open; begun, with the bytes behind BEGIN; ended
pub data State : Type 0 where
  WaitingForNul : State
  Talking : Talk → (line : List ℕ) → State
  Begun : (rest : List ℕ) → State
  Ended : Ending → State

-- all that was replied, and how far it is
pub record Greeting : Type 0 where
  pub replies : List ℕ
  pub state : State

abbrev pub with_no_reply : State → Greeting
with_no_reply state = record { replies = []; state = state }

-- bytes replied before
abbrev pub behind_replies : List ℕ → Greeting → Greeting
behind_replies bytes greeting = record { replies = bytes ++ greeting.replies; state = greeting.state }

-- what a whole line leads to: it may not be too long, and may not be one too many
unfoldable pub turn_of : Uid → Talk → List ℕ → Turn
turn_of uid talk line =
    if nat_lt most_bytes (length line) then End LineTooLong
    else if nat_lt talk.lines most_lines then row talk.stage (command_of uid line)
    else End TooManyLines

-- a talk after one more line
abbrev pub answered : Talk → Stage → Talk
answered talk stage = record { stage = stage; lines = talk.lines + 1 }

-- what a whole line leads to, the bytes behind it, and what the lines behind it lead to from a stage
abbrev pub follow : List ℕ → Turn → List ℕ → (Stage → Greeting) → Greeting
follow guid (Answer reply stage) behind more = behind_replies (reply_text guid reply) (more stage)
follow guid Begin behind more = with_no_reply (Begun behind)
follow guid (End ending) behind more = with_no_reply (Ended ending)

-- the table run over lines: an open line is too long once no bytes can end it in time
unfoldable pub run : Uid → List ℕ → Talk → Lines → Greeting
run uid guid talk (Open line) =
    if nat_lt most_bytes (length (without_cr line)) then with_no_reply (Ended LineTooLong)
    else with_no_reply (Talking talk line)
run uid guid talk (Whole line behind more) =
    follow guid (turn_of uid talk line) behind (λ stage. run uid guid (answered talk stage) more)

abbrev pub first_talk : Talk
first_talk = record { stage = WaitingForAuth; lines = 0 }

-- the handshake of a client that is to be this user with a server of this GUID
unfoldable pub greet : Uid → List ℕ → List ℕ → Greeting
greet uid guid [] = with_no_reply WaitingForNul
greet uid guid (b ∷ bs) = if b == 0 then run uid guid first_talk (cut bs) else with_no_reply (Ended NoNul)
