-- How a handshake goes on.
use Rattle.std.specs.Prelude.{ℕ, ◌+◌, ◌++◌, List}
use Rattle.login_base.specs.declared.ids.Uid.{Uid}
use Rattle.bus_auth.specs.Cutting.{cut}
use Rattle.bus_auth.specs.Greeting.{State, WaitingForNul, Talking, Begun, Ended, Greeting, with_no_reply, run, greet}

-- a handshake that was in a state, and then these bytes
abbrev pub resume : Uid → List ℕ → State → List ℕ → Greeting
resume uid guid WaitingForNul bytes = greet uid guid bytes
resume uid guid (Talking talk line) bytes = run uid guid talk (cut (line ++ bytes))
resume uid guid (Begun rest) bytes = with_no_reply (Begun (rest ++ bytes))
resume uid guid (Ended ending) bytes = with_no_reply (Ended ending)
