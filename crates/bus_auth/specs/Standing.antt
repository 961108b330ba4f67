-- What is kept of a handshake between two pieces.
use Rattle.std.specs.Prelude.{ℕ, List, [], Option, Some, None}
use Rattle.login_base.specs.declared.ids.Uid.{Uid}
use Rattle.bus_auth.specs.declared.table.Ending.{Ending}
use Rattle.bus_auth.specs.Greeting.{State, Begun, Ended}

-- the user and the server's GUID, and how far it is
pub record Handshake : Type 0 where
  pub uid : Uid
  pub guid : List ℕ
  pub state : State

-- the bytes behind BEGIN are handed out
abbrev pub kept : State → State
kept (Begun rest) = Begun []
kept state = state

-- how it ended with no connection
abbrev pub ending_of : State → Option Ending
ending_of (Ended ending) = Some ending
ending_of state = None
