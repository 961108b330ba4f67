-- The table of the handshake.
use Rattle.std.specs.Prelude.{ℕ, ◌++◌, List, [], ◌∷◌, codes}
use Rattle.bus_auth.specs.declared.command.Command.{Command}
use Rattle.bus_auth.specs.declared.command.Command.TheVariants.{Auth, Data, Begin, Cancel, Error}
use Rattle.bus_auth.specs.declared.command.Response.TheVariants.{Empty, Identity, Other}
use Rattle.bus_auth.specs.declared.table.Stage.{Stage}
use Rattle.bus_auth.specs.declared.table.Stage.TheVariants.{WaitingForAuth, WaitingForData, WaitingForBegin}
use Rattle.bus_auth.specs.declared.table.Reply.{Reply}
use Rattle.bus_auth.specs.declared.table.Reply.TheVariants.{Accepted, Challenge, Rejected, Unknown}
use Rattle.bus_auth.specs.declared.table.Ending.TheVariants.{EarlyBegin}
use Rattle.bus_auth.specs.declared.table.Turn.{Turn}
use Rattle.bus_auth.specs.declared.table.Turn.TheVariants.{Answer, Begin as begin, End}

-- what a command leads to
abbrev pub row : Stage → Command → Turn
row WaitingForAuth (Auth Identity) = Answer Accepted WaitingForBegin
row WaitingForAuth (Auth Empty) = Answer Challenge WaitingForData
row WaitingForAuth (Auth Other) = Answer Rejected WaitingForAuth
row WaitingForAuth Error = Answer Rejected WaitingForAuth
row WaitingForAuth Begin = End EarlyBegin
row WaitingForData (Data Empty) = Answer Accepted WaitingForBegin
row WaitingForData (Data Identity) = Answer Accepted WaitingForBegin
row WaitingForData (Data Other) = Answer Rejected WaitingForAuth
row WaitingForData Cancel = Answer Rejected WaitingForAuth
row WaitingForData Error = Answer Rejected WaitingForAuth
row WaitingForData Begin = End EarlyBegin
row WaitingForBegin Begin = begin
row WaitingForBegin Cancel = Answer Rejected WaitingForAuth
row WaitingForBegin Error = Answer Rejected WaitingForAuth
row stage _ = Answer Unknown stage

abbrev pub line_end : List ℕ
line_end = 13 ∷ 10 ∷ []

-- the line that a reply is, of a server with this GUID
abbrev pub reply_text : List ℕ → Reply → List ℕ
reply_text guid Accepted = codes "OK " ++ guid ++ line_end
reply_text guid Challenge = codes "DATA" ++ line_end
reply_text guid Rejected = codes "REJECTED EXTERNAL" ++ line_end
reply_text guid Unknown = codes "ERROR" ++ line_end
