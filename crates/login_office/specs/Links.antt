-- What the bytes of a link are: a handshake, and messages behind it.
use Rattle.std.specs.Prelude.{ℕ, Bool, true, false, List, [], Option, Some, None}
use Rattle.std.specs.Option.{option_map}
use Rattle.login_base.specs.declared.ids.ConnId.{ConnId}
use Rattle.login_base.specs.declared.ids.Uid.{Uid}
use Rattle.login_model.specs.declared.event.Request.{Request}
use Rattle.bus_auth.specs.Greeting.{State, WaitingForNul, Talking, Begun, Ended, greet}
use Rattle.bus_message.specs.Cutting.{Cutting, cut}
use Rattle.bus_message.specs.declared.fault.Malformed.{Malformed}
use Rattle.wire_calls.specs.Reading.{requests_of}
use Rattle.login_office.specs.declared.end.LinkEnd.{LinkEnd}
use Rattle.login_office.specs.declared.end.LinkEnd.TheVariants.{NotBegun, Malformed as IsMalformed}
use Rattle.login_office.specs.declared.end.Unbegun.TheVariants.{Refused}

abbrev pub has_begun : State → Bool
has_begun (Begun rest) = true
has_begun _ = false

abbrev pub behind : State → List ℕ
behind (Begun rest) = rest
behind _ = []

-- the client of a link, of this user and with a server of this GUID, is accepted and began
abbrev pub is_begun : Uid → List ℕ → List ℕ → Bool
is_begun uid guid text = has_begun (greet uid guid text).state

-- the bytes behind BEGIN: none where it has not begun
abbrev pub behind_begin : Uid → List ℕ → List ℕ → List ℕ
behind_begin uid guid text = behind (greet uid guid text).state

-- what is replied in the handshake
abbrev pub replies : Uid → List ℕ → List ℕ → List ℕ
replies uid guid text = (greet uid guid text).replies

-- the messages behind BEGIN
abbrev pub messages_in : Uid → List ℕ → List ℕ → Cutting
messages_in uid guid text = cut (behind_begin uid guid text)

-- the calls of a link, each the request that a message is
abbrev pub calls : ConnId → Uid → List ℕ → List ℕ → List Request
calls c uid guid text = requests_of c (messages_in uid guid text).messages

-- where the bytes behind BEGIN are malformed
abbrev pub malformed : Uid → List ℕ → List ℕ → Option Malformed
malformed uid guid text = (messages_in uid guid text).malformed

-- the end that a malformed message is
abbrev pub end_of : Option Malformed → Option LinkEnd
end_of m = option_map IsMalformed m

-- the end that a handshake's state shows, or the messages behind it
abbrev pub end_in : State → Option LinkEnd
end_in WaitingForNul = None
end_in (Talking talk line) = None
end_in (Begun rest) = end_of (cut rest).malformed
end_in (Ended ending) = Some (NotBegun (Refused ending))

-- the end that the bytes show
abbrev pub end_heard : Uid → List ℕ → List ℕ → Option LinkEnd
end_heard uid guid text = end_in (greet uid guid text).state
