-- Messages that are sent (D-Bus Specification, "Message Types"). They have no serial yet; the mail numbers them.
use Rattle.std.specs.Prelude.{ℕ, Some, None, List, [], ◌∷◌, codes}
use Rattle.bus_value.specs.declared.basic_value.BasicValue.TheVariants.{Path}
use Rattle.bus_value.specs.declared.order.Order.TheVariants.{Little}
use Rattle.bus_value.specs.Values.{Val, basic, struct, vals}
pub use Rattle.bus_message.specs.Bodies.{text, number, flag}
use Rattle.bus_message.specs.declared.message.Message.{Message}

-- the name of the connection that sends them
abbrev pub sender : List ℕ
sender = codes ":1.0"

-- what a call is answered, by the call's serial
abbrev pub return_message : ℕ → List Val → Message
return_message call vs = record {
  order = Little;
  kind = 2;
  flags = 0;
  serial = 0;
  path = None;
  interface = None;
  member = None;
  error = None;
  reply_to = Some call;
  destination = None;
  sender = Some sender;
  body = vs;
}

-- values of the types of arguments
abbrev pub path : List ℕ → Val
path t = basic (Path t)

abbrev pub structure : List Val → Val
structure vs = struct (vals vs)

-- an error with its name and a text for people
abbrev pub error_message : ℕ → List ℕ → List ℕ → Message
error_message call name reason = record {
  order = Little;
  kind = 3;
  flags = 0;
  serial = 0;
  path = None;
  interface = None;
  member = None;
  error = Some name;
  reply_to = Some call;
  destination = None;
  sender = Some sender;
  body = text reason ∷ [];
}

-- a signal of an object: its interface, its name, its arguments
abbrev pub signal_message : List ℕ → List ℕ → List ℕ → List Val → Message
signal_message object interface member vs = record {
  order = Little;
  kind = 4;
  flags = 0;
  serial = 0;
  path = Some object;
  interface = Some interface;
  member = Some member;
  error = None;
  reply_to = None;
  destination = None;
  sender = Some sender;
  body = vs;
}
