-- Laws of objects and of the requests of messages.
use Rattle.std.specs.Prelude.{ℕ, ◌≡◌, ◌<◌, ◌↔◌, true, List, Some}
use Rattle.login_base.specs.declared.ids.ConnId.{ConnId}
use Rattle.login_model.specs.declared.event.Request.{Request}
use Rattle.login_model.specs.Texts.{has_object}
use Rattle.bus_message.specs.declared.message.Message.{Message}
use Rattle.bus_message.specs.Grammar.{IsMessage}
use Rattle.wire_calls.specs.declared.object.Object.{Object}
use Rattle.wire_calls.specs.Objects.{HasName, object_of, path_of}
use Rattle.wire_calls.specs.Reading.{request_of}
use Rattle.wire_calls.specs.Sending.{HasTexts}

-- a path is that of an object exactly where it is the one that this object has
abbrev pub OnePath : Type 0
OnePath = (path : List ℕ) (o : Object) → (object_of path ≡ Some o) ↔ ((path ≡ path_of o) × HasName o)

-- a request that a journal may have of a client that is connected
pub record MayStand (r : Request) : Type 0 where
  pub serial : 0 < r.serial
  pub texts : HasTexts r.call
  pub object : has_object r.call ≡ true

-- so is that of each message that bytes are
abbrev pub RequestsMayStand : Type 0
RequestsMayStand = (c : ConnId) (bytes : List ℕ) (m : Message) → IsMessage bytes m → MayStand (request_of c m)
