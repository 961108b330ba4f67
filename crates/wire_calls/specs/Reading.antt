-- Which call a message is.
use Rattle.std.specs.Prelude.{ℕ, ◌==◌, ◌%◌, ◌&&◌, not, Bool, true, false, if◌then◌else◌, Option, Some, None, List, codes, map}
use Rattle.std.specs.Option.{option_and_then, option_map, option_or}
use Rattle.std.specs.Str.{bytes_eq}
use Rattle.login_base.specs.declared.ids.ConnId.{ConnId}
use Rattle.login_model.specs.declared.call.Call.{Call}
use Rattle.login_model.specs.declared.call.Call.TheVariants.{NoCall, NoObject, NoMethod}
use Rattle.login_model.specs.declared.event.Request.{Request}
use Rattle.bus_value.specs.Values.{Val}
use Rattle.bus_message.specs.declared.message.Message.{Message}
use Rattle.wire_calls.specs.declared.object.Object.{Object}
use Rattle.wire_calls.specs.declared.method.AnyMethod.{AnyMethod}
use Rattle.wire_calls.specs.declared.method.AnyMethod.TheVariants.{Own}
use Rattle.login_model.specs.Objects.{properties_interface}
use Rattle.wire_calls.specs.Objects.{has_properties, interface_of, object_of}
use Rattle.wire_calls.specs.Methods.{method_named, peer_named, properties_named}
use Rattle.wire_calls.specs.Calls.{call_with}

-- the interface of peers, which every path has
abbrev pub peer : List ℕ
peer = codes "org.freedesktop.DBus.Peer"

abbrev pub is_peer : Option (List ℕ) → Bool
is_peer None = false
is_peer (Some interface) = bytes_eq interface peer

-- whether what a message says of the interface lets a method be looked up in this one
abbrev pub lets : Option (List ℕ) → List ℕ → Bool
lets None own = true
lets (Some interface) own = bytes_eq interface own

-- the method with this name of an object's own interface, of its properties, and of peers
abbrev pub own_method : Option (List ℕ) → List ℕ → Object → Option AnyMethod
own_method interface member o = if lets interface (interface_of o) then option_map Own (method_named o member) else None

abbrev pub properties_method : List ℕ → Option (List ℕ) → List ℕ → Object → Option AnyMethod
properties_method path interface member o =
    if has_properties o && lets interface properties_interface then properties_named path member else None

abbrev pub peer_method : Option (List ℕ) → List ℕ → Option AnyMethod
peer_method interface member = if lets interface peer then peer_named member else None

-- the method of the object with this path that an interface and a member name: without an interface it is looked for in
-- the object's own, then in that of properties, and then in that of peers
abbrev pub method_of : List ℕ → Option (List ℕ) → Option (List ℕ) → Object → Option AnyMethod
method_of path interface None o = None
method_of path interface (Some member) o =
    option_or (own_method interface member o)
    (option_or (properties_method path interface member o) (peer_method interface member))

abbrev pub on_method : List Val → Option AnyMethod → Call
on_method vs None = NoMethod
on_method vs (Some m) = call_with m vs

abbrev pub on_object : Message → List ℕ → Option Object → Call
on_object m path None = NoObject
on_object m path (Some o) = on_method m.body (method_of path m.interface m.member o)

abbrev pub at_path : Message → Option (List ℕ) → Call
at_path m None = NoObject
at_path m (Some path) = on_object m path (object_of path)

-- The call that a message is: none, of no object, of no method, with bad arguments, or one of the calls. The interface
-- of peers, where it is named, is on every path.
unfoldable pub call_of : Message → Call
call_of m =
    if not (m.kind == 1) then NoCall
    else if is_peer m.interface then on_method m.body (option_and_then (peer_method m.interface) m.member)
    else at_path m m.path

-- whether no reply is expected: the lowest flag, whatever the kind
abbrev pub is_quiet : Message → Bool
is_quiet m = m.flags % 2 == 1

-- the request that a connection's message is
abbrev pub request_of : ConnId → Message → Request
request_of c m = record { who = c; serial = m.serial; quiet = is_quiet m; call = call_of m }

-- those of its messages in order
abbrev pub requests_of : ConnId → List Message → List Request
requests_of c ms = map (request_of c) ms
