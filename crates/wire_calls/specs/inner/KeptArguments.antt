-- How many of its arguments a call is made of.
use Rattle.std.specs.Prelude.{ℕ, List, length, ◌&&◌, if◌then◌else◌}
use Rattle.login_model.specs.declared.call.Call.{Call}
use Rattle.login_model.specs.declared.call.Call.TheVariants as call
use Rattle.bus_value.specs.Values.{Val}
use Rattle.wire_calls.specs.declared.manager.ManagerMethod.TheVariants as manager
use Rattle.wire_calls.specs.declared.bus.PropertiesMethod.TheVariants as properties
use Rattle.wire_calls.specs.declared.method.Method.TheVariants.{Manager}
use Rattle.wire_calls.specs.declared.method.AnyMethod.{AnyMethod}
use Rattle.wire_calls.specs.declared.method.AnyMethod.TheVariants.{Own, Properties}
use Rattle.wire_calls.specs.Arguments.{are_short}
use Rattle.wire_calls.specs.Calls.{any_call, is_short_any}
use Rattle.wire_calls.specs.Methods.{signed_any}

-- all but the further properties of a session, and the value that would be set; a signature has no fewer letters than
-- types
abbrev pub kept : AnyMethod → ℕ
kept (Own (Manager manager.CreateSession)) = 13
kept (Properties path properties.Set) = 2
kept m = length (signed_any m).takes

-- the call with arguments of the method's signature
abbrev pub front_call : AnyMethod → List Val → Call
front_call m vs = if is_short_any m && are_short vs then any_call m vs else call.BadArguments
