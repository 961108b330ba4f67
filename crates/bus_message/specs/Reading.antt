-- How a whole message is read: the message, or its first fault.
use Rattle.std.specs.Prelude.{ℕ, ◌+◌, ◌-◌, ◌==◌, List, [], ◌∷◌, take, drop, Option, Some, None, Result, Ok, if◌then◌else◌}
use Rattle.bus_names.specs.Reading.{interface_fault, member_fault, bus_name_fault}
use Rattle.bus_value.specs.Values.{Val}
use Rattle.bus_value.specs.Faults.{zeros}
use Rattle.bus_value.specs.Reading.{read_all}
use Rattle.bus_message.specs.declared.fault.MessageFault.TheVariants.{MissingField, BadField, BadBody, FdsNotAgreed}
use Rattle.bus_message.specs.declared.fault.Fault.{Fault}
use Rattle.bus_message.specs.declared.header.Header.{Header}
use Rattle.bus_message.specs.declared.message.Message.{Message}
use Rattle.bus_message.specs.Faults.{is_at, and_then, for_cause}
use Rattle.bus_message.specs.Headers.{fields_end, body_start}
use Rattle.bus_value.specs.Fields.{list_type, fields_in}
use Rattle.bus_message.specs.Fields.{found, path_at, name_at, u32_at, bad_field, has_required, handles, signature}

-- the fields, whose length stands at offset 12
unfoldable pub fields_read : Header → List ℕ → Result (List Val) Fault
fields_read h bytes = for_cause BadField (read_all h.order 12 (list_type ∷ []) (take (4 + h.fields) (drop 12 bytes)))

-- the padding between the fields and the body
abbrev pub gap : Header → List ℕ → List ℕ
gap h bytes = take (body_start h - fields_end h) (drop (fields_end h) bytes)

unfoldable pub padding_read : Header → List ℕ → Result (Unit {0}) Fault
padding_read h bytes = for_cause BadField (zeros (fields_end h) (gap h bytes))

-- what header and fields tell, with no body
abbrev pub headed : Header → List Val → Message
headed h fs = record {
  order = h.order;
  kind = h.kind;
  flags = h.flags;
  serial = h.serial;
  path = path_at (found 1 fs);
  interface = name_at interface_fault (found 2 fs);
  member = name_at member_fault (found 3 fs);
  error = name_at interface_fault (found 4 fs);
  reply_to = u32_at (found 5 fs);
  destination = name_at bus_name_fault (found 6 fs);
  sender = name_at bus_name_fault (found 7 fs);
  body = [];
}

abbrev pub unless_bad : Option ℕ → Result (Unit {0}) Fault
unless_bad None = Ok tt
unless_bad (Some at) = is_at BadField at

-- each known field stands there once at most and holds what it is to hold; then no field is missing, and no file
-- descriptor comes
abbrev pub fields_kept : Message → List Val → Result (Unit {0}) Fault
fields_kept m fs =
    and_then (unless_bad (bad_field m.order [] 16 fs)) (λ u.
    if has_required m then (if handles fs == 0 then Ok tt else is_at FdsNotAgreed 0) else is_at MissingField 0)

-- the values of the body, by its signature
unfoldable pub body_read : Header → List Val → List ℕ → Result (List Val) Fault
body_read h fs bytes = for_cause BadBody (read_all h.order (body_start h) (signature fs) (drop (body_start h) bytes))

abbrev pub with_fields : Header → List ℕ → List Val → Result Message Fault
with_fields h bytes fs =
    and_then (fields_kept (headed h fs) fs) (λ u. and_then (body_read h fs bytes) (λ body. Ok (record (headed h fs) { body = body })))

-- the message that the bytes are, which have this header; the first fault from the left counts
unfoldable pub message_of : Header → List ℕ → Result Message Fault
message_of h bytes =
    and_then (fields_read h bytes) (λ vs. and_then (padding_read h bytes) (λ u. with_fields h bytes (fields_in vs)))
