-- What is kept of a message's fields: those that are known, with their offsets.
use Rattle.std.specs.Prelude.{ℕ, ◌+◌, ◌==◌, List, [], ◌∷◌, ◌++◌, map, take, drop, Option, Some, None, Result, Ok, if◌then◌else◌}
use Rattle.bus_value.specs.declared.basic_value.BasicValue.{BasicValue}
use Rattle.bus_value.specs.declared.basic_value.BasicValue.TheVariants.{Byte}
use Rattle.bus_value.specs.declared.fields.Field.{Field}
use Rattle.bus_value.specs.Values.{Val, basic, struct, variant, none, more}
use Rattle.bus_value.specs.Fields.{kept_in}
use Rattle.bus_value.specs.Reading.{read_all}
use Rattle.bus_message.specs.declared.fault.MessageFault.TheVariants.{MissingField, BadField, FdsNotAgreed}
use Rattle.bus_message.specs.declared.fault.Fault.{Fault}
use Rattle.bus_message.specs.declared.header.Header.{Header}
use Rattle.bus_message.specs.declared.message.Message.{Message}
use Rattle.bus_message.specs.Faults.{is_at, and_then, for_cause}
use Rattle.bus_value.specs.Fields.{list_type}
use Rattle.bus_message.specs.Fields.{has_required, handles, is_bad}
use Rattle.bus_message.specs.Reading.{headed, padding_read, unless_bad, body_read}

-- a value of which only a basic one is known
abbrev pub basic_or_none : Option BasicValue → Val
basic_or_none (Some a) = basic a
basic_or_none None = struct none

-- the field, as far as it is known
abbrev pub shown_field : Field → Val
shown_field f = struct (more (basic (Byte f.number)) (more (variant (basic_or_none f.value)) none))

abbrev pub shown : List Field → List Val
shown fs = map shown_field fs

-- the offset of the first bad one
abbrev pub first_bad : List Field → List Field → Option ℕ
first_bad before [] = None
first_bad before (f ∷ fs) = if is_bad (shown before) (shown_field f) then Some f.offset else first_bad (before ++ f ∷ []) fs

-- the known fields of the bytes
unfoldable pub fields_known : Header → List ℕ → Result (List Field) Fault
fields_known h bytes = for_cause BadField (kept_in 9 h.order 12 (read_all h.order 12 (list_type ∷ []) (take (4 + h.fields) (drop 12 bytes))))

-- what the definitions of Reading say of all fields, said of these
abbrev pub known_hold : Message → List Field → Result (Unit {0}) Fault
known_hold m fs =
    and_then (unless_bad (first_bad [] fs)) (λ u.
    if has_required m then (if handles (shown fs) == 0 then Ok tt else is_at FdsNotAgreed 0) else is_at MissingField 0)

abbrev pub with_known : Header → List ℕ → List Field → Result Message Fault
with_known h bytes fs =
    and_then (known_hold (headed h (shown fs)) fs) (λ u. and_then (body_read h (shown fs) bytes) (λ body. Ok (record (headed h (shown fs)) { body = body })))

-- the message, by the known fields
unfoldable pub known_message : Header → List ℕ → Result Message Fault
known_message h bytes = and_then (fields_known h bytes) (λ fs. and_then (padding_read h bytes) (λ u. with_known h bytes fs))
