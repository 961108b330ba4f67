-- The bytes of a message: the D-Bus Specification, "Message Format".
use Rattle.std.specs.Prelude.{ℕ, ◌+◌, List, [], ◌∷◌, ◌++◌, length, Option, Some, None}
use Rattle.std.specs.Option.{option_map}
use Rattle.bus_value.specs.declared.basic_value.BasicValue.{BasicValue}
use Rattle.bus_value.specs.declared.basic_value.BasicValue.TheVariants.{Byte, U32, Str, Path, Sig}
use Rattle.bus_value.specs.declared.order.Order.{Order}
use Rattle.bus_value.specs.Values.{Val, vals, shapes, basic, array, struct, variant, none, more}
use Rattle.bus_value.specs.Spelling.{next_boundary, padding, spellings}
use Rattle.bus_value.specs.Numbers.{number_bytes}
use Rattle.bus_message.specs.declared.message.Message.{Message}
use Rattle.bus_message.specs.Headers.{order_letter}
use Rattle.bus_value.specs.Fields.{field_type}

-- the first twelve bytes
abbrev pub opening : Message → ℕ → List ℕ
opening m count =
    order_letter m.order ∷ m.kind ∷ m.flags ∷ 1 ∷ (number_bytes m.order 4 count ++ number_bytes m.order 4 m.serial)

-- a field with a number
abbrev pub field : ℕ → BasicValue → Val
field n a = struct (more (basic (Byte n)) (more (variant (basic a)) none))

abbrev pub field_if : ℕ → Option BasicValue → List Val
field_if n (Some a) = field n a ∷ []
field_if n None = []

-- the signature of a body, where it is not empty
abbrev pub body_types : List Val → Option BasicValue
body_types [] = None
body_types (v ∷ vs) = Some (Sig (shapes (vals (v ∷ vs))))

-- the fields in ascending order, and no field that the message lacks
abbrev pub target_fields : Message → List Val
target_fields m =
    field_if 1 (option_map (λ path. Path path) m.path)
    ++ (field_if 2 (option_map (λ text. Str text) m.interface) ++ field_if 3 (option_map (λ text. Str text) m.member))

abbrev pub answer_fields : Message → List Val
answer_fields m =
    field_if 4 (option_map (λ text. Str text) m.error) ++ field_if 5 (option_map (λ n. U32 n) m.reply_to)

abbrev pub party_fields : Message → List Val
party_fields m =
    field_if 6 (option_map (λ text. Str text) m.destination) ++ field_if 7 (option_map (λ text. Str text) m.sender)

unfoldable pub fields_of : Message → List Val
fields_of m = target_fields m ++ (answer_fields m ++ (party_fields m ++ field_if 8 (body_types m.body)))

-- the one value that they are
abbrev pub list_of : List Val → List Val
list_of fs = array field_type (vals fs) ∷ []

abbrev pub list_bytes : Order → List Val → List ℕ
list_bytes o fs = spellings o 12 (vals (list_of fs))

-- where a body starts, behind so many bytes of fields
abbrev pub behind_list : ℕ → ℕ
behind_list count = next_boundary (12 + count)

-- a message whose fields and body have these bytes
abbrev pub assembled : Message → List ℕ → List ℕ → List ℕ
assembled m list body = opening m (length body) ++ (list ++ (padding (12 + length list) 8 ++ body))

abbrev pub body_bytes : Message → List Val → List ℕ
body_bytes m fs = spellings m.order (behind_list (length (list_bytes m.order fs))) (vals m.body)

-- where the body of a message starts
abbrev pub body_offset : Message → ℕ
body_offset m = behind_list (length (list_bytes m.order (fields_of m)))

-- the message with these fields
abbrev pub message_with : Message → List Val → List ℕ
message_with m fs = assembled m (list_bytes m.order fs) (body_bytes m fs)

-- the message as it is written
unfoldable pub message_bytes : Message → List ℕ
message_bytes m = message_with m (fields_of m)
