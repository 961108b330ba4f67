-- What is known of a body and of a message: that they can be written, in so many bytes at most.
use Rattle.std.specs.Prelude.{ℕ, ◌≡◌, ◌≤◌, ◌<◌, ◌+◌, true, List}
use Rattle.bus_names.specs.Signatures.{IsWithin}
use Rattle.bus_value.specs.declared.order.Order.TheVariants.{Little}
use Rattle.bus_value.specs.Alignment.{most_element_bytes}
use Rattle.bus_value.specs.Lengths.{values_end}
use Rattle.bus_value.specs.Limits.{AllFit}
use Rattle.bus_value.specs.Typed.{AreTyped}
use Rattle.bus_value.specs.Values.{Val, shapes, vals}
use Rattle.bus_message.specs.declared.message.Message.{Message}
use Rattle.bus_message.specs.Fields.{has_required}
use Rattle.bus_message.specs.Spelling.{fields_of, list_of}

-- the values can be the body of a message
pub record IsBody (most : ℕ) (vs : List Val) : Type 0 where
  pub types : IsWithin (shapes (vals vs))
  pub typed : AreTyped 0 (shapes (vals vs)) (vals vs)
  pub fits : (at : ℕ) → AllFit Little at (vals vs)
  pub short : (at : ℕ) → values_end at (vals vs) ≤ at + most

-- how long a body and the fields of a message are at most
abbrev pub most_body : ℕ
most_body = most_element_bytes + 32

abbrev pub most_fields : ℕ
most_fields = 4096

-- the message can be written, with any serial
pub record IsWritable (m : Message) : Type 0 where
  pub little : m.order ≡ Little
  pub kind : 0 < m.kind
  pub required : has_required m ≡ true
  pub fields : AllFit Little 12 (vals (list_of (fields_of m)))
  pub fields_short : values_end 12 (vals (list_of (fields_of m))) ≤ most_fields
  pub body : IsBody most_body m.body
