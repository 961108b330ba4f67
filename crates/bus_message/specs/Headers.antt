-- The first 16 bytes of a message: the D-Bus Specification, "Message Format".
use Rattle.std.specs.Prelude.{ℕ, ◌+◌, ◌^◌, ◌==◌, not, nat_lt, List, slice_index, drop, Option, Some, None, Result, Ok, if◌then◌else◌}
use Rattle.bus_value.specs.declared.order.Order.{Order}
use Rattle.bus_value.specs.declared.order.Order.TheVariants.{Little, Big}
use Rattle.bus_value.specs.Spelling.{pad_size}
use Rattle.bus_value.specs.Numbers.{number}
use Rattle.bus_message.specs.declared.fault.MessageFault.TheVariants.{BadOrder, BadVersion, ZeroSerial, TooLong, BadKind}
use Rattle.bus_message.specs.declared.fault.Fault.{Fault}
use Rattle.bus_message.specs.declared.header.Header.{Header}
use Rattle.bus_message.specs.Faults.{is_at}

-- the letter of an order of bytes: l, B
abbrev pub order_letter : Order → ℕ
order_letter Little = 108
order_letter Big = 66

abbrev pub order_of : ℕ → Option Order
order_of b = if b == 108 then Some Little else (if b == 66 then Some Big else None)

-- where the fields end, where the body starts, and how long the message is
abbrev pub fields_end : Header → ℕ
fields_end h = 16 + h.fields

abbrev pub body_start : Header → ℕ
body_start h = fields_end h + pad_size (fields_end h) 8

abbrev pub size : Header → ℕ
size h = body_start h + h.body

-- how many bytes a message has at most that is cut, and one that is written
abbrev pub most_cut : ℕ
most_cut = 1048576

abbrev pub most_written : ℕ
most_written = 2 ^ 27

-- what the bytes say in an order
abbrev pub stated : List ℕ → Order → Header
stated bytes o = record {
  order = o;
  kind = slice_index bytes 1;
  flags = slice_index bytes 2;
  serial = number o 4 (drop 8 bytes);
  fields = number o 4 (drop 12 bytes);
  body = number o 4 (drop 4 bytes);
}

-- the first of these faults counts
abbrev pub accepted : List ℕ → Header → Result Header Fault
accepted bytes h =
    if h.kind == 0 then is_at BadKind 1 else
    (if not (slice_index bytes 3 == 1) then is_at BadVersion 3 else
    (if h.serial == 0 then is_at ZeroSerial 8 else
    (if nat_lt most_cut (size h) then is_at TooLong 4 else Ok h)))

abbrev pub header_by : List ℕ → Option Order → Result Header Fault
header_by bytes None = is_at BadOrder 0
header_by bytes (Some o) = accepted bytes (stated bytes o)

-- what the first 16 bytes say, or what is wrong with them
unfoldable pub header_of : List ℕ → Result Header Fault
header_of bytes = header_by bytes (order_of (slice_index bytes 0))
