-- The mail of a connection while it is put together.
use Rattle.std.specs.Prelude.{ℕ, ◌≡◌, ◌+◌, ◌*◌, ◌&&◌, not, Bool, if◌then◌else◌, List, [], ◌++◌, length, drop}
use Rattle.login_base.specs.declared.ids.ConnId.{ConnId}
use Rattle.login_model.specs.declared.mark.Entry.{Entry}
use Rattle.bus_message.specs.declared.message.Message.{Message}
use Rattle.wire_out.specs.Mail.{bytes_of, connects, is_disconnect, messages_of, messages_to, numbered}
use Rattle.wire_out.specs.Places.{is_open}
use Rattle.wire_out.specs.declared.delivery.Delivery.{Delivery}

-- these are the messages so far, and those behind the first are written
pub record IsDelivered (d : Delivery) (ms : List Message) : Type 0 where
  pub sent : d.sent ≡ length ms
  pub bytes : d.bytes.items ≡ bytes_of (drop d.from (numbered 1 ms))

-- so many messages at most and no other follow, of the same connection
pub record Adds (old new : Delivery) (added : List Message) : Type 0 where
  pub who : new.who ≡ old.who
  pub connected : new.connected ≡ old.connected
  pub from : new.from ≡ old.from
  pub sent : new.sent ≡ old.sent + length added
  pub delivered : (ms : List Message) → IsDelivered old ms → IsDelivered new (ms ++ added)

-- whether a connection is connected behind an entry
abbrev pub open_behind : ConnId → Bool → Entry → Bool
open_behind c was e = if was then not (is_disconnect c e.event) else connects c e

-- what an entry tells it
abbrev pub messages_by : ConnId → Bool → Entry → List Message
messages_by c was e = if was && not (is_disconnect c e.event) then messages_of c e else []

-- the delivery has gone over one more entry
pub record Steps (old new : Delivery) (e : Entry) : Type 0 where
  pub who : new.who ≡ old.who
  pub from : new.from ≡ old.from
  pub connected : new.connected ≡ open_behind old.who old.connected e
  pub delivered : (ms : List Message) → IsDelivered old ms → IsDelivered new (ms ++ messages_by old.who old.connected e)

-- the delivery has gone over these entries
pub record IsAt (d : Delivery) (J : List Entry) : Type 0 where
  pub connected : d.connected ≡ is_open d.who J
  pub delivered : IsDelivered d (messages_to d.who J)

-- how many messages an entry has at most
abbrev pub most_of : Entry → ℕ
most_of e = 3 * length e.marks + 1
