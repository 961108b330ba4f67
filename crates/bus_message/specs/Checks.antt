-- What the checks of a message's fields are told.
use Rattle.std.specs.Prelude.{◌≡◌, List}
use Rattle.bus_names.specs.Reading.{interface_fault, member_fault, bus_name_fault}
use Rattle.bus_value.specs.Values.{Val}
use Rattle.bus_message.specs.declared.message.Message.{Message}
use Rattle.bus_message.specs.Fields.{found, path_at, name_at, u32_at}

-- the message has what the fields tell
pub record Tells (m : Message) (fs : List Val) : Type 0 where
  pub path : m.path ≡ path_at (found 1 fs)
  pub interface : m.interface ≡ name_at interface_fault (found 2 fs)
  pub member : m.member ≡ name_at member_fault (found 3 fs)
  pub error : m.error ≡ name_at interface_fault (found 4 fs)
  pub reply_to : m.reply_to ≡ u32_at (found 5 fs)
  pub destination : m.destination ≡ name_at bus_name_fault (found 6 fs)
  pub sender : m.sender ≡ name_at bus_name_fault (found 7 fs)
