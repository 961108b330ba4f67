-- What the types of a message's parts say of them.
use Rattle.std.specs.Prelude.{ℕ, ◌≡◌, ◌<◌, ◌^◌, List, Option, Some, None}
use Rattle.bus_names.specs.Reading.{path_fault, interface_fault, member_fault, bus_name_fault}
use Rattle.bus_message.specs.declared.message.Message.{Message}

-- a name, if it is there, is one
abbrev pub IsNameIf : (List ℕ → Option ℕ) → Option (List ℕ) → Type 0
IsNameIf fault None = Unit {0}
IsNameIf fault (Some text) = fault text ≡ None

abbrev pub IsU32If : Option ℕ → Type 0
IsU32If None = Unit {0}
IsU32If (Some n) = n < 2 ^ 32

pub record HasTarget (m : Message) : Type 0 where
  pub path : IsNameIf path_fault m.path
  pub interface : IsNameIf interface_fault m.interface
  pub member : IsNameIf member_fault m.member

pub record HasAnswer (m : Message) : Type 0 where
  pub error : IsNameIf interface_fault m.error
  pub reply_to : IsU32If m.reply_to

pub record HasParties (m : Message) : Type 0 where
  pub destination : IsNameIf bus_name_fault m.destination
  pub sender : IsNameIf bus_name_fault m.sender

pub record HasNames (m : Message) : Type 0 where
  pub target : HasTarget m
  pub answer : HasAnswer m
  pub parties : HasParties m

pub record HasRanges (m : Message) : Type 0 where
  pub kind : m.kind < 2 ^ 8
  pub flags : m.flags < 2 ^ 8
  pub serial : m.serial < 2 ^ 32
