-- Which bytes are which message: the D-Bus Specification, "Message Protocol".
use Rattle.std.specs.Prelude.{ℕ, ◌≡◌, ◌≤◌, ◌<◌, ◌^◌, List, [], ◌∷◌, length, slice_index, true, None}
use Rattle.bus_value.specs.Values.{Val}
use Rattle.bus_value.specs.Grammar.{Spells}
use Rattle.bus_message.specs.declared.message.Message.{Message}
use Rattle.bus_message.specs.Checks.{Tells}
use Rattle.bus_value.specs.Fields.{list_type}
use Rattle.bus_message.specs.Fields.{bad_field, has_required, handles, signature}
use Rattle.bus_message.specs.Headers.{most_cut}
use Rattle.bus_message.specs.Spelling.{list_of, behind_list, assembled}

-- each is a byte
abbrev pub AreBytes : List ℕ → Type 0
AreBytes bytes = (i : ℕ) → slice_index bytes i < 256

-- The message's numbers are those of its parts, and neither kind nor serial is 0.
pub record HasNumbers (m : Message) : Type 0 where
  pub kind : (0 < m.kind) × (m.kind < 2 ^ 8)
  pub flags : m.flags < 2 ^ 8
  pub serial : (0 < m.serial) × (m.serial < 2 ^ 32)

-- Each known field stands there once at most and holds what it is to hold. The message is what the fields tell, has
-- those that its kind requires, and comes with no file descriptor.
pub record HasFields (m : Message) (fs : List Val) : Type 0 where
  pub known : bad_field m.order [] 16 fs ≡ None
  pub tells : Tells m fs
  pub required : has_required m ≡ true
  pub no_handles : handles fs ≡ 0

-- the bytes are the message, with fields and a body whose spellings they are, however long
pub record IsSpelled (bytes : List ℕ) (m : Message) : Type 0 where
  pub numbers : HasNumbers m
  pub fields : List Val
  pub list : List ℕ
  pub body : List ℕ
  pub has_fields : HasFields m fields
  pub list_spelled : Spells m.order 12 (list_type ∷ []) (list_of fields) list
  pub body_spelled : Spells m.order (behind_list (length list)) (signature fields) m.body body
  pub whole : bytes ≡ assembled m list body
  pub body_room : length body < 2 ^ 32

-- the same, and they are not too many
pub record IsMessage (bytes : List ℕ) (m : Message) : Type 0 where
  pub spelled : IsSpelled bytes m
  pub short : length bytes ≤ most_cut
