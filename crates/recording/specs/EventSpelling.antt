-- How events are spelled.
use Rattle.std.specs.Prelude.{ℕ, ◌≡◌, ◌<◌, ◌^◌, FitsSigned, Bool, true, if◌then◌else◌, List, [], ◌∷◌, ◌++◌, codes}
use Rattle.std.specs.Fmt.{decimal, signed_decimal}
use Rattle.std.specs.Int.{w32}
use Rattle.std.specs.List.{AllByRecursion}
use Rattle.login_base.specs.Seat.{is_seat_name}
use Rattle.login_model.specs.declared.hardware.Hardware.{Hardware}
use Rattle.login_model.specs.declared.hardware.Hardware.TheVariants.{Add, Remove, Input, VtKey, Key, Dock, Exit, JobDone}
use Rattle.login_model.specs.declared.event.Event.{Event}
use Rattle.login_model.specs.declared.event.Event.TheVariants as event
use Rattle.login_model.specs.Texts.{IsText, texts, has_object}
use Rattle.login_model.specs.Words.{device_kind_word, key_word}
use Rattle.recording.specs.Text.{spell_text, spell_flag}
use Rattle.recording.specs.Calls.{call_words, device_words, FitsCall, FitsDevice}
use Rattle.login_model.specs.Limits.{text_limit}
use Rattle.recording.specs.Limits.{line_limit}

-- `send` where no reply is expected
abbrev pub request_word : Bool → List ℕ
request_word quiet = if quiet then codes "send" else codes "call"

-- the words of a hardware event; a seat stands as it is
unfoldable pub hardware_words : Hardware → List (List ℕ)
hardware_words (Add d kind seat) = codes "add" ∷ (device_words d ++ device_kind_word kind ∷ seat ∷ [])
hardware_words (Remove d) = codes "remove" ∷ device_words d
hardware_words (Input d type code value) = codes "input" ∷ (device_words d ++ decimal type ∷ decimal code ∷ signed_decimal value ∷ [])
hardware_words (VtKey vt) = codes "vtkey" ∷ decimal vt ∷ []
hardware_words (Key key) = codes "key" ∷ key_word key ∷ []
hardware_words (Dock on) = codes "dock" ∷ spell_flag on ∷ []
hardware_words (Exit id) = codes "exit" ∷ spell_text id ∷ []
hardware_words JobDone = codes "jobdone" ∷ []

-- the words of an event
unfoldable pub event_words : Event → List (List ℕ)
event_words (event.Connect c u) = codes "connect" ∷ decimal c.0 ∷ decimal u.0 ∷ []
event_words (event.Disconnect c) = codes "disconnect" ∷ decimal c.0 ∷ []
event_words (event.Call r) = request_word r.quiet ∷ decimal r.who.0 ∷ decimal r.serial ∷ call_words r.call
event_words (event.Hardware x) = hardware_words x
event_words (event.Tick m) = codes "tick" ∷ decimal m.0 ∷ []
event_words event.Stop = codes "stop" ∷ []

-- the values of a hardware event are within their types, and an id is not too long
abbrev pub FitsHardware : Hardware → Type 0
FitsHardware (Add d kind seat) = FitsDevice d × (is_seat_name seat ≡ true)
FitsHardware (Remove d) = FitsDevice d
FitsHardware (Input d type code value) = FitsDevice d × (type < 2 ^ 16) × (code < 2 ^ 16) × FitsSigned w32 value
FitsHardware (VtKey vt) = vt < 2 ^ 32
FitsHardware (Key key) = Unit {0}
FitsHardware (Dock on) = Unit {0}
FitsHardware (Exit id) = IsText text_limit id
FitsHardware JobDone = Unit {0}

-- the values of an event that is no call are within their types, and connections are above 0
abbrev pub FitsPlain : Event → Type 0
FitsPlain (event.Connect c u) = (0 < c.0) × (c.0 < 2 ^ 32) × (u.0 < 2 ^ 32)
FitsPlain (event.Disconnect c) = (0 < c.0) × (c.0 < 2 ^ 32)
FitsPlain (event.Call r) = Unit {0}
FitsPlain (event.Hardware x) = FitsHardware x
FitsPlain (event.Tick m) = m.0 < 2 ^ 64
FitsPlain event.Stop = Unit {0}

-- the same, and for a call: its numbers are within their types, connection and serial are above 0, its
-- texts are not too long, and a property is one of an object that has properties
abbrev pub Fits : Event → Type 0
Fits (event.Call r) =
    (0 < r.who.0) × (r.who.0 < 2 ^ 32) × (0 < r.serial) × (r.serial < 2 ^ 32) × FitsCall r.call
    × AllByRecursion (IsText text_limit) (texts r.call) × (has_object r.call ≡ true)
Fits e = FitsPlain e

-- the same for an event as it is written: its texts are as long as a line lets them be, and the path
-- of a property is any text
abbrev pub IsWrittenEvent : Event → Type 0
IsWrittenEvent (event.Call r) =
    (0 < r.who.0) × (r.who.0 < 2 ^ 32) × (0 < r.serial) × (r.serial < 2 ^ 32) × FitsCall r.call
    × AllByRecursion (IsText line_limit) (texts r.call)
IsWrittenEvent e = FitsPlain e
