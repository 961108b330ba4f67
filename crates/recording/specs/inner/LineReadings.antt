-- What the words of a line say, as its reader goes over them.
use Rattle.std.specs.Prelude.{ℕ, ◌==◌, Bool, true, false, if◌then◌else◌, Option, Some, None, List, [], ◌∷◌, length, codes}
use Rattle.std.specs.List.{join_with_byte}
use Rattle.std.specs.Option.{option_and_then, option_map}
use Rattle.std.specs.Str.{bytes_eq}
use Rattle.login_base.specs.declared.ids.ConnId.{ConnId}
use Rattle.login_base.specs.declared.ids.Millis.{Millis}
use Rattle.login_model.specs.declared.hardware.Hardware.TheVariants.{Add, Remove, Input, VtKey, Key, Dock, Exit, JobDone}
use Rattle.login_model.specs.declared.call.Call.{Call}
use Rattle.login_model.specs.declared.event.Event.TheVariants.{Connect, Disconnect, Call as Calls, Hardware as Happens, Tick, Stop}
use Rattle.login_model.specs.Words.{device_kind_named, key_named}
use Rattle.recording.specs.declared.argument.Positive.{Positive}
use Rattle.recording.specs.declared.argument.Version.{Version}
use Rattle.recording.specs.declared.argument.Guid.{Guid}
use Rattle.recording.specs.declared.argument.UserName.{UserName}
use Rattle.recording.specs.declared.argument.SessionName.{SessionName}
use Rattle.recording.specs.declared.line.Line.{Line}
use Rattle.recording.specs.declared.line.Line.TheVariants.{Header, Guid as GuidLine, User, Conf, Action, Go, Event as EventLine, Link, In, Hangup, End}
use Rattle.login_base.specs.Number.{whole_of}
use Rattle.recording.specs.Words.{positive_of, small_of, signed_of, flag_of, hex_of}
use Rattle.recording.specs.inner.Words.{seat_of, guid_of}
use Rattle.recording.specs.inner.Arguments.{single, pair_of, made, whole, alone, name_of, version_of, connection_id, numbers, users, devices}
use Rattle.recording.specs.inner.CallReadings.{call_of}
use Rattle.login_model.specs.Limits.{name_limit, text_limit}

abbrev pub above_nought : ℕ → Positive
above_nought n = record { 0 = n }

abbrev pub millis : ℕ → Millis
millis n = record { 0 = n }

abbrev pub user_name : List ℕ → UserName
user_name text = record { 0 = text }

abbrev pub session_name : List ℕ → SessionName
session_name text = record { 0 = text }

abbrev pub version : ℕ → Version
version n = record { 0 = n }

abbrev pub identity : List ℕ → Guid
identity text = record { 0 = text }

abbrev pub positives : List (List ℕ) → Option (Positive × List (List ℕ))
positives words = made above_nought (single positive_of) words

abbrev pub connections : List (List ℕ) → Option (ConnId × List (List ℕ))
connections words = made connection_id (single positive_of) words

-- a link of a connection, and one that stops
unfoldable pub link_line_of : List ℕ → List (List ℕ) → Option Line
link_line_of word words =
    if bytes_eq word (codes "link") then option_map (λ x. Link x.0 x.1) (whole (pair_of connections users words))
    else if bytes_eq word (codes "in") then option_map (λ x. In x.0 x.1) (whole (pair_of connections (single hex_of) words))
    else if bytes_eq word (codes "hangup") then option_map Hangup (whole (connections words))
    else if bytes_eq word (codes "end") then alone End words
    else None

-- an event of the hardware, or one of the others
unfoldable pub hardware_line_of : List ℕ → List (List ℕ) → Option Line
hardware_line_of word words =
    if bytes_eq word (codes "add") then option_map (λ x. EventLine (Happens (Add x.0 x.1.0 x.1.1))) (whole (pair_of devices (pair_of (single device_kind_named) (single seat_of)) words))
    else if bytes_eq word (codes "remove") then option_map (λ x. EventLine (Happens (Remove x))) (whole (devices words))
    else if bytes_eq word (codes "input") then option_map (λ x. EventLine (Happens (Input x.0 x.1.0 x.1.1.0 x.1.1.1))) (whole (pair_of devices (pair_of (single small_of) (pair_of (single small_of) (single signed_of))) words))
    else if bytes_eq word (codes "vtkey") then option_map (λ x. EventLine (Happens (VtKey x))) (whole (numbers words))
    else if bytes_eq word (codes "key") then option_map (λ x. EventLine (Happens (Key x))) (whole (single key_named words))
    else if bytes_eq word (codes "dock") then option_map (λ x. EventLine (Happens (Dock x))) (whole (single flag_of words))
    else if bytes_eq word (codes "exit") then option_map (λ x. EventLine (Happens (Exit x.0))) (whole (made session_name (single (name_of text_limit)) words))
    else if bytes_eq word (codes "jobdone") then alone (EventLine (Happens JobDone)) words
    else link_line_of word words

-- another event, or one of the others
unfoldable pub event_line_of : List ℕ → List (List ℕ) → Option Line
event_line_of word words =
    if bytes_eq word (codes "connect") then option_map (λ x. EventLine (Connect x.0 x.1)) (whole (pair_of connections users words))
    else if bytes_eq word (codes "disconnect") then option_map (λ x. EventLine (Disconnect x)) (whole (connections words))
    else if bytes_eq word (codes "tick") then option_map (λ x. EventLine (Tick x)) (whole (made millis (single whole_of) words))
    else if bytes_eq word (codes "stop") then alone (EventLine Stop) words
    else hardware_line_of word words

-- four words, whatever they are
abbrev pub action_of : List (List ℕ) → Option Line
action_of words = if length words == 4 then Some (Action (join_with_byte 32 words)) else None

-- a line of the preamble, or one of the others
unfoldable pub known_line_of : List ℕ → List (List ℕ) → Option Line
known_line_of word words =
    if bytes_eq word (codes "login-recording") then option_map (λ x. Header x.0) (whole (made version (single version_of) words))
    else if bytes_eq word (codes "guid") then option_map (λ x. GuidLine x.0) (whole (made identity (single guid_of) words))
    else if bytes_eq word (codes "user") then option_map (λ x. User (record { uid = record { 0 = x.0.0 }; gid = x.1.0; name = x.1.1.0 })) (whole (pair_of positives (pair_of numbers (made user_name (single (name_of name_limit)))) words))
    else if bytes_eq word (codes "action") then action_of words
    else if bytes_eq word (codes "go") then alone Go words
    else event_line_of word words

-- the request of a call, where its call is this one
abbrev pub request : Bool → (ConnId × Positive) × List (List ℕ) → Call → Line
request quiet x call = EventLine (Calls (record { who = x.0.0; serial = x.0.1.0; quiet = quiet; call = call }))

abbrev pub request_of : Bool → List (List ℕ) → Option Line
request_of quiet words = option_and_then (λ x. option_map (request quiet x) (call_of x.1)) (pair_of connections positives words)

-- by the first word; of a line of the configuration, all bytes behind the first space
unfoldable pub line_of : List (List ℕ) → Option Line
line_of [] = None
line_of (word ∷ words) =
    if bytes_eq word (codes "call") then request_of false words
    else if bytes_eq word (codes "send") then request_of true words
    else if bytes_eq word (codes "conf") then Some (Conf (join_with_byte 32 words))
    else known_line_of word words
