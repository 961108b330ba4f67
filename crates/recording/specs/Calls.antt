-- Calls: which words each has, how it is spelled, and what bounds its numbers.
use Rattle.std.specs.Prelude.{ℕ, ◌<◌, ◌^◌, FitsSigned, List, [], ◌∷◌, codes}
use Rattle.std.specs.Fmt.{decimal, signed_decimal}
use Rattle.std.specs.Int.{w32}
use Rattle.login_base.specs.declared.ids.DevNo.{DevNo}
use Rattle.login_model.specs.declared.call.PropertyName.{PropertyName}
use Rattle.login_model.specs.declared.call.Call.{Call}
use Rattle.login_model.specs.declared.call.Call.TheVariants as call
use Rattle.login_model.specs.Words.{operation_word}
use Rattle.recording.specs.declared.argument.WordKind.TheVariants.{Number, Signed, Flag, Text, Operation}
use Rattle.recording.specs.Text.{spell_text, spell_flag}
use Rattle.recording.specs.Shapes.{Shape, shape}

-- calls of a property or of the bus itself, and the words for other messages
abbrev pub other_shapes : List Shape
other_shapes =
    shape (codes "get") (Text ∷ Text ∷ Text ∷ [])
    ∷ shape (codes "get-all") (Text ∷ Text ∷ [])
    ∷ shape (codes "set") (Text ∷ Text ∷ Text ∷ [])
    ∷ shape (codes "ping") []
    ∷ shape (codes "machine-id") []
    ∷ shape (codes "hello") []
    ∷ shape (codes "owner") (Text ∷ [])
    ∷ shape (codes "add-match") (Text ∷ [])
    ∷ shape (codes "remove-match") (Text ∷ [])
    ∷ shape (codes "nothing") []
    ∷ shape (codes "no-object") []
    ∷ shape (codes "no-method") []
    ∷ shape (codes "bad-args") []
    ∷ []

-- calls of a seat, a user or the machine, and the others
abbrev pub seat_shapes : List Shape
seat_shapes =
    shape (codes "switch") (Text ∷ Number ∷ [])
    ∷ shape (codes "next") (Text ∷ [])
    ∷ shape (codes "prev") (Text ∷ [])
    ∷ shape (codes "terminate-seat") (Text ∷ [])
    ∷ shape (codes "terminate-user") (Number ∷ [])
    ∷ shape (codes "kill-user") (Number ∷ Signed ∷ [])
    ∷ shape (codes "linger") (Number ∷ Flag ∷ [])
    ∷ shape (codes "read") (Number ∷ [])
    ∷ shape (codes "set-mode") (Number ∷ Number ∷ [])
    ∷ shape (codes "close") (Number ∷ [])
    ∷ other_shapes

-- calls of a session, and the others
abbrev pub session_shapes : List Shape
session_shapes =
    shape (codes "activate") (Text ∷ [])
    ∷ shape (codes "activate-on") (Text ∷ Text ∷ [])
    ∷ shape (codes "lock") (Text ∷ [])
    ∷ shape (codes "unlock") (Text ∷ [])
    ∷ shape (codes "kill") (Text ∷ Text ∷ Signed ∷ [])
    ∷ shape (codes "terminate") (Text ∷ [])
    ∷ shape (codes "idle") (Text ∷ Flag ∷ [])
    ∷ shape (codes "locked") (Text ∷ Flag ∷ [])
    ∷ shape (codes "control") (Text ∷ Flag ∷ [])
    ∷ shape (codes "uncontrol") (Text ∷ [])
    ∷ shape (codes "take") (Text ∷ Number ∷ Number ∷ [])
    ∷ shape (codes "release") (Text ∷ Number ∷ Number ∷ [])
    ∷ shape (codes "paused") (Text ∷ Number ∷ Number ∷ [])
    ∷ seat_shapes

-- calls of the manager, and the others
abbrev pub manager_shapes : List Shape
manager_shapes =
    shape (codes "create")
    (Number ∷ Number ∷ Text ∷ Text ∷ Text ∷ Text ∷ Text ∷ Number ∷ Text ∷ Text ∷ Flag ∷ Text ∷ Text ∷ [])
    ∷ shape (codes "get-session") (Text ∷ [])
    ∷ shape (codes "get-user") (Number ∷ [])
    ∷ shape (codes "get-seat") (Text ∷ [])
    ∷ shape (codes "list-sessions") []
    ∷ shape (codes "list-users") []
    ∷ shape (codes "list-seats") []
    ∷ shape (codes "list-inhibitors") []
    ∷ shape (codes "lock-all") []
    ∷ shape (codes "unlock-all") []
    ∷ shape (codes "power") (Operation ∷ [])
    ∷ shape (codes "can") (Operation ∷ [])
    ∷ shape (codes "inhibit") (Text ∷ Text ∷ Text ∷ Text ∷ [])
    ∷ session_shapes

-- all calls
abbrev pub call_shapes : List Shape
call_shapes = manager_shapes

-- a device's number
abbrev pub device_words : DevNo → List (List ℕ)
device_words d = decimal d.major ∷ decimal d.minor ∷ []

abbrev pub property_words : PropertyName → List (List ℕ)
property_words x = spell_text x.path ∷ spell_text x.interface ∷ spell_text x.name ∷ []

-- the words of a call
unfoldable pub call_words : Call → List (List ℕ)
call_words (call.Create x) =
    codes "create" ∷ decimal x.uid.0 ∷ decimal x.process ∷ spell_text x.service ∷ spell_text x.session_type ∷ spell_text x.class
    ∷ spell_text x.desktop ∷ spell_text x.seat ∷ decimal x.vt ∷ spell_text x.tty ∷ spell_text x.display ∷ spell_flag x.remote
    ∷ spell_text x.remote_user ∷ spell_text x.remote_host ∷ []
call_words (call.GetSession id) = codes "get-session" ∷ spell_text id ∷ []
call_words (call.GetUser u) = codes "get-user" ∷ decimal u.0 ∷ []
call_words (call.GetSeat seat) = codes "get-seat" ∷ spell_text seat ∷ []
call_words call.ListSessions = codes "list-sessions" ∷ []
call_words call.ListUsers = codes "list-users" ∷ []
call_words call.ListSeats = codes "list-seats" ∷ []
call_words call.ListInhibitors = codes "list-inhibitors" ∷ []
call_words (call.Activate id) = codes "activate" ∷ spell_text id ∷ []
call_words (call.ActivateOnSeat id seat) = codes "activate-on" ∷ spell_text id ∷ spell_text seat ∷ []
call_words (call.Lock id) = codes "lock" ∷ spell_text id ∷ []
call_words (call.Unlock id) = codes "unlock" ∷ spell_text id ∷ []
call_words call.LockAll = codes "lock-all" ∷ []
call_words call.UnlockAll = codes "unlock-all" ∷ []
call_words (call.Kill id who signal) = codes "kill" ∷ spell_text id ∷ spell_text who ∷ signed_decimal signal ∷ []
call_words (call.Terminate id) = codes "terminate" ∷ spell_text id ∷ []
call_words (call.TerminateUser u) = codes "terminate-user" ∷ decimal u.0 ∷ []
call_words (call.TerminateSeat seat) = codes "terminate-seat" ∷ spell_text seat ∷ []
call_words (call.SetLinger u on) = codes "linger" ∷ decimal u.0 ∷ spell_flag on ∷ []
call_words (call.Power kind) = codes "power" ∷ operation_word kind ∷ []
call_words (call.Can kind) = codes "can" ∷ operation_word kind ∷ []
call_words (call.Inhibit x) = codes "inhibit" ∷ spell_text x.what ∷ spell_text x.who ∷ spell_text x.why ∷ spell_text x.mode ∷ []
call_words (call.SetIdle id on) = codes "idle" ∷ spell_text id ∷ spell_flag on ∷ []
call_words (call.SetLocked id on) = codes "locked" ∷ spell_text id ∷ spell_flag on ∷ []
call_words (call.Control id force) = codes "control" ∷ spell_text id ∷ spell_flag force ∷ []
call_words (call.Uncontrol id) = codes "uncontrol" ∷ spell_text id ∷ []
call_words (call.TakeDevice id d) = codes "take" ∷ spell_text id ∷ device_words d
call_words (call.ReleaseDevice id d) = codes "release" ∷ spell_text id ∷ device_words d
call_words (call.PauseComplete id d) = codes "paused" ∷ spell_text id ∷ device_words d
call_words (call.SwitchTo seat vt) = codes "switch" ∷ spell_text seat ∷ decimal vt ∷ []
call_words (call.SwitchToNext seat) = codes "next" ∷ spell_text seat ∷ []
call_words (call.SwitchToPrevious seat) = codes "prev" ∷ spell_text seat ∷ []
call_words (call.KillUser u signal) = codes "kill-user" ∷ decimal u.0 ∷ signed_decimal signal ∷ []
call_words (call.ReadInput h) = codes "read" ∷ decimal h.0 ∷ []
call_words (call.SetMode h mode) = codes "set-mode" ∷ decimal h.0 ∷ decimal mode ∷ []
call_words (call.Close h) = codes "close" ∷ decimal h.0 ∷ []
call_words (call.GetProperty x) = codes "get" ∷ property_words x
call_words (call.GetAllProperties path interface) = codes "get-all" ∷ spell_text path ∷ spell_text interface ∷ []
call_words (call.SetProperty x) = codes "set" ∷ property_words x
call_words call.Ping = codes "ping" ∷ []
call_words call.GetMachineId = codes "machine-id" ∷ []
call_words call.Hello = codes "hello" ∷ []
call_words (call.GetNameOwner name) = codes "owner" ∷ spell_text name ∷ []
call_words (call.AddMatch rule) = codes "add-match" ∷ spell_text rule ∷ []
call_words (call.RemoveMatch rule) = codes "remove-match" ∷ spell_text rule ∷ []
call_words call.NoCall = codes "nothing" ∷ []
call_words call.NoObject = codes "no-object" ∷ []
call_words call.NoMethod = codes "no-method" ∷ []
call_words call.BadArguments = codes "bad-args" ∷ []

abbrev pub FitsDevice : DevNo → Type 0
FitsDevice d = (d.major < 2 ^ 32) × (d.minor < 2 ^ 32)

-- the numbers of a call are within their types
abbrev pub FitsCall : Call → Type 0
FitsCall (call.Create x) = (x.uid.0 < 2 ^ 32) × (x.process < 2 ^ 32) × (x.vt < 2 ^ 32)
FitsCall (call.GetUser u) = u.0 < 2 ^ 32
FitsCall (call.Kill id who signal) = FitsSigned w32 signal
FitsCall (call.TerminateUser u) = u.0 < 2 ^ 32
FitsCall (call.SetLinger u on) = u.0 < 2 ^ 32
FitsCall (call.TakeDevice id d) = FitsDevice d
FitsCall (call.ReleaseDevice id d) = FitsDevice d
FitsCall (call.PauseComplete id d) = FitsDevice d
FitsCall (call.SwitchTo seat vt) = vt < 2 ^ 32
FitsCall (call.KillUser u signal) = (u.0 < 2 ^ 32) × FitsSigned w32 signal
FitsCall (call.ReadInput h) = h.0 < 2 ^ 32
FitsCall (call.SetMode h mode) = (h.0 < 2 ^ 32) × (mode < 2 ^ 32)
FitsCall (call.Close h) = h.0 < 2 ^ 32
FitsCall _ = Unit {0}
