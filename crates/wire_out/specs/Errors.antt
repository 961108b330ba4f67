-- What a denied call is answered: an error's name and its text.
use Rattle.std.specs.Prelude.{ℕ, List, ◌∷◌, codes}
use Rattle.std.specs.List.{join_with_byte}
use Rattle.login_model.specs.RuleWords.{rule_words}
use Rattle.login_model.specs.declared.call.Call.{Call}
use Rattle.login_model.specs.declared.call.Call.TheVariants as call
use Rattle.login_model.specs.declared.rule.Rule.{Rule}
use Rattle.login_model.specs.declared.rule.Rule.TheVariants as rule

-- a name without an owner, or a process that is not connected
abbrev pub nobody_error : Call → List ℕ
nobody_error (call.GetNameOwner name) = codes "org.freedesktop.DBus.Error.NameHasNoOwner"
nobody_error _ = codes "org.freedesktop.DBus.Error.UnixProcessIdUnknown"

-- the name of the error that a broken rule is: one of the D-Bus Specification where it has one for it
unfoldable pub error_name : Call → Rule → List ℕ
error_name c rule.UnknownObject = codes "org.freedesktop.DBus.Error.UnknownObject"
error_name c rule.UnknownMethod = codes "org.freedesktop.DBus.Error.UnknownMethod"
error_name c rule.BadArguments = codes "org.freedesktop.DBus.Error.InvalidArgs"
error_name c rule.NoSuchSession = codes "org.freedesktop.login1.NoSuchSession"
error_name c rule.NoSuchUser = codes "org.freedesktop.login1.NoSuchUser"
error_name c rule.NoSuchSeat = codes "org.freedesktop.login1.NoSuchSeat"
error_name c rule.NoSuchHandle = codes "org.freedesktop.login1.NoSuchHandle"
error_name c rule.NoSuchDevice = codes "org.freedesktop.login1.NoSuchDevice"
error_name c rule.NotRoot = codes "org.freedesktop.DBus.Error.AccessDenied"
error_name c rule.NotOwner = codes "org.freedesktop.DBus.Error.AccessDenied"
error_name c (rule.ActionRefused a) = codes "org.freedesktop.DBus.Error.AccessDenied"
error_name c (rule.ActionChallenge a) = codes "org.freedesktop.DBus.Error.InteractiveAuthorizationRequired"
error_name c rule.SessionClosing = codes "org.freedesktop.login1.SessionClosing"
error_name c rule.NoSeat = codes "org.freedesktop.login1.NoSeat"
error_name c rule.SessionNotOnSeat = codes "org.freedesktop.login1.SessionNotOnSeat"
error_name c rule.DeviceNotOnSeat = codes "org.freedesktop.login1.DeviceNotOnSeat"
error_name c (rule.Controlled b) = codes "org.freedesktop.login1.Controlled"
error_name c rule.NotInControl = codes "org.freedesktop.login1.NotInControl"
error_name c rule.DeviceTaken = codes "org.freedesktop.login1.DeviceTaken"
error_name c rule.DeviceNotTaken = codes "org.freedesktop.login1.DeviceNotTaken"
error_name c (rule.VtBusy s) = codes "org.freedesktop.login1.VtBusy"
error_name c (rule.OperationInProgress kind) = codes "org.freedesktop.login1.OperationInProgress"
error_name c (rule.Inhibited lock) = codes "org.freedesktop.login1.Inhibited"
error_name c rule.DelayNotOffered = codes "org.freedesktop.login1.DelayNotOffered"
error_name c (rule.Limit limit) = codes "org.freedesktop.DBus.Error.LimitsExceeded"
error_name c rule.NotLive = codes "org.freedesktop.login1.NotLive"
error_name c rule.NotYours = codes "org.freedesktop.DBus.Error.AccessDenied"
error_name c rule.WrongKind = codes "org.freedesktop.login1.WrongKind"
error_name c rule.DevicePresent = codes "org.freedesktop.login1.DevicePresent"
error_name c rule.DeviceAbsent = codes "org.freedesktop.login1.DeviceAbsent"
error_name c rule.NoJob = codes "org.freedesktop.login1.NoJob"
error_name c (rule.ClockBackwards m) = codes "org.freedesktop.login1.ClockBackwards"
error_name c rule.KeyIgnored = codes "org.freedesktop.login1.KeyIgnored"
error_name c rule.UnknownProperty = codes "org.freedesktop.DBus.Error.UnknownProperty"
error_name c rule.ReadOnlyProperty = codes "org.freedesktop.DBus.Error.PropertyReadOnly"
error_name c rule.Nobody = nobody_error c

-- the text of an error: that it is a rule, which one, and its detail, with a space between any two
unfoldable pub rule_text : Rule → List ℕ
rule_text r = join_with_byte 32 (codes "rule" ∷ rule_words r)
