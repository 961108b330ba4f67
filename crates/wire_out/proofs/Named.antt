-- The names of errors are names, and short.
use Rattle.std.proofs.Common.{◌≡◌, ◌≤◌, length, refl, arith, None}
use Rattle.bus_names.specs.Grammar.{fault_from}
use Rattle.bus_names.specs.Reading.{interface_fault}
use Rattle.login_model.specs.declared.call.Call.{Call}
use Rattle.login_model.specs.declared.call.Call.TheVariants as call
use Rattle.login_model.specs.declared.rule.Rule.{Rule}
use Rattle.login_model.specs.declared.rule.Rule.TheVariants as rule
use Rattle.wire_out.specs.Errors.{error_name, nobody_error}

nobody_fault : (c : Call) → interface_fault (nobody_error c) ≡ None
unfolding interface_fault fault_from
nobody_fault (call.GetNameOwner name) = refl
nobody_fault _ = refl

nobody_short : (c : Call) → length (nobody_error c) ≤ 255
nobody_short (call.GetNameOwner name) = omega arith
nobody_short _ = omega arith

pub error_fault : (c : Call) (r : Rule) → interface_fault (error_name c r) ≡ None
unfolding error_name interface_fault fault_from
error_fault c rule.UnknownObject = refl
error_fault c rule.UnknownMethod = refl
error_fault c rule.BadArguments = refl
error_fault c rule.NoSuchSession = refl
error_fault c rule.NoSuchUser = refl
error_fault c rule.NoSuchSeat = refl
error_fault c rule.NoSuchHandle = refl
error_fault c rule.NoSuchDevice = refl
error_fault c rule.NotRoot = refl
error_fault c rule.NotOwner = refl
error_fault c (rule.ActionRefused a) = refl
error_fault c (rule.ActionChallenge a) = refl
error_fault c rule.SessionClosing = refl
error_fault c rule.NoSeat = refl
error_fault c rule.SessionNotOnSeat = refl
error_fault c rule.DeviceNotOnSeat = refl
error_fault c (rule.Controlled b) = refl
error_fault c rule.NotInControl = refl
error_fault c rule.DeviceTaken = refl
error_fault c rule.DeviceNotTaken = refl
error_fault c (rule.VtBusy s) = refl
error_fault c (rule.OperationInProgress kind) = refl
error_fault c (rule.Inhibited lock) = refl
error_fault c rule.DelayNotOffered = refl
error_fault c (rule.Limit limit) = refl
error_fault c rule.NotLive = refl
error_fault c rule.NotYours = refl
error_fault c rule.WrongKind = refl
error_fault c rule.DevicePresent = refl
error_fault c rule.DeviceAbsent = refl
error_fault c rule.NoJob = refl
error_fault c (rule.ClockBackwards m) = refl
error_fault c rule.KeyIgnored = refl
error_fault c rule.UnknownProperty = refl
error_fault c rule.ReadOnlyProperty = refl
error_fault c rule.Nobody = nobody_fault c

pub error_short : (c : Call) (r : Rule) → length (error_name c r) ≤ 255
unfolding error_name
error_short c rule.UnknownObject = omega arith
error_short c rule.UnknownMethod = omega arith
error_short c rule.BadArguments = omega arith
error_short c rule.NoSuchSession = omega arith
error_short c rule.NoSuchUser = omega arith
error_short c rule.NoSuchSeat = omega arith
error_short c rule.NoSuchHandle = omega arith
error_short c rule.NoSuchDevice = omega arith
error_short c rule.NotRoot = omega arith
error_short c rule.NotOwner = omega arith
error_short c (rule.ActionRefused a) = omega arith
error_short c (rule.ActionChallenge a) = omega arith
error_short c rule.SessionClosing = omega arith
error_short c rule.NoSeat = omega arith
error_short c rule.SessionNotOnSeat = omega arith
error_short c rule.DeviceNotOnSeat = omega arith
error_short c (rule.Controlled b) = omega arith
error_short c rule.NotInControl = omega arith
error_short c rule.DeviceTaken = omega arith
error_short c rule.DeviceNotTaken = omega arith
error_short c (rule.VtBusy s) = omega arith
error_short c (rule.OperationInProgress kind) = omega arith
error_short c (rule.Inhibited lock) = omega arith
error_short c rule.DelayNotOffered = omega arith
error_short c (rule.Limit limit) = omega arith
error_short c rule.NotLive = omega arith
error_short c rule.NotYours = omega arith
error_short c rule.WrongKind = omega arith
error_short c rule.DevicePresent = omega arith
error_short c rule.DeviceAbsent = omega arith
error_short c rule.NoJob = omega arith
error_short c (rule.ClockBackwards m) = omega arith
error_short c rule.KeyIgnored = omega arith
error_short c rule.UnknownProperty = omega arith
error_short c rule.ReadOnlyProperty = omega arith
error_short c rule.Nobody = nobody_short c
