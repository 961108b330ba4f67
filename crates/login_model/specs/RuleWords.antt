-- How a rule that is broken prints.
use Rattle.std.specs.Prelude.{ℕ, List, [], ◌∷◌, codes}
use Rattle.std.specs.Fmt.{decimal}
use Rattle.login_base.specs.SessionId.{session_text}
use Rattle.login_model.specs.Action.{name}
use Rattle.login_model.specs.Limits.{links_limit, taken_limit, devices_limit}
use Rattle.login_model.specs.Words.{operation_word}
use Rattle.login_model.specs.declared.rule.Limit.{Limit}
use Rattle.login_model.specs.declared.rule.Limit.TheVariants.{Links, Sessions, Inhibitors, DevicesTaken, Devices}
use Rattle.login_model.specs.declared.rule.Rule.{Rule}
use Rattle.login_model.specs.declared.rule.Rule.TheVariants as rule

-- the number and the name of a rule
unfoldable pub rule_label : Rule → List ℕ
rule_label rule.UnknownObject = codes "P01 unknown-object"
rule_label rule.UnknownMethod = codes "P02 unknown-method"
rule_label rule.BadArguments = codes "P03 bad-arguments"
rule_label rule.NoSuchSession = codes "P04 no-such-session"
rule_label rule.NoSuchUser = codes "P05 no-such-user"
rule_label rule.NoSuchSeat = codes "P06 no-such-seat"
rule_label rule.NoSuchHandle = codes "P07 no-such-handle"
rule_label rule.NoSuchDevice = codes "P08 no-such-device"
rule_label rule.NotRoot = codes "P09 not-root"
rule_label rule.NotOwner = codes "P10 not-owner"
rule_label (rule.ActionRefused a) = codes "P11 action-refused"
rule_label (rule.ActionChallenge a) = codes "P12 action-challenge"
rule_label rule.SessionClosing = codes "P13 session-closing"
rule_label rule.NoSeat = codes "P14 no-seat"
rule_label rule.SessionNotOnSeat = codes "P15 session-not-on-seat"
rule_label rule.DeviceNotOnSeat = codes "P16 device-not-on-seat"
rule_label (rule.Controlled c) = codes "P17 controlled"
rule_label rule.NotInControl = codes "P18 not-in-control"
rule_label rule.DeviceTaken = codes "P19 device-taken"
rule_label rule.DeviceNotTaken = codes "P20 device-not-taken"
rule_label (rule.VtBusy s) = codes "P21 vt-busy"
rule_label rule.UnknownProperty = codes "P22 unknown-property"
rule_label rule.ReadOnlyProperty = codes "P22 read-only-property"
rule_label (rule.OperationInProgress kind) = codes "P23 operation-in-progress"
rule_label (rule.Inhibited lock) = codes "P24 inhibited"
rule_label rule.DelayNotOffered = codes "P25 delay-not-offered"
rule_label (rule.Limit limit) = codes "P26 limit"
rule_label rule.NotLive = codes "P27 not-live"
rule_label rule.NotYours = codes "P28 not-yours"
rule_label rule.WrongKind = codes "P29 wrong-kind"
rule_label rule.DevicePresent = codes "P30 device-present"
rule_label rule.DeviceAbsent = codes "P31 device-absent"
rule_label rule.NoJob = codes "P32 no-job"
rule_label (rule.ClockBackwards m) = codes "P33 clock-backwards"
rule_label rule.KeyIgnored = codes "P34 key-ignored"
rule_label rule.Nobody = codes "P35 nobody"

-- the name of a limit
abbrev pub limit_name : Limit → List ℕ
limit_name Links = codes "links"
limit_name (Sessions most) = codes "SessionsMax"
limit_name (Inhibitors most) = codes "InhibitorsMax"
limit_name DevicesTaken = codes "devices-taken"
limit_name Devices = codes "devices"

-- the number of a limit
abbrev pub limit_number : Limit → ℕ
limit_number Links = links_limit
limit_number (Sessions most) = most
limit_number (Inhibitors most) = most
limit_number DevicesTaken = taken_limit
limit_number Devices = devices_limit

-- the name and the number of a limit
abbrev pub limit_words : Limit → List (List ℕ)
limit_words limit = limit_name limit ∷ decimal (limit_number limit) ∷ []

-- what a rule names: the action, whoever is in control, the session that has the terminal, the kind of the
-- operation, the lock, the limit, or the clock
abbrev pub detail_words : Rule → List (List ℕ)
detail_words (rule.ActionRefused a) = name a ∷ []
detail_words (rule.ActionChallenge a) = name a ∷ []
detail_words (rule.Controlled c) = decimal c.0 ∷ []
detail_words (rule.VtBusy s) = session_text s ∷ []
detail_words (rule.OperationInProgress kind) = operation_word kind ∷ []
detail_words (rule.Inhibited lock) = decimal lock.0 ∷ []
detail_words (rule.Limit limit) = limit_words limit
detail_words (rule.ClockBackwards m) = decimal m.0 ∷ []
detail_words _ = []

-- the number and the name of a rule, and its detail
abbrev pub rule_words : Rule → List (List ℕ)
rule_words r = rule_label r ∷ detail_words r
