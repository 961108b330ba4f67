-- The text of an error is one, and short.
use Rattle.std.proofs.Common.{ℕ, ◌+◌, ◌<◌, ◌≤◌, ◌^◌, List, [], ◌∷◌, ◌++◌, length, length-append, codes, decimal, refl, arith}
use Rattle.login_base.specs.SessionId.{session_text}
use Rattle.login_base.proofs.Decimals.{decimal_long, decimal_short}
use Rattle.login_model.specs.Action.{name, operation_name, suffix}
use Rattle.login_model.specs.RuleWords.{detail_words, limit_name, limit_number, limit_words, rule_label}
use Rattle.login_model.specs.Words.{operation_word}
use Rattle.login_model.specs.declared.action.Action.{Action}
use Rattle.login_model.specs.declared.action.Action.TheVariants as action
use Rattle.login_model.specs.declared.action.PowerAction.{PowerAction}
use Rattle.login_model.specs.declared.action.PowerAction.TheVariants as power
use Rattle.login_model.specs.declared.action.Qualifier.{Qualifier}
use Rattle.login_model.specs.declared.action.Qualifier.TheVariants as qualifier
use Rattle.login_model.specs.declared.operation.OpKind.{OpKind}
use Rattle.login_model.specs.declared.operation.OpKind.TheVariants as operation
use Rattle.login_model.specs.declared.rule.Limit.{Limit}
use Rattle.login_model.specs.declared.rule.Limit.TheVariants as limits
use Rattle.login_model.specs.declared.rule.Rule.{Rule}
use Rattle.login_model.specs.declared.rule.Rule.TheVariants as rule
use Rattle.wire_out.specs.Errors.{rule_text}
use Rattle.wire_out.specs.Messages.{text}
use Rattle.wire_out.specs.inner.Numbers.{HasRuleNumber}
use Rattle.wire_out.specs.inner.Parts.{IsBody, most_body}
use Rattle.wire_out.proofs.ValueParts.{body_of, one}
use Rattle.wire_out.proofs.Parts.{text_part, weaker}
use Rattle.wire_out.proofs.Texts.{ArePlain, decimal_plain, plain_append, plain_text, session_plain, session_short}
use Rattle.wire_out.proofs.Words.{AllPlain, joined_plain, joined_short, total}

-- words of ASCII, and how long they are at most
record AreShort (most : ℕ) (ws : List (List ℕ)) : Type 0 where
  plain : AllPlain ws
  short : total ws ≤ most

no_words : AreShort 100 []
no_words = record { plain = tt; short = omega arith }

one_word : (w : List ℕ) → ArePlain w → length w ≤ 60 → AreShort 100 (w ∷ [])
one_word w p short = record { plain = (p, tt); short = omega (arith, short) }

operation_plain : (p : PowerAction) → ArePlain (operation_name p)
operation_plain power.PowerOff = refl
operation_plain power.Reboot = refl
operation_plain power.Halt = refl
operation_plain power.Suspend = refl
operation_plain power.Hibernate = refl

operation_short : (p : PowerAction) → length (operation_name p) ≤ 9
operation_short power.PowerOff = omega arith
operation_short power.Reboot = omega arith
operation_short power.Halt = omega arith
operation_short power.Suspend = omega arith
operation_short power.Hibernate = omega arith

suffix_plain : (q : Qualifier) → ArePlain (suffix q)
suffix_plain qualifier.Plain = refl
suffix_plain qualifier.MultipleSessions = refl
suffix_plain qualifier.IgnoreInhibit = refl

suffix_short : (q : Qualifier) → length (suffix q) ≤ 20
suffix_short qualifier.Plain = omega arith
suffix_short qualifier.MultipleSessions = omega arith
suffix_short qualifier.IgnoreInhibit = omega arith

action_word : (a : Action) → AreShort 100 (name a ∷ [])
action_word action.ChangeVt = one_word (name action.ChangeVt) refl (omega arith)
action_word action.LockSessions = one_word (name action.LockSessions) refl (omega arith)
action_word action.Manage = one_word (name action.Manage) refl (omega arith)
action_word action.SetUserLinger = one_word (name action.SetUserLinger) refl (omega arith)
action_word action.SetSelfLinger = one_word (name action.SetSelfLinger) refl (omega arith)
action_word action.InhibitDelayShutdown = one_word (name action.InhibitDelayShutdown) refl (omega arith)
action_word action.InhibitDelaySleep = one_word (name action.InhibitDelaySleep) refl (omega arith)
action_word action.InhibitBlockShutdown = one_word (name action.InhibitBlockShutdown) refl (omega arith)
action_word action.InhibitBlockSleep = one_word (name action.InhibitBlockSleep) refl (omega arith)
action_word action.InhibitBlockIdle = one_word (name action.InhibitBlockIdle) refl (omega arith)
action_word action.InhibitHandlePowerKey = one_word (name action.InhibitHandlePowerKey) refl (omega arith)
action_word action.InhibitHandleSuspendKey = one_word (name action.InhibitHandleSuspendKey) refl (omega arith)
action_word action.InhibitHandleHibernateKey = one_word (name action.InhibitHandleHibernateKey) refl (omega arith)
action_word action.InhibitHandleLidSwitch = one_word (name action.InhibitHandleLidSwitch) refl (omega arith)
action_word (action.Power p q) =
    let a = operation_short p in
    let b = suffix_short q in
    let l = length-append (operation_name p) (suffix q) in
    one_word (operation_name p ++ suffix q) (plain_append (operation_name p) (suffix q) (operation_plain p) (suffix_plain q)) (omega (arith, a, b, l))

kind_word : (k : OpKind) → AreShort 100 (operation_word k ∷ [])
kind_word operation.PowerOff = one_word (operation_word operation.PowerOff) refl (omega arith)
kind_word operation.Reboot = one_word (operation_word operation.Reboot) refl (omega arith)
kind_word operation.Halt = one_word (operation_word operation.Halt) refl (omega arith)
kind_word operation.Suspend = one_word (operation_word operation.Suspend) refl (omega arith)
kind_word operation.Hibernate = one_word (operation_word operation.Hibernate) refl (omega arith)
kind_word operation.HybridSleep = one_word (operation_word operation.HybridSleep) refl (omega arith)
kind_word operation.SuspendThenHibernate = one_word (operation_word operation.SuspendThenHibernate) refl (omega arith)

number_word : (n : ℕ) → n < 2 ^ 32 → AreShort 100 (decimal n ∷ [])
number_word n small = let l = decimal_short n small in one_word (decimal n) (decimal_plain n (omega (arith, small))) (omega (arith, l))

moment_word : (n : ℕ) → n < 2 ^ 64 → AreShort 100 (decimal n ∷ [])
moment_word n small = let l = decimal_long n small in one_word (decimal n) (decimal_plain n small) (omega (arith, l))

numbered_word : (w : List ℕ) (n : ℕ) → ArePlain w → length w ≤ 20 → n < 2 ^ 32 → AreShort 100 (w ∷ decimal n ∷ [])
numbered_word w n p short small =
    let l = decimal_short n small in
    record { plain = (p, (decimal_plain n (omega (arith, small)), tt)); short = omega (arith, l, short) }

limit_plain : (x : Limit) → ArePlain (limit_name x)
limit_plain limits.Links = refl
limit_plain (limits.Sessions most) = refl
limit_plain (limits.Inhibitors most) = refl
limit_plain limits.DevicesTaken = refl
limit_plain limits.Devices = refl

limit_short : (x : Limit) → length (limit_name x) ≤ 20
limit_short limits.Links = omega arith
limit_short (limits.Sessions most) = omega arith
limit_short (limits.Inhibitors most) = omega arith
limit_short limits.DevicesTaken = omega arith
limit_short limits.Devices = omega arith

limit_list : (x : Limit) → limit_number x < 2 ^ 32 → AreShort 100 (limit_words x)
limit_list x n = numbered_word (limit_name x) (limit_number x) (limit_plain x) (limit_short x) n

detail_list : (r : Rule) → HasRuleNumber r → AreShort 100 (detail_words r)
detail_list (rule.ActionRefused a) n = action_word a
detail_list (rule.ActionChallenge a) n = action_word a
detail_list (rule.Controlled c) n = number_word c.0 n
detail_list (rule.VtBusy s) n = let l = session_short s n in one_word (session_text s) (session_plain s n) (omega (arith, l))
detail_list (rule.OperationInProgress kind) n = kind_word kind
detail_list (rule.Inhibited lock) n = number_word lock.0 n
detail_list (rule.Limit x) n = limit_list x n
detail_list (rule.ClockBackwards m) n = moment_word m.0 n
detail_list _ n = no_words

label_plain : (r : Rule) → ArePlain (rule_label r)
unfolding rule_label
label_plain rule.UnknownObject = refl
label_plain rule.UnknownMethod = refl
label_plain rule.BadArguments = refl
label_plain rule.NoSuchSession = refl
label_plain rule.NoSuchUser = refl
label_plain rule.NoSuchSeat = refl
label_plain rule.NoSuchHandle = refl
label_plain rule.NoSuchDevice = refl
label_plain rule.NotRoot = refl
label_plain rule.NotOwner = refl
label_plain (rule.ActionRefused a) = refl
label_plain (rule.ActionChallenge a) = refl
label_plain rule.SessionClosing = refl
label_plain rule.NoSeat = refl
label_plain rule.SessionNotOnSeat = refl
label_plain rule.DeviceNotOnSeat = refl
label_plain (rule.Controlled b) = refl
label_plain rule.NotInControl = refl
label_plain rule.DeviceTaken = refl
label_plain rule.DeviceNotTaken = refl
label_plain (rule.VtBusy s) = refl
label_plain (rule.OperationInProgress kind) = refl
label_plain (rule.Inhibited lock) = refl
label_plain rule.DelayNotOffered = refl
label_plain (rule.Limit limit) = refl
label_plain rule.NotLive = refl
label_plain rule.NotYours = refl
label_plain rule.WrongKind = refl
label_plain rule.DevicePresent = refl
label_plain rule.DeviceAbsent = refl
label_plain rule.NoJob = refl
label_plain (rule.ClockBackwards m) = refl
label_plain rule.KeyIgnored = refl
label_plain rule.UnknownProperty = refl
label_plain rule.ReadOnlyProperty = refl
label_plain rule.Nobody = refl

label_short : (r : Rule) → length (rule_label r) ≤ 40
unfolding rule_label
label_short rule.UnknownObject = omega arith
label_short rule.UnknownMethod = omega arith
label_short rule.BadArguments = omega arith
label_short rule.NoSuchSession = omega arith
label_short rule.NoSuchUser = omega arith
label_short rule.NoSuchSeat = omega arith
label_short rule.NoSuchHandle = omega arith
label_short rule.NoSuchDevice = omega arith
label_short rule.NotRoot = omega arith
label_short rule.NotOwner = omega arith
label_short (rule.ActionRefused a) = omega arith
label_short (rule.ActionChallenge a) = omega arith
label_short rule.SessionClosing = omega arith
label_short rule.NoSeat = omega arith
label_short rule.SessionNotOnSeat = omega arith
label_short rule.DeviceNotOnSeat = omega arith
label_short (rule.Controlled b) = omega arith
label_short rule.NotInControl = omega arith
label_short rule.DeviceTaken = omega arith
label_short rule.DeviceNotTaken = omega arith
label_short (rule.VtBusy s) = omega arith
label_short (rule.OperationInProgress kind) = omega arith
label_short (rule.Inhibited lock) = omega arith
label_short rule.DelayNotOffered = omega arith
label_short (rule.Limit limit) = omega arith
label_short rule.NotLive = omega arith
label_short rule.NotYours = omega arith
label_short rule.WrongKind = omega arith
label_short rule.DevicePresent = omega arith
label_short rule.DeviceAbsent = omega arith
label_short rule.NoJob = omega arith
label_short (rule.ClockBackwards m) = omega arith
label_short rule.KeyIgnored = omega arith
label_short rule.UnknownProperty = omega arith
label_short rule.ReadOnlyProperty = omega arith
label_short rule.Nobody = omega arith

pub reason_body : (r : Rule) → HasRuleNumber r → IsBody most_body (text (rule_text r) ∷ [])
unfolding rule_text
reason_body r n =
    let d = detail_list r n in
    let ws : List (List ℕ) = codes "rule" ∷ rule_label r ∷ detail_words r in
    let a = label_short r in
    let b = d.short in
    let j = joined_short 32 ws in
    body_of (208 + 0) (text (rule_text r) ∷ []) (record { nested = record { in_arrays = omega arith; in_structs = omega arith }; short = omega arith }) (omega arith)
    (one 208 _ (weaker (length (rule_text r) + 8) 208 (text (rule_text r)) (omega (arith, a, b, j))
    (text_part (rule_text r) (plain_text (rule_text r) (joined_plain 32 ws refl (refl, (label_plain r, d.plain)))) (omega (arith, a, b, j)))))
