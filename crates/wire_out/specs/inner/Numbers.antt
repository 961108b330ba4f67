-- What the types of the numbers of answers and notices say of them.
use Rattle.std.specs.Prelude.{ℕ, ◌<◌, ◌^◌, Option, Some, None, FitsSigned}
use Rattle.std.specs.Int.{w32}
use Rattle.std.specs.List.{AllByRecursion}
use Rattle.login_base.specs.declared.ids.DevNo.{DevNo}
use Rattle.login_base.specs.declared.ids.SessId.{SessId}
use Rattle.login_model.specs.RuleWords.{limit_number}
use Rattle.login_model.specs.declared.answer.Answer.{Answer}
use Rattle.login_model.specs.declared.answer.Answer.TheVariants as answer
use Rattle.login_model.specs.declared.answer.Created.{Created}
use Rattle.login_model.specs.declared.answer.Input.{Input}
use Rattle.login_model.specs.declared.answer.KnownUser.{KnownUser}
use Rattle.login_model.specs.declared.answer.SessionRow.{SessionRow}
use Rattle.login_model.specs.declared.lock.Lock.{Lock}
use Rattle.login_model.specs.declared.property.PropertyRow.{PropertyRow}
use Rattle.login_model.specs.declared.property.PropertyValue.{PropertyValue}
use Rattle.login_model.specs.declared.property.PropertyValue.TheVariants as property
use Rattle.login_model.specs.declared.rule.Rule.{Rule}
use Rattle.login_model.specs.declared.rule.Rule.TheVariants as rule
use Rattle.login_model.specs.declared.mark.Notice.{Notice}
use Rattle.login_model.specs.declared.mark.Notice.TheVariants as notice

abbrev pub IsNumber : ℕ → Type 0
IsNumber n = n < 2 ^ 32

pub record HasSessionNumbers (x : SessionRow) : Type 0 where
  pub session : IsNumber x.session.0
  pub uid : IsNumber x.uid.0

pub record HasLockNumbers (x : Lock) : Type 0 where
  pub uid : IsNumber x.uid.0
  pub holder : IsNumber x.holder.0

pub record HasInputNumbers (x : Input) : Type 0 where
  pub kind : x.kind < 2 ^ 16
  pub code : x.code < 2 ^ 16
  pub value : FitsSigned w32 x.value

pub record HasCreatedNumbers (x : Created) : Type 0 where
  pub session : IsNumber x.session.0
  pub fifo : IsNumber x.fifo.0
  pub uid : IsNumber x.uid.0
  pub vt : IsNumber x.vt

abbrev pub IsNumberIf : Option SessId → Type 0
IsNumberIf (Some s) = IsNumber s.0
IsNumberIf None = Unit {0}

abbrev pub HasValueNumbers : PropertyValue → Type 0
HasValueNumbers (property.Number n) = IsNumber n
HasValueNumbers (property.Count n) = IsNumber n
HasValueNumbers (property.User u) = IsNumber u.0
HasValueNumbers (property.Session s) = IsNumberIf s
HasValueNumbers (property.Sessions ss) = AllByRecursion (λ (s : SessId). IsNumber s.0) ss
HasValueNumbers _ = Unit {0}

abbrev pub HasAnswerNumbers : Answer → Type 0
HasAnswerNumbers (answer.Created x) = HasCreatedNumbers x
HasAnswerNumbers (answer.Session s) = IsNumber s.0
HasAnswerNumbers (answer.User u) = IsNumber u.0
HasAnswerNumbers (answer.Sessions xs) = AllByRecursion HasSessionNumbers xs
HasAnswerNumbers (answer.Users xs) = AllByRecursion (λ (x : KnownUser). IsNumber x.uid.0) xs
HasAnswerNumbers (answer.Inhibitors xs) = AllByRecursion HasLockNumbers xs
HasAnswerNumbers (answer.Inputs xs) = AllByRecursion HasInputNumbers xs
HasAnswerNumbers (answer.Handle h) = IsNumber h.0
HasAnswerNumbers (answer.Taken h inactive) = IsNumber h.0
HasAnswerNumbers (answer.Property x) = HasValueNumbers x
HasAnswerNumbers (answer.Properties rs) = AllByRecursion (λ (r : PropertyRow). HasValueNumbers r.value) rs
HasAnswerNumbers (answer.UniqueName c) = IsNumber c.0
HasAnswerNumbers _ = Unit {0}

pub record HasDeviceNumbers (s : SessId) (d : DevNo) : Type 0 where
  pub session : IsNumber s.0
  pub major : IsNumber d.major
  pub minor : IsNumber d.minor

abbrev pub HasNoticeNumbers : Notice → Type 0
HasNoticeNumbers (notice.Pause s d kind) = HasDeviceNumbers s d
HasNoticeNumbers (notice.Resume s d h) = HasDeviceNumbers s d × IsNumber h.0
HasNoticeNumbers (notice.Lock s) = IsNumber s.0
HasNoticeNumbers (notice.Unlock s) = IsNumber s.0
HasNoticeNumbers (notice.SessionNew s) = IsNumber s.0
HasNoticeNumbers (notice.SessionRemoved s) = IsNumber s.0
HasNoticeNumbers (notice.UserNew u) = IsNumber u.0
HasNoticeNumbers (notice.UserRemoved u) = IsNumber u.0
HasNoticeNumbers (notice.Active seat before now) = IsNumberIf before × IsNumberIf now
HasNoticeNumbers _ = Unit {0}

abbrev pub HasRuleNumber : Rule → Type 0
HasRuleNumber (rule.Controlled c) = IsNumber c.0
HasRuleNumber (rule.VtBusy s) = IsNumber s.0
HasRuleNumber (rule.Inhibited l) = IsNumber l.0
HasRuleNumber (rule.Limit x) = IsNumber (limit_number x)
HasRuleNumber (rule.ClockBackwards m) = m.0 < 2 ^ 64
HasRuleNumber _ = Unit {0}
