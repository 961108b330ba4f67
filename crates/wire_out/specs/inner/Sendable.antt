-- Of which entries mail can be sent: their texts are texts, and their lists are within the limits of the D-Bus
-- Specification.
use Rattle.std.specs.Prelude.{ℕ, ◌≤◌, ◌+◌, List, length}
use Rattle.std.specs.List.{AllByRecursion}
use Rattle.login_model.specs.Limits.{allowed_limit, devices_limit, inputs_limit, name_limit, span_limit, text_limit, users_limit}
use Rattle.login_model.specs.Texts.{IsText}
use Rattle.login_model.specs.declared.answer.Answer.{Answer}
use Rattle.login_model.specs.declared.answer.Answer.TheVariants as answer
use Rattle.login_model.specs.declared.answer.KnownUser.{KnownUser}
use Rattle.login_model.specs.declared.answer.SessionRow.{SessionRow}
use Rattle.login_model.specs.declared.lock.Lock.{Lock}
use Rattle.login_model.specs.declared.property.PropertyRow.{PropertyRow}
use Rattle.login_model.specs.declared.property.PropertyValue.{PropertyValue}
use Rattle.login_model.specs.declared.property.PropertyValue.TheVariants as property
use Rattle.login_model.specs.declared.mark.Entry.{Entry}
use Rattle.login_model.specs.declared.mark.Mark.{Mark}
use Rattle.login_model.specs.declared.mark.Mark.TheVariants.{Set, Say}
use Rattle.login_model.specs.declared.mark.Notice.{Notice}
use Rattle.login_laws.specs.Named.{IsNamedNotice}
pub use Rattle.login_laws.specs.Named.{IsSeat, IsSeatIf}

-- a session of a list: the user's name is a text, the seat has a seat's name
pub record IsSessionRow (x : SessionRow) : Type 0 where
  pub named : IsText name_limit x.name
  pub seat : IsSeatIf x.seat

-- who asked for a lock and why are texts
pub record IsLockRow (x : Lock) : Type 0 where
  pub who : IsText text_limit x.who
  pub why : IsText text_limit x.why

-- how many users and seats a list has at most: root beside those of the setup, seat0 beside those of devices
abbrev pub most_users : ℕ
most_users = users_limit + 1

abbrev pub most_seats : ℕ
most_seats = devices_limit + 1

-- there are not more than so many, and each is like this
abbrev pub AreFew : {T : Type 0} → ℕ → (T → Type 0) → List T → Type 0
AreFew most P xs = (length xs ≤ most) × AllByRecursion P xs

-- the text of a property is one, its seat has a seat's name, its time is one of a configuration, and its sessions are
-- few
abbrev pub CanBeValue : PropertyValue → Type 0
CanBeValue (property.Text t) = IsText text_limit t
CanBeValue (property.Time m) = m.0 ≤ span_limit
CanBeValue (property.Seat seat) = IsSeatIf seat
CanBeValue (property.Sessions ss) = length ss ≤ allowed_limit
CanBeValue _ = Unit {0}

-- the most properties that an object has
abbrev pub most_properties : ℕ
most_properties = 20

abbrev pub CanBeAnswered : Answer → Type 0
CanBeAnswered (answer.Created x) = IsSeatIf x.seat
CanBeAnswered (answer.Seat seat) = IsSeat seat
CanBeAnswered (answer.Sessions xs) = AreFew allowed_limit IsSessionRow xs
CanBeAnswered (answer.Users xs) = AreFew most_users (λ (x : KnownUser). IsText name_limit x.name) xs
CanBeAnswered (answer.Seats xs) = AreFew most_seats IsSeat xs
CanBeAnswered (answer.Inhibitors xs) = AreFew allowed_limit IsLockRow xs
CanBeAnswered (answer.Inputs xs) = length xs ≤ inputs_limit
CanBeAnswered (answer.Property x) = CanBeValue x
CanBeAnswered (answer.Properties rs) = AreFew most_properties (λ (r : PropertyRow). CanBeValue r.value) rs
CanBeAnswered (answer.MachineId guid) = IsText text_limit guid
CanBeAnswered _ = Unit {0}

-- the seat of a notice has a seat's name
abbrev pub CanBeTold : Notice → Type 0
CanBeTold n = IsNamedNotice n

abbrev pub CanBeMarked : Mark → Type 0
CanBeMarked (Set k x) = Unit {0}
CanBeMarked (Say w n) = CanBeTold n

pub record IsSendable (e : Entry) : Type 0 where
  pub answer : CanBeAnswered e.answer
  pub notices : AllByRecursion CanBeMarked e.marks
