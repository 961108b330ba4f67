-- How marks print: keys, facts and notices.
use Rattle.std.specs.Prelude.{ℕ, Bool, if◌then◌else◌, Option, Some, None, List, [], ◌∷◌, ◌++◌, codes}
use Rattle.std.specs.Fmt.{decimal, signed_decimal}
use Rattle.login_base.specs.declared.ids.SessId.{SessId}
use Rattle.login_base.specs.declared.ids.DevNo.{DevNo}
use Rattle.login_base.specs.SessionId.{session_text}
use Rattle.login_model.specs.declared.fact.Key.{Key}
use Rattle.login_model.specs.declared.fact.Key.TheVariants as key
use Rattle.login_model.specs.declared.fact.Fact.{Fact}
use Rattle.login_model.specs.declared.fact.Fact.TheVariants as fact
use Rattle.login_model.specs.declared.fact.Owner.{Owner}
use Rattle.login_model.specs.declared.fact.Owner.TheVariants as owner
use Rattle.login_model.specs.declared.session.Session.{Session}
use Rattle.login_model.specs.declared.session.Phase.{Phase}
use Rattle.login_model.specs.declared.session.Phase.TheVariants.{Open, Closing, Gone}
use Rattle.login_model.specs.declared.lock.Lock.{Lock}
use Rattle.login_model.specs.declared.operation.Operation.{Operation}
use Rattle.login_model.specs.declared.operation.Operation.TheVariants.{Idle, Waiting, Running}
use Rattle.login_model.specs.declared.mark.Notice.{Notice}
use Rattle.login_model.specs.declared.mark.Notice.TheVariants as notice
use Rattle.login_model.specs.declared.mark.Whom.{Whom}
use Rattle.login_model.specs.declared.mark.Whom.TheVariants.{One, All}
use Rattle.login_model.specs.declared.mark.Mark.{Mark}
use Rattle.login_model.specs.declared.mark.Mark.TheVariants.{Set, Say}
use Rattle.login_model.specs.Words.{type_word, class_word, whom_word, operation_word, pause_word, device_kind_word, mode_word, what_text}
use Rattle.recording.specs.Text.{spell_flag}

-- a device's major and minor number, with a colon between them
abbrev pub device_word : DevNo → List ℕ
device_word d = decimal d.major ++ 58 ∷ decimal d.minor

unfoldable pub key_words : Key → List (List ℕ)
key_words (key.Conn c) = codes "conn" ∷ decimal c.0 ∷ []
key_words (key.Sess s) = codes "sess" ∷ session_text s ∷ []
key_words (key.Idle s) = codes "idle" ∷ session_text s ∷ []
key_words (key.Locked s) = codes "locked" ∷ session_text s ∷ []
key_words (key.Sig s) = codes "sig" ∷ session_text s ∷ []
key_words (key.Ctl s) = codes "ctl" ∷ session_text s ∷ []
key_words (key.User u) = codes "user" ∷ decimal u.0 ∷ []
key_words (key.Linger u) = codes "linger" ∷ decimal u.0 ∷ []
key_words (key.Owner h) = codes "owner" ∷ decimal h.0 ∷ []
key_words (key.Live h) = codes "live" ∷ decimal h.0 ∷ []
key_words (key.Seat name) = codes "seat" ∷ name ∷ []
key_words (key.Act name) = codes "act" ∷ name ∷ []
key_words key.Vt = codes "vt" ∷ []
key_words (key.Getty v) = codes "getty" ∷ decimal v ∷ []
key_words key.Pending = codes "pending" ∷ []
key_words (key.Taken s d) = codes "taken" ∷ session_text s ∷ device_word d ∷ []
key_words (key.Awaited s d) = codes "awaited" ∷ session_text s ∷ device_word d ∷ []
key_words (key.Dev d) = codes "dev" ∷ device_word d ∷ []
key_words (key.Mode d) = codes "mode" ∷ device_word d ∷ []
key_words (key.Lock l) = codes "lock" ∷ decimal l.0 ∷ []
key_words key.Op = codes "op" ∷ []
key_words key.Docked = codes "docked" ∷ []
key_words key.Now = codes "now" ∷ []

-- how a key prints that nothing is there
abbrev pub absent_word : Key → List ℕ
absent_word (key.Conn c) = codes "gone"
absent_word (key.User u) = codes "absent"
absent_word (key.Seat name) = codes "absent"
absent_word (key.Dev d) = codes "absent"
absent_word _ = codes "-"

abbrev pub or_dash : Option (List ℕ) → List ℕ
or_dash (Some word) = word
or_dash None = codes "-"

-- a session's id, or `-` for none
abbrev pub session_or_dash : Option SessId → List ℕ
session_or_dash (Some s) = session_text s
session_or_dash None = codes "-"

unfoldable pub session_words_at : Phase → Session → List (List ℕ)
session_words_at Open x = codes "open" ∷ decimal x.uid.0 ∷ or_dash x.seat ∷ decimal x.vt ∷ type_word x.session_type ∷ class_word x.class ∷ []
session_words_at Closing x = codes "closing" ∷ []
session_words_at Gone x = codes "gone" ∷ []

unfoldable pub owner_words : Owner → List (List ℕ)
owner_words (owner.Device c s d) = codes "device" ∷ decimal c.0 ∷ session_text s ∷ device_word d ∷ []
owner_words (owner.Fifo c s) = codes "fifo" ∷ decimal c.0 ∷ session_text s ∷ []
owner_words (owner.Lock c l) = codes "lock" ∷ decimal c.0 ∷ decimal l.0 ∷ []
owner_words owner.Closed = codes "closed" ∷ []

abbrev pub lock_words : Lock → List (List ℕ)
lock_words x = what_text x.what ∷ mode_word x.mode ∷ decimal x.uid.0 ∷ []

-- `skip` where it passes the locks that block it
abbrev pub skip_word : Bool → List ℕ
skip_word skip = if skip then codes "skip" else codes "noskip"

abbrev pub progress_words : Operation → List (List ℕ)
progress_words Idle = codes "idle" ∷ []
progress_words (Waiting kind since skip) = codes "waiting" ∷ operation_word kind ∷ decimal since.0 ∷ skip_word skip ∷ []
progress_words (Running kind) = codes "running" ∷ operation_word kind ∷ []

unfoldable pub fact_words : Key → Fact → List (List ℕ)
fact_words k fact.Absent = absent_word k ∷ []
fact_words k (fact.Connected u) = decimal u.0 ∷ []
fact_words k (fact.Session x) = session_words_at x.phase x
fact_words k (fact.Flag on) = spell_flag on ∷ []
fact_words k (fact.Signal whom n) = whom_word whom ∷ signed_decimal n ∷ []
fact_words k (fact.Controller c) = decimal c.0 ∷ []
fact_words k fact.Known = codes "known" ∷ []
fact_words k (fact.Leaving since) = codes "leaving" ∷ decimal since.0 ∷ []
fact_words k (fact.Owned o) = owner_words o
fact_words k (fact.Handle h) = decimal h.0 ∷ []
fact_words k fact.Present = codes "present" ∷ []
fact_words k (fact.Active s) = session_text s ∷ []
fact_words k (fact.Number n) = decimal n ∷ []
fact_words k (fact.Moment m) = decimal m.0 ∷ []
fact_words k (fact.Device kind seat) = device_kind_word kind ∷ seat ∷ []
fact_words k (fact.Lock x) = lock_words x
fact_words k (fact.Operation o) = progress_words o

unfoldable pub notice_words : Notice → List (List ℕ)
notice_words (notice.Pause s d kind) = codes "pause" ∷ session_text s ∷ device_word d ∷ pause_word kind ∷ []
notice_words (notice.Resume s d h) = codes "resume" ∷ session_text s ∷ device_word d ∷ decimal h.0 ∷ []
notice_words (notice.Lock s) = codes "lock" ∷ session_text s ∷ []
notice_words (notice.Unlock s) = codes "unlock" ∷ session_text s ∷ []
notice_words (notice.SessionNew s) = codes "session-new" ∷ session_text s ∷ []
notice_words (notice.SessionRemoved s) = codes "session-removed" ∷ session_text s ∷ []
notice_words (notice.UserNew u) = codes "user-new" ∷ decimal u.0 ∷ []
notice_words (notice.UserRemoved u) = codes "user-removed" ∷ decimal u.0 ∷ []
notice_words (notice.SeatNew seat) = codes "seat-new" ∷ seat ∷ []
notice_words (notice.SeatRemoved seat) = codes "seat-removed" ∷ seat ∷ []
notice_words (notice.PrepareShutdown begins) = codes "prepare" ∷ codes "shutdown" ∷ spell_flag begins ∷ []
notice_words (notice.PrepareSleep begins) = codes "prepare" ∷ codes "sleep" ∷ spell_flag begins ∷ []
notice_words (notice.Active seat old new) = codes "active" ∷ seat ∷ session_or_dash old ∷ session_or_dash new ∷ []

abbrev pub whom_words : Whom → List (List ℕ)
whom_words (One c) = codes "say" ∷ decimal c.0 ∷ []
whom_words All = codes "all" ∷ []

unfoldable pub mark_words : Mark → List (List ℕ)
mark_words (Set k x) = codes "set" ∷ (key_words k ++ fact_words k x)
mark_words (Say w n) = whom_words w ++ notice_words n
