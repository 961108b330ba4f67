-- What the end of each connection may make, session by session and lock by lock, as it is kept beside the facts.
use Rattle.std.specs.Prelude.{ℕ, ◌+◌, ◌*◌, ◌==◌, if◌then◌else◌, Bool, false, Option, Some, None, length, sum_by}
use Rattle.login_base.specs.declared.ids.ConnId.{ConnId}
use Rattle.login_base.specs.declared.ids.SessId.{SessId}
use Rattle.login_model.specs.declared.fact.Key.TheVariants as key
use Rattle.login_model.specs.declared.fact.Fact.{Fact}
use Rattle.login_model.specs.Devices.{taken_devices}
use Rattle.login_model.specs.Direct.{fifo_in, locks_of}
use Rattle.login_model.specs.Facts.{controller_in, fifo_owner, fifo_session}
use Rattle.login_model.specs.Names.{names, session_in, session_lt}
use Rattle.login_model.specs.Trail.{Trail, value}
use Rattle.login_model.specs.Where.{is_open, is_session}
use Rattle.login_facts.specs.Sums.{part}

-- what a connection has of what is due of one that there may be
abbrev pub due_at : Option ConnId → ℕ → ConnId → ℕ
due_at None n c = 0
due_at (Some who) n c = part who.0 n c.0

-- whether there is a session, and it is this one
abbrev pub is_one : Option SessId → SessId → Bool
is_one None s = false
is_one (Some r) s = r.0 == s.0

-- the connection that keeps this session open with the handle of a fact
abbrev pub keeper_in : SessId → Fact → Option ConnId
keeper_in s x = if is_one (fifo_session x) s then fifo_owner x else None

-- the connection that keeps a session open
abbrev pub keeper : Trail → SessId → Option ConnId
keeper t s = if is_open t s then keeper_in s (value t (key.Owner (fifo_in (value t (key.Sess s))))) else None

-- the marks with which a session gives back what it has taken
abbrev pub device_marks : Trail → SessId → ℕ
device_marks t s = 2 * length (taken_devices t s)

-- what a session that is there makes at the end of a connection, which may control it and may keep it open
abbrev pub charge : Trail → ConnId → SessId → ℕ
charge t c s =
    if is_session t s
    then due_at (controller_in (value t (key.Ctl s))) (1 + device_marks t s) c + due_at (keeper t s) (4 + device_marks t s) c
    else 0

-- what counts of a name that there may be
abbrev pub of_some : {A : Type 0} → (A → ℕ) → Option A → ℕ
of_some f None = 0
of_some f (Some a) = f a

-- what the sessions and the locks of a connection make at its end
unfoldable pub owed : Trail → ConnId → ℕ
owed t c = sum_by (charge t c) (names session_lt session_in t) + 2 * length (locks_of t c)

-- the second session, if it is there and is not the first
abbrev pub other_than : Option SessId → Option SessId → Option SessId
other_than o None = None
other_than None (Some s) = Some s
other_than (Some r) (Some s) = if r.0 == s.0 then None else Some s
