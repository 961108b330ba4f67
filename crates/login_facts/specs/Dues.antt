-- What is kept of what connections owe, and how a setting moves it.
use Rattle.std.specs.Prelude.{ℕ, ◌≡◌, ◌+◌, ◌*◌, if◌then◌else◌, true, Option, Some, None, IfSome, length}
use Rattle.login_base.specs.declared.ids.ConnId.{ConnId}
use Rattle.login_base.specs.declared.ids.DevNo.{DevNo}
use Rattle.login_base.specs.declared.ids.SessId.{SessId}
use Rattle.login_model.specs.declared.fact.Key.{Key}
use Rattle.login_model.specs.declared.fact.Key.TheVariants as key
use Rattle.login_model.specs.declared.fact.Fact.{Fact}
use Rattle.login_model.specs.declared.fact.Fact.TheVariants as fact
use Rattle.login_model.specs.declared.fact.Owner.TheVariants as owner
use Rattle.login_model.specs.declared.event.Event.{Event}
use Rattle.login_model.specs.declared.event.Event.TheVariants.{Call as Calls}
use Rattle.login_model.specs.Devices.{is_handle_fact, taken_devices}
use Rattle.login_model.specs.Facts.{fifo_session, lock_holder}
use Rattle.login_model.specs.Trail.{Trail, value, was_set}
use Rattle.login_facts.specs.declared.owing.Charge.{Charge}
use Rattle.login_facts.specs.declared.owing.Dues.{Dues}
use Rattle.login_facts.specs.declared.owing.Dues.TheVariants as dues
use Rattle.login_facts.specs.declared.owing.Owing.{Owing}
use Rattle.login_facts.specs.declared.owing.Touched.{Touched}
use Rattle.login_facts.specs.declared.owing.Touched.TheVariants as touched
use Rattle.login_facts.specs.Owing.{charge, due_at, of_some, other_than, owed}
use Rattle.login_facts.specs.Sums.{has_row, part, sum_in}

-- it has how many devices each session has taken
abbrev pub AreTaken : Owing → Trail → Type 0
AreTaken owing t = (s : SessId) → sum_in owing.taken.items s.0 ≡ length (taken_devices t s)

-- ---- which connections have a row

-- the connection that a fact says has something: as a session's controller, a fifo's owner or a lock's holder
abbrev pub named_in : Fact → Option ConnId
named_in (fact.Controller c) = Some c
named_in (fact.Owned (owner.Fifo c s)) = Some c
named_in (fact.Lock l) = Some l.holder
named_in _ = None

-- a connection was connected once: there is a setting of its key
abbrev pub WasConnected : Trail → ConnId → Type 0
WasConnected t c = was_set t (key.Conn c) ≡ true

-- the connection that a fact names so was connected once
abbrev pub NamesKnown : Fact → Trail → Type 0
NamesKnown x t = IfSome (named_in x) (WasConnected t)

-- and so of each fact
abbrev pub AllNamesKnown : Trail → Type 0
AllNamesKnown t = (k : Key) → NamesKnown (value t k) t

-- whoever calls was connected once
abbrev pub CallerIsKnown : Event → Trail → Type 0
CallerIsKnown (Calls q) t = WasConnected t q.who
CallerIsKnown _ t = Unit {0}

-- a connection has a row
abbrev pub HasRow : Owing → ConnId → Type 0
HasRow owing c = has_row owing.marks.items c.0 ≡ true

-- each that was connected has one
abbrev pub HaveRows : Owing → Trail → Type 0
HaveRows owing t = (c : ConnId) → WasConnected t c → HasRow owing c

-- the connection whose key this is
abbrev pub connection_in : Key → Option ConnId
connection_in (key.Conn c) = Some c
connection_in _ = None

-- how many rows a connection adds that comes, if one does
abbrev pub new_rows : Owing → Option ConnId → ℕ
new_rows owing None = 0
new_rows owing (Some c) = if has_row owing.marks.items c.0 then 0 else 1

-- ---- which sessions have a row

-- the session that a key of what is taken is about
abbrev pub taker_in_key : Key → Option SessId
taker_in_key (key.Taken s d) = Some s
taker_in_key _ = None

-- a session has a row
abbrev pub HasTaker : Owing → SessId → Type 0
HasTaker owing s = has_row owing.taken.items s.0 ≡ true

-- each that took a device once has one
abbrev pub HaveTakers : Owing → Trail → Type 0
HaveTakers owing t = (s : SessId) (d : DevNo) → was_set t (key.Taken s d) ≡ true → HasTaker owing s

-- how many rows a session adds that takes its first device, if one does
abbrev pub new_takers : Owing → Option SessId → ℕ
new_takers owing None = 0
new_takers owing (Some s) = if has_row owing.taken.items s.0 then 0 else 1

-- it has what the marks leave; each connection that a fact names was connected once, and each that was has a row, as
-- has each session that took a device once
pub record AreOwed (owing : Owing) (t : Trail) : Type 0 where
  pub marks : (c : ConnId) → sum_in owing.marks.items c.0 ≡ owed t c
  pub taken : AreTaken owing t
  pub known : AllNamesKnown t
  pub rows : HaveRows owing t
  pub takers : HaveTakers owing t

-- ---- what is due

-- what a charge is for a connection
abbrev pub charge_at : Charge → ConnId → ℕ
charge_at x c = due_at x.controller (1 + 2 * x.taken) c + due_at x.keeper (4 + 2 * x.taken) c

-- something is so of each connection that a charge is for
abbrev pub EachCharged : (ConnId → Type 0) → Charge → Type 0
EachCharged P x = IfSome x.controller P × IfSome x.keeper P

-- and of each that some dues are for
abbrev pub EachDue : (ConnId → Type 0) → Dues → Type 0
EachDue P (dues.Sessions x y) = EachCharged P x × EachCharged P y
EachDue P (dues.Lock holder) = IfSome holder P

-- what some dues are for a connection
abbrev pub dues_at : Dues → ConnId → ℕ
dues_at (dues.Sessions x y) c = charge_at x c + charge_at y c
dues_at (dues.Lock holder) c = due_at holder 2 c

-- ---- what a setting touches

-- what a setting of a key from one fact to another touches
abbrev pub touched_by : Key → Fact → Fact → Touched
touched_by (key.Ctl s) x y = touched.Sessions (Some s) None
touched_by (key.Sess s) x y = touched.Sessions (Some s) None
touched_by (key.Taken s d) x y = touched.Sessions (Some s) None
touched_by (key.Owner h) x y = touched.Sessions (fifo_session x) (other_than (fifo_session x) (fifo_session y))
touched_by (key.Lock l) x y = touched.Lock l
touched_by _ x y = touched.Sessions None None

-- what all that is touched makes at the end of a connection
abbrev pub touched_at : Trail → ConnId → Touched → ℕ
touched_at t c (touched.Sessions s r) = of_some (charge t c) s + of_some (charge t c) r
touched_at t c (touched.Lock l) = due_at (lock_holder (value t (key.Lock l))) 2 c

-- the session that a fact says has a device taken
abbrev pub taker_in : Key → Fact → Option SessId
taker_in (key.Taken s d) x = if is_handle_fact x then Some s else None
taker_in _ x = None

-- whether that is this one, as a number
abbrev pub taker_at : Option SessId → SessId → ℕ
taker_at None s = 0
taker_at (Some r) s = part r.0 1 s.0
