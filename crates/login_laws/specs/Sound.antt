-- What holds in each legal journal, one small record a matter.
use Rattle.std.specs.Prelude.{ℕ, ◌≡◌, ◌≤◌, ◌<◌, ◌↔◌, Bool, true, false, Option, Some, None, List, [], ◌∷◌}
use Rattle.login_base.specs.declared.ids.ConnId.{ConnId}
use Rattle.login_base.specs.declared.ids.DevNo.{DevNo}
use Rattle.login_base.specs.declared.ids.HandleNo.{HandleNo}
use Rattle.login_base.specs.declared.ids.LockNo.{LockNo}
use Rattle.login_model.specs.declared.lock.Lock.{Lock}
use Rattle.login_model.specs.declared.operation.OpKind.{OpKind}
use Rattle.login_model.specs.declared.operation.Operation.TheVariants.{Waiting}
use Rattle.login_model.specs.Power.{is_blocked, is_delayed, is_over}
use Rattle.login_base.specs.declared.ids.Millis.{Millis}
use Rattle.login_base.specs.declared.ids.SessId.{SessId}
use Rattle.login_base.specs.declared.ids.Uid.{Uid}
use Rattle.login_model.specs.Devices.{is_awaiting, is_live}
use Rattle.login_model.specs.Direct.{fifo_in}
use Rattle.login_model.specs.Fresh.{fresh_handle, fresh_lock, fresh_session}
use Rattle.login_model.specs.Policy.{is_vt}
use Rattle.login_model.specs.Procedure.{is_kept}
use Rattle.login_laws.specs.Shapes.{IsShaped}
use Rattle.login_model.specs.Start.{seat0, start_fact}
use Rattle.login_model.specs.Facts.{is_number_fact}
use Rattle.login_model.specs.Trail.{Trail, value}
use Rattle.login_model.specs.Where.{active_on, current_vt, is_active, is_connected, is_on_terminal, is_open, is_seat, is_set, now, seat_of_session}
use Rattle.login_model.specs.declared.fact.Key.{Key}
use Rattle.login_model.specs.declared.fact.Fact.{Fact}
use Rattle.login_model.specs.declared.hardware.DevKind.{DevKind}
use Rattle.login_model.specs.declared.hardware.DevKind.TheVariants.{Drm}
use Rattle.login_model.specs.declared.mark.Mark.TheVariants.{Set, Say}
use Rattle.login_model.specs.declared.setup.Setup.{Setup}
use Rattle.std.specs.Str.{bytes_eq}
use Rattle.login_model.specs.declared.fact.Key.TheVariants as key
use Rattle.login_model.specs.declared.fact.Fact.TheVariants as fact
use Rattle.login_model.specs.declared.fact.Owner.TheVariants as owner

-- ---- control

-- a controller is connected, and its session is open
pub record IsControl (t : Trail) (s : SessId) (c : ConnId) : Type 0 where
  pub connected : is_connected t c ≡ true
  pub session_open : is_open t s ≡ true

abbrev pub Controls : Trail → Type 0
Controls t = (s : SessId) (c : ConnId) → value t (key.Ctl s) ≡ fact.Controller c → IsControl t s c

-- a connection that is connected owns the fifo of a session
pub record IsKeptOpen (t : Trail) (s : SessId) : Type 0 where
  pub by_whom : ConnId
  pub owned : value t (key.Owner (fifo_in (value t (key.Sess s)))) ≡ fact.Owned (owner.Fifo by_whom s)
  pub connected : is_connected t by_whom ≡ true

abbrev pub Fifos : Trail → Type 0
Fifos t = (s : SessId) → is_open t s ≡ true → IsKeptOpen t s

-- ---- devices

-- a session that has a device taken is open and controlled, the device is on its seat, and the handle is
-- the controller's
pub record IsTaken (t : Trail) (s : SessId) (d : DevNo) (h : HandleNo) : Type 0 where
  pub by_whom : ConnId
  pub kind : DevKind
  pub seat : List ℕ
  pub session_open : is_open t s ≡ true
  pub controls : value t (key.Ctl s) ≡ fact.Controller by_whom
  pub present : value t (key.Dev d) ≡ fact.Device kind seat
  pub on_seat : seat_of_session t s ≡ Some seat
  pub owned : value t (key.Owner h) ≡ fact.Owned (owner.Device by_whom s d)

abbrev pub Takes : Trail → Type 0
Takes t = (s : SessId) (d : DevNo) (h : HandleNo) → value t (key.Taken s d) ≡ fact.Handle h → IsTaken t s d h

-- a live handle is the one with which a session has a device taken, and that session is active on its seat
pub record IsLive (t : Trail) (h : HandleNo) : Type 0 where
  pub by_whom : ConnId
  pub session : SessId
  pub device : DevNo
  pub owned : value t (key.Owner h) ≡ fact.Owned (owner.Device by_whom session device)
  pub taken : value t (key.Taken session device) ≡ fact.Handle h
  pub active : is_active t session ≡ true

abbrev pub Lives : Trail → Type 0
Lives t = (h : HandleNo) → is_live t h ≡ true → IsLive t h

-- a pause is awaited of a live handle of seat0's active session
pub record IsAwaited (t : Trail) (s : SessId) (d : DevNo) : Type 0 where
  pub handle : HandleNo
  pub taken : value t (key.Taken s d) ≡ fact.Handle handle
  pub live : is_live t handle ≡ true
  pub active : active_on t seat0 ≡ Some s

abbrev pub Awaits : Trail → Type 0
Awaits t = (s : SessId) (d : DevNo) → is_set (value t (key.Awaited s d)) ≡ true → IsAwaited t s d

-- a pause is awaited only while a switch is pending
abbrev pub AwaitsPending : Trail → Type 0
AwaitsPending t = is_awaiting t ≡ true → is_number_fact (value t key.Pending) ≡ true

-- a switch that is pending waits for a pause
abbrev pub PendingAwaits : Trail → Type 0
PendingAwaits t = is_number_fact (value t key.Pending) ≡ true → is_awaiting t ≡ true

-- ---- terminals

-- an open session of seat0 has a terminal
abbrev pub has_terminal : Trail → SessId → ℕ → Bool
has_terminal t s v = is_on_terminal (fact.Number v) (value t (key.Sess s))

-- no terminal has two open sessions; the current one and the pending one are from 1 to 63, and two
pub record Terminals (t : Trail) : Type 0 where
  pub apart : (s r : SessId) (v : ℕ) → has_terminal t s v ≡ true → has_terminal t r v ≡ true → s ≡ r
  pub current : is_vt (current_vt t) ≡ true
  pub pending : (v : ℕ) → value t key.Pending ≡ fact.Number v → is_vt v ≡ true
  pub other : (v : ℕ) → value t key.Pending ≡ fact.Number v → v ≡ current_vt t → ⊥

-- the terminal of an open session is from 1 to 63
abbrev pub OnTerminals : Trail → Type 0
OnTerminals t = (s : SessId) (v : ℕ) → has_terminal t s v ≡ true → is_vt v ≡ true

-- ---- seats

-- a graphics device is on a seat
pub record IsGraphical (t : Trail) (seat : List ℕ) : Type 0 where
  pub device : DevNo
  pub present : value t (key.Dev device) ≡ fact.Device Drm seat

-- the session that was made active on a seat is open and on it; seat0 has none
pub record IsActing (t : Trail) (seat : List ℕ) (s : SessId) : Type 0 where
  pub session_open : is_open t s ≡ true
  pub on_seat : seat_of_session t s ≡ Some seat
  pub without_terminals : bytes_eq seat seat0 ≡ false

-- seat0 is always there, another seat exactly while a graphics device is on it; an open session's seat is there
pub record Seats (t : Trail) : Type 0 where
  pub seat0_there : is_seat t seat0 ≡ true
  pub graphical : (seat : List ℕ) → bytes_eq seat seat0 ≡ false → (is_seat t seat ≡ true) ↔ IsGraphical t seat
  pub theirs : (s : SessId) (seat : List ℕ) → is_open t s ≡ true → seat_of_session t s ≡ Some seat → is_seat t seat ≡ true
  pub acting : (seat : List ℕ) (s : SessId) → value t (key.Act seat) ≡ fact.Active s → IsActing t seat s

-- ---- numbers

-- the session that a key is about, however it is
abbrev pub about_session : Key → Option SessId
about_session (key.Sess s) = Some s
about_session (key.Idle s) = Some s
about_session (key.Locked s) = Some s
about_session (key.Sig s) = Some s
about_session (key.Ctl s) = Some s
about_session (key.Taken s d) = Some s
about_session (key.Awaited s d) = Some s
about_session _ = None

-- the handle that a key is about
abbrev pub about_handle : Key → Option HandleNo
about_handle (key.Owner h) = Some h
about_handle (key.Live h) = Some h
about_handle _ = None

-- a setting that comes after these marks names a handle in turn: the fresh one where it gives one out, one
-- that was given out where it closes it; no handle goes back to nobody
abbrev pub IsInTurn : Key → Fact → Trail → Type 0
IsInTurn (key.Owner h) (fact.Owned owner.Closed) t = h.0 < fresh_handle t
IsInTurn (key.Owner h) (fact.Owned o) t = h.0 ≡ fresh_handle t
IsInTurn (key.Owner h) x t = ⊥
IsInTurn k x t = Unit {0}

-- each setting named its handle in turn
abbrev pub AreInTurn : Trail → Type 0
AreInTurn [] = Unit {0}
AreInTurn (Set k x ∷ t) = IsInTurn k x t × AreInTurn t
AreInTurn (Say w n ∷ t) = AreInTurn t

-- nothing is known of a number that was not given out: of a session, a handle, a lock
abbrev pub UnusedSessions : Trail → Type 0
UnusedSessions t = (k : Key) (s : SessId) → about_session k ≡ Some s → fresh_session t ≤ s.0 → value t k ≡ start_fact k

abbrev pub UnusedHandles : Trail → Type 0
UnusedHandles t = (k : Key) (h : HandleNo) → about_handle k ≡ Some h → fresh_handle t ≤ h.0 → value t k ≡ start_fact k

abbrev pub UnusedLocks : Trail → Type 0
UnusedLocks t = (l : LockNo) → fresh_lock t ≤ l.0 → value t (key.Lock l) ≡ start_fact (key.Lock l)

-- ---- users

-- a user is known exactly while a session or lingering keeps them; who leaves does so since a moment that has been
pub record Users (t : Trail) : Type 0 where
  pub kept : (u : Uid) → (is_kept t u ≡ true) ↔ (value t (key.User u) ≡ fact.Known)
  pub leaving : (u : Uid) (since : Millis) → value t (key.User u) ≡ fact.Leaving since → since.0 ≤ now t

-- ---- locks and operations

-- the connection of a lock that stands is connected, and a handle keeps the lock
pub record IsLocked (t : Trail) (l : LockNo) (x : Lock) : Type 0 where
  pub connected : is_connected t x.holder ≡ true
  pub handle : HandleNo
  pub owned : value t (key.Owner handle) ≡ fact.Owned (owner.Lock x.holder l)

abbrev pub Holders : Trail → Type 0
Holders t = (l : LockNo) (x : Lock) → value t (key.Lock l) ≡ fact.Lock x → IsLocked t l x

-- an operation waits since a moment that has been, and no lock blocks it that it does not pass
pub record Operations (t : Trail) : Type 0 where
  pub since : (k : OpKind) (since : Millis) (skip : Bool) → value t key.Op ≡ fact.Operation (Waiting k since skip) → since.0 ≤ now t
  pub unblocked : (k : OpKind) (since : Millis) → value t key.Op ≡ fact.Operation (Waiting k since false) → is_blocked t k ≡ false

-- a lock delays an operation that waits, and it has not waited for as long as locks may make it
pub record IsHeld (U : Setup) (t : Trail) (k : OpKind) (since : Millis) : Type 0 where
  pub delayed : is_delayed t k ≡ true
  pub early : is_over U.conf t since ≡ false

-- an operation waits only while it is held up
abbrev pub AreHeld : Setup → Trail → Type 0
AreHeld U t = (k : OpKind) (since : Millis) (skip : Bool) → value t key.Op ≡ fact.Operation (Waiting k since skip) → IsHeld U t k since

-- ---- all of it

-- what holds after the marks that an event makes by itself
pub record IsSoundBetween (U : Setup) (t : Trail) : Type 0 where
  pub shaped : IsShaped t
  pub controls : Controls t
  pub fifos : Fifos t
  pub takes : Takes t
  pub lives : Lives t
  pub awaits : Awaits t
  pub awaits_pending : AwaitsPending t
  pub terminals : Terminals t
  pub on_terminals : OnTerminals t
  pub seats : Seats t
  pub unused_sessions : UnusedSessions t
  pub unused_handles : UnusedHandles t
  pub unused_locks : UnusedLocks t
  pub in_turn : AreInTurn t
  pub users : Users t
  pub holders : Holders t
  pub operations : Operations t

-- what holds after each entry: a switch that is pending waits for something, and so does an operation that waits
pub record IsSound (U : Setup) (t : Trail) : Type 0 where
  pub between : IsSoundBetween U t
  pub settled : PendingAwaits t
  pub held : AreHeld U t
