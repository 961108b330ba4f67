-- What a fact says. A method of `Fact` and its definition have one name. Where the definition gives a part, or where
-- keys or marks have that name, there stands `_in`, `_fact` or `_in_fact` behind it.
use Rattle.std.specs.Prelude.{ℕ, ◌-◌, ◌==◌, ◌&&◌, not, nat_le, if◌then◌else◌, Bool, true, false, Option, Some, None, List}
use Rattle.std.specs.Option.{is_some}
use Rattle.std.specs.Str.{bytes_eq}
use Rattle.login_base.specs.declared.ids.SessId.{SessId}
use Rattle.login_base.specs.declared.ids.Uid.{Uid}
use Rattle.login_base.specs.declared.ids.ConnId.{ConnId}
use Rattle.login_base.specs.declared.ids.DevNo.{DevNo}
use Rattle.login_base.specs.declared.ids.HandleNo.{HandleNo}
use Rattle.login_base.specs.declared.ids.Millis.{Millis}
use Rattle.login_model.specs.declared.fact.Fact.{Fact}
use Rattle.login_model.specs.declared.fact.Fact.TheVariants as fact
use Rattle.login_model.specs.declared.fact.Owner.{Owner}
use Rattle.login_model.specs.declared.fact.Owner.TheVariants as owner
use Rattle.login_model.specs.declared.hardware.DevKind.{DevKind}
use Rattle.login_model.specs.declared.hardware.DevKind.TheVariants.{Drm, Evdev}
use Rattle.login_model.specs.declared.hardware.HardKey.{HardKey}
use Rattle.login_model.specs.declared.hardware.HardKey.TheVariants as hard
use Rattle.login_model.specs.declared.lock.Inhibited.{Inhibited}
use Rattle.login_model.specs.declared.lock.Lock.{Lock}
use Rattle.login_model.specs.declared.lock.LockMode.{LockMode}
use Rattle.login_model.specs.declared.operation.OpKind.{OpKind}
use Rattle.login_model.specs.declared.operation.OpKind.TheVariants as operation
use Rattle.login_model.specs.declared.operation.Operation.{Operation}
use Rattle.login_model.specs.declared.operation.Operation.TheVariants.{Waiting, Running}
use Rattle.login_model.specs.declared.session.Class.{Class}
use Rattle.login_model.specs.declared.session.Class.TheVariants as class
use Rattle.login_model.specs.declared.session.Phase.{Phase}
use Rattle.login_model.specs.declared.session.Phase.TheVariants.{Open, Closing, Gone}
use Rattle.login_model.specs.declared.session.Session.{Session}
use Rattle.login_model.specs.declared.setup.Setup.{Setup}
use Rattle.login_model.specs.Same.{same_mode}
use Rattle.login_model.specs.Start.{seat0}

abbrev pub is_absent : Fact → Bool
is_absent fact.Absent = true
is_absent _ = false

-- ---- connections

-- the user of a connected client
abbrev pub client_in : Fact → Option Uid
client_in (fact.Connected u) = Some u
client_in _ = None

abbrev pub is_connected_fact : Fact → Bool
is_connected_fact (fact.Connected u) = true
is_connected_fact _ = false

-- the number of a client's user, or that number
abbrev pub client_or : ℕ → Fact → ℕ
client_or uid (fact.Connected u) = u.0
client_or uid _ = uid

-- a client of this user
abbrev pub is_client_of : ℕ → Fact → Bool
is_client_of uid (fact.Connected u) = u.0 == uid
is_client_of uid _ = false

-- ---- sessions

abbrev pub is_open_phase : Phase → Bool
is_open_phase Open = true
is_open_phase _ = false

abbrev pub is_closing_phase : Phase → Bool
is_closing_phase Closing = true
is_closing_phase _ = false

abbrev pub is_gone_phase : Phase → Bool
is_gone_phase Gone = true
is_gone_phase _ = false

-- a session that was made, gone or not
abbrev pub session_in_fact : Fact → Option Session
session_in_fact (fact.Session x) = Some x
session_in_fact _ = None

abbrev pub is_made_fact : Fact → Bool
is_made_fact (fact.Session x) = true
is_made_fact _ = false

-- a session that was made and is not gone
abbrev pub is_session_fact : Fact → Bool
is_session_fact (fact.Session x) = not (is_gone_phase x.phase)
is_session_fact _ = false

-- an open session
abbrev pub is_open_fact : Fact → Bool
is_open_fact (fact.Session x) = is_open_phase x.phase
is_open_fact _ = false

abbrev pub is_closing_fact : Fact → Bool
is_closing_fact (fact.Session x) = is_closing_phase x.phase
is_closing_fact _ = false

-- the user of a session, or root
abbrev pub user_or_root : Fact → Uid
user_or_root (fact.Session x) = x.uid
user_or_root _ = record { 0 = 0 }

abbrev pub is_session_of : ℕ → Fact → Bool
is_session_of uid (fact.Session x) = x.uid.0 == uid
is_session_of uid _ = false

-- the seat of a session, if it has one
abbrev pub seat_in_fact : Fact → Option (List ℕ)
seat_in_fact (fact.Session x) = x.seat
seat_in_fact _ = None

-- the virtual terminal of a session, or 0
abbrev pub vt_in : Fact → ℕ
vt_in (fact.Session x) = x.vt
vt_in _ = 0

-- the handle that keeps a session open, or 0
abbrev pub fifo_in : Fact → HandleNo
fifo_in (fact.Session x) = x.fifo
fifo_in _ = record { 0 = 0 }

abbrev pub leader_in : Fact → Option ConnId
leader_in (fact.Session x) = Some x.leader
leader_in _ = None

-- an open session of a user
abbrev pub is_open_of : ℕ → Fact → Bool
is_open_of uid (fact.Session x) = is_open_phase x.phase && (x.uid.0 == uid)
is_open_of uid _ = false

-- an open session of a user that has a seat
abbrev pub is_seated_of : ℕ → Fact → Bool
is_seated_of uid (fact.Session x) = is_open_of uid (fact.Session x) && is_some x.seat
is_seated_of uid _ = false

-- the user of an open session that has a seat
abbrev pub seated_user : Fact → Option ℕ
seated_user x = if is_open_fact x && is_some (seat_in_fact x) then Some (user_or_root x).0 else None

abbrev pub is_user_class : Class → Bool
is_user_class class.User = true
is_user_class _ = false

-- an open session of class user, of another user
abbrev pub is_other_user : ℕ → Fact → Bool
is_other_user uid (fact.Session x) = is_open_phase x.phase && is_user_class x.class && not (x.uid.0 == uid)
is_other_user uid _ = false

-- ---- flags and signals

abbrev pub is_flag : Fact → Bool
is_flag (fact.Flag b) = true
is_flag _ = false

abbrev pub is_set : Fact → Bool
is_set (fact.Flag b) = b
is_set _ = false

abbrev pub is_signal_fact : Fact → Bool
is_signal_fact (fact.Signal whom n) = true
is_signal_fact _ = false

-- ---- controllers

abbrev pub controller_in : Fact → Option ConnId
controller_in (fact.Controller c) = Some c
controller_in _ = None

abbrev pub is_controlled_fact : Fact → Bool
is_controlled_fact (fact.Controller c) = true
is_controlled_fact _ = false

abbrev pub is_controller_fact : ConnId → Fact → Bool
is_controller_fact c (fact.Controller b) = b.0 == c.0
is_controller_fact c _ = false

-- ---- users

abbrev pub is_known : Fact → Bool
is_known fact.Known = true
is_known _ = false

-- a user that is not absent
abbrev pub is_user_fact : Fact → Bool
is_user_fact fact.Known = true
is_user_fact (fact.Leaving since) = true
is_user_fact _ = false

-- a user who leaves after a delay
abbrev pub is_leaving_fact : Fact → Bool
is_leaving_fact (fact.Leaving since) = true
is_leaving_fact _ = false

-- a user whose delay is over at a moment
abbrev pub is_overdue_fact : Setup → ℕ → Fact → Bool
is_overdue_fact U m (fact.Leaving since) = nat_le U.conf.user_stop_delay.0 (m - since.0)
is_overdue_fact U m _ = false

-- ---- handles

-- whose a handle is, or that it was closed
abbrev pub owner_in : Fact → Option Owner
owner_in (fact.Owned o) = Some o
owner_in _ = None

abbrev pub is_given_fact : Fact → Bool
is_given_fact (fact.Owned o) = true
is_given_fact _ = false

abbrev pub is_closed : Owner → Bool
is_closed owner.Closed = true
is_closed _ = false

-- a handle that someone has
abbrev pub is_owned_fact : Fact → Bool
is_owned_fact (fact.Owned o) = not (is_closed o)
is_owned_fact _ = false

-- whose it is
abbrev pub holder_in : Fact → Option ConnId
holder_in (fact.Owned (owner.Device c s d)) = Some c
holder_in (fact.Owned (owner.Fifo c s)) = Some c
holder_in (fact.Owned (owner.Lock c l)) = Some c
holder_in _ = None

-- a handle with which a connection keeps a session open
abbrev pub is_fifo_of : ConnId → Fact → Bool
is_fifo_of c (fact.Owned (owner.Fifo b s)) = b.0 == c.0
is_fifo_of c _ = false

-- whose a handle is that keeps a session open
abbrev pub fifo_owner : Fact → Option ConnId
fifo_owner (fact.Owned (owner.Fifo c s)) = Some c
fifo_owner _ = None

-- the session that a handle keeps open
abbrev pub fifo_session : Fact → Option SessId
fifo_session (fact.Owned (owner.Fifo c s)) = Some s
fifo_session _ = None

-- the device of a handle that is a device's
abbrev pub handle_device : Fact → Option DevNo
handle_device (fact.Owned (owner.Device c s d)) = Some d
handle_device _ = None

-- ---- taken devices

-- the handle with which a device is taken
abbrev pub handle_in : Fact → Option HandleNo
handle_in (fact.Handle h) = Some h
handle_in _ = None

abbrev pub is_handle_fact : Fact → Bool
is_handle_fact (fact.Handle h) = true
is_handle_fact _ = false

abbrev pub is_this_handle : HandleNo → Fact → Bool
is_this_handle h (fact.Handle g) = g.0 == h.0
is_this_handle h _ = false

-- ---- seats

abbrev pub is_seat_fact : Fact → Bool
is_seat_fact fact.Present = true
is_seat_fact _ = false

abbrev pub is_active_fact : Fact → Bool
is_active_fact (fact.Active s) = true
is_active_fact _ = false

-- the session that was made active on a seat without virtual terminals
abbrev pub active_in : Fact → Option SessId
active_in (fact.Active s) = Some s
active_in _ = None

abbrev pub is_acting_fact : SessId → Fact → Bool
is_acting_fact s (fact.Active r) = r.0 == s.0
is_acting_fact s _ = false

-- whether a seat is this one
abbrev pub is_this_seat : List ℕ → Option (List ℕ) → Bool
is_this_seat seat (Some name) = bytes_eq name seat
is_this_seat seat None = false

abbrev pub is_seat0 : Option (List ℕ) → Bool
is_seat0 (Some name) = bytes_eq name seat0
is_seat0 None = false

-- ---- numbers and moments

abbrev pub number_in_fact : Fact → Option ℕ
number_in_fact (fact.Number n) = Some n
number_in_fact _ = None

-- the number, or 0
abbrev pub number_or_zero : Fact → ℕ
number_or_zero (fact.Number n) = n
number_or_zero _ = 0

abbrev pub is_number_fact : Fact → Bool
is_number_fact (fact.Number n) = true
is_number_fact _ = false

abbrev pub is_this_number : ℕ → Fact → Bool
is_this_number v (fact.Number n) = v == n
is_this_number v _ = false

-- the virtual terminal of an open session of seat0
abbrev pub terminal_in : Fact → Option ℕ
terminal_in x = if is_open_fact x && is_seat0 (seat_in_fact x) then Some (vt_in x) else None

-- an open session of seat0 on the virtual terminal that the other fact names
abbrev pub is_on_terminal : Fact → Fact → Bool
is_on_terminal terminal (fact.Session x) = is_open_phase x.phase && is_seat0 x.seat && is_this_number x.vt terminal
is_on_terminal terminal _ = false

abbrev pub moment_in_fact : Fact → Option Millis
moment_in_fact (fact.Moment m) = Some m
moment_in_fact _ = None

-- the moment, or the start
abbrev pub moment_or_zero : Fact → ℕ
moment_or_zero (fact.Moment m) = m.0
moment_or_zero _ = 0

abbrev pub is_moment_fact : Fact → Bool
is_moment_fact (fact.Moment m) = true
is_moment_fact _ = false

-- ---- devices, locks and operations

abbrev pub device_kind_in : Fact → Option DevKind
device_kind_in (fact.Device kind seat) = Some kind
device_kind_in _ = None

abbrev pub is_device_fact : Fact → Bool
is_device_fact (fact.Device kind seat) = true
is_device_fact _ = false

-- an input device, which alone can be read
abbrev pub is_evdev : Fact → Bool
is_evdev (fact.Device Evdev seat) = true
is_evdev _ = false

-- the seat of a graphics device
abbrev pub graphics_seat : Fact → Option (List ℕ)
graphics_seat (fact.Device Drm seat) = Some seat
graphics_seat _ = None

-- a device on a seat, if that is one
abbrev pub is_device_on : Option (List ℕ) → Fact → Bool
is_device_on seat (fact.Device kind name) = is_this_seat name seat
is_device_on seat _ = false

-- a graphics device on a seat
abbrev pub is_graphics_on : List ℕ → Fact → Bool
is_graphics_on seat (fact.Device Drm name) = bytes_eq name seat
is_graphics_on seat _ = false

-- a device of another kind
abbrev pub is_other_kind : DevKind → Fact → Bool
is_other_kind Evdev (fact.Device Drm seat) = true
is_other_kind Drm (fact.Device Evdev seat) = true
is_other_kind kind _ = false

abbrev pub lock_in_fact : Fact → Option Lock
lock_in_fact (fact.Lock l) = Some l
lock_in_fact _ = None

-- whose a lock is
abbrev pub lock_holder : Fact → Option ConnId
lock_holder (fact.Lock l) = Some l.holder
lock_holder _ = None

-- a lock that stands
abbrev pub is_lock_fact : Fact → Bool
is_lock_fact (fact.Lock l) = true
is_lock_fact _ = false

-- a lock of a connection
abbrev pub is_lock_of : ConnId → Fact → Bool
is_lock_of c (fact.Lock l) = l.holder.0 == c.0
is_lock_of c _ = false

-- whether what is inhibited has the word of an operation: shutdown for those that end the machine's run, else sleep
abbrev pub holds_up : OpKind → Inhibited → Bool
holds_up operation.PowerOff what = what.shutdown
holds_up operation.Reboot what = what.shutdown
holds_up operation.Halt what = what.shutdown
holds_up _ what = what.sleep

-- the fact of a lock of this mode that holds up an operation
abbrev pub holds_back : OpKind → LockMode → Fact → Bool
holds_back k mode (fact.Lock l) = same_mode l.mode mode && holds_up k l.what
holds_back k mode _ = false

-- nothing is inhibited
abbrev pub nothing_inhibited : Inhibited
nothing_inhibited = record {
  shutdown = false;
  sleep = false;
  idle = false;
  handle_power_key = false;
  handle_suspend_key = false;
  handle_hibernate_key = false;
  handle_lid_switch = false;
}

-- what a lock that stands holds up, if it has this mode
abbrev pub inhibited_in : LockMode → Fact → Inhibited
inhibited_in mode (fact.Lock l) = if same_mode l.mode mode then l.what else nothing_inhibited
inhibited_in mode _ = nothing_inhibited

-- whether what is inhibited has the word of a key
abbrev pub holds_key : HardKey → Inhibited → Bool
holds_key hard.Power what = what.handle_power_key
holds_key hard.Suspend what = what.handle_suspend_key
holds_key hard.Hibernate what = what.handle_hibernate_key
holds_key hard.Lid what = what.handle_lid_switch

-- the fact of a lock that takes a key from the login manager
abbrev pub handles_key : HardKey → Fact → Bool
handles_key k (fact.Lock l) = holds_key k l.what
handles_key k _ = false

abbrev pub operation_in : Fact → Option Operation
operation_in (fact.Operation o) = Some o
operation_in _ = None

abbrev pub is_operation_fact : Fact → Bool
is_operation_fact (fact.Operation o) = true
is_operation_fact _ = false

-- the operation that waits or runs
abbrev pub under_way_in : Fact → Option OpKind
under_way_in (fact.Operation (Waiting k since skip)) = Some k
under_way_in (fact.Operation (Running k)) = Some k
under_way_in _ = None

-- the operation that runs
abbrev pub running_in : Fact → Option OpKind
running_in (fact.Operation (Running k)) = Some k
running_in _ = None
