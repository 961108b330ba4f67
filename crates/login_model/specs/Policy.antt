-- The policy: one formula a rule, the ordered rules of each event, and the verdict.
use Rattle.std.specs.Prelude.{ℕ, ℤ, pos, ◌==◌, ◌&&◌, ◌||◌, not, nat_le, nat_lt, Bool, true, false, if◌then◌else◌, Option, Some, None, Result, Ok, Err, List, [], ◌∷◌, ◌++◌, codes, length, find}
use Rattle.std.specs.Option.{option_map, is_some}
use Rattle.std.specs.List.{list_any}
use Rattle.std.specs.Str.{bytes_eq}
use Rattle.login_base.specs.declared.ids.SessId.{SessId}
use Rattle.login_base.specs.declared.ids.ConnId.{ConnId}
use Rattle.login_base.specs.declared.ids.HandleNo.{HandleNo}
use Rattle.login_base.specs.Seat.{is_seat_name}
use Rattle.login_base.specs.SessionId.{session_of}
use Rattle.login_model.specs.declared.action.Action.{Action}
use Rattle.login_model.specs.declared.action.Action.TheVariants as action
use Rattle.login_model.specs.declared.fact.Key.TheVariants.{Conn, Sess, Ctl, Owner as OwnerKey}
use Rattle.login_model.specs.declared.setup.UserRow.{UserRow}
use Rattle.login_model.specs.declared.setup.Setup.{Setup}
use Rattle.login_model.specs.declared.call.Creation.{Creation}
use Rattle.login_model.specs.declared.call.Inhibition.{Inhibition}
use Rattle.login_model.specs.declared.call.PropertyName.{PropertyName}
use Rattle.login_model.specs.declared.object.Object.{Object}
use Rattle.login_model.specs.declared.object.Object.TheVariants as object
use Rattle.login_model.specs.Objects.{has_property, named_object}
use Rattle.login_model.specs.declared.call.Call.{Call}
use Rattle.login_model.specs.declared.call.Call.TheVariants as call
use Rattle.login_model.specs.declared.hardware.Hardware.{Hardware}
use Rattle.login_model.specs.declared.hardware.Hardware.TheVariants.{Add, Remove, Input, VtKey, Exit, Key as HardKeyPressed, Dock, JobDone}
use Rattle.login_model.specs.declared.hardware.HardKey.{HardKey}
use Rattle.login_model.specs.declared.event.Event.{Event}
use Rattle.login_model.specs.declared.event.Event.TheVariants.{Connect, Disconnect, Call as Calls, Hardware as Happens, Tick, Stop}
use Rattle.login_model.specs.declared.rule.Limit.TheVariants.{Devices, DevicesTaken, Links, Sessions, Inhibitors}
use Rattle.login_model.specs.declared.rule.Rule.{Rule}
use Rattle.login_model.specs.declared.rule.Rule.TheVariants.{UnknownObject, UnknownMethod, BadArguments, NoSuchSession, NoSuchUser, NoSuchSeat, NoSuchHandle, NotRoot, NotOwner, ActionRefused, ActionChallenge, SessionClosing, NoSeat, SessionNotOnSeat, Controlled, NotInControl, VtBusy, Limit, NotYours, ClockBackwards, Nobody, OperationInProgress, Inhibited, DelayNotOffered, NoJob, KeyIgnored, NoSuchDevice, DeviceNotOnSeat, DeviceTaken, DeviceNotTaken, NotLive, WrongKind, DevicePresent, DeviceAbsent, UnknownProperty, ReadOnlyProperty}
use Rattle.login_model.specs.declared.rule.Verdict.{Verdict}
use Rattle.login_model.specs.declared.rule.Verdict.TheVariants.{Granted, Denied}
use Rattle.login_model.specs.declared.table.Say.{Say}
use Rattle.login_model.specs.declared.table.Say.TheVariants.{No, Challenge, Yes}
use Rattle.login_model.specs.Trail.{Trail, value}
use Rattle.login_model.specs.Start.{seat0}
use Rattle.login_model.specs.Where.{devices, is_connected, is_device, is_session, is_user, is_seat, connections, sessions, session_on, seat_of_session, is_on_seat, now}
use Rattle.login_model.specs.Table.{ask}
use Rattle.login_model.specs.Standing.{standing}
use Rattle.login_model.specs.Devices.{is_live, is_taken, taken_devices}
use Rattle.login_base.specs.declared.ids.DevNo.{DevNo}
use Rattle.login_model.specs.declared.hardware.DevKind.{DevKind}
use Rattle.login_model.specs.declared.hardware.DevKind.TheVariants.{Drm, Evdev}
use Rattle.login_model.specs.Locks.{is_mode, is_what, key_locks, matching, mode_of, what_of}
use Rattle.login_model.specs.Action.{power_action}
use Rattle.login_model.specs.Power.{is_blocked, key_action, passes_locks}
use Rattle.login_model.specs.declared.action.Qualifier.TheVariants as qualifier
use Rattle.login_model.specs.declared.conf.KeyAction.{KeyAction}
use Rattle.login_model.specs.declared.conf.KeyAction.TheVariants as does
use Rattle.login_model.specs.declared.fact.Key.TheVariants.{Dev, Op}
use Rattle.login_model.specs.declared.lock.Inhibited.{Inhibited as What}
use Rattle.login_model.specs.declared.lock.LockMode.{LockMode}
use Rattle.login_model.specs.declared.lock.LockMode.TheVariants.{Block, Delay}
use Rattle.login_model.specs.declared.operation.OpKind.{OpKind}
use Rattle.login_model.specs.declared.session.KillWhom.TheVariants.{Leader}
use Rattle.login_base.specs.declared.ids.LockNo.{LockNo}
use Rattle.login_model.specs.Where.{locks}
use Rattle.login_model.specs.Facts.{client_or, is_client_of, controller_in, handle_device, is_owned_fact, leader_in, user_or_root, under_way_in, running_in, holds_up, is_device_on, is_other_kind, is_other_user}
pub use Rattle.login_model.specs.Facts.{is_controller_fact, is_closing_phase, is_closing_fact, holder_in}
use Rattle.login_model.specs.Words.{is_read_or_empty, type_named, class_named, whom_named, whom_word}
use Rattle.login_model.specs.Limits.{links_limit, taken_limit, devices_limit, last_terminal, last_signal}

-- a rule that is broken where the test holds
abbrev pub broken_if : Bool → Rule → Option Rule
broken_if b r = if b then Some r else None

-- the user of a session
abbrev pub session_uid : Trail → SessId → ℕ
session_uid t s = (user_or_root (value t (Sess s))).0

-- the number that stands for the caller's own user in `linger`, and for the user of a caller that is not connected
abbrev pub no_user : ℕ
no_user = 4294967295

-- the user of a caller, or that number where it is not connected
abbrev pub uid_of : Trail → ConnId → ℕ
uid_of t c = client_or no_user (value t (Conn c))

-- whether a connection is connected and its user is this one
abbrev pub is_own : Trail → ConnId → ℕ → Bool
is_own t c uid = is_client_of uid (value t (Conn c))

abbrev pub is_root : Trail → ConnId → Bool
is_root t c = is_own t c 0

-- whether a user is one of the setup; root always is
abbrev pub is_user_of : Setup → ℕ → Bool
is_user_of U uid = (uid == 0) || list_any (λ (row : UserRow). row.uid.0 == uid) U.users

-- whether a connection controls a session
abbrev pub controls : Trail → ConnId → SessId → Bool
controls t c s = is_controller_fact c (value t (Ctl s))

-- P04 no-such-session: the id is no session that was made and is not gone
abbrev pub no_such_session : Trail → SessId → Option Rule
no_such_session t s = broken_if (not (is_session t s)) NoSuchSession

-- P05 no-such-user, of create and linger: the user is none of the setup
abbrev pub no_such_user : Setup → ℕ → Option Rule
no_such_user U uid = broken_if (not (is_user_of U uid)) NoSuchUser

-- P09 not-root: the caller's user is not root
abbrev pub not_root : Trail → ConnId → Option Rule
not_root t c = broken_if (not (is_root t c)) NotRoot

-- P10 not-owner: the caller's user is neither root nor the session's
abbrev pub not_owner : Trail → ConnId → SessId → Option Rule
not_owner t c s = broken_if (not (is_root t c || is_own t c (session_uid t s))) NotOwner

-- P17 controlled: another connection controls the session
abbrev pub controlled_by_other : ConnId → Option ConnId → Option Rule
controlled_by_other c (Some b) = broken_if (not (b.0 == c.0)) (Controlled b)
controlled_by_other c None = None

abbrev pub controlled : Trail → ConnId → SessId → Option Rule
controlled t c s = controlled_by_other c (controller_in (value t (Ctl s)))

-- P18 not-in-control: the caller does not control the session
abbrev pub not_in_control : Trail → ConnId → SessId → Option Rule
not_in_control t c s = broken_if (not (controls t c s)) NotInControl

-- P21 vt-busy: an open session of seat0 has the terminal
abbrev pub vt_busy : Trail → ℕ → Option Rule
vt_busy t vt = option_map VtBusy (session_on t vt)

-- the same of a seat that need not be seat0
abbrev pub vt_busy_on : Trail → List ℕ → ℕ → Option Rule
vt_busy_on t seat vt = if bytes_eq seat seat0 then vt_busy t vt else None

-- P26 limit: so many connections are connected as may be
abbrev pub too_many_links : Trail → Option Rule
too_many_links t = broken_if (nat_le links_limit (length (connections t))) (Limit Links)

-- P35 nobody: the process is neither 0 nor a connected connection
abbrev pub nobody : Trail → ℕ → Option Rule
nobody t process = broken_if (not ((process == 0) || is_connected t (record { 0 = process }))) Nobody

-- P03 bad-arguments, of create: the type and the class are of their sets, the seat is none or a name
-- of one, and a terminal of seat0 is from 1 to 63, of anything else 0
abbrev pub is_type : List ℕ → Bool
is_type text = is_read_or_empty type_named text

abbrev pub is_class : List ℕ → Bool
is_class text = is_read_or_empty class_named text

abbrev pub is_vt : ℕ → Bool
is_vt vt = nat_le 1 vt && nat_le vt last_terminal

abbrev pub is_seat_or_none : List ℕ → Bool
is_seat_or_none [] = true
is_seat_or_none (b ∷ bs) = is_seat_name (b ∷ bs)

abbrev pub fits_seat : List ℕ → ℕ → Bool
fits_seat seat vt = if bytes_eq seat seat0 then is_vt vt else vt == 0

abbrev pub fits_creation : Creation → Bool
fits_creation x = is_type x.session_type && is_class x.class && is_seat_or_none x.seat && fits_seat x.seat x.vt

abbrev pub bad_arguments : Bool → Option Rule
bad_arguments fits = broken_if (not fits) BadArguments

-- P05 no-such-user, of other calls: the user is absent
abbrev pub absent_user : Trail → ℕ → Option Rule
absent_user t uid = broken_if (not (is_user t (record { 0 = uid }))) NoSuchUser

-- P06 no-such-seat: the seat is absent, as each is that a text does not name
abbrev pub no_such_seat : Trail → List ℕ → Option Rule
no_such_seat t seat = broken_if (not (is_seat_name seat && is_seat t seat)) NoSuchSeat

-- the same of a seat that may be none
abbrev pub no_such_seat_of : Trail → List ℕ → Option Rule
no_such_seat_of t [] = None
no_such_seat_of t (b ∷ bs) = no_such_seat t (b ∷ bs)

-- P07 no-such-handle: the handle was never given out, or is closed
abbrev pub no_such_handle : Trail → HandleNo → Option Rule
no_such_handle t h = broken_if (not (is_owned_fact (value t (OwnerKey h)))) NoSuchHandle

-- P11 action-refused and P12 action-challenge: what the table says to the caller
abbrev pub refused : Action → Say → Option Rule
refused a No = Some (ActionRefused a)
refused a _ = None

abbrev pub challenged : Action → Say → Option Rule
challenged a Challenge = Some (ActionChallenge a)
challenged a _ = None

-- what the policy says to a connection's action
abbrev pub say : Setup → Trail → ConnId → Action → Say
say U t c a = ask U.table a (standing t c)

abbrev pub action_refused : Setup → Trail → ConnId → Action → Option Rule
action_refused U t c a = refused a (say U t c a)

abbrev pub action_challenge : Setup → Trail → ConnId → Action → Option Rule
action_challenge U t c a = challenged a (say U t c a)

-- the same of an action that nobody needs for what is their own
abbrev pub unless : Bool → Option Rule → Option Rule
unless true rule = None
unless false rule = rule

abbrev pub own_or_refused : Setup → Trail → ConnId → ℕ → Action → Option Rule
own_or_refused U t c uid a = unless (is_own t c uid) (action_refused U t c a)

abbrev pub own_or_challenge : Setup → Trail → ConnId → ℕ → Action → Option Rule
own_or_challenge U t c uid a = unless (is_own t c uid) (action_challenge U t c a)

-- P13 session-closing
abbrev pub session_closing : Trail → SessId → Option Rule
session_closing t s = broken_if (is_closing_fact (value t (Sess s))) SessionClosing

-- P14 no-seat: the session has no seat
abbrev pub no_seat : Trail → SessId → Option Rule
no_seat t s = broken_if (not (is_some (seat_of_session t s))) NoSeat

-- P15 session-not-on-seat: the session is not on the named seat
abbrev pub session_not_on_seat : Trail → SessId → List ℕ → Option Rule
session_not_on_seat t s seat = broken_if (not (is_on_seat t seat s)) SessionNotOnSeat

-- P26 limit: as many sessions as may be are not gone
abbrev pub too_many_sessions : Setup → Trail → Option Rule
too_many_sessions U t = broken_if (nat_le U.conf.sessions_max (length (sessions t))) (Limit (Sessions U.conf.sessions_max))

-- P28 not-yours: the handle's owner is another connection
abbrev pub is_other : ConnId → Option ConnId → Bool
is_other c (Some b) = not (b.0 == c.0)
is_other c None = false

abbrev pub not_yours : Trail → ConnId → HandleNo → Option Rule
not_yours t c h = broken_if (is_other c (holder_in (value t (OwnerKey h)))) NotYours

-- P33 clock-backwards: the moment is before the clock
abbrev pub clock_backwards : Trail → ℕ → Option Rule
clock_backwards t m = broken_if (nat_lt m (now t)) (ClockBackwards (record { 0 = now t }))

-- P03 bad-arguments, of signals: from 1 to 64, and to whom
abbrev pub is_signal : ℤ → Bool
is_signal (pos n) = nat_le 1 n && nat_le n last_signal
is_signal _ = false

abbrev pub is_whom : List ℕ → Bool
is_whom who = is_read_or_empty whom_named who

-- P35 nobody, of kill: the leader is asked for and is not connected
abbrev pub is_missing : Trail → Option ConnId → Bool
is_missing t (Some leader) = not (is_connected t leader)
is_missing t None = false

abbrev pub no_leader : Trail → SessId → List ℕ → Option Rule
no_leader t s who = broken_if (bytes_eq who (whom_word Leader) && is_missing t (leader_in (value t (Sess s)))) Nobody

-- the user whom a call to linger means: that number is the caller's own user
abbrev pub meant_user : Trail → ConnId → ℕ → ℕ
meant_user t c uid = if uid == no_user then client_or uid (value t (Conn c)) else uid

abbrev pub linger_action : Trail → ConnId → ℕ → Action
linger_action t c uid = if is_own t c uid then action.SetSelfLinger else action.SetUserLinger

-- the rules of a call on a session, by the text of its id
abbrev pub on_session : (SessId → List (Option Rule)) → Option SessId → List (Option Rule)
on_session rules None = Some NoSuchSession ∷ []
on_session rules (Some s) = rules s

-- the ordered rules of each call on a session that is named
abbrev pub activate_rules : Setup → Trail → ConnId → SessId → List (Option Rule)
activate_rules U t c s =
    no_such_session t s ∷ session_closing t s ∷ no_seat t s
    ∷ own_or_refused U t c (session_uid t s) action.ChangeVt ∷ own_or_challenge U t c (session_uid t s) action.ChangeVt ∷ []

abbrev pub activate_on_rules : Setup → Trail → ConnId → List ℕ → SessId → List (Option Rule)
activate_on_rules U t c seat s =
    no_such_session t s ∷ no_such_seat t seat ∷ session_closing t s ∷ session_not_on_seat t s seat
    ∷ own_or_refused U t c (session_uid t s) action.ChangeVt ∷ own_or_challenge U t c (session_uid t s) action.ChangeVt ∷ []

-- of locking and unlocking
abbrev pub lock_rules : Setup → Trail → ConnId → SessId → List (Option Rule)
lock_rules U t c s =
    no_such_session t s ∷ session_closing t s
    ∷ own_or_refused U t c (session_uid t s) action.LockSessions ∷ own_or_challenge U t c (session_uid t s) action.LockSessions ∷ []

abbrev pub kill_rules : Setup → Trail → ConnId → List ℕ → ℤ → SessId → List (Option Rule)
kill_rules U t c who signal s =
    no_such_session t s ∷ bad_arguments (is_whom who && is_signal signal)
    ∷ own_or_refused U t c (session_uid t s) action.Manage ∷ own_or_challenge U t c (session_uid t s) action.Manage
    ∷ no_leader t s who ∷ []

abbrev pub terminate_rules : Setup → Trail → ConnId → SessId → List (Option Rule)
terminate_rules U t c s =
    no_such_session t s
    ∷ own_or_refused U t c (session_uid t s) action.Manage ∷ own_or_challenge U t c (session_uid t s) action.Manage ∷ []

-- of the hints that a session gives
abbrev pub hint_rules : Trail → ConnId → SessId → List (Option Rule)
hint_rules t c s = no_such_session t s ∷ session_closing t s ∷ not_owner t c s ∷ []

-- of control: by force only root has it, else nobody else may have it
abbrev pub control_rule : Bool → Trail → ConnId → SessId → Option Rule
control_rule true t c s = not_root t c
control_rule false t c s = controlled t c s

abbrev pub control_rules : Bool → Trail → ConnId → SessId → List (Option Rule)
control_rules force t c s = no_such_session t s ∷ session_closing t s ∷ not_owner t c s ∷ control_rule force t c s ∷ []

abbrev pub uncontrol_rules : Trail → ConnId → SessId → List (Option Rule)
uncontrol_rules t c s = no_such_session t s ∷ not_in_control t c s ∷ []

abbrev pub only_session : Trail → SessId → List (Option Rule)
only_session t s = no_such_session t s ∷ []

-- P08 no-such-device and P31 device-absent: the device is absent; P30 device-present
abbrev pub no_such_device : Trail → DevNo → Option Rule
no_such_device t d = broken_if (not (is_device t d)) NoSuchDevice

abbrev pub device_absent : Trail → DevNo → Option Rule
device_absent t d = broken_if (not (is_device t d)) DeviceAbsent

abbrev pub device_present : Trail → DevNo → Option Rule
device_present t d = broken_if (is_device t d) DevicePresent

-- P16 device-not-on-seat: the device is not on the session's seat
abbrev pub device_not_on_seat : Trail → SessId → DevNo → Option Rule
device_not_on_seat t s d = broken_if (not (is_device_on (seat_of_session t s) (value t (Dev d)))) DeviceNotOnSeat

-- P19 device-taken and P20 device-not-taken: the session has the device taken, or has not
abbrev pub device_taken : Trail → SessId → DevNo → Option Rule
device_taken t s d = broken_if (is_taken t s d) DeviceTaken

abbrev pub device_not_taken : Trail → SessId → DevNo → Option Rule
device_not_taken t s d = broken_if (not (is_taken t s d)) DeviceNotTaken

-- P26 limit: a session has as many devices taken, and as many are present, as may be
abbrev pub too_many_taken : Trail → SessId → Option Rule
too_many_taken t s = broken_if (nat_le taken_limit (length (taken_devices t s))) (Limit DevicesTaken)

abbrev pub too_many_devices : Trail → Option Rule
too_many_devices t = broken_if (nat_le devices_limit (length (devices t))) (Limit Devices)

-- P27 not-live: the handle is dead
abbrev pub not_live : Trail → HandleNo → Option Rule
not_live t h = broken_if (not (is_live t h)) NotLive

-- P29 wrong-kind: a device that is present is of another kind, or the handle is no device's
abbrev pub device_wrong : DevKind → Trail → DevNo → Option Rule
device_wrong kind t d = broken_if (is_other_kind kind (value t (Dev d))) WrongKind

abbrev pub handle_wrong : DevKind → Trail → Option DevNo → Option Rule
handle_wrong kind t (Some d) = device_wrong kind t d
handle_wrong kind t None = Some WrongKind

abbrev pub take_rules : Trail → ConnId → DevNo → SessId → List (Option Rule)
take_rules t c d s =
    no_such_session t s ∷ session_closing t s ∷ not_in_control t c s ∷ no_seat t s ∷ no_such_device t d
    ∷ device_not_on_seat t s d ∷ device_taken t s d ∷ too_many_taken t s ∷ []

-- of giving a device back, and of acknowledging its pause
abbrev pub taken_rules : Trail → ConnId → DevNo → SessId → List (Option Rule)
taken_rules t c d s = no_such_session t s ∷ not_in_control t c s ∷ device_not_taken t s d ∷ []

-- of reading a device, and of setting its mode
abbrev pub handle_rules : DevKind → Trail → ConnId → HandleNo → List (Option Rule)
handle_rules kind t c h = no_such_handle t h ∷ not_yours t c h ∷ handle_wrong kind t (handle_device (value t (OwnerKey h))) ∷ not_live t h ∷ []

-- P23 operation-in-progress: an operation waits or runs; for a lock: one whose word it names
abbrev pub in_progress : Trail → Option Rule
in_progress t = option_map OperationInProgress (under_way_in (value t Op))

abbrev pub meets : What → Option OpKind → Option Rule
meets what (Some k) = broken_if (holds_up k what) (OperationInProgress k)
meets what None = None

abbrev pub lock_in_progress : Trail → What → Option Rule
lock_in_progress t what = meets what (under_way_in (value t Op))

-- P24 inhibited: the lowest lock that stands in the way
abbrev pub first_lock : List LockNo → Option Rule
first_lock [] = None
first_lock (l ∷ ls) = Some (Inhibited l)

abbrev pub inhibited : Trail → OpKind → Option Rule
inhibited t k = first_lock (matching t k Block)

abbrev pub key_inhibited : Trail → HardKey → Option Rule
key_inhibited t k = first_lock (key_locks t k)

-- P25 delay-not-offered: only a shutdown and sleep can be delayed
abbrev pub names_more : What → Bool
names_more what = what.idle || what.handle_power_key || what.handle_suspend_key || what.handle_hibernate_key || what.handle_lid_switch

abbrev pub cannot_delay : LockMode → What → Bool
cannot_delay Delay what = names_more what
cannot_delay Block what = false

abbrev pub delay_not_offered : LockMode → What → Option Rule
delay_not_offered mode what = broken_if (cannot_delay mode what) DelayNotOffered

-- P26 limit: as many locks as may be stand
abbrev pub too_many_locks : Setup → Trail → Option Rule
too_many_locks U t = broken_if (nat_le U.conf.inhibitors_max (length (locks t))) (Limit (Inhibitors U.conf.inhibitors_max))

-- P32 no-job: no operation runs
abbrev pub no_job : Trail → Option Rule
no_job t = broken_if (not (is_some (running_in (value t Op)))) NoJob

-- P11 and P12 of an action that is needed where the test holds
abbrev pub needs : Bool → Setup → Trail → ConnId → Action → List (Option Rule)
needs b U t c a = unless (not b) (action_refused U t c a) ∷ unless (not b) (action_challenge U t c a) ∷ []

-- another user has an open session of class user
abbrev pub has_others : Trail → ℕ → Bool
has_others t uid = is_some (find (λ s. is_other_user uid (value t (Sess s))) (sessions t))

abbrev pub plain : OpKind → Action
plain k = action.Power (power_action k) qualifier.Plain

abbrev pub for_others : OpKind → Action
for_others k = action.Power (power_action k) qualifier.MultipleSessions

abbrev pub past_locks : OpKind → Action
past_locks k = action.Power (power_action k) qualifier.IgnoreInhibit

abbrev pub is_yes : Say → Bool
is_yes Yes = true
is_yes _ = false

-- whether the policy lets a caller pass the locks that block an operation
abbrev pub may_pass : Setup → Trail → ConnId → OpKind → Bool
may_pass U t c k = is_yes (say U t c (past_locks k))

abbrev pub power_rules : Setup → Trail → ConnId → OpKind → List (Option Rule)
power_rules U t c k =
    in_progress t
    ∷ (needs (has_others t (uid_of t c)) U t c (for_others k)
    ++ unless (may_pass U t c k) (inhibited t k)
    ∷ needs (not (has_others t (uid_of t c) || is_blocked t k)) U t c (plain k))

-- the action that each word of a lock needs
abbrev pub shutdown_action : LockMode → Action
shutdown_action Block = action.InhibitBlockShutdown
shutdown_action Delay = action.InhibitDelayShutdown

abbrev pub sleep_action : LockMode → Action
sleep_action Block = action.InhibitBlockSleep
sleep_action Delay = action.InhibitDelaySleep

abbrev pub word_rules : Setup → Trail → ConnId → LockMode → What → List (Option Rule)
word_rules U t c mode what =
    needs what.shutdown U t c (shutdown_action mode) ++ needs what.sleep U t c (sleep_action mode)
    ++ needs what.idle U t c action.InhibitBlockIdle ++ needs what.handle_power_key U t c action.InhibitHandlePowerKey
    ++ needs what.handle_suspend_key U t c action.InhibitHandleSuspendKey
    ++ needs what.handle_hibernate_key U t c action.InhibitHandleHibernateKey
    ++ needs what.handle_lid_switch U t c action.InhibitHandleLidSwitch

-- the ordered rules of a lock: what it names and how, the action of each word, the operation under way, how many stand
abbrev pub inhibit_rules : Setup → Trail → ConnId → Inhibition → List (Option Rule)
inhibit_rules U t c x =
    bad_arguments (is_what x.what && is_mode x.mode) ∷ delay_not_offered (mode_of x.mode) (what_of x.what)
    ∷ (word_rules U t c (mode_of x.mode) (what_of x.what)
    ++ lock_in_progress t (what_of x.what) ∷ too_many_locks U t ∷ [])

-- the rules of a key, by what it brings about
abbrev pub key_rules : Setup → Trail → HardKey → KeyAction → List (Option Rule)
key_rules U t k does.Ignore = Some KeyIgnored ∷ []
key_rules U t k does.Lock = key_inhibited t k ∷ []
key_rules U t k (does.Operation o) = key_inhibited t k ∷ in_progress t ∷ unless (passes_locks U.conf k) (inhibited t o) ∷ []

-- P04, P05 and P06 of an object with properties: it is not there
abbrev pub absent_object : Trail → Object → Option Rule
absent_object t object.Manager = None
absent_object t (object.Session s) = no_such_session t s
absent_object t (object.Seat seat) = no_such_seat t seat
absent_object t (object.User u) = absent_user t u.0

-- P22 unknown-property: the object has no such property under that interface
abbrev pub unknown_property : Object → PropertyName → Option Rule
unknown_property o x = broken_if (not (has_property o x.interface x.name)) UnknownProperty

-- P35 nobody, of a name: the login manager's own alone has an owner
abbrev pub own_name : List ℕ
own_name = codes "org.freedesktop.login1"

abbrev pub no_owner : List ℕ → Option Rule
no_owner name = broken_if (not (bytes_eq name own_name)) Nobody

-- the rules of a call of an object with properties, by what its path names
abbrev pub on_object : (Object → List (Option Rule)) → Result Object Rule → List (Option Rule)
on_object rules (Err r) = Some r ∷ []
on_object rules (Ok o) = rules o

abbrev pub get_rules : Trail → PropertyName → Object → List (Option Rule)
get_rules t x o = absent_object t o ∷ unknown_property o x ∷ []

abbrev pub get_all_rules : Trail → Object → List (Option Rule)
get_all_rules t o = absent_object t o ∷ []

-- P22 read-only-property: no property can be set
abbrev pub set_rules : Trail → PropertyName → Object → List (Option Rule)
set_rules t x o = absent_object t o ∷ unknown_property o x ∷ Some ReadOnlyProperty ∷ []

-- the ordered rules of a call, each with what it finds broken
abbrev pub call_rules : Setup → Trail → ConnId → Call → List (Option Rule)
call_rules U t c (call.Create x) =
    bad_arguments (fits_creation x) ∷ not_root t c ∷ no_such_user U x.uid.0 ∷ no_such_seat_of t x.seat ∷ nobody t x.process
    ∷ vt_busy_on t x.seat x.vt ∷ too_many_sessions U t ∷ []
call_rules U t c (call.GetSession id) = on_session (only_session t) (session_of id)
call_rules U t c (call.GetUser u) = absent_user t u.0 ∷ []
call_rules U t c (call.GetSeat seat) = no_such_seat t seat ∷ []
call_rules U t c (call.Activate id) = on_session (activate_rules U t c) (session_of id)
call_rules U t c (call.ActivateOnSeat id seat) = on_session (activate_on_rules U t c seat) (session_of id)
call_rules U t c (call.Lock id) = on_session (lock_rules U t c) (session_of id)
call_rules U t c (call.Unlock id) = on_session (lock_rules U t c) (session_of id)
call_rules U t c call.LockAll = action_refused U t c action.LockSessions ∷ action_challenge U t c action.LockSessions ∷ []
call_rules U t c call.UnlockAll = action_refused U t c action.LockSessions ∷ action_challenge U t c action.LockSessions ∷ []
call_rules U t c (call.Kill id who signal) = on_session (kill_rules U t c who signal) (session_of id)
call_rules U t c (call.Terminate id) = on_session (terminate_rules U t c) (session_of id)
call_rules U t c (call.TerminateUser u) = absent_user t u.0 ∷ own_or_refused U t c u.0 action.Manage ∷ own_or_challenge U t c u.0 action.Manage ∷ []
call_rules U t c (call.TerminateSeat seat) = no_such_seat t seat ∷ action_refused U t c action.Manage ∷ action_challenge U t c action.Manage ∷ []
call_rules U t c (call.SetLinger u on) =
    no_such_user U (meant_user t c u.0)
    ∷ action_refused U t c (linger_action t c (meant_user t c u.0)) ∷ action_challenge U t c (linger_action t c (meant_user t c u.0)) ∷ []
call_rules U t c (call.SetIdle id on) = on_session (hint_rules t c) (session_of id)
call_rules U t c (call.SetLocked id on) = on_session (hint_rules t c) (session_of id)
call_rules U t c (call.Control id force) = on_session (control_rules force t c) (session_of id)
call_rules U t c (call.Uncontrol id) = on_session (uncontrol_rules t c) (session_of id)
call_rules U t c (call.SwitchTo seat vt) =
    no_such_seat t seat ∷ bad_arguments (bytes_eq seat seat0 && is_vt vt)
    ∷ action_refused U t c action.ChangeVt ∷ action_challenge U t c action.ChangeVt ∷ []
call_rules U t c (call.SwitchToNext seat) = no_such_seat t seat ∷ action_refused U t c action.ChangeVt ∷ action_challenge U t c action.ChangeVt ∷ []
call_rules U t c (call.SwitchToPrevious seat) = no_such_seat t seat ∷ action_refused U t c action.ChangeVt ∷ action_challenge U t c action.ChangeVt ∷ []
call_rules U t c (call.KillUser u signal) =
    absent_user t u.0 ∷ bad_arguments (is_signal signal) ∷ own_or_refused U t c u.0 action.Manage ∷ own_or_challenge U t c u.0 action.Manage ∷ []
call_rules U t c (call.Close h) = no_such_handle t h ∷ not_yours t c h ∷ []
call_rules U t c (call.TakeDevice id d) = on_session (take_rules t c d) (session_of id)
call_rules U t c (call.ReleaseDevice id d) = on_session (taken_rules t c d) (session_of id)
call_rules U t c (call.PauseComplete id d) = on_session (taken_rules t c d) (session_of id)
call_rules U t c (call.ReadInput h) = handle_rules Evdev t c h
call_rules U t c (call.SetMode h mode) = handle_rules Drm t c h
call_rules U t c (call.Power k) = power_rules U t c k
call_rules U t c (call.Inhibit x) = inhibit_rules U t c x
call_rules U t c call.NoObject = Some UnknownObject ∷ []
call_rules U t c call.NoMethod = Some UnknownMethod ∷ []
call_rules U t c call.BadArguments = Some BadArguments ∷ []
call_rules U t c call.ListSessions = []
call_rules U t c call.ListUsers = []
call_rules U t c call.ListSeats = []
call_rules U t c call.ListInhibitors = []
call_rules U t c (call.Can k) = []
call_rules U t c call.NoCall = []
call_rules U t c (call.GetProperty x) = on_object (get_rules t x) (named_object x.path)
call_rules U t c (call.GetAllProperties path interface) = on_object (get_all_rules t) (named_object path)
call_rules U t c (call.SetProperty x) = on_object (set_rules t x) (named_object x.path)
call_rules U t c call.Ping = []
call_rules U t c call.GetMachineId = []
call_rules U t c call.Hello = []
call_rules U t c (call.GetNameOwner name) = no_owner name ∷ []
call_rules U t c (call.AddMatch rule) = []
call_rules U t c (call.RemoveMatch rule) = []

-- the ordered rules of what happens to the machine: a key for a terminal names one, an exit a session
abbrev pub hardware_rules : Setup → Trail → Hardware → List (Option Rule)
hardware_rules U t (VtKey vt) = bad_arguments (is_vt vt) ∷ []
hardware_rules U t (Exit id) = on_session (only_session t) (session_of id)
hardware_rules U t (HardKeyPressed k) = key_rules U t k (key_action U t k)
hardware_rules U t (Add d kind seat) = device_present t d ∷ too_many_devices t ∷ []
hardware_rules U t (Remove d) = device_absent t d ∷ []
hardware_rules U t (Input d typ code n) = device_absent t d ∷ device_wrong Evdev t d ∷ []
hardware_rules U t JobDone = no_job t ∷ []
hardware_rules U t (Dock on) = []

-- the ordered rules of an event
abbrev pub rules : Setup → Trail → Event → List (Option Rule)
rules U t (Connect c u) = too_many_links t ∷ []
rules U t (Calls r) = call_rules U t r.who r.call
rules U t (Happens x) = hardware_rules U t x
rules U t (Tick m) = clock_backwards t m.0 ∷ []
rules U t (Disconnect c) = []
rules U t Stop = []

-- denied by the first rule that is broken
abbrev pub first_broken : List (Option Rule) → Verdict
first_broken [] = Granted
first_broken (Some r ∷ rs) = Denied r
first_broken (None ∷ rs) = first_broken rs

unfoldable pub verdict : Setup → Trail → Event → Verdict
verdict U t e = first_broken (rules U t e)
