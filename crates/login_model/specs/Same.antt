-- Whether two keys or two facts are one.
use Rattle.std.specs.Prelude.{ℕ, ◌==◌, ◌&&◌, Bool, true, false, Option, Some, None, List}
use Rattle.std.specs.Ordering.{int_eq}
use Rattle.std.specs.Str.{bytes_eq}
use Rattle.login_base.specs.declared.ids.DevNo.{DevNo}
use Rattle.login_model.specs.declared.fact.Key.{Key}
use Rattle.login_model.specs.declared.fact.Key.TheVariants as key
use Rattle.login_model.specs.declared.fact.Fact.{Fact}
use Rattle.login_model.specs.declared.fact.Fact.TheVariants as fact
use Rattle.login_model.specs.declared.fact.Owner.{Owner}
use Rattle.login_model.specs.declared.fact.Owner.TheVariants as owner
use Rattle.login_model.specs.declared.session.Session.{Session}
use Rattle.login_model.specs.declared.session.SessionTexts.{SessionTexts}
use Rattle.login_model.specs.declared.session.SessionType.{SessionType}
use Rattle.login_model.specs.declared.session.SessionType.TheVariants.{Unspecified, Tty, X11, Wayland, Mir, Web}
use Rattle.login_model.specs.declared.session.Class.{Class}
use Rattle.login_model.specs.declared.session.Class.TheVariants as class
use Rattle.login_model.specs.declared.session.Phase.{Phase}
use Rattle.login_model.specs.declared.session.Phase.TheVariants.{Open, Closing, Gone}
use Rattle.login_model.specs.declared.session.KillWhom.{KillWhom}
use Rattle.login_model.specs.declared.session.KillWhom.TheVariants.{Leader, All}
use Rattle.login_model.specs.declared.hardware.DevKind.{DevKind}
use Rattle.login_model.specs.declared.hardware.DevKind.TheVariants.{Evdev, Drm}
use Rattle.login_model.specs.declared.lock.Inhibited.{Inhibited}
use Rattle.login_model.specs.declared.lock.LockMode.{LockMode}
use Rattle.login_model.specs.declared.lock.LockMode.TheVariants.{Block, Delay}
use Rattle.login_model.specs.declared.lock.Lock.{Lock}
use Rattle.login_model.specs.declared.operation.OpKind.{OpKind}
use Rattle.login_model.specs.declared.operation.OpKind.TheVariants as kind
use Rattle.login_model.specs.declared.operation.Operation.{Operation}
use Rattle.login_model.specs.declared.operation.Operation.TheVariants.{Idle, Waiting, Running}

abbrev pub same_device : DevNo → DevNo → Bool
same_device a b = (a.major == b.major) && (a.minor == b.minor)

abbrev pub same_key : Key → Key → Bool
same_key (key.Conn a) (key.Conn b) = a.0 == b.0
same_key (key.Sess a) (key.Sess b) = a.0 == b.0
same_key (key.Idle a) (key.Idle b) = a.0 == b.0
same_key (key.Locked a) (key.Locked b) = a.0 == b.0
same_key (key.Sig a) (key.Sig b) = a.0 == b.0
same_key (key.Ctl a) (key.Ctl b) = a.0 == b.0
same_key (key.User a) (key.User b) = a.0 == b.0
same_key (key.Linger a) (key.Linger b) = a.0 == b.0
same_key (key.Owner a) (key.Owner b) = a.0 == b.0
same_key (key.Live a) (key.Live b) = a.0 == b.0
same_key (key.Seat a) (key.Seat b) = bytes_eq a b
same_key (key.Act a) (key.Act b) = bytes_eq a b
same_key key.Vt key.Vt = true
same_key (key.Getty a) (key.Getty b) = a == b
same_key key.Pending key.Pending = true
same_key (key.Taken s a) (key.Taken r b) = (s.0 == r.0) && same_device a b
same_key (key.Awaited s a) (key.Awaited r b) = (s.0 == r.0) && same_device a b
same_key (key.Dev a) (key.Dev b) = same_device a b
same_key (key.Mode a) (key.Mode b) = same_device a b
same_key (key.Lock a) (key.Lock b) = a.0 == b.0
same_key key.Op key.Op = true
same_key key.Docked key.Docked = true
same_key key.Now key.Now = true
same_key _ _ = false

abbrev pub same_phase : Phase → Phase → Bool
same_phase Open Open = true
same_phase Closing Closing = true
same_phase Gone Gone = true
same_phase _ _ = false

abbrev pub same_type : SessionType → SessionType → Bool
same_type Unspecified Unspecified = true
same_type Tty Tty = true
same_type X11 X11 = true
same_type Wayland Wayland = true
same_type Mir Mir = true
same_type Web Web = true
same_type _ _ = false

abbrev pub same_class : Class → Class → Bool
same_class class.User class.User = true
same_class class.Greeter class.Greeter = true
same_class class.LockScreen class.LockScreen = true
same_class class.Background class.Background = true
same_class _ _ = false

abbrev pub same_seat : Option (List ℕ) → Option (List ℕ) → Bool
same_seat None None = true
same_seat (Some a) (Some b) = bytes_eq a b
same_seat _ _ = false

abbrev pub same_flag : Bool → Bool → Bool
same_flag true b = b
same_flag false true = false
same_flag false false = true

abbrev pub same_texts : SessionTexts → SessionTexts → Bool
same_texts a b =
    bytes_eq a.service b.service && bytes_eq a.desktop b.desktop && bytes_eq a.tty b.tty
    && bytes_eq a.display b.display && bytes_eq a.remote_user b.remote_user && bytes_eq a.remote_host b.remote_host

abbrev pub same_session : Session → Session → Bool
same_session a b =
    same_phase a.phase b.phase && (a.uid.0 == b.uid.0) && same_seat a.seat b.seat && (a.vt == b.vt)
    && same_type a.session_type b.session_type && same_class a.class b.class && (a.leader.0 == b.leader.0)
    && (a.fifo.0 == b.fifo.0) && same_flag a.remote b.remote && same_texts a.texts b.texts

abbrev pub same_whom : KillWhom → KillWhom → Bool
same_whom Leader Leader = true
same_whom All All = true
same_whom _ _ = false

abbrev pub same_owner : Owner → Owner → Bool
same_owner (owner.Device a s d) (owner.Device b r e) = (a.0 == b.0) && (s.0 == r.0) && same_device d e
same_owner (owner.Fifo a s) (owner.Fifo b r) = (a.0 == b.0) && (s.0 == r.0)
same_owner (owner.Lock a l) (owner.Lock b k) = (a.0 == b.0) && (l.0 == k.0)
same_owner owner.Closed owner.Closed = true
same_owner _ _ = false

abbrev pub same_device_kind : DevKind → DevKind → Bool
same_device_kind Evdev Evdev = true
same_device_kind Drm Drm = true
same_device_kind _ _ = false

-- of the keys and the lid
abbrev pub same_handled : Inhibited → Inhibited → Bool
same_handled a b =
    same_flag a.handle_power_key b.handle_power_key && same_flag a.handle_suspend_key b.handle_suspend_key
    && same_flag a.handle_hibernate_key b.handle_hibernate_key && same_flag a.handle_lid_switch b.handle_lid_switch

abbrev pub same_inhibited : Inhibited → Inhibited → Bool
same_inhibited a b = same_flag a.shutdown b.shutdown && same_flag a.sleep b.sleep && same_flag a.idle b.idle && same_handled a b

abbrev pub same_mode : LockMode → LockMode → Bool
same_mode Block Block = true
same_mode Delay Delay = true
same_mode _ _ = false

abbrev pub same_lock : Lock → Lock → Bool
same_lock a b =
    same_inhibited a.what b.what && same_mode a.mode b.mode && (a.uid.0 == b.uid.0)
    && bytes_eq a.who b.who && bytes_eq a.why b.why && (a.holder.0 == b.holder.0)

abbrev pub same_kind : OpKind → OpKind → Bool
same_kind kind.PowerOff kind.PowerOff = true
same_kind kind.Reboot kind.Reboot = true
same_kind kind.Halt kind.Halt = true
same_kind kind.Suspend kind.Suspend = true
same_kind kind.Hibernate kind.Hibernate = true
same_kind kind.HybridSleep kind.HybridSleep = true
same_kind kind.SuspendThenHibernate kind.SuspendThenHibernate = true
same_kind _ _ = false

abbrev pub same_operation : Operation → Operation → Bool
same_operation Idle Idle = true
same_operation (Waiting j a x) (Waiting k b y) = same_kind j k && (a.0 == b.0) && same_flag x y
same_operation (Running j) (Running k) = same_kind j k
same_operation _ _ = false

abbrev pub same_fact : Fact → Fact → Bool
same_fact fact.Absent fact.Absent = true
same_fact (fact.Connected a) (fact.Connected b) = a.0 == b.0
same_fact (fact.Session a) (fact.Session b) = same_session a b
same_fact (fact.Flag a) (fact.Flag b) = same_flag a b
same_fact (fact.Signal a m) (fact.Signal b n) = same_whom a b && int_eq m n
same_fact (fact.Controller a) (fact.Controller b) = a.0 == b.0
same_fact fact.Known fact.Known = true
same_fact (fact.Leaving a) (fact.Leaving b) = a.0 == b.0
same_fact (fact.Owned a) (fact.Owned b) = same_owner a b
same_fact (fact.Handle a) (fact.Handle b) = a.0 == b.0
same_fact fact.Present fact.Present = true
same_fact (fact.Active a) (fact.Active b) = a.0 == b.0
same_fact (fact.Number a) (fact.Number b) = a == b
same_fact (fact.Moment a) (fact.Moment b) = a.0 == b.0
same_fact (fact.Device j a) (fact.Device k b) = same_device_kind j k && bytes_eq a b
same_fact (fact.Lock a) (fact.Lock b) = same_lock a b
same_fact (fact.Operation a) (fact.Operation b) = same_operation a b
same_fact _ _ = false
