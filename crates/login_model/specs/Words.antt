-- How fixed words are spelled, each by the type that it stands for.
use Rattle.std.specs.Prelude.{ℕ, Bool, true, if◌then◌else◌, Option, List, [], ◌∷◌, ◌++◌, codes, find, map}
use Rattle.std.specs.List.{join_with_byte}
use Rattle.std.specs.Option.{is_some, unwrap_or}
use Rattle.std.specs.Str.{bytes_eq}
use Rattle.login_model.specs.declared.session.SessionType.{SessionType}
use Rattle.login_model.specs.declared.session.SessionType.TheVariants as session_type
use Rattle.login_model.specs.declared.session.Class.{Class}
use Rattle.login_model.specs.declared.session.Class.TheVariants as class
use Rattle.login_model.specs.declared.state.State.{State}
use Rattle.login_model.specs.declared.state.State.TheVariants as state
use Rattle.login_model.specs.declared.session.KillWhom.{KillWhom}
use Rattle.login_model.specs.declared.session.KillWhom.TheVariants as whom
use Rattle.login_model.specs.declared.mark.PauseKind.{PauseKind}
use Rattle.login_model.specs.declared.mark.PauseKind.TheVariants as pause
use Rattle.login_model.specs.declared.operation.OpKind.{OpKind}
use Rattle.login_model.specs.declared.operation.OpKind.TheVariants as kind
use Rattle.login_model.specs.declared.hardware.HardKey.{HardKey}
use Rattle.login_model.specs.declared.hardware.HardKey.TheVariants as key
use Rattle.login_model.specs.declared.hardware.DevKind.{DevKind}
use Rattle.login_model.specs.declared.hardware.DevKind.TheVariants as device
use Rattle.login_model.specs.declared.lock.Inhibited.{Inhibited}
use Rattle.login_model.specs.declared.lock.LockMode.{LockMode}
use Rattle.login_model.specs.declared.lock.LockMode.TheVariants as mode
use Rattle.login_model.specs.declared.table.Say.{Say}
use Rattle.login_model.specs.declared.table.Say.TheVariants as says

-- the first of these values that is spelled so
abbrev pub named : {T : Type 0} → (T → List ℕ) → List T → List ℕ → Option T
named word values text = find (λ x. bytes_eq (word x) text) values

-- whether a text is empty, or is read as some value
abbrev pub is_read_or_empty : {T : Type 0} → (List ℕ → Option T) → List ℕ → Bool
is_read_or_empty read [] = true
is_read_or_empty read (b ∷ bs) = is_some (read (b ∷ bs))

abbrev pub type_word : SessionType → List ℕ
type_word session_type.Unspecified = codes "unspecified"
type_word session_type.Tty = codes "tty"
type_word session_type.X11 = codes "x11"
type_word session_type.Wayland = codes "wayland"
type_word session_type.Mir = codes "mir"
type_word session_type.Web = codes "web"

abbrev pub session_types : List SessionType
session_types =
    session_type.Unspecified ∷ session_type.Tty ∷ session_type.X11 ∷ session_type.Wayland ∷ session_type.Mir
    ∷ session_type.Web ∷ []

abbrev pub type_named : List ℕ → Option SessionType
type_named text = named type_word session_types text

-- the type that a text names; the empty one is unspecified
abbrev pub type_of : List ℕ → SessionType
type_of text = unwrap_or (type_named text) session_type.Unspecified

abbrev pub class_word : Class → List ℕ
class_word class.User = codes "user"
class_word class.Greeter = codes "greeter"
class_word class.LockScreen = codes "lock-screen"
class_word class.Background = codes "background"

abbrev pub classes : List Class
classes = class.User ∷ class.Greeter ∷ class.LockScreen ∷ class.Background ∷ []

abbrev pub class_named : List ℕ → Option Class
class_named text = named class_word classes text

-- the class that a text names; the empty one is user
abbrev pub class_of : List ℕ → Class
class_of text = unwrap_or (class_named text) class.User

-- the state of a session or a user
abbrev pub state_word : State → List ℕ
state_word state.Active = codes "active"
state_word state.Online = codes "online"
state_word state.Lingering = codes "lingering"
state_word state.Closing = codes "closing"

abbrev pub pause_word : PauseKind → List ℕ
pause_word pause.Pause = codes "pause"
pause_word pause.Force = codes "force"
pause_word pause.Gone = codes "gone"

-- which processes of a session a signal is for
abbrev pub whom_word : KillWhom → List ℕ
whom_word whom.Leader = codes "leader"
whom_word whom.All = codes "all"

abbrev pub whoms : List KillWhom
whoms = whom.Leader ∷ whom.All ∷ []

abbrev pub whom_named : List ℕ → Option KillWhom
whom_named text = named whom_word whoms text

-- whom a text names; the empty one is all
abbrev pub whom_of : List ℕ → KillWhom
whom_of text = unwrap_or (whom_named text) whom.All

-- a kind of operation, as recordings and transcripts have it
abbrev pub operation_word : OpKind → List ℕ
operation_word kind.PowerOff = codes "poweroff"
operation_word kind.Reboot = codes "reboot"
operation_word kind.Halt = codes "halt"
operation_word kind.Suspend = codes "suspend"
operation_word kind.Hibernate = codes "hibernate"
operation_word kind.HybridSleep = codes "hybrid-sleep"
operation_word kind.SuspendThenHibernate = codes "suspend-then-hibernate"

abbrev pub operations : List OpKind
operations =
    kind.PowerOff ∷ kind.Reboot ∷ kind.Halt ∷ kind.Suspend ∷ kind.Hibernate ∷ kind.HybridSleep
    ∷ kind.SuspendThenHibernate ∷ []

abbrev pub operation_named : List ℕ → Option OpKind
operation_named text = named operation_word operations text

-- a key or the lid
abbrev pub key_word : HardKey → List ℕ
key_word key.Power = codes "power"
key_word key.Suspend = codes "suspend"
key_word key.Hibernate = codes "hibernate"
key_word key.Lid = codes "lid"

abbrev pub keys : List HardKey
keys = key.Power ∷ key.Suspend ∷ key.Hibernate ∷ key.Lid ∷ []

abbrev pub key_named : List ℕ → Option HardKey
key_named text = named key_word keys text

abbrev pub device_kind_word : DevKind → List ℕ
device_kind_word device.Evdev = codes "evdev"
device_kind_word device.Drm = codes "drm"

abbrev pub device_kinds : List DevKind
device_kinds = device.Evdev ∷ device.Drm ∷ []

abbrev pub device_kind_named : List ℕ → Option DevKind
device_kind_named text = named device_kind_word device_kinds text

-- how a lock holds up
abbrev pub mode_word : LockMode → List ℕ
mode_word mode.Block = codes "block"
mode_word mode.Delay = codes "delay"

abbrev pub modes : List LockMode
modes = mode.Block ∷ mode.Delay ∷ []

abbrev pub mode_named : List ℕ → Option LockMode
mode_named text = named mode_word modes text

-- what a lock holds up beside the keys and the lid
abbrev pub shutdown_word : List ℕ
shutdown_word = codes "shutdown"

abbrev pub sleep_word : List ℕ
sleep_word = codes "sleep"

abbrev pub idle_word : List ℕ
idle_word = codes "idle"

-- what the machine does at a key or the lid, as a lock holds it up
abbrev pub handled_word : HardKey → List ℕ
handled_word key.Power = codes "handle-power-key"
handled_word key.Suspend = codes "handle-suspend-key"
handled_word key.Hibernate = codes "handle-hibernate-key"
handled_word key.Lid = codes "handle-lid-switch"

-- all that locks hold up
abbrev pub lock_words : List (List ℕ)
lock_words = shutdown_word ∷ sleep_word ∷ idle_word ∷ map handled_word keys

abbrev pub word_if : Bool → List ℕ → List (List ℕ)
word_if there word = if there then word ∷ [] else []

-- which of the operations and of idleness a lock holds up
abbrev pub general_words : Inhibited → List (List ℕ)
general_words x = word_if x.shutdown shutdown_word ++ (word_if x.sleep sleep_word ++ word_if x.idle idle_word)

-- which of the keys and the lid
abbrev pub handled_words : Inhibited → List (List ℕ)
handled_words x =
    word_if x.handle_power_key (handled_word key.Power)
    ++ (word_if x.handle_suspend_key (handled_word key.Suspend)
    ++ (word_if x.handle_hibernate_key (handled_word key.Hibernate) ++ word_if x.handle_lid_switch (handled_word key.Lid)))

-- what a lock holds up: its words in their order, with colons between them
abbrev pub what_text : Inhibited → List ℕ
what_text x = join_with_byte 58 (general_words x ++ handled_words x)

-- what the policy says
abbrev pub say_word : Say → List ℕ
say_word says.No = codes "no"
say_word says.Challenge = codes "challenge"
say_word says.Yes = codes "yes"
