-- Facts that are one.
use Rattle.std.proofs.Common.{◌≡◌, ℕ, ◌==◌, ◌&&◌, Bool, true, false, Option, Some, None, List, refl, ap}
use Rattle.std.proofs.lemmas.Bool.Decides.{Decides-int_eq}
use Rattle.std.specs.Str.{bytes_eq}
use Rattle.std.specs.Ordering.{int_eq}
use Rattle.login_base.specs.declared.ids.ConnId.{ConnId}
use Rattle.login_base.specs.declared.ids.LockNo.{LockNo}
use Rattle.login_base.specs.declared.ids.Millis.{Millis}
use Rattle.login_model.specs.Same.{same_phase, same_type, same_class, same_seat, same_flag, same_texts, same_session, same_whom, same_owner, same_device, same_device_kind, same_handled, same_inhibited, same_mode, same_lock, same_kind, same_operation, same_fact}
use Rattle.login_model.specs.declared.fact.Fact.{Fact}
use Rattle.login_model.specs.declared.fact.Fact.TheVariants as fact
use Rattle.login_model.specs.declared.fact.Owner.{Owner}
use Rattle.login_model.specs.declared.fact.Owner.TheVariants as owner
use Rattle.login_model.specs.declared.session.Session.{Session}
use Rattle.login_model.specs.declared.session.SessionTexts.{SessionTexts}
use Rattle.login_model.specs.declared.session.SessionType.{SessionType}
use Rattle.login_model.specs.declared.session.SessionType.TheVariants.{Unspecified, Tty, X11, Wayland, Mir, Web}
use Rattle.login_model.specs.declared.session.Class.{Class}
use Rattle.login_model.specs.declared.session.Class.TheVariants as class
use Rattle.login_model.specs.declared.session.Phase.{Phase}
use Rattle.login_model.specs.declared.session.Phase.TheVariants.{Open, Closing, Gone}
use Rattle.login_model.specs.declared.session.KillWhom.{KillWhom}
use Rattle.login_model.specs.declared.session.KillWhom.TheVariants.{Leader, All}
use Rattle.login_model.specs.declared.hardware.DevKind.{DevKind}
use Rattle.login_model.specs.declared.hardware.DevKind.TheVariants.{Evdev, Drm}
use Rattle.login_model.specs.declared.lock.Inhibited.{Inhibited}
use Rattle.login_model.specs.declared.lock.LockMode.{LockMode}
use Rattle.login_model.specs.declared.lock.LockMode.TheVariants.{Block, Delay}
use Rattle.login_model.specs.declared.lock.Lock.{Lock}
use Rattle.login_model.specs.declared.operation.OpKind.{OpKind}
use Rattle.login_model.specs.declared.operation.OpKind.TheVariants as kind
use Rattle.login_model.specs.declared.operation.Operation.{Operation}
use Rattle.login_model.specs.declared.operation.Operation.TheVariants.{Idle, Waiting, Running}
use Rattle.login_model.proofs.Keys.{both, same-number, same-session, same-user, same-handle, same-device, same-bytes}

three : (a b c : Bool) → (a && b && c) ≡ true → (a ≡ true) × (b ≡ true) × (c ≡ true)
three a b c h = let p = both (a && b) c h in let q = both a b p.0 in (q.0, q.1, p.1)

four : (a b c d : Bool) → (a && b && c && d) ≡ true → (a ≡ true) × (b ≡ true) × (c ≡ true) × (d ≡ true)
four a b c d h = let p = both (a && b && c) d h in let q = three a b c p.0 in (q.0, q.1, q.2, p.1)

six : (a b c d e f : Bool) → (a && b && c && d && e && f) ≡ true → (a ≡ true) × (b ≡ true) × (c ≡ true) × (d ≡ true) × (e ≡ true) × (f ≡ true)
six a b c d e f h =
    let p = both (a && b && c && d && e) f h in let q = both (a && b && c && d) e p.0 in let r = four a b c d q.0 in
    (r.0, r.1, r.2, r.3, q.1, p.1)

ten : (a b c d e f g i j k : Bool) → (a && b && c && d && e && f && g && i && j && k) ≡ true
    → (a ≡ true) × (b ≡ true) × (c ≡ true) × (d ≡ true) × (e ≡ true) × (f ≡ true) × (g ≡ true) × (i ≡ true) × (j ≡ true) × (k ≡ true)
ten a b c d e f g i j k h =
    let p = both (a && b && c && d && e && f && g && i && j) k h in let q = both (a && b && c && d && e && f && g && i) j p.0 in
    let r = both (a && b && c && d && e && f && g) i q.0 in let s = both (a && b && c && d && e && f) g r.0 in let v = six a b c d e f s.0 in
    (v.0, v.1, v.2, v.3, v.4, v.5, s.1, r.1, q.1, p.1)

pub same-conn : (a b : ConnId) → (a.0 == b.0) ≡ true → a ≡ b
same-conn a b h = ap (λ (x : ℕ). let r : ConnId = record { 0 = x } in r) (same-number a.0 b.0 h)

same-moment : (a b : Millis) → (a.0 == b.0) ≡ true → a ≡ b
same-moment a b h = ap (λ (x : ℕ). let r : Millis = record { 0 = x } in r) (same-number a.0 b.0 h)

same-lock-number : (a b : LockNo) → (a.0 == b.0) ≡ true → a ≡ b
same-lock-number a b h = ap (λ (x : ℕ). let r : LockNo = record { 0 = x } in r) (same-number a.0 b.0 h)

phase-true : (a b : Phase) → same_phase a b ≡ true → a ≡ b
phase-true Open Open h = refl
phase-true Closing Closing h = refl
phase-true Gone Gone h = refl
phase-true _ _ h = cc

type-true : (a b : SessionType) → same_type a b ≡ true → a ≡ b
type-true Unspecified Unspecified h = refl
type-true Tty Tty h = refl
type-true X11 X11 h = refl
type-true Wayland Wayland h = refl
type-true Mir Mir h = refl
type-true Web Web h = refl
type-true _ _ h = cc

class-true : (a b : Class) → same_class a b ≡ true → a ≡ b
class-true class.User class.User h = refl
class-true class.Greeter class.Greeter h = refl
class-true class.LockScreen class.LockScreen h = refl
class-true class.Background class.Background h = refl
class-true _ _ h = cc

seat-true : (a b : Option (List ℕ)) → same_seat a b ≡ true → a ≡ b
seat-true None None h = refl
seat-true (Some a) (Some b) h = ap Some (same-bytes a b h)
seat-true _ _ h = cc

flag-true : (a b : Bool) → same_flag a b ≡ true → a ≡ b
flag-true true true h = refl
flag-true true false h = cc
flag-true false true h = cc
flag-true false false h = refl

texts-true : (a b : SessionTexts) → same_texts a b ≡ true → a ≡ b
texts-true a b h =
    let p = six (bytes_eq a.service b.service) (bytes_eq a.desktop b.desktop) (bytes_eq a.tty b.tty) (bytes_eq a.display b.display) (bytes_eq a.remote_user b.remote_user) (bytes_eq a.remote_host b.remote_host) h in
    λ i. record {
      service = (same-bytes a.service b.service p.0) i;
      desktop = (same-bytes a.desktop b.desktop p.1) i;
      tty = (same-bytes a.tty b.tty p.2) i;
      display = (same-bytes a.display b.display p.3) i;
      remote_user = (same-bytes a.remote_user b.remote_user p.4) i;
      remote_host = (same-bytes a.remote_host b.remote_host p.5) i;
    }

session-true : (a b : Session) → same_session a b ≡ true → a ≡ b
session-true a b h =
    let p = ten (same_phase a.phase b.phase) (a.uid.0 == b.uid.0) (same_seat a.seat b.seat) (a.vt == b.vt) (same_type a.session_type b.session_type) (same_class a.class b.class) (a.leader.0 == b.leader.0)
    (a.fifo.0 == b.fifo.0) (same_flag a.remote b.remote) (same_texts a.texts b.texts) h in
    λ i. record {
      phase = (phase-true a.phase b.phase p.0) i;
      uid = (same-user a.uid b.uid p.1) i;
      seat = (seat-true a.seat b.seat p.2) i;
      vt = (same-number a.vt b.vt p.3) i;
      session_type = (type-true a.session_type b.session_type p.4) i;
      class = (class-true a.class b.class p.5) i;
      leader = (same-conn a.leader b.leader p.6) i;
      fifo = (same-handle a.fifo b.fifo p.7) i;
      remote = (flag-true a.remote b.remote p.8) i;
      texts = (texts-true a.texts b.texts p.9) i;
    }

whom-true : (a b : KillWhom) → same_whom a b ≡ true → a ≡ b
whom-true Leader Leader h = refl
whom-true All All h = refl
whom-true _ _ h = cc

owner-true : (a b : Owner) → same_owner a b ≡ true → a ≡ b
owner-true (owner.Device a s d) (owner.Device b r e) h =
    let p = three (a.0 == b.0) (s.0 == r.0) (same_device d e) h in
    λ i. owner.Device ((same-conn a b p.0) i) ((same-session s r p.1) i) ((same-device d e p.2) i)
owner-true (owner.Fifo a s) (owner.Fifo b r) h =
    let p = both (a.0 == b.0) (s.0 == r.0) h in λ i. owner.Fifo ((same-conn a b p.0) i) ((same-session s r p.1) i)
owner-true (owner.Lock a l) (owner.Lock b k) h =
    let p = both (a.0 == b.0) (l.0 == k.0) h in λ i. owner.Lock ((same-conn a b p.0) i) ((same-lock-number l k p.1) i)
owner-true owner.Closed owner.Closed h = refl
owner-true _ _ h = cc

device-kind-true : (a b : DevKind) → same_device_kind a b ≡ true → a ≡ b
device-kind-true Evdev Evdev h = refl
device-kind-true Drm Drm h = refl
device-kind-true _ _ h = cc

inhibited-true : (a b : Inhibited) → same_inhibited a b ≡ true → a ≡ b
inhibited-true a b h =
    let p = four (same_flag a.shutdown b.shutdown) (same_flag a.sleep b.sleep) (same_flag a.idle b.idle) (same_handled a b) h in
    let q = four (same_flag a.handle_power_key b.handle_power_key) (same_flag a.handle_suspend_key b.handle_suspend_key) (same_flag a.handle_hibernate_key b.handle_hibernate_key) (same_flag a.handle_lid_switch b.handle_lid_switch) p.3 in
    λ i. record {
      shutdown = (flag-true a.shutdown b.shutdown p.0) i;
      sleep = (flag-true a.sleep b.sleep p.1) i;
      idle = (flag-true a.idle b.idle p.2) i;
      handle_power_key = (flag-true a.handle_power_key b.handle_power_key q.0) i;
      handle_suspend_key = (flag-true a.handle_suspend_key b.handle_suspend_key q.1) i;
      handle_hibernate_key = (flag-true a.handle_hibernate_key b.handle_hibernate_key q.2) i;
      handle_lid_switch = (flag-true a.handle_lid_switch b.handle_lid_switch q.3) i;
    }

mode-true : (a b : LockMode) → same_mode a b ≡ true → a ≡ b
mode-true Block Block h = refl
mode-true Delay Delay h = refl
mode-true _ _ h = cc

lock-true : (a b : Lock) → same_lock a b ≡ true → a ≡ b
lock-true a b h =
    let p = six (same_inhibited a.what b.what) (same_mode a.mode b.mode) (a.uid.0 == b.uid.0) (bytes_eq a.who b.who) (bytes_eq a.why b.why) (a.holder.0 == b.holder.0) h in
    λ i. record {
      what = (inhibited-true a.what b.what p.0) i;
      mode = (mode-true a.mode b.mode p.1) i;
      uid = (same-user a.uid b.uid p.2) i;
      who = (same-bytes a.who b.who p.3) i;
      why = (same-bytes a.why b.why p.4) i;
      holder = (same-conn a.holder b.holder p.5) i;
    }

kind-true : (a b : OpKind) → same_kind a b ≡ true → a ≡ b
kind-true kind.PowerOff kind.PowerOff h = refl
kind-true kind.Reboot kind.Reboot h = refl
kind-true kind.Halt kind.Halt h = refl
kind-true kind.Suspend kind.Suspend h = refl
kind-true kind.Hibernate kind.Hibernate h = refl
kind-true kind.HybridSleep kind.HybridSleep h = refl
kind-true kind.SuspendThenHibernate kind.SuspendThenHibernate h = refl
kind-true _ _ h = cc

operation-true : (a b : Operation) → same_operation a b ≡ true → a ≡ b
operation-true Idle Idle h = refl
operation-true (Waiting j a x) (Waiting k b y) h =
    let p = three (same_kind j k) (a.0 == b.0) (same_flag x y) h in
    λ i. Waiting ((kind-true j k p.0) i) ((same-moment a b p.1) i) ((flag-true x y p.2) i)
operation-true (Running j) (Running k) h = ap Running (kind-true j k h)
operation-true _ _ h = cc

pub same_fact-true : (a b : Fact) → same_fact a b ≡ true → a ≡ b
same_fact-true fact.Absent fact.Absent h = refl
same_fact-true (fact.Connected a) (fact.Connected b) h = ap fact.Connected (same-user a b h)
same_fact-true (fact.Session a) (fact.Session b) h = ap fact.Session (session-true a b h)
same_fact-true (fact.Flag a) (fact.Flag b) h = ap fact.Flag (flag-true a b h)
same_fact-true (fact.Signal a m) (fact.Signal b n) h =
    let p = both (same_whom a b) (int_eq m n) h in λ i. fact.Signal ((whom-true a b p.0) i) (((Decides-int_eq m n).0 p.1) i)
same_fact-true (fact.Controller a) (fact.Controller b) h = ap fact.Controller (same-conn a b h)
same_fact-true fact.Known fact.Known h = refl
same_fact-true (fact.Leaving a) (fact.Leaving b) h = ap fact.Leaving (same-moment a b h)
same_fact-true (fact.Owned a) (fact.Owned b) h = ap fact.Owned (owner-true a b h)
same_fact-true (fact.Handle a) (fact.Handle b) h = ap fact.Handle (same-handle a b h)
same_fact-true fact.Present fact.Present h = refl
same_fact-true (fact.Active a) (fact.Active b) h = ap fact.Active (same-session a b h)
same_fact-true (fact.Number a) (fact.Number b) h = ap fact.Number (same-number a b h)
same_fact-true (fact.Moment a) (fact.Moment b) h = ap fact.Moment (same-moment a b h)
same_fact-true (fact.Device j a) (fact.Device k b) h =
    let p = both (same_device_kind j k) (bytes_eq a b) h in λ i. fact.Device ((device-kind-true j k p.0) i) ((same-bytes a b p.1) i)
same_fact-true (fact.Lock a) (fact.Lock b) h = ap fact.Lock (lock-true a b h)
same_fact-true (fact.Operation a) (fact.Operation b) h = ap fact.Operation (operation-true a b h)
same_fact-true _ _ h = cc
