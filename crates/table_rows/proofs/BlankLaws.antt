-- A machine to which nothing happened yet, for the tests.
use Rattle.std.proofs.Common.{◌≡◌, ◌≤◌, ◌==◌, ℕ, Bool, true, false, not, cond, Option, Some, None, List, [], ◌∷◌, length, refl, ap, sym, subst, ◌∙◌, arith}
use Rattle.login_base.specs.declared.ids.ConnId.{ConnId}
use Rattle.login_base.specs.declared.ids.DevNo.{DevNo}
use Rattle.login_base.specs.declared.ids.HandleNo.{HandleNo}
use Rattle.login_base.specs.declared.ids.LockNo.{LockNo}
use Rattle.login_base.specs.declared.ids.SessId.{SessId}
use Rattle.login_base.specs.declared.ids.Uid.{Uid}
use Rattle.login_laws.specs.Sound.{Awaits}
use Rattle.login_laws.proofs.ActiveLaws.{on-seat0}
use Rattle.login_model.proofs.NameLaws.{seat_keys, seat_order}
use Rattle.login_model.specs.Devices.{is_taken, taken_devices}
use Rattle.login_model.specs.Fresh.{fresh_handle, next_handle}
use Rattle.login_model.specs.Full.{taken_by}
use Rattle.login_model.specs.Names.{IsNext, conn_lt, device_lt, is_above, lock_lt, names, seat_lt, session_lt, user_lt}
use Rattle.login_model.specs.Locks.{matching}
use Rattle.login_model.specs.Procedure.{each, force, if_some, is_empty, resume, untake}
use Rattle.login_model.specs.Facts.{is_number_fact}
use Rattle.login_model.specs.Same.{same_fact}
use Rattle.login_model.specs.Standing.{has_active, has_seat}
use Rattle.login_model.specs.Start.{seat0}
use Rattle.login_model.specs.Switching.{ask_switch, await_devices, request, settle_switch, withdraw_switch}
use Rattle.login_model.specs.Taking.{acknowledge}
use Rattle.login_model.specs.Trail.{Trail, put, value}
use Rattle.login_model.specs.Where.{active_on, connections, current_vt, devices, is_connected, is_device, is_lock, is_seat, is_session, is_user, locks, session_on, sessions}
use Rattle.login_model.specs.declared.conf.Conf.{Conf}
use Rattle.login_model.specs.declared.fact.Fact.{Fact}
use Rattle.login_model.specs.declared.fact.Fact.TheVariants as fact
use Rattle.login_model.specs.declared.fact.Key.{Key}
use Rattle.login_model.specs.declared.fact.Key.TheVariants as key
use Rattle.login_model.specs.declared.mark.Mark.{Mark}
use Rattle.login_model.specs.declared.mark.Mark.TheVariants.{Set}
use Rattle.login_model.specs.declared.lock.LockMode.{LockMode}
use Rattle.login_model.specs.declared.operation.OpKind.{OpKind}
use Rattle.login_table.specs.Appended.{HasRoom}
use Rattle.switch_core.specs.Handles.{HandlesLeft, IsNumbered}

-- ---- no names but seat0's

pub no-session : (o : Option SessId) → IsNext session_lt (is_session []) o None
unfolding value
no-session o a e l = (let z : false ≡ true = e in cc)

pub no-user : (o : Option Uid) → IsNext user_lt (is_user []) o None
unfolding value
no-user o a e l = (let z : false ≡ true = e in cc)

pub no-device : (o : Option DevNo) → IsNext device_lt (is_device []) o None
unfolding value
no-device o a e l = (let z : false ≡ true = e in cc)

pub no-taken : (s : SessId) (o : Option DevNo) → IsNext device_lt (is_taken [] s) o None
unfolding value
no-taken s o a e l = (let z : false ≡ true = e in cc)

pub no-taker : (d : DevNo) (o : Option SessId) → IsNext session_lt (λ s. is_taken [] s d) o None
unfolding value
no-taker d o a e l = (let z : false ≡ true = e in cc)

pub no-lock : (o : Option LockNo) → IsNext lock_lt (is_lock []) o None
unfolding value
no-lock o a e l = (let z : false ≡ true = e in cc)

pub no-conn : (o : Option ConnId) → IsNext conn_lt (is_connected []) o None
unfolding value
no-conn o a e l = (let z : false ≡ true = e in cc)

some-one : (a b : List ℕ) → Some a ≡ Some b → a ≡ b
some-one a b e = cc

only-seat0 : (name : List ℕ) → is_seat [] name ≡ true → seat0 ≡ name
unfolding value
only-seat0 name e = some-one seat0 name (seat_keys.start name e)

there : is_seat [] seat0 ≡ true
unfolding value
there = seat_keys.begins seat0 refl

pub seat0-first : (o : Option (List ℕ)) → is_above seat_lt o seat0 ≡ true → IsNext seat_lt (is_seat []) o (Some seat0)
seat0-first o e = (there, e, λ b p q. (let P : List ℕ → Type 0 = λ x. seat_lt x seat0 ≡ false in subst P (only-seat0 b p) (seat_order.irreflexive seat0)))

true-false : true ≡ false → ⊥
true-false e = cc

pub seat0-last : (o : Option (List ℕ)) → is_above seat_lt o seat0 ≡ false → IsNext seat_lt (is_seat []) o None
seat0-last o e a p q = true-false (sym q ∙ ap (is_above seat_lt o) (sym (only-seat0 a p)) ∙ e)

-- ---- what is asked of the calls

pub handles-left : HandlesLeft []
unfolding fresh_handle taken_by sessions names
handles-left = omega arith

pub none-awaited : Awaits []
unfolding value
none-awaited s d e = absurd (let z : false ≡ true = e in true-false (sym z))

no-one : (v : ℕ) → session_on [] v ≡ None
unfolding session_on sessions names
no-one v = refl

none-active : active_on [] seat0 ≡ None
none-active = on-seat0 [] ∙ no-one (current_vt [])

at-most-one : (b : Bool) (m : Mark) → length (cond b [] (m ∷ [])) ≤ 1
at-most-one true m = omega arith
at-most-one false m = omega arith

put-blank : (k : Key) (x : Fact) → length (put k x []) ≤ 1
unfolding put
put-blank k x = at-most-one (same_fact (value [] k) x) (Set k x)

ask-blank : (v : ℕ) → length (ask_switch v false []) ≤ 1
ask-blank v =
    let e = ap (λ (o : Option SessId). length (if_some await_devices o (put key.Pending (fact.Number v) []))) none-active in
    let p = put-blank key.Pending (fact.Number v) in
    omega arith

request-at : (b c : Bool) (v : ℕ) → c ≡ false → length (cond b (cond c (withdraw_switch []) []) (ask_switch v c [])) ≤ 1
request-at b true v e = absurd (true-false e)
request-at true false v e = omega arith
request-at false false v e = ask-blank v

not-pending : is_number_fact (value [] key.Pending) ≡ false
unfolding value
not-pending = refl

pub request-blank : (v : ℕ) → length (request v []) ≤ 1
unfolding request
request-blank v = request-at (v == current_vt []) (is_number_fact (value [] key.Pending)) v not-pending

pub none-fits : (f : Trail → Trail) (spare : ℕ) → f [] ≡ [] → HasRoom f [] spare
none-fits f spare e = let n = ap length e in omega arith

pub acknowledge-blank : (s : SessId) (d : DevNo) → acknowledge s d [] ≡ []
unfolding acknowledge value
acknowledge-blank s d = refl

pub untake-blank : (s : SessId) (d : DevNo) → untake s d [] ≡ []
unfolding value put
untake-blank s d = refl

pub settle-blank : (conf : Conf) → settle_switch conf [] ≡ []
unfolding settle_switch value
settle-blank conf = refl

pub force-blank : (s : SessId) → force s [] ≡ []
unfolding force taken_devices names each
force-blank s = refl

pub resume-blank : (s : SessId) → resume s [] ≡ []
unfolding resume taken_devices names each
resume-blank s = refl

pub numbered-blank : IsNumbered []
unfolding fresh_handle
numbered-blank = omega arith

-- ---- what is counted

pub first-handle : (let h : HandleNo = record { 0 = 1 } in h) ≡ next_handle []
unfolding fresh_handle
first-handle = refl

pub no-sessions : length (sessions []) ≡ 0
unfolding sessions names
no-sessions = refl

pub no-connections : length (connections []) ≡ 0
unfolding connections names
no-connections = refl

pub no-devices : length (devices []) ≡ 0
unfolding devices names
no-devices = refl

pub no-locks : length (locks []) ≡ 0
unfolding locks names
no-locks = refl

pub nothing-holds : (k : OpKind) (mode : LockMode) → not (is_empty (matching [] k mode)) ≡ false
unfolding matching locks names
nothing-holds k mode = refl

pub none-on : (v : ℕ) → session_on [] v ≡ None
none-on v = no-one v

pub none-seated : (u : ℕ) → has_seat [] u ≡ false
unfolding sessions names
none-seated u = refl

pub nobody-active : (u : ℕ) → has_active [] u ≡ false
unfolding sessions names
nobody-active u = refl
