-- The values of properties by a legal journal can be sent: their texts are texts, and their lists are few.
use Rattle.std.proofs.Common.{◌≡◌, ◌≤◌, ◌+◌, ◌==◌, cond, ℕ, Bool, true, false, Option, Some, None, Result, Ok, Err, List, [], ◌∷◌, ◌++◌, codes, length, length-append, map, refl, arith, rules}
use Rattle.std.specs.Fmt.{decimal}
use Rattle.std.specs.List.{AllByRecursion, list_all}
use Rattle.std.specs.Option.{option_map}
use Rattle.std.specs.Str.{bytes_eq}
use Rattle.std.proofs.lemmas.Bool.Decides.{nat_tests}
use Rattle.std.proofs.lemmas.Str.{IsUtf8-nil}
use Rattle.login_base.specs.declared.ids.SessId.{SessId}
use Rattle.login_base.specs.declared.ids.Uid.{Uid}
use Rattle.login_base.specs.Hex.{is_hex_digit}
use Rattle.login_base.specs.Number.{number_of}
use Rattle.login_base.specs.Seat.{is_seat_name}
use Rattle.login_base.specs.SessionId.{session_of, session_text}
use Rattle.login_base.proofs.Numbers.{number_of_is}
use Rattle.login_base.proofs.Decimals.{decimal_short}
use Rattle.login_model.specs.Answers.{get_all_answer, get_answer, property_answer}
use Rattle.login_model.specs.Conf.{IsAllowed}
use Rattle.login_model.specs.Facts.{session_in_fact}
use Rattle.login_model.specs.Limits.{name_limit, text_limit}
use Rattle.login_base.specs.Labels.{decoded}
use Rattle.login_model.specs.Objects.{begins, behind, is_own_interface, named_object, or_rule, seat_at, session_at, user_at}
use Rattle.login_model.specs.Paths.{manager_path, seat_front, session_front, user_front}
use Rattle.login_model.specs.Properties.{data_value, known_value, manager_row, manager_value, rows_of, scope_name, seat_row, seat_value, session_property_row, session_state, session_value, slice_name, user_row, user_state, user_value, value_of}
use Rattle.login_model.specs.PropertyNames.{manager_named, manager_properties, seat_named, seat_properties, session_named, session_properties, user_named, user_properties}
use Rattle.login_model.specs.Setups.{IsSetup, IsUserRow}
use Rattle.login_model.specs.Texts.{IsText}
use Rattle.login_model.specs.Trail.{Trail, value}
use Rattle.login_model.specs.Users.{name_among, user_name}
use Rattle.login_model.specs.Where.{is_on_seat, is_session_of, sessions, sessions_of, sessions_on}
use Rattle.login_model.specs.Words.{class_word, state_word, type_word}
use Rattle.login_model.specs.declared.fact.Fact.{Fact}
use Rattle.login_model.specs.declared.fact.Fact.TheVariants as fact
use Rattle.login_model.specs.declared.fact.Key.TheVariants as key
use Rattle.login_model.specs.declared.object.Object.{Object}
use Rattle.login_model.specs.declared.object.Object.TheVariants as object
use Rattle.login_model.specs.declared.property.ManagerProperty.{ManagerProperty}
use Rattle.login_model.specs.declared.property.ManagerProperty.TheVariants as manager
use Rattle.login_model.specs.declared.property.SessionProperty.{SessionProperty}
use Rattle.login_model.specs.declared.property.SessionProperty.TheVariants as session
use Rattle.login_model.specs.declared.property.UserProperty.{UserProperty}
use Rattle.login_model.specs.declared.property.UserProperty.TheVariants as user
use Rattle.login_model.specs.declared.property.SeatProperty.{SeatProperty}
use Rattle.login_model.specs.declared.property.SeatProperty.TheVariants as seat
use Rattle.login_model.specs.declared.property.PropertyRow.{PropertyRow}
use Rattle.login_model.specs.declared.property.PropertyValue.{PropertyValue}
use Rattle.login_model.specs.declared.rule.Rule.{Rule}
use Rattle.login_model.specs.declared.rule.Rule.TheVariants.{NoSuchSeat, NoSuchSession, NoSuchUser, UnknownObject}
use Rattle.login_model.specs.declared.session.Class.{Class}
use Rattle.login_model.specs.declared.session.Class.TheVariants as class
use Rattle.login_model.specs.declared.session.Session.{Session}
use Rattle.login_model.specs.declared.session.SessionType.{SessionType}
use Rattle.login_model.specs.declared.session.SessionType.TheVariants as session_type
use Rattle.login_model.specs.declared.setup.Setup.{Setup}
use Rattle.login_model.specs.declared.setup.UserRow.{UserRow}
use Rattle.login_model.specs.declared.state.State.{State}
use Rattle.login_model.specs.declared.state.State.TheVariants.{Active, Online, Lingering, Closing}
use Rattle.login_laws.specs.Named.{AreNamed, IsNamed, IsNamedFact, IsSeat}
use Rattle.login_laws.proofs.NamedMarks.{value-named}
use Rattle.login_laws.proofs.WithinLaws.{filter-length}
use Rattle.wire_out.specs.inner.Sendable.{CanBeAnswered, CanBeValue}
use Rattle.wire_out.specs.inner.Numbers.{IsNumber}
use Rattle.wire_out.proofs.Texts.{ArePlain, both, decimal_plain, is_plain, plain_append, plain_is_text, plain_utf8, seat_plain, seat_short, session_plain, session_short}

-- ---- names of users

root-named : IsText name_limit (codes "root")
root-named = record { utf8 = plain_utf8 (codes "root") refl; no_nul = search rules; short = omega arith }

no-name : IsText name_limit []
no-name = record { utf8 = IsUtf8-nil; no_nul = tt; short = omega arith }

if-text : (b : Bool) (x y : List ℕ) → IsText name_limit x → IsText name_limit y → IsText name_limit (cond b x y)
if-text true x y p q = p
if-text false x y p q = q

among-named : (rows : List UserRow) (uid : ℕ) → AllByRecursion IsUserRow rows → IsText name_limit (name_among rows uid)
among-named [] uid h = no-name
among-named (row ∷ rows) uid h = if-text (row.uid.0 == uid) row.name (name_among rows uid) h.0.named (among-named rows uid h.1)

pub user-named : (U : Setup) (uid : ℕ) → IsSetup U → IsText name_limit (user_name U uid)
user-named U uid u = if-text (uid == 0) (codes "root") (name_among U.users uid) root-named (among-named U.users uid u.users)

-- ---- lists

-- each of a list's values is like this
pub each-row : {A B : Type 0} (P : B → Type 0) (f : A → B) → ((x : A) → P (f x)) → (xs : List A) → AllByRecursion P (map f xs)
each-row P f h [] = tt
each-row P f h (x ∷ xs) = (h x, each-row P f h xs)

-- ---- texts

wider : (t : List ℕ) → IsText name_limit t → IsText text_limit t
wider t h = record { utf8 = h.utf8; no_nul = h.no_nul; short = let s = h.short in omega (arith, s) }

id-text : (s : SessId) → IsNumber s.0 → IsText text_limit (session_text s)
id-text s n = plain_is_text text_limit (session_text s) (session_plain s n) (let l = session_short s n in omega (arith, l))

scope-text : (s : SessId) → IsNumber s.0 → IsText text_limit (scope_name s)
scope-text s n =
    let l = session_short s n in
    plain_is_text text_limit (scope_name s)
    (plain_append (codes "session-") (session_text s ++ codes ".scope") refl (plain_append (session_text s) (codes ".scope") (session_plain s n) refl))
    (let a = length-append (session_text s) (codes ".scope") in omega (arith, l, a))

slice-text : (uid : ℕ) → IsNumber uid → IsText text_limit (slice_name uid)
slice-text uid n =
    let l = decimal_short uid n in
    plain_is_text text_limit (slice_name uid)
    (plain_append (codes "user-") (decimal uid ++ codes ".slice") refl (plain_append (decimal uid) (codes ".slice") (decimal_plain uid (omega (arith, n))) refl))
    (let a = length-append (decimal uid) (codes ".slice") in omega (arith, l, a))

seat-text : (seat : List ℕ) → IsSeat seat → IsText text_limit seat
seat-text seat h = plain_is_text text_limit seat (seat_plain seat h) (let l = seat_short seat h in omega (arith, l))

state-text : (x : State) → IsText text_limit (state_word x)
state-text Active = plain_is_text text_limit (codes "active") refl (omega arith)
state-text Online = plain_is_text text_limit (codes "online") refl (omega arith)
state-text Lingering = plain_is_text text_limit (codes "lingering") refl (omega arith)
state-text Closing = plain_is_text text_limit (codes "closing") refl (omega arith)

type-text : (x : SessionType) → IsText text_limit (type_word x)
type-text session_type.Unspecified = plain_is_text text_limit (codes "unspecified") refl (omega arith)
type-text session_type.Tty = plain_is_text text_limit (codes "tty") refl (omega arith)
type-text session_type.X11 = plain_is_text text_limit (codes "x11") refl (omega arith)
type-text session_type.Wayland = plain_is_text text_limit (codes "wayland") refl (omega arith)
type-text session_type.Mir = plain_is_text text_limit (codes "mir") refl (omega arith)
type-text session_type.Web = plain_is_text text_limit (codes "web") refl (omega arith)

class-text : (x : Class) → IsText text_limit (class_word x)
class-text class.User = plain_is_text text_limit (codes "user") refl (omega arith)
class-text class.Greeter = plain_is_text text_limit (codes "greeter") refl (omega arith)
class-text class.LockScreen = plain_is_text text_limit (codes "lock-screen") refl (omega arith)
class-text class.Background = plain_is_text text_limit (codes "background") refl (omega arith)

hex-plain : (b : ℕ) → is_hex_digit b ≡ true → is_plain b ≡ true
hex-plain b h = grind (arith, nat_tests)

-- the identity of the server is a text
pub guid-plain : (t : List ℕ) → list_all is_hex_digit t ≡ true → ArePlain t
guid-plain [] h = refl
guid-plain (b ∷ bs) h = let p = both (is_hex_digit b) (list_all is_hex_digit bs) h in rw (hex-plain b p.0, guid-plain bs p.1) refl

-- ---- the object that a path names

-- its number is one of 32 bits, or its name that of a seat
abbrev pub IsWell : Object → Type 0
IsWell object.Manager = Unit {0}
IsWell (object.Session s) = IsNumber s.0
IsWell (object.User u) = IsNumber u.0
IsWell (object.Seat name) = IsSeat name

abbrev IsWellIf : Option Object → Type 0
IsWellIf (Some o) = IsWell o
IsWellIf None = Unit {0}

abbrev pub NamesWell : Result Object Rule → Type 0
NamesWell (Ok o) = IsWell o
NamesWell (Err r) = Unit {0}

session-number : (digits : List ℕ) (n : Option ℕ) → number_of digits ≡ n → IsWellIf (option_map object.Session (option_map (λ n. let s : SessId = record { 0 = n } in s) n))
session-number digits None e = tt
session-number digits (Some n) e = (number_of_is digits n e).1

session-by : (b : Bool) (digits : List ℕ) → IsWellIf (option_map object.Session (cond b (option_map (λ n. let s : SessId = record { 0 = n } in s) (number_of digits)) None))
session-by true digits = session-number digits (number_of digits) refl
session-by false digits = tt

session-well : (id : List ℕ) → IsWellIf (option_map object.Session (session_of id))
session-well [] = tt
session-well (c ∷ digits) = session-by (c == 99) digits

user-well : (digits : List ℕ) (n : Option ℕ) → number_of digits ≡ n → IsWellIf (option_map (λ n. let u : Uid = record { 0 = n } in object.User u) n)
user-well digits None e = tt
user-well digits (Some n) e = (number_of_is digits n e).1

seat-well : (b : Bool) (name : List ℕ) → is_seat_name name ≡ b → IsWellIf (cond b (Some (object.Seat name)) None)
seat-well true name e = e
seat-well false name e = tt

or-well : (r : Rule) (o : Option Object) → IsWellIf o → NamesWell (or_rule r o)
or-well r None h = tt
or-well r (Some o) h = h

either-well : (b : Bool) (x y : Result Object Rule) → NamesWell x → NamesWell y → NamesWell (cond b x y)
either-well true x y p q = p
either-well false x y p q = q

pub named-well : (path : List ℕ) → NamesWell (named_object path)
unfolding named_object
named-well path =
    let id : List ℕ = behind session_front path in
    let seat : List ℕ = behind seat_front path in
    let digits : List ℕ = behind user_front path in
    let by_user : Result Object Rule = cond (begins user_front path) (or_rule NoSuchUser (user_at digits)) (Err UnknownObject) in
    let by_seat : Result Object Rule = cond (begins seat_front path) (or_rule NoSuchSeat (seat_at seat)) by_user in
    let by_session : Result Object Rule = cond (begins session_front path) (or_rule NoSuchSession (session_at id)) by_seat in
    either-well (bytes_eq path manager_path) (Ok object.Manager) by_session tt
    (either-well (begins session_front path) (or_rule NoSuchSession (session_at id)) by_seat (or-well NoSuchSession (session_at id) (session-well (decoded id)))
    (either-well (begins seat_front path) (or_rule NoSuchSeat (seat_at seat)) by_user (or-well NoSuchSeat (seat_at seat) (seat-well (is_seat_name (decoded seat)) (decoded seat) refl))
    (either-well (begins user_front path) (or_rule NoSuchUser (user_at digits)) (Err UnknownObject) (or-well NoSuchUser (user_at digits) (user-well digits (number_of digits) refl)) tt)))

-- ---- the values of its properties

manager-sent : (U : Setup) (t : Trail) → IsAllowed U.conf → (p : ManagerProperty) → CanBeValue (manager_value U t p)
manager-sent U t a manager.InhibitDelayMax = a.delay
manager-sent U t a manager.BlockInhibited = tt
manager-sent U t a manager.DelayInhibited = tt
manager-sent U t a manager.CurrentInhibitors = tt
manager-sent U t a manager.CurrentSessions = tt
manager-sent U t a manager.PreparingForShutdown = tt
manager-sent U t a manager.PreparingForSleep = tt
manager-sent U t a manager.Docked = tt

data-sent : (U : Setup) (t : Trail) (s : SessId) (x : Session) → IsSetup U → IsNumber s.0 → IsNamedFact U (key.Sess s) (fact.Session x) → (p : SessionProperty) → CanBeValue (data_value U t s x p)
data-sent U t s x u n f session.Id = id-text s n
data-sent U t s x u n f session.User = tt
data-sent U t s x u n f session.Name = wider _ (user-named U x.uid.0 u)
data-sent U t s x u n f session.Vt = tt
data-sent U t s x u n f session.Seat = f.0
data-sent U t s x u n f session.Tty = f.2.tty
data-sent U t s x u n f session.Display = f.2.display
data-sent U t s x u n f session.Remote = tt
data-sent U t s x u n f session.RemoteHost = f.2.remote_host
data-sent U t s x u n f session.RemoteUser = f.2.remote_user
data-sent U t s x u n f session.Service = f.2.service
data-sent U t s x u n f session.Desktop = f.2.desktop
data-sent U t s x u n f session.Scope = scope-text s n
data-sent U t s x u n f session.Leader = tt
data-sent U t s x u n f session.Type = type-text x.session_type
data-sent U t s x u n f session.Class = class-text x.class
data-sent U t s x u n f session.Active = tt
data-sent U t s x u n f session.State = state-text (session_state t s)
data-sent U t s x u n f session.IdleHint = tt
data-sent U t s x u n f session.LockedHint = tt

fact-sent : (U : Setup) (t : Trail) (s : SessId) (x : Fact) → IsSetup U → IsNumber s.0 → IsNamedFact U (key.Sess s) x → (p : SessionProperty) → CanBeValue (known_value U t s (session_in_fact x) p)
fact-sent U t s (fact.Session x) u n f p = data-sent U t s x u n f p
fact-sent U t s _ u n f p = tt

session-sent : (U : Setup) (t : Trail) (s : SessId) → IsSetup U → AreNamed U t → IsNumber s.0 → (p : SessionProperty) → CanBeValue (session_value U t s p)
session-sent U t s u h n p = fact-sent U t s (value t (key.Sess s)) u n (value-named U t (key.Sess s) h) p

of-user-few : (t : Trail) (uid : ℕ) → length (sessions_of t uid) ≤ length (sessions t)
unfolding sessions_of
of-user-few t uid = filter-length (λ s. is_session_of uid (value t (key.Sess s))) (sessions t)

on-seat-few : (t : Trail) (name : List ℕ) → length (sessions_on t name) ≤ length (sessions t)
unfolding sessions_on
on-seat-few t name = filter-length (is_on_seat t name) (sessions t)

user-sent : (U : Setup) (t : Trail) (x : Uid) → IsSetup U → IsAllowed U.conf → IsNamed U t → IsNumber x.0 → (p : UserProperty) → CanBeValue (user_value U t x p)
user-sent U t x u a n k user.Uid = tt
user-sent U t x u a n k user.Gid = tt
user-sent U t x u a n k user.Name = wider _ (user-named U x.0 u)
user-sent U t x u a n k user.Slice = slice-text x.0 k
user-sent U t x u a n k user.State = state-text (user_state t x.0)
user-sent U t x u a n k user.Sessions = (let l = of-user-few t x.0 in let m = n.few.sessions in let j = a.sessions in omega (arith, l, m, j))
user-sent U t x u a n k user.Linger = tt

seat-sent : (U : Setup) (t : Trail) (name : List ℕ) → IsAllowed U.conf → IsNamed U t → IsSeat name → (p : SeatProperty) → CanBeValue (seat_value t name p)
seat-sent U t name a n f seat.Id = seat-text name f
seat-sent U t name a n f seat.ActiveSession = tt
seat-sent U t name a n f seat.CanTty = tt
seat-sent U t name a n f seat.CanGraphical = tt
seat-sent U t name a n f seat.Sessions = (let l = on-seat-few t name in let m = n.few.sessions in let j = a.sessions in omega (arith, l, m, j))

-- ---- one of them, and all

one-sent : {P : Type 0} (f : P → PropertyValue) (o : Option P) → ((p : P) → CanBeValue (f p)) → CanBeAnswered (property_answer (option_map f o))
one-sent f None h = tt
one-sent f (Some p) h = h p

of-object : (U : Setup) (t : Trail) (o : Object) (name : List ℕ) → IsSetup U → IsAllowed U.conf → IsNamed U t → IsWell o → CanBeAnswered (property_answer (value_of U t o name))
unfolding value_of
of-object U t object.Manager name u a n w = one-sent (manager_value U t) (manager_named name) (manager-sent U t a)
of-object U t (object.Session s) name u a n w = one-sent (session_value U t s) (session_named name) (session-sent U t s u n.marks w)
of-object U t (object.User x) name u a n w = one-sent (user_value U t x) (user_named name) (user-sent U t x u a n w)
of-object U t (object.Seat k) name u a n w = one-sent (seat_value t k) (seat_named name) (seat-sent U t k a n w)

pub get-sent : (U : Setup) (t : Trail) → IsSetup U → IsAllowed U.conf → IsNamed U t → (name : List ℕ) (r : Result Object Rule) → NamesWell r → CanBeAnswered (get_answer U t name r)
get-sent U t u a n name (Ok o) w = of-object U t o name u a n w
get-sent U t u a n name (Err r) w = tt

-- rows are as few as an object has properties
abbrev AreSent : List PropertyRow → Type 0
AreSent rs = (length rs ≤ 20) × AllByRecursion (λ (r : PropertyRow). CanBeValue r.value) rs

all-of-object : (U : Setup) (t : Trail) (o : Object) → IsSetup U → IsAllowed U.conf → IsNamed U t → IsWell o → AreSent (rows_of U t o)
unfolding rows_of
all-of-object U t object.Manager u a n w = (omega arith, each-row (λ (r : PropertyRow). CanBeValue r.value) (manager_row U t) (manager-sent U t a) manager_properties)
all-of-object U t (object.Session s) u a n w = (omega arith, each-row (λ (r : PropertyRow). CanBeValue r.value) (session_property_row U t s) (session-sent U t s u n.marks w) session_properties)
all-of-object U t (object.User x) u a n w = (omega arith, each-row (λ (r : PropertyRow). CanBeValue r.value) (user_row U t x) (user-sent U t x u a n w) user_properties)
all-of-object U t (object.Seat k) u a n w = (omega arith, each-row (λ (r : PropertyRow). CanBeValue r.value) (seat_row t k) (seat-sent U t k a n w) seat_properties)

if-sent : (b : Bool) (rs : List PropertyRow) → AreSent rs → AreSent (cond b rs [])
if-sent true rs h = h
if-sent false rs h = (omega arith, tt)

pub get-all-sent : (U : Setup) (t : Trail) → IsSetup U → IsAllowed U.conf → IsNamed U t → (interface : List ℕ) (r : Result Object Rule) → NamesWell r → CanBeAnswered (get_all_answer U t interface r)
get-all-sent U t u a n interface (Ok o) w = if-sent (is_own_interface o interface) (rows_of U t o) (all-of-object U t o u a n w)
get-all-sent U t u a n interface (Err r) w = tt
