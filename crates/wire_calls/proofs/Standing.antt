-- The requests of messages may stand in a journal.
use Rattle.std.proofs.Common.{◌≡◌, ℕ, zero, suc, ◌+◌, ◌≤◌, List, [], ◌∷◌, length, refl, arith, Bool, true, false, not, eqb, leb, ◌&&◌, Option, Some, None, cond}
use Rattle.std.specs.List.{AllByRecursion}
use Rattle.std.specs.Option.{option_and_then, option_map, option_or}
use Rattle.std.specs.Str.{bytes_eq}
use Rattle.std.proofs.lemmas.Str.{IsUtf8-nil, is_utf8-from_IsUtf8}
use Rattle.std.proofs.lemmas.Bool.Decides.{nat_tests}
use Rattle.login_base.specs.declared.ids.ConnId.{ConnId}
use Rattle.login_base.specs.declared.ids.Uid.{Uid}
use Rattle.login_model.specs.declared.call.Call.{Call}
use Rattle.login_model.specs.declared.call.Call.TheVariants as call
use Rattle.login_model.specs.Texts.{IsText, has_object}
use Rattle.bus_names.specs.declared.basic.Basic.{Basic}
use Rattle.bus_names.specs.Types.{Shape}
use Rattle.bus_names.specs.Unescape.{unescaped}
use Rattle.bus_value.specs.declared.basic_value.BasicValue.{BasicValue}
use Rattle.bus_value.specs.declared.order.Order.{Order}
use Rattle.bus_value.specs.Fields.{basic_in}
use Rattle.bus_value.specs.Grammar.{AreSpelled, IsBasic, IsSpelled}
use Rattle.bus_value.specs.Grammar as rules
use Rattle.login_base.specs.Texts.{is_text}
use Rattle.login_base.proofs.Texts.{text_parts}
use Rattle.bus_value.specs.Values.{Val, vals}
use Rattle.bus_message.specs.declared.message.Message.{Message}
use Rattle.bus_message.specs.Grammar.{IsMessage}
use Rattle.wire_calls.specs.declared.object.Object.{Object}
use Rattle.wire_calls.specs.declared.object.Object.TheVariants as object
use Rattle.wire_calls.specs.declared.manager.ManagerMethod.{ManagerMethod}
use Rattle.wire_calls.specs.declared.manager.ManagerMethod.TheVariants as manager
use Rattle.wire_calls.specs.declared.session.SessionMethod.{SessionMethod}
use Rattle.wire_calls.specs.declared.session.SessionMethod.TheVariants as session
use Rattle.wire_calls.specs.declared.seat.SeatMethod.{SeatMethod}
use Rattle.wire_calls.specs.declared.seat.SeatMethod.TheVariants as seat
use Rattle.wire_calls.specs.declared.user.UserMethod.{UserMethod}
use Rattle.wire_calls.specs.declared.user.UserMethod.TheVariants as user
use Rattle.wire_calls.specs.declared.machine.MachineMethod.{MachineMethod}
use Rattle.wire_calls.specs.declared.machine.MachineMethod.TheVariants as machine
use Rattle.wire_calls.specs.declared.bus.BusMethod.{BusMethod}
use Rattle.wire_calls.specs.declared.bus.BusMethod.TheVariants as bus
use Rattle.wire_calls.specs.declared.bus.PropertiesMethod.{PropertiesMethod}
use Rattle.wire_calls.specs.declared.bus.PropertiesMethod.TheVariants as properties
use Rattle.wire_calls.specs.declared.bus.PeerMethod.{PeerMethod}
use Rattle.wire_calls.specs.declared.bus.PeerMethod.TheVariants as peer
use Rattle.wire_calls.specs.declared.method.Method.{Method}
use Rattle.wire_calls.specs.declared.method.Method.TheVariants.{Manager, Session, Seat, User, Machine, Bus}
use Rattle.wire_calls.specs.declared.method.AnyMethod.{AnyMethod}
use Rattle.wire_calls.specs.declared.method.AnyMethod.TheVariants.{Own, Properties, Peer}
use Rattle.login_model.specs.Objects.{is_object}
use Rattle.wire_calls.specs.Arguments.{are_short, is_short, is_short_value, signature_of, text_at, text_in}
use Rattle.wire_calls.specs.Calls.{any_call, bus_call, call_with, is_short_any, is_short_method, machine_call, manager_call, method_call, peer_call, properties_call, seat_call, session_call, user_call}
use Rattle.wire_calls.specs.Laws.{MayStand}
use Rattle.wire_calls.specs.Methods.{method_named, signed_any}
use Rattle.wire_calls.specs.Objects.{begins, behind, bus_path, has_properties, if_text, interface_of, machine_path, manager_path, object_of, seat_front, session_front, user_front, user_of}
use Rattle.wire_calls.specs.Reading.{at_path, call_of, is_peer, lets, method_of, on_method, on_object, own_method, peer_method, properties_method, request_of}
use Rattle.login_model.specs.Objects.{properties_interface}
use Rattle.wire_calls.specs.Reading.{peer as peer_interface}
use Rattle.wire_calls.specs.Sending.{HasTexts}
use Rattle.wire_calls.proofs.TextBytes.{both}
use Rattle.wire_calls.proofs.PropertyPaths.{properties_object}

-- UTF-8 without NUL that is short, by tests
text_is : (text : List ℕ) → is_text text ≡ true → is_short text ≡ true → IsText 512 text
text_is text h s =
    let p = text_parts text h in
    record { utf8 = p.0; no_nul = p.1; short = below (length text) 512 s }
  where
    below : (n most : ℕ) → leb n most ≡ true → n ≤ most
    below n most h = grind (arith, nat_tests)

empty_text : is_text [] ≡ true
empty_text = rw (is_utf8-from_IsUtf8 [] IsUtf8-nil) refl

-- a value's text, which is empty where it has none
abbrev HasText : Val → Type 0
HasText v = is_text (text_in (basic_in v)) ≡ true

spelled_text : (o : Order) (b : Basic) (a : BasicValue) (body : List ℕ) → IsBasic o b a body → is_text (text_in (Some a)) ≡ true
spelled_text o b a body (rules.byte h) = empty_text
spelled_text o b a body rules.boolean = empty_text
spelled_text o b a body (rules.int16 h) = empty_text
spelled_text o b a body (rules.uint16 h) = empty_text
spelled_text o b a body (rules.int32 h) = empty_text
spelled_text o b a body (rules.uint32 h) = empty_text
spelled_text o b a body (rules.int64 h) = empty_text
spelled_text o b a body (rules.uint64 h) = empty_text
spelled_text o b a body (rules.double h) = empty_text
spelled_text o b a body (rules.string h k) = h
spelled_text o b a body (rules.path h k) = empty_text
spelled_text o b a body (rules.signature h) = empty_text
spelled_text o b a body (rules.handle h) = empty_text

value_text : (o : Order) (depth at : ℕ) (t : Shape) (v : Val) (bytes : List ℕ) → IsSpelled o depth at t v bytes → HasText v
value_text o depth at t v bytes (rules.basic {b = b} {a = a} {body = body} p h) = spelled_text o b a body h
value_text o depth at t v bytes (rules.array p q l h) = empty_text
value_text o depth at t v bytes (rules.struct p h) = empty_text
value_text o depth at t v bytes (rules.dict h) = empty_text
value_text o depth at t v bytes (rules.variant p l h) = empty_text

value_texts : (o : Order) (depth at : ℕ) (ts : List Shape) (vs : List Val) (bytes : List ℕ) → AreSpelled o depth at ts (vals vs) bytes → AllByRecursion HasText vs
value_texts o depth at ts [] bytes h = tt
value_texts o depth at ts (v ∷ vs) bytes (rules.more {t = t} {ts = us} {first = first} {others = others} p q) =
    (value_text o depth at t v first p, value_texts o depth (at + length first) us vs others q)

-- the text at a place
texts_at : (vs : List Val) → AllByRecursion HasText vs → are_short vs ≡ true → (n : ℕ) → IsText 512 (text_at n vs)
texts_at [] h s n = text_is [] empty_text refl
texts_at (v ∷ vs) h s zero = text_is (text_in (basic_in v)) h.0 (both (is_short_value v) (are_short vs) s).0
texts_at (v ∷ vs) h s (suc n) = texts_at vs h.1 (both (is_short_value v) (are_short vs) s).1 n

-- what is asked of a call
record Stands (c : Call) : Type 0 where
  texts : HasTexts c
  object : has_object c ≡ true

abbrev Texts : List Val → Type 0
Texts vs = (n : ℕ) → IsText 512 (text_at n vs)

manager_stands : (m : ManagerMethod) (vs : List Val) → Texts vs → Stands (manager_call m vs)
manager_stands manager.CreateSession vs h = record { texts = (h 2, (h 3, (h 4, (h 5, (h 6, (h 8, (h 9, (h 11, (h 12, tt))))))))); object = refl }
manager_stands manager.GetSession vs h = record { texts = (h 0, tt); object = refl }
manager_stands manager.GetUser vs h = record { texts = tt; object = refl }
manager_stands manager.GetSeat vs h = record { texts = (h 0, tt); object = refl }
manager_stands manager.ListSessions vs h = record { texts = tt; object = refl }
manager_stands manager.ListUsers vs h = record { texts = tt; object = refl }
manager_stands manager.ListSeats vs h = record { texts = tt; object = refl }
manager_stands manager.ListInhibitors vs h = record { texts = tt; object = refl }
manager_stands manager.ActivateSession vs h = record { texts = (h 0, tt); object = refl }
manager_stands manager.ActivateSessionOnSeat vs h = record { texts = (h 0, (h 1, tt)); object = refl }
manager_stands manager.LockSession vs h = record { texts = (h 0, tt); object = refl }
manager_stands manager.UnlockSession vs h = record { texts = (h 0, tt); object = refl }
manager_stands manager.LockSessions vs h = record { texts = tt; object = refl }
manager_stands manager.UnlockSessions vs h = record { texts = tt; object = refl }
manager_stands manager.KillSession vs h = record { texts = (h 0, (h 1, tt)); object = refl }
manager_stands manager.TerminateSession vs h = record { texts = (h 0, tt); object = refl }
manager_stands manager.TerminateUser vs h = record { texts = tt; object = refl }
manager_stands manager.TerminateSeat vs h = record { texts = (h 0, tt); object = refl }
manager_stands manager.SetUserLinger vs h = record { texts = tt; object = refl }
manager_stands (manager.Power k) vs h = record { texts = tt; object = refl }
manager_stands (manager.Can k) vs h = record { texts = tt; object = refl }
manager_stands manager.Inhibit vs h = record { texts = (h 0, (h 1, (h 2, (h 3, tt)))); object = refl }

session_stands : (id : List ℕ) (m : SessionMethod) (vs : List Val) → IsText 512 id → Texts vs → Stands (session_call id m vs)
session_stands id session.Terminate vs t h = record { texts = (t, tt); object = refl }
session_stands id session.Activate vs t h = record { texts = (t, tt); object = refl }
session_stands id session.Lock vs t h = record { texts = (t, tt); object = refl }
session_stands id session.Unlock vs t h = record { texts = (t, tt); object = refl }
session_stands id session.Kill vs t h = record { texts = (t, (h 0, tt)); object = refl }
session_stands id session.SetIdleHint vs t h = record { texts = (t, tt); object = refl }
session_stands id session.SetLockedHint vs t h = record { texts = (t, tt); object = refl }
session_stands id session.TakeControl vs t h = record { texts = (t, tt); object = refl }
session_stands id session.ReleaseControl vs t h = record { texts = (t, tt); object = refl }
session_stands id session.TakeDevice vs t h = record { texts = (t, tt); object = refl }
session_stands id session.ReleaseDevice vs t h = record { texts = (t, tt); object = refl }
session_stands id session.PauseDeviceComplete vs t h = record { texts = (t, tt); object = refl }

seat_stands : (name : List ℕ) (m : SeatMethod) (vs : List Val) → IsText 512 name → Texts vs → Stands (seat_call name m vs)
seat_stands name seat.Terminate vs t h = record { texts = (t, tt); object = refl }
seat_stands name seat.ActivateSession vs t h = record { texts = (h 0, (t, tt)); object = refl }
seat_stands name seat.SwitchTo vs t h = record { texts = (t, tt); object = refl }
seat_stands name seat.SwitchToNext vs t h = record { texts = (t, tt); object = refl }
seat_stands name seat.SwitchToPrevious vs t h = record { texts = (t, tt); object = refl }

user_stands : (u : Uid) (m : UserMethod) (vs : List Val) → Stands (user_call u m vs)
user_stands u user.Terminate vs = record { texts = tt; object = refl }
user_stands u user.Kill vs = record { texts = tt; object = refl }

machine_stands : (m : MachineMethod) (vs : List Val) → Stands (machine_call m vs)
machine_stands machine.Read vs = record { texts = tt; object = refl }
machine_stands machine.SetMode vs = record { texts = tt; object = refl }
machine_stands machine.Close vs = record { texts = tt; object = refl }

bus_stands : (m : BusMethod) (vs : List Val) → Texts vs → Stands (bus_call m vs)
bus_stands bus.Hello vs h = record { texts = tt; object = refl }
bus_stands bus.GetNameOwner vs h = record { texts = (h 0, tt); object = refl }
bus_stands bus.AddMatch vs h = record { texts = (h 0, tt); object = refl }
bus_stands bus.RemoveMatch vs h = record { texts = (h 0, tt); object = refl }

properties_stands : (path : List ℕ) (m : PropertiesMethod) (vs : List Val) → IsText 512 path → is_object path ≡ true → Texts vs → Stands (properties_call path m vs)
properties_stands path properties.Get vs t o h = record { texts = (t, (h 0, (h 1, tt))); object = o }
properties_stands path properties.GetAll vs t o h = record { texts = (t, (h 0, tt)); object = o }
properties_stands path properties.Set vs t o h = record { texts = (t, (h 0, (h 1, tt))); object = o }

peer_stands : (m : PeerMethod) → Stands (peer_call m)
peer_stands peer.Ping = record { texts = tt; object = refl }
peer_stands peer.GetMachineId = record { texts = tt; object = refl }

-- the text in a method's path
abbrev HasName : Method → Type 0
HasName (Session id m) = is_text id ≡ true
HasName (Seat name m) = is_text name ≡ true
HasName (Manager m) = Unit {0}
HasName (User u m) = Unit {0}
HasName (Machine m) = Unit {0}
HasName (Bus m) = Unit {0}

-- the path of a method of properties is a text, and that of an object that has some
abbrev HasPlace : AnyMethod → Type 0
HasPlace (Own m) = HasName m
HasPlace (Properties path m) = (is_text path ≡ true) × (is_object path ≡ true)
HasPlace (Peer m) = Unit {0}

method_stands : (m : Method) (vs : List Val) → HasName m → is_short_method m ≡ true → Texts vs → Stands (method_call m vs)
method_stands (Manager m) vs n s h = manager_stands m vs h
method_stands (Session id m) vs n s h = session_stands id m vs (text_is id n s) h
method_stands (Seat name m) vs n s h = seat_stands name m vs (text_is name n s) h
method_stands (User u m) vs n s h = user_stands u m vs
method_stands (Machine m) vs n s h = machine_stands m vs
method_stands (Bus m) vs n s h = bus_stands m vs h

any_stands : (m : AnyMethod) (vs : List Val) → HasPlace m → is_short_any m ≡ true → Texts vs → Stands (any_call m vs)
any_stands (Own m) vs n s h = method_stands m vs n s h
any_stands (Properties path m) vs n s h = properties_stands path m vs (text_is path n.0 s) n.1 h
any_stands (Peer m) vs n s h = peer_stands m

with_stands : (m : AnyMethod) (vs : List Val) → HasPlace m → AllByRecursion HasText vs → Stands (call_with m vs)
unfolding call_with
with_stands m vs n t = by (bytes_eq (signature_of vs) (signed_any m).takes) (is_short_any m) (are_short vs) refl refl
  where
    by : (a b c : Bool) → is_short_any m ≡ b → are_short vs ≡ c → Stands (cond (a && (b && c)) (any_call m vs) call.BadArguments)
    by true true true e f = any_stands m vs n e (texts_at vs t f)
    by true true false e f = record { texts = tt; object = refl }
    by true false c e f = record { texts = tt; object = refl }
    by false b c e f = record { texts = tt; object = refl }

-- an object that a path names
abbrev HasObjectName : Object → Type 0
HasObjectName (object.Session id) = is_text id ≡ true
HasObjectName (object.Seat name) = is_text name ≡ true
HasObjectName object.Manager = Unit {0}
HasObjectName (object.User u) = Unit {0}
HasObjectName object.Machine = Unit {0}
HasObjectName object.Bus = Unit {0}

abbrev OnlyNamed : Option Object → Type 0
OnlyNamed None = Unit {0}
OnlyNamed (Some o) = HasObjectName o

only_text : (text : List ℕ) (t : Bool) → is_text text ≡ t → (make : List ℕ → Object) → ((x : List ℕ) → is_text x ≡ true → HasObjectName (make x)) → OnlyNamed (option_map make (cond t (Some text) None))
only_text text true e make f = f text e
only_text text false e make f = tt

only_label : (found : Option (List ℕ)) (make : List ℕ → Object) → ((x : List ℕ) → is_text x ≡ true → HasObjectName (make x)) → OnlyNamed (option_map make (option_and_then if_text found))
only_label None make f = tt
only_label (Some text) make f = only_text text (is_text text) refl make f

only_user : (o : Option Uid) → OnlyNamed (option_map object.User o)
only_user None = tt
only_user (Some u) = tt

choose : (t : Bool) (a b : Option Object) → OnlyNamed a → OnlyNamed b → OnlyNamed (cond t a b)
choose true a b x y = x
choose false a b x y = y

only_named : (path : List ℕ) → OnlyNamed (object_of path)
unfolding object_of
only_named path =
    choose (bytes_eq path manager_path) _ _ tt (
    choose (bytes_eq path machine_path) _ _ tt (
    choose (bytes_eq path bus_path) _ _ tt (
    choose (begins session_front path) _ _ (only_label (unescaped (behind session_front path)) object.Session (λ x h. h)) (
    choose (begins seat_front path) _ _ (only_label (unescaped (behind seat_front path)) object.Seat (λ x h. h)) (
    choose (begins user_front path) _ _ (only_user (user_of (behind user_front path))) tt)))))

abbrev OnlyNamedMethod : Option Method → Type 0
OnlyNamedMethod None = Unit {0}
OnlyNamedMethod (Some m) = HasName m

only_manager : (o : Option ManagerMethod) → OnlyNamedMethod (option_map Manager o)
only_manager None = tt
only_manager (Some m) = tt

only_session : (id : List ℕ) → is_text id ≡ true → (o : Option SessionMethod) → OnlyNamedMethod (option_map (Session id) o)
only_session id h None = tt
only_session id h (Some m) = h

only_seat : (name : List ℕ) → is_text name ≡ true → (o : Option SeatMethod) → OnlyNamedMethod (option_map (Seat name) o)
only_seat name h None = tt
only_seat name h (Some m) = h

only_user_method : (u : Uid) (o : Option UserMethod) → OnlyNamedMethod (option_map (User u) o)
only_user_method u None = tt
only_user_method u (Some m) = tt

only_machine : (o : Option MachineMethod) → OnlyNamedMethod (option_map Machine o)
only_machine None = tt
only_machine (Some m) = tt

only_bus : (o : Option BusMethod) → OnlyNamedMethod (option_map Bus o)
only_bus None = tt
only_bus (Some m) = tt

only_method : (o : Object) (name : List ℕ) → HasObjectName o → OnlyNamedMethod (method_named o name)
only_method object.Manager name h = only_manager _
only_method (object.Session id) name h = only_session id h _
only_method (object.Seat s) name h = only_seat s h _
only_method (object.User u) name h = only_user_method u _
only_method object.Machine name h = only_machine _
only_method object.Bus name h = only_bus _

abbrev OnlyPlaced : Option AnyMethod → Type 0
OnlyPlaced None = Unit {0}
OnlyPlaced (Some m) = HasPlace m

-- an object that has properties is at such a path
abbrev IsAt : List ℕ → Object → Type 0
IsAt path o = has_properties o ≡ true → (is_text path ≡ true) × (is_object path ≡ true)

own_found : (o : Option Method) → OnlyNamedMethod o → OnlyPlaced (option_map Own o)
own_found None h = tt
own_found (Some m) h = h

if_placed : (t : Bool) (m : Option AnyMethod) → (t ≡ true → OnlyPlaced m) → OnlyPlaced (cond t m None)
if_placed true m h = h refl
if_placed false m h = tt

or_placed : (a b : Option AnyMethod) → OnlyPlaced a → OnlyPlaced b → OnlyPlaced (option_or a b)
or_placed None b x y = y
or_placed (Some m) b x y = x

properties_found : (path : List ℕ) (o : Option PropertiesMethod) → (is_text path ≡ true) × (is_object path ≡ true) → OnlyPlaced (option_map (Properties path) o)
properties_found path None h = tt
properties_found path (Some m) h = h

peers_found : (o : Option PeerMethod) → OnlyPlaced (option_map Peer o)
peers_found None = tt
peers_found (Some m) = tt

peer_found : (interface : Option (List ℕ)) (name : List ℕ) → OnlyPlaced (peer_method interface name)
peer_found interface name = if_placed (lets interface peer_interface) _ (λ e. peers_found _)

method_found : (path : List ℕ) (interface member : Option (List ℕ)) (o : Object) → HasObjectName o → IsAt path o → OnlyPlaced (method_of path interface member o)
method_found path interface None o h at = tt
method_found path interface (Some name) o h at =
    or_placed (own_method interface name o) _ (if_placed (lets interface (interface_of o)) _ (λ e. own_found (method_named o name) (only_method o name h)))
    (or_placed (properties_method path interface name o) _
    (if_placed (has_properties o && lets interface properties_interface) _ (λ e. properties_found path _ (at (both (has_properties o) (lets interface properties_interface) e).0)))
    (peer_found interface name))

on_method_stands : (vs : List Val) (m : Option AnyMethod) → OnlyPlaced m → AllByRecursion HasText vs → Stands (on_method vs m)
on_method_stands vs None n t = record { texts = tt; object = refl }
on_method_stands vs (Some m) n t = with_stands m vs n t

-- an object at its path
abbrev AtPath : List ℕ → Option Object → Type 0
AtPath path None = Unit {0}
AtPath path (Some o) = HasObjectName o × IsAt path o

on_object_stands : (m : Message) (path : List ℕ) (o : Option Object) → AtPath path o → AllByRecursion HasText m.body → Stands (on_object m path o)
on_object_stands m path None n t = record { texts = tt; object = refl }
on_object_stands m path (Some o) n t = on_method_stands m.body (method_of path m.interface m.member o) (method_found path m.interface m.member o n.0 n.1) t

found_at : (path : List ℕ) (o : Option Object) → object_of path ≡ o → OnlyNamed o → AtPath path o
found_at path None e n = tt
found_at path (Some o) e n = (n, λ p. properties_object path o e p)

at_path_stands : (m : Message) (path : Option (List ℕ)) → AllByRecursion HasText m.body → Stands (at_path m path)
at_path_stands m None t = record { texts = tt; object = refl }
at_path_stands m (Some path) t = on_object_stands m path (object_of path) (found_at path (object_of path) refl (only_named path)) t

peer_of_stands : (m : Message) (member : Option (List ℕ)) → AllByRecursion HasText m.body → Stands (on_method m.body (option_and_then (peer_method m.interface) member))
peer_of_stands m None t = record { texts = tt; object = refl }
peer_of_stands m (Some name) t = on_method_stands m.body (peer_method m.interface name) (peer_found m.interface name) t

call_stands : (m : Message) → AllByRecursion HasText m.body → Stands (call_of m)
unfolding call_of
call_stands m t = by (eqb m.kind 1) (is_peer m.interface)
  where
    by : (a b : Bool) → Stands (cond (not a) call.NoCall (cond b (on_method m.body (option_and_then (peer_method m.interface) m.member)) (at_path m m.path)))
    by true true = peer_of_stands m m.member t
    by true false = at_path_stands m m.path t
    by false b = record { texts = tt; object = refl }

pub may_stand : (c : ConnId) (bytes : List ℕ) (m : Message) → IsMessage bytes m → MayStand (request_of c m)
may_stand c bytes m h =
    let s = h.spelled in
    let k = call_stands m (value_texts m.order 0 _ _ m.body s.body s.body_spelled) in
    record { serial = s.numbers.serial.0; texts = k.texts; object = k.object }
