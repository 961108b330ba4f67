-- A call is read again from the message as which it is sent.
use Rattle.std.proofs.Common.{◌≡◌, ℕ, List, refl, ap, subst, ◌∙◌, true, false, Option, Some, None}
use Rattle.std.specs.Prelude.{IfSome}
use Rattle.login_model.specs.declared.call.Call.{Call}
use Rattle.login_model.specs.declared.call.Call.TheVariants as call
use Rattle.login_model.specs.Objects.{is_object}
use Rattle.login_model.specs.Texts.{has_object}
use Rattle.bus_names.specs.Reading.{path_fault}
use Rattle.bus_value.specs.Values.{Val}
use Rattle.bus_message.specs.declared.message.Message.{Message}
use Rattle.wire_calls.specs.declared.object.Object.{Object}
use Rattle.wire_calls.specs.declared.object.Object.TheVariants as object
use Rattle.wire_calls.specs.declared.method.AnyMethod.{AnyMethod}
use Rattle.wire_calls.specs.declared.method.AnyMethod.TheVariants.{Own, Properties, Peer}
use Rattle.wire_calls.specs.declared.bus.PropertiesMethod.{PropertiesMethod}
use Rattle.wire_calls.specs.declared.bus.PropertiesMethod.TheVariants as properties
use Rattle.wire_calls.specs.declared.bus.PeerMethod.{PeerMethod}
use Rattle.wire_calls.specs.declared.bus.PeerMethod.TheVariants as peer
use Rattle.wire_calls.specs.Calls.{call_with}
use Rattle.wire_calls.specs.Methods.{peer_named, properties_named, signed_any}
use Rattle.wire_calls.specs.Methods.{object_of as method_object}
use Rattle.wire_calls.specs.Objects.{HasName, interface_of, object_of}
use Rattle.wire_calls.specs.Reading.{call_of, is_peer, lets}
use Rattle.login_model.specs.Objects.{properties_interface}
use Rattle.wire_calls.specs.inner.Fitting.{FitsAny, FitsMethod}
use Rattle.wire_calls.specs.Sending.{HasTexts, IsSent, arguments_of, is_other, message_with, own_sent_as, path_at, sent_as}
use Rattle.wire_calls.proofs.TextBytes.{short_text, text_is}
use Rattle.wire_calls.proofs.ObjectPaths.{object_of-path, path_of-fault}
use Rattle.wire_calls.proofs.MethodNames.{named_again}
use Rattle.wire_calls.proofs.PropertyPaths.{HasProperties, has_properties_at}

-- one of the calls is sent as a method
pub is_sent : (c : Call) → is_other c ≡ false → sent_as c ≡ None → ⊥
unfolding sent_as own_sent_as
is_sent (call.Create x) d e = cc
is_sent (call.GetSession id) d e = cc
is_sent (call.GetUser u) d e = cc
is_sent (call.GetSeat name) d e = cc
is_sent call.ListSessions d e = cc
is_sent call.ListUsers d e = cc
is_sent call.ListSeats d e = cc
is_sent call.ListInhibitors d e = cc
is_sent (call.Activate id) d e = cc
is_sent (call.ActivateOnSeat id name) d e = cc
is_sent (call.Lock id) d e = cc
is_sent (call.Unlock id) d e = cc
is_sent call.LockAll d e = cc
is_sent call.UnlockAll d e = cc
is_sent (call.Kill id whom signal) d e = cc
is_sent (call.Terminate id) d e = cc
is_sent (call.TerminateUser u) d e = cc
is_sent (call.TerminateSeat name) d e = cc
is_sent (call.SetLinger u on) d e = cc
is_sent (call.Power k) d e = cc
is_sent (call.Can k) d e = cc
is_sent (call.Inhibit x) d e = cc
is_sent (call.SetIdle id on) d e = cc
is_sent (call.SetLocked id on) d e = cc
is_sent (call.Control id force) d e = cc
is_sent (call.Uncontrol id) d e = cc
is_sent (call.TakeDevice id device) d e = cc
is_sent (call.ReleaseDevice id device) d e = cc
is_sent (call.PauseComplete id device) d e = cc
is_sent (call.SwitchTo name vt) d e = cc
is_sent (call.SwitchToNext name) d e = cc
is_sent (call.SwitchToPrevious name) d e = cc
is_sent (call.KillUser u signal) d e = cc
is_sent (call.ReadInput n) d e = cc
is_sent (call.SetMode n mode) d e = cc
is_sent (call.Close n) d e = cc
is_sent (call.GetProperty x) d e = cc
is_sent (call.GetAllProperties path interface) d e = cc
is_sent (call.SetProperty x) d e = cc
is_sent call.Ping d e = cc
is_sent call.GetMachineId d e = cc
is_sent call.Hello d e = cc
is_sent (call.GetNameOwner name) d e = cc
is_sent (call.AddMatch rule) d e = cc
is_sent (call.RemoveMatch rule) d e = cc
is_sent call.NoCall d e = cc
is_sent call.NoObject d e = cc
is_sent call.NoMethod d e = cc
is_sent call.BadArguments d e = cc

-- a method is of an object that there can be, or of one with properties
abbrev pub Placed : AnyMethod → Type 0
Placed (Own m) = FitsMethod m → HasName (method_object m)
Placed (Properties path m) = is_object path ≡ true
Placed (Peer m) = Unit {0}

-- so is that as which a call is sent
is_named : (c : Call) → HasTexts c → has_object c ≡ true → IfSome (sent_as c) Placed
unfolding sent_as own_sent_as
is_named (call.Create x) h o = λ f. tt
is_named (call.GetSession id) h o = λ f. tt
is_named (call.GetUser u) h o = λ f. tt
is_named (call.GetSeat name) h o = λ f. tt
is_named call.ListSessions h o = λ f. tt
is_named call.ListUsers h o = λ f. tt
is_named call.ListSeats h o = λ f. tt
is_named call.ListInhibitors h o = λ f. tt
is_named (call.Activate id) h o = λ f. tt
is_named (call.ActivateOnSeat id name) h o = λ f. tt
is_named (call.Lock id) h o = λ f. tt
is_named (call.Unlock id) h o = λ f. tt
is_named call.LockAll h o = λ f. tt
is_named call.UnlockAll h o = λ f. tt
is_named (call.Kill id whom signal) h o = λ f. tt
is_named (call.Terminate id) h o = λ f. tt
is_named (call.TerminateUser u) h o = λ f. tt
is_named (call.TerminateSeat name) h o = λ f. tt
is_named (call.SetLinger u on) h o = λ f. tt
is_named (call.Power k) h o = λ f. tt
is_named (call.Can k) h o = λ f. tt
is_named (call.Inhibit x) h o = λ f. tt
is_named (call.SetIdle id on) h o = λ f. text_is 512 id h.0
is_named (call.SetLocked id on) h o = λ f. text_is 512 id h.0
is_named (call.Control id force) h o = λ f. text_is 512 id h.0
is_named (call.Uncontrol id) h o = λ f. text_is 512 id h.0
is_named (call.TakeDevice id device) h o = λ f. text_is 512 id h.0
is_named (call.ReleaseDevice id device) h o = λ f. text_is 512 id h.0
is_named (call.PauseComplete id device) h o = λ f. text_is 512 id h.0
is_named (call.SwitchTo name vt) h o = λ f. text_is 512 name h.0
is_named (call.SwitchToNext name) h o = λ f. text_is 512 name h.0
is_named (call.SwitchToPrevious name) h o = λ f. text_is 512 name h.0
is_named (call.KillUser u signal) h o = λ f. f
is_named (call.ReadInput n) h o = λ f. tt
is_named (call.SetMode n mode) h o = λ f. tt
is_named (call.Close n) h o = λ f. tt
is_named (call.GetProperty x) h o = o
is_named (call.GetAllProperties path interface) h o = o
is_named (call.SetProperty x) h o = o
is_named call.Ping h o = tt
is_named call.GetMachineId h o = tt
is_named call.Hello h o = λ f. tt
is_named (call.GetNameOwner name) h o = λ f. tt
is_named (call.AddMatch rule) h o = λ f. tt
is_named (call.RemoveMatch rule) h o = λ f. tt
is_named call.NoCall h o = tt
is_named call.NoObject h o = tt
is_named call.NoMethod h o = tt
is_named call.BadArguments h o = tt

-- its arguments make the call
pub made_again : (c : Call) → HasTexts c → IfSome (sent_as c) (λ m. call_with m (arguments_of c) ≡ c)
unfolding sent_as own_sent_as arguments_of call_with
made_again (call.Create x) h = rw (short_text x.service h.0, short_text x.session_type h.1.0, short_text x.class h.1.1.0, short_text x.desktop h.1.1.1.0, short_text x.seat h.1.1.1.1.0, short_text x.tty h.1.1.1.1.1.0, short_text x.display h.1.1.1.1.1.1.0, short_text x.remote_user h.1.1.1.1.1.1.1.0, short_text x.remote_host h.1.1.1.1.1.1.1.1.0) refl
made_again (call.GetSession id) h = rw (short_text id h.0) refl
made_again (call.GetUser u) h = refl
made_again (call.GetSeat name) h = rw (short_text name h.0) refl
made_again call.ListSessions h = refl
made_again call.ListUsers h = refl
made_again call.ListSeats h = refl
made_again call.ListInhibitors h = refl
made_again (call.Activate id) h = rw (short_text id h.0) refl
made_again (call.ActivateOnSeat id name) h = rw (short_text id h.0, short_text name h.1.0) refl
made_again (call.Lock id) h = rw (short_text id h.0) refl
made_again (call.Unlock id) h = rw (short_text id h.0) refl
made_again call.LockAll h = refl
made_again call.UnlockAll h = refl
made_again (call.Kill id whom signal) h = rw (short_text id h.0, short_text whom h.1.0) refl
made_again (call.Terminate id) h = rw (short_text id h.0) refl
made_again (call.TerminateUser u) h = refl
made_again (call.TerminateSeat name) h = rw (short_text name h.0) refl
made_again (call.SetLinger u on) h = refl
made_again (call.Power k) h = refl
made_again (call.Can k) h = refl
made_again (call.Inhibit x) h = rw (short_text x.what h.0, short_text x.who h.1.0, short_text x.why h.1.1.0, short_text x.mode h.1.1.1.0) refl
made_again (call.SetIdle id on) h = rw (short_text id h.0) refl
made_again (call.SetLocked id on) h = rw (short_text id h.0) refl
made_again (call.Control id force) h = rw (short_text id h.0) refl
made_again (call.Uncontrol id) h = rw (short_text id h.0) refl
made_again (call.TakeDevice id device) h = rw (short_text id h.0) refl
made_again (call.ReleaseDevice id device) h = rw (short_text id h.0) refl
made_again (call.PauseComplete id device) h = rw (short_text id h.0) refl
made_again (call.SwitchTo name vt) h = rw (short_text name h.0) refl
made_again (call.SwitchToNext name) h = rw (short_text name h.0) refl
made_again (call.SwitchToPrevious name) h = rw (short_text name h.0) refl
made_again (call.KillUser u signal) h = refl
made_again (call.ReadInput n) h = refl
made_again (call.SetMode n mode) h = refl
made_again (call.Close n) h = refl
made_again (call.GetProperty x) h = rw (short_text x.path h.0, short_text x.interface h.1.0, short_text x.name h.1.1.0) refl
made_again (call.GetAllProperties path interface) h = rw (short_text path h.0, short_text interface h.1.0) refl
made_again (call.SetProperty x) h = rw (short_text x.path h.0, short_text x.interface h.1.0, short_text x.name h.1.1.0) refl
made_again call.Ping h = refl
made_again call.GetMachineId h = refl
made_again call.Hello h = refl
made_again (call.GetNameOwner name) h = rw (short_text name h.0) refl
made_again (call.AddMatch rule) h = rw (short_text rule h.0) refl
made_again (call.RemoveMatch rule) h = rw (short_text rule h.0) refl
made_again call.NoCall h = tt
made_again call.NoObject h = tt
made_again call.NoMethod h = tt
made_again call.BadArguments h = tt

no_peer : (o : Object) → is_peer (Some (interface_of o)) ≡ false
no_peer object.Manager = refl
no_peer (object.Session id) = refl
no_peer (object.Seat name) = refl
no_peer (object.User u) = refl
no_peer object.Machine = refl
no_peer object.Bus = refl

lets_own : (o : Object) → lets (Some (interface_of o)) (interface_of o) ≡ true
lets_own object.Manager = refl
lets_own (object.Session id) = refl
lets_own (object.Seat name) = refl
lets_own (object.User u) = refl
lets_own object.Machine = refl
lets_own object.Bus = refl

-- the interface of properties is no object's own
not_own : (o : Object) → lets (Some properties_interface) (interface_of o) ≡ false
not_own object.Manager = refl
not_own (object.Session id) = refl
not_own (object.Seat name) = refl
not_own (object.User u) = refl
not_own object.Machine = refl
not_own object.Bus = refl

properties_again : (path : List ℕ) (m : PropertiesMethod) → properties_named path (signed_any (Properties path m)).name ≡ Some (Properties path m)
properties_again path properties.Get = refl
properties_again path properties.GetAll = refl
properties_again path properties.Set = refl

peer_again : (m : PeerMethod) → peer_named (signed_any (Peer m)).name ≡ Some (Peer m)
peer_again peer.Ping = refl
peer_again peer.GetMachineId = refl

-- the object at the path of a property's call
at_object : (path : List ℕ) (h : HasProperties path) → object_of path ≡ Some h.object
at_object path h = ap object_of h.is ∙ object_of-path h.object h.named

-- a method's message is the call of that method
read_again : (m : AnyMethod) (vs : List Val) (serial : ℕ) → FitsAny m → Placed m → call_of (message_with m vs serial) ≡ call_with m vs
unfolding call_of
read_again (Own m) vs serial f h =
    rw (no_peer (method_object m), object_of-path (method_object m) (h f), lets_own (method_object m), named_again m) refl
read_again (Properties path m) vs serial f h =
    let p = has_properties_at path h in
    rw (at_object path p, not_own p.object, p.propertied, properties_again path m) refl
read_again (Peer m) vs serial f h = rw (peer_again m) refl

some_is : {A : Type 0} (P : A → Type 0) (o : Option A) (a : A) → o ≡ Some a → IfSome o P → P a
some_is P o a e h = subst (λ (o : Option _). IfSome o P) e h

-- the path of a method is one
pub placed : (c : Call) (m : AnyMethod) → HasTexts c → has_object c ≡ true → sent_as c ≡ Some m → Placed m
placed c m h o e = some_is Placed (sent_as c) m e (is_named c h o)

pub path_fault-at : (m : AnyMethod) → FitsAny m → Placed m → path_fault (path_at m) ≡ None
path_fault-at (Own m) f h = path_of-fault (method_object m) (h f)
path_fault-at (Properties path m) f h = let p = has_properties_at path h in ap path_fault p.is ∙ path_of-fault p.object p.named
path_fault-at (Peer m) f h = path_of-fault object.Manager tt

pub fits_so : (o : Option AnyMethod) (m : AnyMethod) → o ≡ Some m → IfSome o FitsAny → FitsAny m
fits_so o m e h = some_is FitsAny o m e h

pub sent_so : (c : Call) (m : AnyMethod) (vs : List Val) (serial : ℕ) (message : Message) → sent_as c ≡ Some m → vs ≡ arguments_of c
    → message ≡ message_with m vs serial → IsSent c serial message
sent_so c m vs serial message e same is = (m, e, is ∙ ap (λ (ws : List Val). message_with m ws serial) same)

-- and the message is read as the call
pub call_again : (c : Call) (serial : ℕ) (message : Message) → HasTexts c → has_object c ≡ true → ((m : AnyMethod) → sent_as c ≡ Some m → FitsAny m) → IsSent c serial message → call_of message ≡ c
call_again c serial message h o fits s =
    ap call_of s.2
    ∙ (read_again s.0 (arguments_of c) serial (fits s.0 s.1) (placed c s.0 h o s.1)
    ∙ some_is (λ m. call_with m (arguments_of c) ≡ c) (sent_as c) s.0 s.1 (made_again c h))
