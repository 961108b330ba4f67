-- Whose events are, and which a link makes.
use Rattle.std.specs.Prelude.{ℕ, ◌&&◌, ◌||◌, not, Bool, true, false, if◌then◌else◌, List, [], ◌∷◌, map}
use Rattle.login_base.specs.declared.ids.ConnId.{ConnId}
use Rattle.login_base.specs.declared.ids.Uid.{Uid}
use Rattle.login_model.specs.Reading.{is_granted}
use Rattle.login_model.specs.declared.event.Event.{Event}
use Rattle.login_model.specs.declared.event.Event.TheVariants.{Connect, Disconnect, Call as Calls, Hardware, Tick, Stop}
use Rattle.login_model.specs.declared.mark.Entry.{Entry}
use Rattle.desk.specs.History.{of_who}
use Rattle.login_office.specs.Links.{calls, is_begun}
use Rattle.wire_out.specs.Mail.{is_connect, is_disconnect}

-- the connection that an event is of; 0 is the machine itself
abbrev pub event_who : Event → ℕ
event_who (Connect c u) = c.0
event_who (Disconnect c) = c.0
event_who (Calls r) = r.who.0
event_who (Hardware x) = 0
event_who (Tick m) = 0
event_who Stop = 0

abbrev pub entry_who : Entry → ℕ
entry_who e = event_who e.event

-- the entries of a connection in a journal, in order
abbrev pub entries_of : ConnId → List Entry → List Entry
entries_of c J = of_who entry_who c.0 J

-- the events that the bytes of a link make: none before BEGIN; behind it its connect, and its calls
abbrev pub events_heard : ConnId → Uid → List ℕ → List ℕ → List Event
events_heard c u guid text = if is_begun u guid text then Connect c u ∷ map Calls (calls c u guid text) else []

-- whether these entries begin with a connect that was granted
abbrev pub is_let_in : List Entry → Bool
is_let_in [] = false
is_let_in (e ∷ es) = is_granted e.verdict

-- whether these entries begin with a connect that was denied
abbrev pub was_denied : List Entry → Bool
was_denied [] = false
was_denied (e ∷ es) = not (is_granted e.verdict)

-- whether a connection with these entries is open: a connect that was granted opens it, and its disconnect ends it
abbrev pub is_open_after : ConnId → Bool → List Entry → Bool
is_open_after c was [] = was
is_open_after c was (e ∷ es) = is_open_after c ((is_connect c e.event && is_granted e.verdict) || (not (is_disconnect c e.event) && was)) es

abbrev pub is_open : ConnId → List Entry → Bool
is_open c mine = is_open_after c false mine

-- the disconnect of a link that was let in
abbrev pub ending : ConnId → List Entry → List Event
ending c own = if is_let_in own then Disconnect c ∷ [] else []
