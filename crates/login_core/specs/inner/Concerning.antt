-- The connections that an event concerns.
use Rattle.std.specs.Prelude.{◌≡◌, ◌==◌, Bool, false, Option, Some, None, List}
use Rattle.std.specs.List.{list_any}
use Rattle.login_base.specs.declared.ids.ConnId.{ConnId}
use Rattle.login_base.specs.declared.ids.SessId.{SessId}
use Rattle.login_model.specs.declared.event.Event.{Event}
use Rattle.login_model.specs.declared.event.Event.TheVariants.{Call as Calls}
use Rattle.login_model.specs.declared.fact.Key.TheVariants as key
use Rattle.login_model.specs.Facts.{controller_in, fifo_in, fifo_owner}
use Rattle.login_model.specs.Trail.{Trail, value}
use Rattle.login_model.specs.Start.{seat0}
use Rattle.login_model.specs.Where.{active_on}
use Rattle.login_laws.specs.Shares.{has_session, taken_for, touches}

-- whether there is a connection, and it is this one
abbrev pub is_who : ConnId → Option ConnId → Bool
is_who c None = false
is_who c (Some b) = b.0 == c.0

-- whether a connection is one of these
abbrev pub is_named : ConnId → List (Option ConnId) → Bool
is_named c named = list_any (is_who c) named

-- the connection that asks, where an event is a call
abbrev pub caller : Event → Option ConnId
caller (Calls q) = Some q.who
caller _ = None

-- the session for which an event takes a device
abbrev pub source : Event → Option SessId
source (Calls q) = taken_for q.call
source _ = None

-- who controls the session that there may be
abbrev pub controller_of : Trail → Option SessId → Option ConnId
controller_of t None = None
controller_of t (Some s) = controller_in (value t (key.Ctl s))

-- who owns the fifo of the session that there may be
abbrev pub fifo_owner_of : Trail → Option SessId → Option ConnId
fifo_owner_of t None = None
fifo_owner_of t (Some s) = fifo_owner (value t (key.Owner (fifo_in (value t (key.Sess s)))))

-- these are whom an event touches
abbrev pub AreTouched : Trail → Event → List (Option ConnId) → Type 0
AreTouched t e named = (c : ConnId) → is_named c named ≡ touches t e c

-- these are who has the session that is active on seat0
abbrev pub AreActive : Trail → List (Option ConnId) → Type 0
AreActive t named = (c : ConnId) → is_named c named ≡ has_session t c (active_on t seat0)
