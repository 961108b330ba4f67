-- Whom an event names.
use Rattle.std.specs.Prelude.{◌≡◌, true, List}
use Rattle.login_model.specs.Legal.{IsUnused, trail_of}
use Rattle.login_model.specs.Where.{is_connected}
use Rattle.login_model.specs.declared.event.Event.{Event}
use Rattle.login_model.specs.declared.event.Event.TheVariants.{Connect, Disconnect, Call as Calls}
use Rattle.login_model.specs.declared.mark.Entry.{Entry}

-- a connect is of a number that no entry's event connects, a disconnect or a call of a connected client
abbrev pub IsNamed : List Entry → Event → Type 0
IsNamed J (Connect c u) = IsUnused c J
IsNamed J (Disconnect c) = is_connected (trail_of J) c ≡ true
IsNamed J (Calls r) = is_connected (trail_of J) r.who ≡ true
IsNamed J _ = Unit {0}
