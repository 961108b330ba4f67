-- The events for which the journal never is full.
use Rattle.std.specs.Prelude.{Bool, true, false}
use Rattle.login_model.specs.declared.event.Event.{Event}
use Rattle.login_model.specs.declared.event.Event.TheVariants.{Disconnect, Stop}

-- whether an event is one for which the journal never is full
abbrev pub always_fits : Event → Bool
always_fits (Disconnect c) = true
always_fits Stop = true
always_fits _ = false
