-- Events that connect and disconnect nobody of a number.
use Rattle.std.specs.Prelude.{◌≡◌, ◌||◌, Bool, false, List}
use Rattle.std.specs.List.{AllByRecursion}
use Rattle.login_base.specs.declared.ids.ConnId.{ConnId}
use Rattle.login_model.specs.declared.event.Event.{Event}
use Rattle.wire_out.specs.Mail.{is_connect, is_disconnect}

-- whether an event connects or disconnects a client
abbrev pub touches : ConnId → Event → Bool
touches c e = is_connect c e || is_disconnect c e

-- none of these events does
abbrev pub AreApart : ConnId → List Event → Type 0
AreApart c es = AllByRecursion (λ (e : Event). touches c e ≡ false) es
