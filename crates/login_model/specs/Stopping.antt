-- What comes after the stop.
use Rattle.std.specs.Prelude.{ℕ, ◌+◌, Bool, true, false, if◌then◌else◌, Option, Some, None, List, [], ◌∷◌}
use Rattle.login_model.specs.declared.event.Event.{Event}
use Rattle.login_model.specs.declared.event.Event.TheVariants.{Disconnect, Stop}
use Rattle.login_model.specs.declared.mark.Entry.{Entry}

abbrev pub is_stop : Event → Bool
is_stop Stop = true
is_stop _ = false

-- the number of the first of these entries that is the stop; entries are numbered from 1
abbrev pub stop_from : ℕ → List Entry → Option ℕ
stop_from n [] = None
stop_from n (e ∷ es) = if is_stop e.event then Some n else stop_from (n + 1) es

-- the number of the stop's entry, for an event that may not come after it: a disconnect may
unfoldable pub stopped : List Entry → Event → Option ℕ
stopped before (Disconnect c) = None
stopped before e = stop_from 1 before
