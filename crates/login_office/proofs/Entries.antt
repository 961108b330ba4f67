-- The events of entries.
use Rattle.std.proofs.Common.{◌≡◌, List, [], ◌∷◌, ◌++◌, refl, ap}
use Rattle.login_model.specs.declared.event.Event.{Event}
use Rattle.login_model.specs.declared.mark.Entry.{Entry}
use Rattle.login_model.specs.Legal.{events_of}

pub events-append : (xs ys : List Entry) → events_of (xs ++ ys) ≡ events_of xs ++ events_of ys
events-append [] ys = refl
events-append (x ∷ xs) ys = ap (λ (z : List Event). x.event ∷ z) (events-append xs ys)
