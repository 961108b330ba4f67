-- Mail of a journal that goes on.
use Rattle.std.proofs.Common.{◌≡◌, List, ◌++◌, subst, sym}
use Rattle.login_model.specs.declared.mark.Entry.{Entry}
use Rattle.wire_out.specs.Places.{IsPlaceIn, Place, place_of}
use Rattle.wire_out.proofs.Growing.{place_grows}
use Rattle.login_rows.specs.Going.{GoesOn}

-- a place by a journal is one in the journal later
pub placed_later : (p : Place) (J K : List Entry) → p ≡ place_of p.who J → GoesOn J K → IsPlaceIn p K
placed_later p J K h g = subst (IsPlaceIn p) (sym g.is) (subst (λ (q : Place). IsPlaceIn q (J ++ g.more)) (sym h) (place_grows p.who J g.more))
