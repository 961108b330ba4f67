-- Marks that are put into the facts behind those that are there.
use Rattle.std.specs.Prelude.{◌≡◌, ◌+◌, ◌<◌, ◌≤◌, ◌^◌, List, length}
use Rattle.std.specs.List.{AllByRecursion}
use Rattle.login_model.specs.Trail.{Trail, after}
use Rattle.login_model.specs.declared.mark.Mark.{Mark}
use Rattle.login_laws.specs.Amounts.{Part, keys_in}
use Rattle.login_table.specs.Appended.{SetsPlain}
use Rattle.login_facts.specs.KeyRooms.{keys_of}
use Rattle.login_facts.specs.Facts.{Tables, StandFor}

-- the facts are as some marks leave them; there is room for these marks behind them, which
-- can be numbered, and for the keys that they set; and no fact that they set has memory of its own
pub record CanTakeOver (f : Tables) (ms : List Mark) : Type 0 where
  pub trail : Trail
  pub stands : StandFor f trail
  pub few : length trail + length ms + 1 < 2 ^ 32
  pub spare : length ms ≤ f.spare
  pub keys : (p : Part) → keys_in p (after trail ms) ≤ keys_in p trail + keys_of p f.fresh
  pub plain : AllByRecursion SetsPlain ms

-- they are as these marks leave them, behind those that were there; what handles hear is as before
pub record TakesOver (f : Tables) (ms : List Mark) (g : Tables) : Type 0 where
  pub stands : (t : Trail) → StandFor f t → StandFor g (after t ms)
  pub spare : f.spare ≤ g.spare + length ms
  pub keys : (t : Trail) → StandFor f t → (p : Part) → keys_in p (after t ms) + keys_of p g.fresh ≡ keys_in p t + keys_of p f.fresh
  pub ears : g.ears ≡ f.ears
  pub rings : g.rings ≡ f.rings
