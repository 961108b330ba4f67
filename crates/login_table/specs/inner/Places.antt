-- The places of rows, in order, each once, and the keys that stand there.
use Rattle.std.specs.Prelude.{ℕ, suc, ◌==◌, ◌<◌, ◌≤◌, nat_lt, Bool, if◌then◌else◌, List, [], ◌∷◌, slice_index_or}
use Rattle.login_model.specs.declared.fact.Key.{Key}
use Rattle.login_model.specs.declared.fact.Key.TheVariants.{Vt}
use Rattle.login_model.specs.declared.fact.Fact.TheVariants.{Absent}
use Rattle.login_table.specs.declared.rows.Row.{Row}

-- what the places of rows are seen as: the numbers in order, and for how many there is memory
pub record PlaceList : Type 0 where
  pub list : List ℕ
  pub room : ℕ

-- the key of the row at a place, or another where there is no row
abbrev pub key_or : List Row → ℕ → Key → Key
key_or rows p k = (slice_index_or rows p (record { key = k; fact = Absent })).key

-- the key at a place; one without a row has a key all the same
abbrev pub key_at : List Row → ℕ → Key
key_at rows p = key_or rows p Vt

abbrev pub keys_at : List Row → List ℕ → List Key
keys_at rows [] = []
keys_at rows (p ∷ ps) = key_at rows p ∷ keys_at rows ps

-- each place is above those before it, none is lower than that one, and all are of so many rows
abbrev pub PlacesFrom : ℕ → ℕ → List ℕ → Type 0
PlacesFrom low rows [] = Unit {0}
PlacesFrom low rows (p ∷ ps) = (low ≤ p) × (p < rows) × PlacesFrom (suc p) rows ps

-- the places of rows ascend
unfoldable pub PlacesAscend : ℕ → List ℕ → Type 0
PlacesAscend rows places = PlacesFrom 0 rows places

-- where a place is when a row was put in at that one
abbrev pub raised_by : ℕ → ℕ → ℕ
raised_by at p = if nat_lt p at then p else suc p

abbrev pub raised : ℕ → List ℕ → List ℕ
raised at [] = []
raised at (p ∷ ps) = raised_by at p ∷ raised at ps

abbrev pub with_front : Bool → ℕ → List ℕ → List ℕ
with_front is_in at ps = if is_in then at ∷ ps else ps

-- places with that one put in, or taken out
abbrev pub put_place : ℕ → Bool → List ℕ → List ℕ
put_place at is_in [] = with_front is_in at []
put_place at is_in (p ∷ ps) = if nat_lt p at then p ∷ put_place at is_in ps else with_front is_in at (if p == at then ps else p ∷ ps)
