-- Rows that stand as they came, and their order, which is kept beside them.
use Rattle.std.specs.Prelude.{◌≡◌, ℕ, zero, suc, ◌==◌, ◌<◌, Bool, false, List, [], ◌∷◌, slice_index_or}
use Rattle.login_model.specs.declared.fact.Key.{Key}
use Rattle.login_model.specs.declared.fact.Key.TheVariants.{Vt}
use Rattle.login_model.specs.declared.fact.Fact.{Fact}
use Rattle.login_model.specs.declared.fact.Fact.TheVariants.{Absent}
use Rattle.login_model.specs.Same.{same_key}
use Rattle.login_table.specs.declared.rows.Row.{Row}

-- what ordered rows are seen as: the rows in their order, and for how many there is room
pub record RowOrder : Type 0 where
  pub items : List Row
  pub room : ℕ

-- the row that came so many rows after the first; where none did, there is a row all the same
abbrev pub row_at : List Row → ℕ → Row
row_at rows p = slice_index_or rows p (record { key = Vt; fact = Absent })

-- the rows in the order of their places
abbrev pub in_order : List Row → List ℕ → List Row
in_order rows [] = []
in_order rows (p ∷ ps) = row_at rows p ∷ in_order rows ps

-- a place is not among those
abbrev pub Lacks : ℕ → List ℕ → Type 0
Lacks p [] = Unit {0}
Lacks p (q ∷ qs) = ((p == q) ≡ false) × Lacks p qs

-- all are places of so many rows, and each is there once
abbrev pub PlacesApart : ℕ → List ℕ → Type 0
PlacesApart rows [] = Unit {0}
PlacesApart rows (p ∷ ps) = (p < rows) × Lacks p ps × PlacesApart rows ps

-- whether the row that has so many in front of it is that key's
abbrev pub is_row_of : Key → ℕ → List Row → Bool
is_row_of k i [] = false
is_row_of k zero (x ∷ xs) = same_key x.key k
is_row_of k (suc i) (x ∷ xs) = is_row_of k i xs

-- the rows, with another fact in the one that has so many in front of it
abbrev pub with_fact : ℕ → Fact → List Row → List Row
with_fact i f [] = []
with_fact zero f (x ∷ xs) = record { key = x.key; fact = f } ∷ xs
with_fact (suc i) f (x ∷ xs) = x ∷ with_fact i f xs
