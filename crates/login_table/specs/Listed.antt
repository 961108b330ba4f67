-- The names of a kind, in order.
use Rattle.std.specs.Prelude.{Bool, Option, None, Some, List, [], ◌∷◌, filter}
use Rattle.login_model.specs.declared.fact.Key.{Key}
use Rattle.login_model.specs.declared.fact.Fact.{Fact}
use Rattle.login_model.specs.Trail.{Trail, value}
use Rattle.login_model.specs.Names.{names, insert_some}

-- whether what a name stands for is there
abbrev pub is_there : {A : Type 0} → (A → Key) → (Fact → Bool) → Trail → A → Bool
is_there key_of is_fact t a = is_fact (value t (key_of a))

-- the names of all that are there: of those that were ever set, and of the one that is there at the start
abbrev pub listed : {A : Type 0} → (A → A → Bool) → (Key → Option A) → (A → Key) → (Fact → Bool) → Option A → Trail → List A
listed lt name_in key_of is_fact first t = filter (is_there key_of is_fact t) (insert_some lt first (names lt name_in t))

-- the first of some names
abbrev pub first : {A : Type 0} → List A → Option A
first [] = None
first (a ∷ more) = Some a
