-- Keys in order, each once, and what it is for them to tell what is there.
use Rattle.std.specs.Prelude.{◌≡◌, ℕ, ◌==◌, ◌||◌, nat_lt, not, Bool, true, false, Option, Some, None, List, [], ◌∷◌}
use Rattle.std.specs.Option.{option_or}
use Rattle.login_base.specs.declared.ids.SessId.{SessId}
use Rattle.login_base.specs.declared.ids.DevNo.{DevNo}
use Rattle.login_model.specs.declared.fact.Key.{Key}
use Rattle.login_model.specs.declared.fact.Key.TheVariants.{Taken}
use Rattle.login_model.specs.Same.{same_key}
use Rattle.login_model.specs.Start.{start_fact}
use Rattle.login_model.specs.Trail.{Trail, value}
use Rattle.login_model.specs.Names.{is_above, session_lt}
use Rattle.login_table.specs.declared.key_order.TheConstants.{TAKES}
use Rattle.login_table.specs.KeyOrder.{key_lt, rank_of}
use Rattle.login_table.specs.Rows.{says_there}

-- whether a key is among those
abbrev pub has : Key → List Key → Bool
has k [] = false
has k (x ∷ xs) = same_key x k || has k xs

-- the keys ascend, and the first of them is above that one
abbrev pub KeysAscendFrom : Option Key → List Key → Type 0
KeysAscendFrom above [] = Unit {0}
KeysAscendFrom above (x ∷ xs) = (is_above key_lt above x ≡ true) × KeysAscendFrom (Some x) xs

-- each key is above those before it
unfoldable pub KeysAscend : List Key → Type 0
KeysAscend keys = KeysAscendFrom None keys

-- whether a walk on from a name leaves a key out: it is not above the name's, or, without a name, its rank is lower
abbrev pub is_passed : {A : Type 0} → (A → Key) → ℕ → Option A → Key → Bool
is_passed key_of rank None x = nat_lt (rank_of x) rank
is_passed key_of rank (Some a) x = not (key_lt (key_of a) x)

-- whether a key is not above that of a device that a session has taken, or in front of all of the session's
abbrev pub is_taken_passed : SessId → Option DevNo → Key → Bool
is_taken_passed s None x = key_lt x (Taken s (record { major = 0; minor = 0 }))
is_taken_passed s (Some d) x = not (key_lt (Taken s d) x)

-- the session of a key about what one has taken
abbrev pub holder_in : Key → Option SessId
holder_in (Taken s d) = Some s
holder_in _ = None

-- whether a walk on from a session leaves a key out: its rank is lower than that of what is taken, or its session is
-- not above
abbrev pub is_holder_passed : Option SessId → Key → Bool
is_holder_passed above (Taken s d) = not (is_above session_lt above s)
is_holder_passed above x = nat_lt (rank_of x) TAKES

-- whether a key is about what that session has taken
abbrev pub is_held_by : SessId → Key → Bool
is_held_by s (Taken r d) = r.0 == s.0
is_held_by s x = false

-- whether a key is about what that session has taken, among those
abbrev pub is_holder : SessId → List Key → Bool
is_holder s [] = false
is_holder s (x ∷ xs) = is_held_by s x || is_holder s xs

-- the first name that a key is about
abbrev pub first_named : {A : Type 0} → (Key → Option A) → List Key → Option A
first_named name_in [] = None
first_named name_in (x ∷ xs) = option_or (name_in x) (first_named name_in xs)

-- the keys are those of what the settings say is there, but that one of what is there at the start may be missing
pub record AreThere (keys : List Key) (t : Trail) : Type 0 where
  pub sound : (k : Key) → has k keys ≡ true → says_there k (value t k) ≡ true
  pub whole : (k : Key) → says_there k (value t k) ≡ true → has k keys ≡ false → says_there k (start_fact k) ≡ true
