-- Which facts procedures leave alone.
use Rattle.std.specs.Prelude.{◌≡◌, Bool, true, false}
use Rattle.login_model.specs.Trail.{Trail, value}
use Rattle.login_model.specs.declared.fact.Key.{Key}
use Rattle.login_model.specs.declared.fact.Key.TheVariants as key

-- the facts of keys that are not touched are as before
pub record Keeps (touched : Key → Bool) (t u : Trail) : Type 0 where
  pub facts : (k : Key) → touched k ≡ false → value u k ≡ value t k

-- whether a switch of terminals sets a key before its last devices come back: handles die, pauses are awaited and end,
-- and the terminal changes; sessions, and what they have taken, stay
abbrev pub is_switching : Key → Bool
is_switching (key.Live h) = true
is_switching (key.Awaited s d) = true
is_switching (key.Getty v) = true
is_switching key.Vt = true
is_switching key.Pending = true
is_switching _ = false
