-- What it is for a table to stand for marks.
use Rattle.std.specs.Prelude.{◌≡◌, Bool, true, if◌then◌else◌, Option, Some, None}
use Rattle.login_model.specs.declared.fact.Key.{Key}
use Rattle.login_model.specs.declared.fact.Fact.{Fact}
use Rattle.login_model.specs.Trail.{Trail, value}

-- under each of its keys a table has the fact that the marks have
abbrev pub Stands : (Key → Bool) → Trail → Trail → Type 0
Stands owns rows t = (k : Key) → owns k ≡ true → value rows k ≡ value t k

-- what a table with these keys says of a key: the fact of its own, and nothing of others
abbrev pub own_fact : (Key → Bool) → Trail → Key → Option Fact
own_fact owns t k = if owns k then Some (value t k) else None
