-- What stood in front stays there.
use Rattle.std.proofs.Common.{◌≡◌, ℕ, List, ◌++◌, Result, Ok, Err}
use Rattle.std.specs.Prelude.{OnErr}
use Rattle.std.specs.Io.{StartsWith}
use Rattle.std.proofs.Transfers.{starts_with_of_append, starts_with_trans}

-- behind a part
pub kept_once : (old first new xs : List ℕ) → first ≡ old ++ xs → StartsWith new first → StartsWith new old
kept_once old first new xs e h = starts_with_trans new first old h (starts_with_of_append first old xs e)

-- behind two parts
pub kept_behind : (old first done new xs ys : List ℕ) → first ≡ old ++ xs → done ≡ first ++ ys → StartsWith new done → StartsWith new old
kept_behind old first done new xs ys e f h = kept_once old first new xs e (kept_once first done new ys f h)

-- what holds whatever the answer
pub on_err : {A E P : Type 0} (r : Result A E) → P → OnErr r P
on_err (Ok a) h = tt
on_err (Err e) h = h
