use Rattle.std.proofs.Common.{◌≡◌, ◌++◌, suc, drop, map, take}
use Rattle.login_table.proofs.places.raise_each.Given as goal

-- those so far are raised
abbrev pub invariant-loop-place : goal.invariant-loop-place
invariant-loop-place l = l.places ≡ map suc (take l.place-index l.fn.places) ++ drop l.place-index l.fn.places
