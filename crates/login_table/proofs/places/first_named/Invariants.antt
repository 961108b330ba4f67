use Rattle.std.proofs.Common.{◌≡◌, drop}
use Rattle.login_table.specs.inner.Keys.{first_named}
use Rattle.login_table.specs.inner.Places.{keys_at}
use Rattle.login_table.proofs.places.first_named.Given as goal

-- no key so far is about a name
abbrev pub invariant-loop-place : goal.invariant-loop-place
invariant-loop-place g l = first_named g.N.Name.name_in (keys_at l.rows.items (drop l.place-index l.places)) ≡ first_named g.N.Name.name_in (keys_at l.rows.items l.places)
