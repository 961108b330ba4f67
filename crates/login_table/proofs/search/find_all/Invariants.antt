use Rattle.std.proofs.Common.{◌≡◌, ◌++◌, filter, length}
use Rattle.login_table.specs.Listed.{listed}
use Rattle.login_table.proofs.Listing.{above_those}
use Rattle.login_table.proofs.search.find_all.Given as goal

-- those so far, and of the rest those that meet the test
abbrev pub invariant-loop-name : goal.invariant-loop-name
invariant-loop-name g l =
    let n = g.N.Name in
    let t = g.F.Look.trail l.facts in
    let p = g.T.Test.meets l.test t in
    l.names ++ filter p (above_those g.N.Order.lt n.name_in n.key_of n.is_fact n.first t l.above) ≡ filter p (listed g.N.Order.lt n.name_in n.key_of n.is_fact n.first t)

abbrev pub decreases-loop-name : goal.decreases-loop-name
decreases-loop-name g l = let n = g.N.Name in length (above_those g.N.Order.lt n.name_in n.key_of n.is_fact n.first (g.F.Look.trail l.facts) l.above)
