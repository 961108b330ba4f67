use Rattle.std.proofs.Common.{◌≡◌, find, length}
use Rattle.login_table.specs.Listed.{listed}
use Rattle.login_table.proofs.Listing.{above_those}
use Rattle.login_table.proofs.search.find_first.Given as goal

-- no name so far meets the test
abbrev pub invariant-loop-name : goal.invariant-loop-name
invariant-loop-name g l =
    let n = g.N.Name in
    let t = g.F.Look.trail l.facts in
    let p = g.T.Test.meets l.test t in
    find p (above_those g.N.Order.lt n.name_in n.key_of n.is_fact n.first t l.above) ≡ find p (listed g.N.Order.lt n.name_in n.key_of n.is_fact n.first t)

abbrev pub decreases-loop-name : goal.decreases-loop-name
decreases-loop-name g l = let n = g.N.Name in length (above_those g.N.Order.lt n.name_in n.key_of n.is_fact n.first (g.F.Look.trail l.facts) l.above)
