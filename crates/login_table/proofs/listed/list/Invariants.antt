use Rattle.std.proofs.Common.{◌≡◌, ◌++◌, length}
use Rattle.login_table.specs.Listed.{listed}
use Rattle.login_table.proofs.Listing.{above_those}
use Rattle.login_table.proofs.listed.list.Given as goal

-- those so far, and the rest
abbrev pub invariant-loop-name : goal.invariant-loop-name
invariant-loop-name g l =
    let n = g.N.Name in
    let t = g.F.Look.trail l.facts in
    l.names ++ above_those g.N.Order.lt n.name_in n.key_of n.is_fact n.first t l.above ≡ listed g.N.Order.lt n.name_in n.key_of n.is_fact n.first t

abbrev pub decreases-loop-name : goal.decreases-loop-name
decreases-loop-name g l = let n = g.N.Name in length (above_those g.N.Order.lt n.name_in n.key_of n.is_fact n.first (g.F.Look.trail l.facts) l.above)
