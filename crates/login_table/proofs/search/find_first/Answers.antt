use Rattle.std.proofs.Common.{sym, ◌∙◌}
use Rattle.login_table.proofs.Listing.{count-less, find-no, find-none, find-start, find-yes, kind}
use Rattle.login_table.proofs.search.find_first.Goals as goal

pub loop-name-init : goal.loop-name-init
loop-name-init g c =
    let t = g.F.Look.trail c.args.facts.now in
    let n = g.N.Name in
    let k = kind g.N.Order.lt g.met.N.Order.order n.name_in n.key_of n.is_fact n.first g.met.N.Name.keys in
    let p = g.T.Test.meets c.args.test.now t in
    find-start k t p

pub returns-then-is_met : goal.returns-then-is_met
returns-then-is_met g c =
    let t = g.F.Look.trail c.args.facts.now in
    let n = g.N.Name in
    let k = kind g.N.Order.lt g.met.N.Order.order n.name_in n.key_of n.is_fact n.first g.met.N.Name.keys in
    let p = g.T.Test.meets c.args.test.now t in
    sym (find-yes k t p c.loop-name.above c.in-Some.name c.in-Some.ensures (sym c.is_met.ensures ∙ c.if-is_met.true)) ∙ c.loop-name.invariant

pub loop-name-smaller : goal.loop-name-smaller
loop-name-smaller g c =
    let t = g.F.Look.trail c.args.facts.now in
    let n = g.N.Name in
    let k = kind g.N.Order.lt g.met.N.Order.order n.name_in n.key_of n.is_fact n.first g.met.N.Name.keys in
    count-less k t c.loop-name.above c.in-Some.name c.in-Some.ensures

pub loop-name-preserved : goal.loop-name-preserved
loop-name-preserved g c =
    let t = g.F.Look.trail c.args.facts.now in
    let n = g.N.Name in
    let k = kind g.N.Order.lt g.met.N.Order.order n.name_in n.key_of n.is_fact n.first g.met.N.Name.keys in
    let p = g.T.Test.meets c.args.test.now t in
    find-no k t p c.loop-name.above c.in-Some.name c.in-Some.ensures (sym c.is_met.ensures ∙ c.if-is_met.false) ∙ c.loop-name.invariant

pub returns : goal.returns
returns g c =
    let t = g.F.Look.trail c.args.facts.now in
    let n = g.N.Name in
    let k = kind g.N.Order.lt g.met.N.Order.order n.name_in n.key_of n.is_fact n.first g.met.N.Name.keys in
    let p = g.T.Test.meets c.args.test.now t in
    sym (find-none k t p c.loop-name.above c.in_default.ensures) ∙ c.loop-name.invariant
