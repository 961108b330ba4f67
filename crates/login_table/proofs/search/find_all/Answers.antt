use Rattle.login_table.proofs.Listing.{count-less, found-next, found-none, found-start, kind}
use Rattle.login_table.proofs.search.find_all.Goals as goal

pub loop-name-init : goal.loop-name-init
loop-name-init g c =
    let t = g.F.Look.trail c.args.facts.now in
    let n = g.N.Name in
    let k = kind g.N.Order.lt g.met.N.Order.order n.name_in n.key_of n.is_fact n.first g.met.N.Name.keys in
    let p = g.T.Test.meets c.args.test.now t in
    found-start k t p c.new-names.result c.new-names.ensures

pub loop-name-smaller : goal.loop-name-smaller
loop-name-smaller g c =
    let t = g.F.Look.trail c.args.facts.now in
    let n = g.N.Name in
    let k = kind g.N.Order.lt g.met.N.Order.order n.name_in n.key_of n.is_fact n.first g.met.N.Name.keys in
    count-less k t c.loop-name.above c.in-Some.name c.in-Some.ensures

pub loop-name-preserved : goal.loop-name-preserved
loop-name-preserved g c =
    let t = g.F.Look.trail c.args.facts.now in
    let n = g.N.Name in
    let k = kind g.N.Order.lt g.met.N.Order.order n.name_in n.key_of n.is_fact n.first g.met.N.Name.keys in
    let p = g.T.Test.meets c.args.test.now t in
    found-next k t p c.loop-name.names c.push_met.new.names c.loop-name.above c.in-Some.name c.loop-name.invariant c.in-Some.ensures c.in_ok-push_met.ensures

pub returns : goal.returns
returns g c =
    let t = g.F.Look.trail c.args.facts.now in
    let n = g.N.Name in
    let k = kind g.N.Order.lt g.met.N.Order.order n.name_in n.key_of n.is_fact n.first g.met.N.Name.keys in
    let p = g.T.Test.meets c.args.test.now t in
    found-none k t p c.loop-name.names c.loop-name.above c.loop-name.invariant c.in_default.ensures
