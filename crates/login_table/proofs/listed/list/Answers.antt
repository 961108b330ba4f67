use Rattle.login_table.proofs.Listing.{kind, pushed-start, pushed-next, pushed-none, count-less}
use Rattle.login_table.proofs.listed.list.Goals as goal

pub loop-name-init : goal.loop-name-init
loop-name-init g c =
    let t = g.F.Look.trail c.args.facts.now in
    let n = g.N.Name in
    let k = kind g.N.Order.lt g.met.N.Order.order n.name_in n.key_of n.is_fact n.first g.met.N.Name.keys in
    pushed-start k t c.new-names.result c.new-names.ensures

pub loop-name-smaller : goal.loop-name-smaller
loop-name-smaller g c =
    let t = g.F.Look.trail c.args.facts.now in
    let n = g.N.Name in
    let k = kind g.N.Order.lt g.met.N.Order.order n.name_in n.key_of n.is_fact n.first g.met.N.Name.keys in
    count-less k t c.loop-name.above c.in-Some.name c.in-Some.ensures

pub loop-name-preserved : goal.loop-name-preserved
loop-name-preserved g c =
    let t = g.F.Look.trail c.args.facts.now in
    let n = g.N.Name in
    let k = kind g.N.Order.lt g.met.N.Order.order n.name_in n.key_of n.is_fact n.first g.met.N.Name.keys in
    pushed-next k t c.loop-name.names c.push.new.self c.loop-name.above c.in-Some.name c.loop-name.invariant c.in-Some.ensures c.in_ok-push.ensures.ok

pub returns : goal.returns
returns g c =
    let t = g.F.Look.trail c.args.facts.now in
    let n = g.N.Name in
    let k = kind g.N.Order.lt g.met.N.Order.order n.name_in n.key_of n.is_fact n.first g.met.N.Name.keys in
    pushed-none k t c.loop-name.names c.loop-name.above c.loop-name.invariant c.in_default.ensures
