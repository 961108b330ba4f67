use Rattle.std.proofs.Common.{ap}
use Rattle.login_table.specs.inner.Places.{keys_at}
use Rattle.login_table.specs.Rows.{RowList}
use Rattle.login_table.proofs.NextRow.{keys-of, next-there, there-of}
use Rattle.login_table.proofs.rows.Rows.next.Goals as goal

pub next-found-requires : goal.next-found-requires
next-found-requires g c = keys-of c.self.inside.rows.items c.self.inside.there.list c.self.invariant.0

pub returns : goal.returns
returns g c =
    let n = g.N.Name in
    next-there g.N.Order.lt g.met.N.Order.order n.name_in n.key_of n.is_fact n.first g.met.N.Name.keys g.met.N.Name.said (keys_at c.self.inside.rows.items c.self.inside.there.list) c.args.self.now.trail
    (there-of c.self.inside.rows.items c.self.inside.there.list c.args.self.now.trail c.self.invariant.0 (ap (λ (v : RowList). v.trail) c.self.view_is)) c.args.above c.next-found.result c.nearer_first.result c.next-found.ensures c.nearer_first.ensures
