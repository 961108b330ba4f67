use Rattle.login_table.proofs.Standing.{next-standing}
use Rattle.login_table.proofs.table.Table.next.Goals as goal

pub returns : goal.returns
returns g c = λ t s.
    let table = g.Self.Table in
    let n = g.N.Name in
    next-standing g.N.Order.lt n.key_of n.is_fact table.owns c.part.result.now.trail (table.list c.args.self.now).trail t n.rank c.rank.result c.args.above c.next.result c.requires
    g.met.N.Name.of_rank c.rank.ensures c.part.ensures c.next.ensures s
