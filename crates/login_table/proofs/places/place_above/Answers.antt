use Rattle.login_table.specs.inner.Places.{keys_at}
use Rattle.login_table.proofs.NextKey.{front-above, front-rank}
use Rattle.login_table.proofs.places.place_above.Goals as goal

pub returns-in-Some-clause-front : goal.returns-in-Some-clause-front
returns-in-Some-clause-front g c =
    front-above g.N.Name.key_of g.N.Name.rank c.args.above c.in-Some.name c.key.result c.place_behind.result (keys_at c.args.rows.now.items c.args.places.now) c.in-Some.is c.key.ensures c.place_behind.ensures.front

pub returns-in-None-clause-front : goal.returns-in-None-clause-front
returns-in-None-clause-front g c =
    front-rank g.N.Name.key_of g.N.Name.rank c.rank.result c.args.above c.place_of_rank.result (keys_at c.args.rows.now.items c.args.places.now) c.in-None.is c.rank.ensures c.place_of_rank.ensures.front
