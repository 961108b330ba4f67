use Rattle.login_table.specs.inner.Places.{keys_at}
use Rattle.login_table.proofs.NextTaken.{front-some, front-none}
use Rattle.login_table.proofs.places.place_taken.Goals as goal

pub returns-in-Some-clause-front : goal.returns-in-Some-clause-front
returns-in-Some-clause-front c =
    front-some c.args.session c.args.above c.in-Some.device c.place_behind.result (keys_at c.args.rows.now.items c.args.places.now) c.in-Some.is c.place_behind.ensures.front

pub returns-in-None-clause-front : goal.returns-in-None-clause-front
returns-in-None-clause-front c =
    front-none c.args.session c.args.above c.place.result (keys_at c.args.rows.now.items c.args.places.now) c.in-None.is c.place.ensures.front
