use Rattle.login_model.specs.Legal.{trail_of}
use Rattle.replay.proofs.Hearers.{next-nearest}
use Rattle.replay.proofs.telling.next_hearer.Goals as goal

pub returns : goal.returns
returns c = next-nearest (trail_of c.args.core.now.journal) c.args.own c.args.after c.next_conn.result c.nearest.result c.next_conn.ensures c.nearest.ensures
