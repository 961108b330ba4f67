use Rattle.login_facts.specs.Holding.{OfConnections}
use Rattle.login_facts.proofs.holdings.Holdings.of_connection.Goals as goal

pub returns : goal.returns
returns c = λ t h. c.such.ensures OfConnections t (h OfConnections)
